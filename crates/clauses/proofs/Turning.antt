-- Trees lowered in turn, and the loop over them. Assumes nothing.
use mathlib.Core.Path.{◌≡◌, refl, ap, ◌∙◌}
use Prim.Native.Nat.{ℕ, zero, suc, ◌+◌, ◌-◌, ◌≤◌, ◌<◌}
use native.Mathlib.Nat.{le_refl, sub-zero}
use native.Mathlib.Omega.{arith}
use mathlib.Core.List.{List}
use Rattle.std.specs.Prelude.{Option}
use Rattle.model.specs.Text.{Bytes}
use Rattle.model.specs.Kind.{Sort, clause, union_arm}
use Rattle.model.specs.Tree.{Tree, Trees, node, []ᵗ, ◌∷ᵗ◌, end, ◌▸◌}
use Rattle.model.specs.Lower.{◌>>=◌, ret, lower_clause, lower_clauses, lower_arms}
use Rattle.words.specs.Held.{Held, HeldOf, HeldSome, HeldMany, size, size_of}
use Rattle.words.specs.Words.{max_records}
use Rattle.lower.specs.Side.{side}
use Rattle.lower.specs.Rep.{State, Mem, Written, Rep}
use Rattle.lower.specs.Clauses.{BothBlank, both_passes, Stands, Leaves, LowersClause}
use Rattle.projections.specs.Ready.{Ready}
use Rattle.lower.specs.State.{to_refl, to_then, to_wider}
use Rattle.clauses.specs.Turns.{Turn, in_turn, LowersTurn, LowersTurns}
use Rattle.clauses.specs.Steps.{clause_turn, arm_turn, lower_arm}
use Rattle.projections.specs.Room.{ready_after, twice_refl, twice_then}
use Rattle.projections.specs.Passes.{sub_both, sub_turns, both_within, both_behind}

-- ── the definition's clauses and arms, in turn ──

pub clauses_turns : {n : ℕ} (ts : Trees clause n) (o : Option ℕ) (s : State) → lower_clauses ts o s ≡ in_turn clause_turn ts o s
unfolding lower_clauses in_turn ◌>>=◌ ret
clauses_turns []ᵗ o s = refl
clauses_turns (t ∷ᵗ ts) o s = clauses_turns ts (lower_clause t o s).0 (lower_clause t o s).1

pub arms_turns : {n : ℕ} (ts : Trees union_arm n) (o : Option ℕ) (s : State) → lower_arms ts o s ≡ in_turn arm_turn ts o s
unfolding lower_arms lower_arm in_turn ◌>>=◌ ret
arms_turns []ᵗ o s = refl
arms_turns (node union_arm line k (all, u) (cs ▸ end) ∷ᵗ ts) o s = arms_turns ts _ _

pub clause_turn_law : {sheet : Bytes} {a b : List ℕ} {d i e : ℕ} {o o' : Option ℕ} {m m' : Mem} → LowersClause sheet a b d i e o o' m m' → LowersTurn clause clause_turn sheet a b d i e o o' m m'
clause_turn_law p = record { moved = p.moved; stands = p.stands; next = p.next; run = p.run }

one_turn : {S : Sort} (turn : Turn S) {n : ℕ} (t : Tree S) (ts : Trees S n) (o o₁ : Option ℕ) (s : State) → (turn t o s).0 ≡ o₁ → in_turn turn (t ∷ᵗ ts) o s ≡ in_turn turn ts o₁ (turn t o s).1
unfolding in_turn
one_turn turn t ts o o₁ s e = ap (λ (x : Option ℕ). in_turn turn ts x (turn t o s).1) e

-- ── none, and one more ──

module _ (S : Sort) (turn : Turn S) (sheet : Bytes) (a b : List ℕ) (d : ℕ) where
  nil_next : (i : ℕ) (ts : Trees S 0) → i ≡ i + size_of ts
  unfolding size
  nil_next i []ᵗ = omega arith

  nil_run : {first : ℕ} (i : ℕ) (o : Option ℕ) (m : Mem) (ts : Trees S 0) (W : Written) (s : State) → Rep (side sheet a b first) W s m → Leaves (side sheet a b first) W (λ s. in_turn turn ts o s) o (suc i) (suc i) s m m
  unfolding in_turn
  nil_run i o m []ᵗ W s r = record { to = to_wider sub_both (to_refl r); gives = refl }

  pub nil_law : (i : ℕ) (o : Option ℕ) (m : Mem) → i ≤ max_records → Stands o m → LowersTurns S turn sheet a b 0 d i i o o m m
  nil_law i o m h st = record { moved = twice_refl h; stands = st; next = λ ts hd. nil_next i ts; run = λ ts hd W s r bl. nil_run i o m ts W s r }

  module _ {n i j e : ℕ} {o o₁ o₂ : Option ℕ} {m m₁ m₂ : Mem} (p : LowersTurn S turn sheet a b d i j o o₁ m m₁) (q : LowersTurns S turn sheet a b n d j e o₁ o₂ m₁ m₂) where
    cons_next : (ts : Trees S (suc n)) → HeldOf sheet a b ts d i → e ≡ i + size_of ts
    unfolding Held size
    cons_next (t ∷ᵗ ts) h =
        let x = p.next t h.0 in
        let y = q.next ts (rw x h.1) in
        omega arith

    both_run : {first : ℕ} (t : Tree S) (ts : Trees S n) (W : Written) (s : State) → Leaves (side sheet a b first) W (λ s. turn t o s) o₁ (suc i) (suc j) s m m₁ → Leaves (side sheet a b first) (both_passes (suc i) (suc j) W) (λ s. in_turn turn ts o₁ s) o₂ (suc j) (suc e) (turn t o s).1 m₁ m₂ → Leaves (side sheet a b first) W (λ s. in_turn turn (t ∷ᵗ ts) o s) o₂ (suc i) (suc e) s m m₂
    both_run t ts W s x y = let D = one_turn turn t ts o o₁ s x.gives in record { to = rw D (to_wider (sub_turns i j e p.moved.up q.moved.up) (to_then x.to y.to)); gives = ap (λ (z : Option ℕ × State). z.0) D ∙ y.gives }

    cons_run : {first : ℕ} (ts : Trees S (suc n)) → HeldOf sheet a b ts d i → (W : Written) (s : State) → Rep (side sheet a b first) W s m → BothBlank W (suc i) (suc e) → Leaves (side sheet a b first) W (λ s. in_turn turn ts o s) o₂ (suc i) (suc e) s m m₂
    unfolding Held size
    cons_run (t ∷ᵗ ts) h W s r bl =
        let u = p.moved.up in
        let u' = q.moved.up in
        let x = p.run t h.0 W s r (both_within (le_refl _) (omega arith) bl) in
        both_run t ts W s x (q.run ts (rw (p.next t h.0) h.1) _ _ x.to.rep (both_behind i j e u u' q.moved.here bl))

    pub cons_law : LowersTurns S turn sheet a b (suc n) d i e o o₂ m m₂
    cons_law = record { moved = twice_then p.moved q.moved; stands = q.stands; next = cons_next; run = cons_run }

-- ── the loop ──

-- k remain from record i on, behind o, and once they are lowered from here, all is done
pub record Remaining (S : Sort) (turn : Turn S) (sheet : Bytes) (a b : List ℕ) (d : ℕ) (Done : ℕ → Option ℕ → Mem → Type 0) (k i : ℕ) (o : Option ℕ) (m : Mem) : Type 0 where
  pub some : HeldMany sheet a b S k d i
  pub ready : Ready i m
  pub stands : Stands o m
  pub finish : (e : ℕ) (o' : Option ℕ) (m' : Mem) → LowersTurns S turn sheet a b k d i e o o' m m' → Done e o' m'

module _ {S : Sort} {sheet : Bytes} {a b : List ℕ} {d : ℕ} where
  first_of_law : {k i : ℕ} (ts : Trees S k) → ((k ≡ 0) → ⊥) → HeldOf sheet a b ts d i → HeldSome sheet a b S d i
  unfolding Held
  first_of_law []ᵗ h hd = absurd (h refl)
  first_of_law (t ∷ᵗ ts) h hd = record { tree = t; is = hd.0 }

  behind : {k j : ℕ} (i : ℕ) (ts : Trees S (suc k)) → ((t : Tree S) → Held sheet a b t d i → j ≡ i + size t) → HeldOf sheet a b ts d i → HeldMany sheet a b S k d j
  unfolding Held
  behind i (t ∷ᵗ ts) p hd = record { trees = ts; are = rw (p t hd.0) hd.1 }

module _ {S : Sort} {turn : Turn S} {sheet : Bytes} {a b : List ℕ} {d : ℕ} {Done : ℕ → Option ℕ → Mem → Type 0} where
  pub child : {x n i : ℕ} {o : Option ℕ} {m : Mem} → x < n → Remaining S turn sheet a b d Done (n - x) i o m → HeldSome sheet a b S d i
  child l p = first_of_law p.some.trees (λ e. absurd (omega arith)) p.some.are

  less : {k i : ℕ} {o : Option ℕ} {m : Mem} → Remaining S turn sheet a b d Done k i o m → Remaining S turn sheet a b d Done (suc k - 1) i o m
  less {k} p = let e : suc k - 1 ≡ k = omega arith in rw e p

  next_one : {k i j : ℕ} {o o₁ : Option ℕ} {m m₁ : Mem} → ((k ≡ 0) → ⊥) → Remaining S turn sheet a b d Done k i o m → LowersTurn S turn sheet a b d i j o o₁ m m₁ → Remaining S turn sheet a b d Done (k - 1) j o₁ m₁
  next_one {k = zero} h p q = absurd (h refl)
  next_one {k = suc k} {i} h p q = less (record { some = behind i p.some.trees q.next p.some.are; ready = ready_after q.moved p.ready; stands = q.stands; finish = λ e o' m' r. p.finish e o' m' (cons_law S turn sheet a b d q r) })

  pub again : {x n i j : ℕ} {o o₁ : Option ℕ} {m m₁ : Mem} → x < n → Remaining S turn sheet a b d Done (n - x) i o m → LowersTurn S turn sheet a b d i j o o₁ m m₁ → Remaining S turn sheet a b d Done (n - (x + 1)) j o₁ m₁
  again {x} {n} l p q = let e : n - (x + 1) ≡ n - x - 1 = omega arith in rw e (next_one (λ z. absurd (omega arith)) p q)

  pub done : {x n i : ℕ} {o : Option ℕ} {m : Mem} → n ≤ x → Remaining S turn sheet a b d Done (n - x) i o m → Done i o m
  done {x} {n} {i} {o} {m} l p = let h : n - x ≡ 0 = omega arith in p.finish i o m (rw h (nil_law S turn sheet a b d i o m p.ready.here p.stands))

-- before the first round, behind an operator or none
pub begun : {S : Sort} {turn : Turn S} {sheet : Bytes} {a b : List ℕ} {d n i : ℕ} {o₀ : Option ℕ} {m : Mem} → HeldMany sheet a b S n d i → Ready i m → Stands o₀ m → Remaining S turn sheet a b d (λ e o m'. LowersTurns S turn sheet a b n d i e o₀ o m m') (n - 0) i o₀ m
begun {n = n} x g st = rw (sub-zero n) (record { some = x; ready = g; stands = st; finish = λ e o m' q. q })
