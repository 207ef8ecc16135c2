-- Expressions one after another, and the loop over them. Assumes nothing.
use Rattle.std.specs.Prelude.{◌≡◌, refl, ℕ, suc, ◌+◌, ◌-◌, ◌≤◌, ◌<◌, List, ◌∷◌}
use Rattle.std.proofs.Common.{◌∙◌, subst, le_refl}
use native.Mathlib.Omega.{arith}
use Rattle.model.specs.Text.{Bytes}
use Rattle.model.specs.Kind.{expr}
use Rattle.model.specs.Tree.{Tree}
use Rattle.model.specs.Lower.{Recs, ◌>>=◌, ret, lower_expr}
use Rattle.words.specs.Held.{size}
use Rattle.context.specs.Tables.{CanPush}
use Rattle.lower.specs.Side.{Side, side}
use Rattle.lower.specs.Render.{Notes, Ops}
use Rattle.lower.specs.Shows.{shift}
use Rattle.lower.specs.Rep.{State, Mem, Written, Sub, Blank, Future, Rep, Ran, RoomFor, Moved}
use Rattle.lower.specs.Pieces.{expr_piece, Carried, []ᶜ, ◌∷ᶜ◌, lower_c, render_c, BelowC, size_c, HeldC, carried_piece, SomeTree, SomeCarried, LowersExpr, LowersExprs}
use Rattle.lower.specs.State.{sub_more, sub_within, blank_within, blank_behind, back, to_refl, to_then, to_wider}
use Rattle.lower.specs.Below.{below_more}
use Rattle.words.specs.Words.{max_records}

-- ── what moves ──

pub moved_refl : {i : ℕ} {m : Mem} → i ≤ max_records → Moved i i m m
moved_refl h = record { up = omega arith; here = h; grow = le_refl _; few = omega arith; low = omega arith; met = omega arith; in_ops = refl; in_rest = refl; index = λ x. x }

pub moved_then : {i j e : ℕ} {m m₁ m₂ : Mem} → Moved i j m m₁ → Moved j e m₁ m₂ → Moved i e m m₂
moved_then p q = record { up = omega (arith, p.up, q.up); here = q.here; grow = omega (arith, p.grow, q.grow); few = omega (arith, p.few, q.few); low = omega (arith, p.low, q.low); met = omega (arith, p.met, q.met); in_ops = q.in_ops ∙ p.in_ops; in_rest = q.in_rest ∙ p.in_rest; index = λ x. q.index (p.index x) }

-- from an earlier record, to a later one
pub moved_within : {i j e f : ℕ} {m m' : Mem} → i ≤ j → e ≤ f → f ≤ max_records → Moved j e m m' → Moved i f m m'
moved_within l l' h p = record { up = omega (arith, p.up); here = h; grow = p.grow; few = omega (arith, p.few); low = omega (arith, p.low); met = omega (arith, p.met); in_ops = p.in_ops; in_rest = p.in_rest; index = p.index }

pub room_after : {d i j : ℕ} {m m₁ : Mem} → Moved i j m m₁ → RoomFor d i m → RoomFor d j m₁
room_after p g = record { few = omega (arith, p.few, g.few); low = omega (arith, p.low, g.low); met = omega (arith, p.met, g.met); here = p.here; in_ops = rw p.in_ops g.in_ops; in_rest = rw p.in_rest g.in_rest; index = p.index g.index }

pub room_from : {d d' i j : ℕ} {m : Mem} → d' ≤ d → i ≤ j → j ≤ max_records → RoomFor d i m → RoomFor d' j m
room_from ld l h g = record { few = omega (arith, g.few); low = omega (arith, g.low); met = omega (arith, g.met); here = h; in_ops = g.in_ops; in_rest = g.in_rest; index = g.index }

-- what holds where more is written holds where less is
pub narrow : {W W' : Written} {s : State} {m : Mem} {N : Notes} {A : Ops} → Sub W W' → Future W' s m N A → Future W s m N A
narrow u f = record { notes = record { at = λ q l i. f.notes.at q l (u.at q i) }; ops = f.ops }

-- ── none, and one more ──

nil_next : (gap i : ℕ) (cs : Carried 0) → i ≡ i + size_c gap cs
unfolding size_c
nil_next gap i []ᶜ = omega arith

nil_run : {S : Side} (base i : ℕ) (m : Mem) (cs : Carried 0) (W : Written) (s : State) → Rep S W s m → Ran S W (carried_piece cs) base (suc i) (suc i) s m m
unfolding lower_c render_c BelowC ret
nil_run base i m []ᶜ W s r = record { to = to_wider (sub_more (base + suc i, base + suc i) W) (to_refl r); shown = λ N A f. refl; below = λ N A f. tt }

pub nil_law : (a b : List ℕ) (gap d base i : ℕ) (m : Mem) → i ≤ max_records → LowersExprs a b 0 gap d base i i m m
nil_law a b gap d base i m h = record { moved = moved_refl h; next = λ sheet cs hd. nil_next gap i cs; run = λ sheet cs hd W s r bl. nil_run base i m cs W s r }

both_run : {S : Side} (base o i j e : ℕ) (m m₁ m₂ : Mem) {n : ℕ} (c : Recs × Tree expr) (cs : Carried n) (W : Written) (s : State) → o ≤ i → i ≤ j → j ≤ e →
    Ran S W (expr_piece c.1) base (suc i) (suc j) s m m₁ → Ran S ((base + suc i, base + suc j) ∷ W) (carried_piece cs) base (suc j) (suc e) (lower_expr c.1 s).1 m₁ m₂ →
    Ran S W (carried_piece (c ∷ᶜ cs)) base (suc o) (suc e) s m m₂
unfolding lower_c render_c BelowC ◌>>=◌ ret
both_run {S = S} base o i j e m m₁ m₂ c cs W s lo l l' p q =
    let u : Sub ((base + suc j, base + suc e) ∷ (base + suc i, base + suc j) ∷ W) ((base + suc o, base + suc e) ∷ W) = sub_within (omega arith) (le_refl _) (sub_within (omega arith) (omega arith) (sub_more (base + suc o, base + suc e) W)) in
    record {
      to = to_wider u (to_then p.to q.to);
      shown = λ N A f. rw (p.shown N A (back q.to (narrow u f)), q.shown N A (narrow u f));
      below = λ N A f. (below_more (shift N base) S.first m₁.ctx.ops m₂.ctx.ops q.to.grow c.1 (p.below N A (back q.to (narrow u f))), q.below N A (narrow u f));
    }

module _ {a b : List ℕ} {n d base j e : ℕ} {m m₁ m₂ : Mem} (gap i : ℕ) (p : LowersExpr a b d base (i + gap) j m m₁) (q : LowersExprs a b n gap d base j e m₁ m₂) where
  both_next : (sheet : Bytes) (cs : Carried (suc n)) → HeldC sheet a b gap cs d i → e ≡ i + size_c gap cs
  unfolding size_c HeldC
  both_next sheet (c ∷ᶜ cs) h =
      let x : j ≡ i + gap + size c.1 = p.next sheet c.1 h.0 in
      let y : e ≡ j + size_c gap cs = q.next sheet cs (rw x h.1) in
      omega arith

  cons_run : (sheet : Bytes) {first : ℕ} (cs : Carried (suc n)) → HeldC sheet a b gap cs d i → (W : Written) (s : State) → Rep (side sheet a b first) W s m → Blank W (base + suc i) (base + suc e) → Ran (side sheet a b first) W (carried_piece cs) base (suc i) (suc e) s m m₂
  unfolding HeldC
  cons_run sheet (c ∷ᶜ cs) h W s r bl =
      let u = p.moved.up in
      let u' = q.moved.up in
      let x : j ≡ i + gap + size c.1 = p.next sheet c.1 h.0 in
      let y = p.run sheet c.1 h.0 W s r (blank_within (omega arith) (omega arith) bl) in
      both_run base i (i + gap) j e m m₁ m₂ c cs W s (omega arith) u u' y (q.run sheet cs (rw x h.1) _ _ y.to.rep (blank_behind (le_refl _) (blank_within (omega arith) (le_refl _) bl)))

  pub cons_law : LowersExprs a b (suc n) gap d base i e m m₂
  cons_law = record { moved = moved_then (moved_within (omega arith) (le_refl _) p.moved.here p.moved) q.moved; next = both_next; run = cons_run }

-- where there is room, one more operator can be pushed
pub can_push : {d i : ℕ} {m : Mem} → RoomFor d i m → CanPush m.ctx m.ops
can_push g = record { few = omega (arith, g.few, g.here); long = g.in_ops }

-- ── the loop ──

-- k remain from record i on, and once they are lowered from here, all is done
pub record Remaining (a b : List ℕ) (gap d base : ℕ) (Done : ℕ → Mem → Type 0) (k i : ℕ) (m : Mem) : Type 0 where
  pub some : SomeCarried a b k gap d i
  pub room_for : RoomFor d i m
  pub finish : (e : ℕ) (m' : Mem) → LowersExprs a b k gap d base i e m m' → Done e m'

child_by : {a b : List ℕ} {d : ℕ} (gap i : ℕ) (sheet : Bytes) {k : ℕ} (cs : Carried k) → ((k ≡ 0) → ⊥) → HeldC sheet a b gap cs d i → SomeTree a b expr d (i + gap)
unfolding HeldC
child_by gap i sheet []ᶜ h hd = absurd (h refl)
child_by gap i sheet (c ∷ᶜ cs) h hd = record { sheet = sheet; tree = c.1; held = hd.0 }

behind : {a b : List ℕ} {d base j : ℕ} {m m₁ : Mem} (gap i : ℕ) (sheet : Bytes) {k : ℕ} (cs : Carried (suc k)) → LowersExpr a b d base (i + gap) j m m₁ → HeldC sheet a b gap cs d i → SomeCarried a b k gap d j
unfolding HeldC
behind gap i sheet (c ∷ᶜ cs) p hd = record { sheet = sheet; list = cs; held = rw (p.next sheet c.1 hd.0) hd.1 }

-- of n, x are lowered
module _ {a b : List ℕ} {gap d base : ℕ} {Done : ℕ → Mem → Type 0} where
  pub begun : {n i : ℕ} {m : Mem} → Remaining a b gap d base Done n i m → Remaining a b gap d base Done (n - 0) i m
  begun {n} {i} {m} p = let e : n ≡ n - 0 = omega arith in subst (λ (k : ℕ). Remaining a b gap d base Done k i m) e p

  pub child : {n x i : ℕ} {m : Mem} → x < n → Remaining a b gap d base Done (n - x) i m → SomeTree a b expr d (i + gap)
  child {n} {x} {i} l p = child_by gap i p.some.sheet p.some.list (λ (z : n - x ≡ 0). absurd (omega arith)) p.some.held

  again_by : {k k' i j : ℕ} {m m₁ : Mem} → k ≡ suc k' → Remaining a b gap d base Done k i m → LowersExpr a b d base (i + gap) j m m₁ → Remaining a b gap d base Done k' j m₁
  again_by {k} {k'} {i} {j} {m} {m₁} e p q =
      let p' : Remaining a b gap d base Done (suc k') i m = subst (λ (k : ℕ). Remaining a b gap d base Done k i m) e p in
      record {
        some = behind gap i p'.some.sheet p'.some.list q p'.some.held;
        room_for = room_after (moved_within (omega arith) (le_refl _) q.moved.here q.moved) p'.room_for;
        finish = λ e m' r. p'.finish e m' (cons_law gap i q r);
      }

  pub again : {n x i j : ℕ} {m m₁ : Mem} → x < n → Remaining a b gap d base Done (n - x) i m → LowersExpr a b d base (i + gap) j m m₁ → Remaining a b gap d base Done (n - (x + 1)) j m₁
  again {n} {x} l p q = again_by {k = n - x} {k' = n - (x + 1)} (omega arith) p q

  pub done : {n x i : ℕ} {m : Mem} → n ≤ x → Remaining a b gap d base Done (n - x) i m → Done i m
  done {n} {x} {i} {m} l p = let e : n - x ≡ 0 = omega arith in p.finish i m (rw e (nil_law a b gap d base i m p.room_for.here))
