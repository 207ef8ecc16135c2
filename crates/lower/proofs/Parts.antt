-- Parts one after another: the last one's root counts; and no parts. Assumes nothing.
use mathlib.Core.Path.{◌≡◌, refl, sym, ap, subst, ◌∙◌}
use Prim.Native.Nat.{ℕ, zero, suc, ◌+◌, ◌-◌, ◌≤◌, ◌<◌}
use native.Mathlib.Nat.{le_refl}
use native.Mathlib.Omega.{arith}
use mathlib.Core.List.{List, [], ◌∷◌}
use lib.ListN.{length}
use Rattle.model.specs.Text.{Bytes}
use Rattle.model.specs.Kind.{pattern_part}
use Rattle.model.specs.Tree.{Tree, Trees, []ᵗ, ◌∷ᵗ◌, to_list, fold, fold_of}
use Rattle.model.specs.Lower.{Lowering, Lowered, made, ◌>>=◌, ret, push, source, further_part, lower_further, lower_parts}
use Rattle.model.specs.Lower
use Rattle.words.specs.Held.{Held, HeldOf, size, size_of}
use Rattle.context.specs.Tables.{Pushed}
use Rattle.context.specs.declared.LowerCtx.{LowerCtx}
use Rattle.context.specs.declared.Numbered.{Numbered}
use Rattle.context.specs.Ops.{op_alone, source_no_parts_kind, source_no_parts_op}
use Rattle.lower.specs.Side.{Side, side}
use Rattle.lower.specs.Shows.{InBounds, shows_no_parts}
use Rattle.lower.specs.Rep.{State, Mem, mem, Written, Blank, Rep, Rooted, RoomFor, Moved}
use Rattle.lower.specs.Pieces.{SomeTree}
use Rattle.lower.specs.Patterns.{parts_l, part_l, SomeTrees, LowersParts, LowersPart}
use Rattle.lower.specs.State.{sub_more, sub_within, blank_within, blank_behind, to_refl, to_then, to_wider, push_to, fresh_to, fresh_number}
use Rattle.lower.specs.Exprs.{moved_refl, moved_then, moved_within, room_after}
use Rattle.words.specs.Words.{max_records}

-- parts behind a part whose root is k
unfoldable pub from_l : ℕ → {n : ℕ} → Trees pattern_part n → Lowering ℕ
from_l k []ᵗ = ret k
from_l k (t ∷ᵗ ts) = λ s. from_l (part_l t s).0 ts (part_l t s).1

further_def : {n : ℕ} (k : ℕ) (ts : Trees pattern_part n) (s : State) → lower_further k (to_list n (fold_of Lowered made ts)) s ≡ from_l k ts s
unfolding from_l lower_further further_part to_list fold ◌>>=◌ ret
further_def k []ᵗ s = refl
further_def k (t ∷ᵗ ts) s = further_def (part_l t s).0 ts (part_l t s).1

parts_def : {n : ℕ} (t : Tree pattern_part) (ts : Trees pattern_part n) (s : State) → parts_l (t ∷ᵗ ts) s ≡ from_l (part_l t s).0 ts (part_l t s).1
unfolding lower_parts to_list fold ◌>>=◌
parts_def t ts s = further_def (part_l t s).0 ts (part_l t s).1

pub record LowersFurther (a b : List ℕ) (n d base i e k₀ k : ℕ) (m m' : Mem) : Type 0 where
  pub moved : Moved i e m m'
  pub since : (o : ℕ) → o ≤ k₀ → o ≤ m.ctx.ops → o ≤ k
  pub low : k < m'.ctx.ops
  pub next : (sheet : Bytes) (ts : Trees pattern_part n) → HeldOf sheet a b ts d i → e ≡ i + size_of ts
  pub run : (sheet : Bytes) {first : ℕ} (ts : Trees pattern_part n) → HeldOf sheet a b ts d i → (W : Written) (s : State) → Rep (side sheet a b first) W s m → Blank W (base + suc i) (base + suc e) → Rooted (side sheet a b first) W (from_l k₀ ts) k base (suc i) (suc e) s m m'

none_size : (i : ℕ) (ts : Trees pattern_part 0) → i ≡ i + size_of ts
unfolding size
none_size i []ᵗ = omega arith

none_run : {S : Side} (base i k : ℕ) (m : Mem) (ts : Trees pattern_part 0) (W : Written) (s : State) → k < m.ctx.ops → Rep S W s m → Rooted S W (from_l k ts) k base (suc i) (suc i) s m m
unfolding from_l ret
none_run base i k m []ᵗ W s l r = record { to = to_wider (sub_more (base + suc i, base + suc i) W) (to_refl r); root = refl; low = l }

pub from_nil : (a b : List ℕ) (d base i k : ℕ) (m : Mem) → i ≤ max_records → k < m.ctx.ops → LowersFurther a b 0 d base i i k k m m
from_nil a b d base i k m h l = record { moved = moved_refl h; since = λ o l₀ l₁. l₀; low = l; next = λ sheet ts hd. none_size i ts; run = λ sheet ts hd W s r bl. none_run base i k m ts W s l r }

module _ {a b : List ℕ} {n d base i j e k₁ k : ℕ} {m m₁ m₂ : Mem} (p : LowersPart a b d base i j k₁ m m₁) (q : LowersFurther a b n d base j e k₁ k m₁ m₂) where
  both_next : (sheet : Bytes) (ts : Trees pattern_part (suc n)) → HeldOf sheet a b ts d i → e ≡ i + size_of ts
  unfolding Held size
  both_next sheet (t ∷ᵗ ts) h =
      let x = p.next sheet t h.0 in
      let y = q.next sheet ts (rw x h.1) in
      omega arith

module _ {a b : List ℕ} {n d base i j e k₁ k : ℕ} {m m₁ m₂ : Mem} (p : LowersPart a b d base i j k₁ m m₁) (q : LowersFurther a b n d base j e k₁ k m₁ m₂) where
  both_run : (sheet : Bytes) {first : ℕ} (t : Tree pattern_part) (ts : Trees pattern_part n) → HeldOf sheet a b (t ∷ᵗ ts) d i → (W : Written) (s : State) → Rep (side sheet a b first) W s m → Blank W (base + suc i) (base + suc e) → Rooted (side sheet a b first) W (λ s. from_l (part_l t s).0 ts (part_l t s).1) k base (suc i) (suc e) s m m₂
  unfolding Held
  both_run sheet {first} t ts h W s r bl =
      let x = p.next sheet t h.0 in
      let u₁ = p.moved.up in
      let u₂ = q.moved.up in
      let y = p.run sheet t h.0 W s r (blank_within (le_refl _) (omega arith) bl) in
      let z = q.run sheet ts (rw x h.1) _ _ y.to.rep (blank_behind (le_refl _) (blank_within (omega arith) (le_refl _) bl)) in
      let z' : Rooted (side sheet a b first) ((base + suc i, base + suc j) ∷ W) (from_l (part_l t s).0 ts) k base (suc j) (suc e) (part_l t s).1 m₁ m₂ = rw y.root at z in
      record { to = to_wider (sub_within (omega arith) (le_refl _) (sub_within (le_refl _) (omega arith) (sub_more (base + suc i, base + suc e) W))) (to_then y.to z'.to); root = z'.root; low = z'.low }

module _ {a b : List ℕ} {n d base i j e k₁ k : ℕ} {m m₁ m₂ : Mem} (k₀ : ℕ) (p : LowersPart a b d base i j k₁ m m₁) (q : LowersFurther a b n d base j e k₁ k m₁ m₂) where
  from_run : (sheet : Bytes) {first : ℕ} (ts : Trees pattern_part (suc n)) → HeldOf sheet a b ts d i → (W : Written) (s : State) → Rep (side sheet a b first) W s m → Blank W (base + suc i) (base + suc e) → Rooted (side sheet a b first) W (from_l k₀ ts) k base (suc i) (suc e) s m m₂
  unfolding from_l
  from_run sheet (t ∷ᵗ ts) h W s r bl = both_run p q sheet t ts h W s r bl

  pub from_cons : LowersFurther a b (suc n) d base i e k₀ k m m₂
  from_cons = record { moved = moved_then p.moved q.moved; since = λ o l₀ l₁. q.since o (omega (arith, p.since)) (omega (arith, p.moved.grow)); low = q.low; next = both_next p q; run = from_run }

  first_run : (sheet : Bytes) {first : ℕ} (ts : Trees pattern_part (suc n)) → HeldOf sheet a b ts d i → (W : Written) (s : State) → Rep (side sheet a b first) W s m → Blank W (base + suc i) (base + suc e) → Rooted (side sheet a b first) W (parts_l ts) k base (suc i) (suc e) s m m₂
  first_run sheet (t ∷ᵗ ts) h W s r bl =
      let x = both_run p q sheet t ts h W s r bl in
      let z = parts_def t ts s in
      record { to = rw z x.to; root = x.root ∙ ap (λ (y : ℕ × State). y.0) (sym z); low = x.low }

-- the first part, and those behind it
pub first_law : {a b : List ℕ} {n d base j e k₁ k : ℕ} {m m₁ m₂ : Mem} (i : ℕ) → LowersPart a b d base (i + 1) j k₁ m m₁ → LowersFurther a b n d base j e k₁ k m₁ m₂ → LowersParts a b (suc n) d base i e k m m₂
first_law i p q = record { moved = moved_within (omega arith) (le_refl _) q.moved.here (moved_then p.moved q.moved); since = q.since _ p.since p.moved.grow; low = q.low; next = both_next p q; run = first_run 0 p q }

-- ── no parts ──

-- a source at no record, of either kind
pub source_bounded : (kind number : ℕ) → InBounds (op_alone kind 0 0 number 0)
source_bounded kind number = record { shallow = omega arith; near = omega arith; low = omega arith; far = λ e. omega arith; flagged = λ e. omega arith }

module _ {a b : List ℕ} (d base i : ℕ) (m : Mem) (f : Numbered) (c : LowerCtx) (os : List ℕ) (li : i < max_records) (fr : (f.number ≡ m.ctx.numbers) × (f.ctx.ops ≡ m.ctx.ops) × (f.ctx.numbers ≡ m.ctx.numbers + 1) × (f.ctx.mapped ≡ m.ctx.mapped)) (ps : Pushed f.ctx c m.ops os (source_no_parts_op f.number)) (lo : length os ≡ length m.ops) where
  no_run : (sheet : Bytes) {first : ℕ} (ts : Trees pattern_part 0) (W : Written) (s : State) → Rep (side sheet a b first) W s m → Rooted (side sheet a b first) W (parts_l ts) m.ctx.ops base (suc (i + 1)) (suc (i + 1)) s m (mem c os m.rest)
  unfolding lower_parts to_list fold ◌>>=◌ push
  no_run sheet []ᵗ W s r =
      let x = fresh_to m f.ctx r fr.1 fr.2 fr.3 in
      let n : f.number ≡ (Lower.fresh s).0 = fr.0 ∙ fresh_number m r in
      let y = push_to (mem f.ctx m.ops m.rest) c os (source_no_parts_op f.number) (source (Lower.fresh s).0 []) x.rep ps (λ N A z. record { bounded = source_bounded source_no_parts_kind f.number; shows = shows_no_parts refl (ap (λ (q : ℕ). source q []) (sym n)) }) in
      record { to = to_wider (sub_more (base + suc (i + 1), base + suc (i + 1)) W) (to_then x y); root = sym fr.1 ∙ x.rep.count; low = let e : c.ops ≡ f.ctx.ops + 1 = ps.count in let e' = fr.1 in omega arith }

  pub no_law : LowersParts a b 0 d base i (i + 1) m.ctx.ops m (mem c os m.rest)
  no_law =
      let e₁ = fr.1 in
      let e₂ = fr.2 in
      let e₃ = fr.3 in
      record {
        moved = record { up = omega arith; here = omega arith; grow = omega (arith, ps.count); few = omega (arith, ps.count); low = omega (arith, ps.numbers); met = omega (arith, ps.mapped); in_ops = lo; in_rest = refl; index = λ x. rw (ps.mapped, fr.3) x };
        since = le_refl _;
        low = omega (arith, ps.count);
        next = λ sheet ts hd. none_size (i + 1) ts;
        run = λ sheet ts hd W s r bl. no_run sheet ts W s r;
      }

-- ── the loop ──

-- k parts remain behind one whose root is `root`, and once they are lowered from here, all is done
pub record Remaining (a b : List ℕ) (d base : ℕ) (Done : ℕ → ℕ → Mem → Type 0) (k i root : ℕ) (m : Mem) : Type 0 where
  pub some : SomeTrees a b pattern_part k d i
  pub room_for : RoomFor d i m
  pub low : root < m.ctx.ops
  pub finish : (e root' : ℕ) (m' : Mem) → LowersFurther a b k d base i e root root' m m' → Done e root' m'

pub child_by : {a b : List ℕ} {d : ℕ} (i : ℕ) (sheet : Bytes) {k : ℕ} (ts : Trees pattern_part k) → ((k ≡ 0) → ⊥) → HeldOf sheet a b ts d i → SomeTree a b pattern_part d i
unfolding Held
child_by i sheet []ᵗ h hd = absurd (h refl)
child_by i sheet (t ∷ᵗ ts) h hd = record { sheet = sheet; tree = t; held = hd.0 }

pub some_child : {a b : List ℕ} {k d i : ℕ} → ((k ≡ 0) → ⊥) → SomeTrees a b pattern_part k d i → SomeTree a b pattern_part d i
some_child {i = i} h x = child_by i x.sheet x.trees h x.held

behind : {a b : List ℕ} {d base i j k₁ : ℕ} {m m₁ : Mem} (sheet : Bytes) {k : ℕ} (ts : Trees pattern_part (suc k)) → LowersPart a b d base i j k₁ m m₁ → HeldOf sheet a b ts d i → SomeTrees a b pattern_part k d j
unfolding Held
behind sheet (t ∷ᵗ ts) p hd = record { sheet = sheet; trees = ts; held = rw (p.next sheet t hd.0) hd.1 }

pub some_behind : {a b : List ℕ} {k d base i j k₁ : ℕ} {m m₁ : Mem} → ((k ≡ 0) → ⊥) → SomeTrees a b pattern_part k d i → LowersPart a b d base i j k₁ m m₁ → SomeTrees a b pattern_part (k - 1) d j
some_behind {k = zero} h x p = absurd (h refl)
some_behind {k = suc k} h x p = let e : suc k - 1 ≡ k = omega arith in rw e (behind x.sheet x.trees p x.held)

-- of n, x are lowered
module _ {a b : List ℕ} {d base : ℕ} {Done : ℕ → ℕ → Mem → Type 0} where
  pub child : {n x i root : ℕ} {m : Mem} → x < n → Remaining a b d base Done (n - x) i root m → SomeTree a b pattern_part d i
  child {n} {x} l p = some_child (λ (z : n - x ≡ 0). absurd (omega arith)) p.some

  again_by : {k k' i j root k₁ : ℕ} {m m₁ : Mem} → k ≡ suc k' → Remaining a b d base Done k i root m → LowersPart a b d base i j k₁ m m₁ → Remaining a b d base Done k' j k₁ m₁
  again_by {k' = k'} {i = i} {root = root} {m = m} e p q =
      let p' : Remaining a b d base Done (suc k') i root m = subst (λ (k : ℕ). Remaining a b d base Done k i root m) e p in
      record { some = behind p'.some.sheet p'.some.trees q p'.some.held; room_for = room_after q.moved p'.room_for; low = q.low; finish = λ e k' m' r. p'.finish e k' m' (from_cons root q r) }

  pub again : {n x i j root k₁ : ℕ} {m m₁ : Mem} → x < n → Remaining a b d base Done (n - x) i root m → LowersPart a b d base i j k₁ m m₁ → Remaining a b d base Done (n - (x + 1)) j k₁ m₁
  again {n} {x} l p q = again_by {k = n - x} {k' = n - (x + 1)} (omega arith) p q

  pub done : {n x i root : ℕ} {m : Mem} → n ≤ x → Remaining a b d base Done (n - x) i root m → Done i root m
  done {n} {x} {i} {root} {m} l p = let e : n - x ≡ 0 = omega arith in p.finish i root m (rw e (from_nil a b d base i root m p.room_for.here p.low))

-- the first part and the loop behind it
pub first_done : {a b : List ℕ} {n d base j e k₁ k : ℕ} {m m₁ m₂ : Mem} (i : ℕ) → ((n ≡ 0) → ⊥) → LowersPart a b d base (i + 1) j k₁ m m₁ → LowersFurther a b (n - 1) d base j e k₁ k m₁ m₂ → LowersParts a b n d base i e k m m₂
first_done {n = zero} i h p q = absurd (h refl)
first_done {n = suc n} i h p q = let z : suc n - 1 ≡ n = omega arith in first_law i p (rw z at q)

pub behind_first : {a b : List ℕ} {n d base j k₁ : ℕ} {m m₁ : Mem} (i : ℕ) → ((n ≡ 0) → ⊥) → SomeTrees a b pattern_part n d (i + 1) → RoomFor d (i + 1) m → LowersPart a b d base (i + 1) j k₁ m m₁ → Remaining a b d base (λ e k m'. LowersFurther a b (n - 1) d base j e k₁ k m₁ m') (n - 1) j k₁ m₁
behind_first i h x g p = record { some = some_behind h x p; room_for = room_after p.moved g; low = p.low; finish = λ e k m' q. q }
