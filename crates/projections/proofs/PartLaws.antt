-- The first lowering of a `return`'s items, one after another: what each adds to the keys or to the aggregates, and the loop over them. Assumes nothing.
use mathlib.Core.Path.{◌≡◌, refl, sym, ap, subst, ◌∙◌}
use Prim.Native.Nat.{ℕ, zero, suc, ◌+◌, ◌-◌, ◌≤◌, ◌<◌}
use native.Mathlib.Nat.{le_refl, add-zero, sub-zero}
use native.Mathlib.Omega.{arith}
use mathlib.Core.Bool.{Bool, true, false, cond}
use mathlib.Core.List.{List, [], ◌∷◌, ◌++◌, append-nil}
use Rattle.std.specs.Int.{from_bool}
use Rattle.model.specs.Text.{Bytes}
use Rattle.model.specs.Kind.{Expr, PlanExpr, expr, projection, in_plan, agg_expr}
use Rattle.model.specs.Field.{Fields}
use Rattle.model.specs.Record.{rec, forms}
use Rattle.model.specs.Tree.{Tree, Trees, node, []ᵗ, ◌∷ᵗ◌, end, ◌▸◌, fold}
use Rattle.model.specs.Lower.{Recs, made, ◌>>=◌, ret, over, expr_step, lower_expr, lower_exprs, Split, no_split, with_key, with_agg, lower_key, lower_call_item, lower_item, is_aggregate_func, split_projections_agg, plan_expr_rec}
use Rattle.words.specs.Held.{Held, HeldOf, HeldSome, HeldMany, size, size_of}
use Rattle.words.specs.Words.{max_records}
use Rattle.lower.specs.Side.{Side, side}
use Rattle.lower.specs.Render.{Notes, Ops, render, render_of, recs_over, expr_recs, expr_rest, Below, below_in, is_aggregate, agg_of, key_recs, agg_recs}
use Rattle.lower.specs.Shows.{shift}
use Rattle.lower.specs.Rep.{State, Mem, Written, Sub, Blank, Rep, Ran, RoomFor}
use Rattle.lower.specs.Pieces.{expr_piece, SomeTree, LowersExpr}
use Rattle.words.specs.Fits.{tree_low}
use Rattle.lower.specs.Carry.{plain_lower}
use Rattle.lower.specs.State.{sub_more, sub_within, blank_within, blank_behind, back, to_refl, to_then, to_wider}
use Rattle.lower.specs.Exprs.{moved_refl, moved_then, moved_within, room_after, room_from, narrow}
use Rattle.lower.specs.Below.{below_more}
use Rattle.projections.specs.Items.{exprs_lower}
use Rattle.projections.specs.Promises.{Splits, LowersSplit}

-- ── one item ──

-- what an item adds, by its expression's records
record Adds (t : Tree expr) (s : State) : Type 0 where
  state : (lower_item t s).1 ≡ (lower_expr t s).1
  keys : (p : Split) → ((lower_item t s).0 p).keys ≡ cond (is_aggregate t) p.keys (suc p.keys)
  aggs : (p : Split) → ((lower_item t s).0 p).aggs ≡ cond (is_aggregate t) (suc p.aggs) p.aggs
  key_recs_law : (N : Notes) (A : Ops) → render N A t ≡ (lower_expr t s).0 → (p : Split) → cond (is_aggregate t) [] (render N A t) ++ p.key_recs ≡ ((lower_item t s).0 p).key_recs
  agg_recs_law : (N : Notes) (A : Ops) → render N A t ≡ (lower_expr t s).0 → (p : Split) → cond (is_aggregate t) (agg_of N A t) [] ++ p.agg_recs ≡ ((lower_item t s).0 p).agg_recs

key_adds : (t : Tree expr) (s : State) → lower_item t s ≡ lower_key t s → is_aggregate t ≡ false → Adds t s
unfolding lower_key with_key ◌>>=◌ ret
key_adds t s e n = record { state = rw e; keys = λ p. rw (e, n); aggs = λ p. rw (e, n); key_recs_law = λ N A h p. rw (e, n, h); agg_recs_law = λ N A h p. rw (e, n) }

-- the records behind the first
tail_of : Recs → Recs
tail_of [] = []
tail_of (r ∷ rs) = rs

call_lower : (line n : ℕ) (func : Bytes) (distinct : Bool) (u : Unit {0}) (args : Trees expr n) (s : State) → lower_expr (node expr line Expr.Call (func, (n, (distinct, u))) (args ▸ end)) s ≡ (plan_expr_rec PlanExpr.Call (func, (n, tt)) ∷ (lower_exprs args s).0, (lower_exprs args s).1)
unfolding lower_expr fold made expr_step over ◌>>=◌ ret
call_lower line n func distinct u args s = rw (plain_lower args s, exprs_lower args s)

agg_adds : (line n : ℕ) (func : Bytes) (distinct : Bool) (u : Unit {0}) (args : Trees expr n) (s : State) → is_aggregate_func func ≡ true → Adds (node expr line Expr.Call (func, (n, (distinct, u))) (args ▸ end)) s
unfolding lower_item lower_call_item is_aggregate agg_of with_agg render recs_over expr_recs expr_rest ◌>>=◌ ret tail_of
agg_adds line n func distinct u args s e =
    let c = call_lower line n func distinct u args s in
    record {
      state = rw e (sym (ap (λ (z : Recs × State). z.1) c));
      keys = λ p. rw e;
      aggs = λ p. rw e;
      key_recs_law = λ N A h p. rw e;
      agg_recs_law = λ N A h p. (let x : render_of N A args ≡ (lower_exprs args s).0 = sym (append-nil (render_of N A args)) ∙ ap tail_of h ∙ ap (λ (z : Recs × State). tail_of z.0) c in rw e (ap (λ (z : Recs). (rec (in_plan agg_expr) tt (func, (n, (distinct, tt))) ∷ z) ++ p.agg_recs) x));
    }

call_adds : (q : Bool) (line n : ℕ) (func : Bytes) (distinct : Bool) (u : Unit {0}) (args : Trees expr n) (s : State) → is_aggregate_func func ≡ q → Adds (node expr line Expr.Call (func, (n, (distinct, u))) (args ▸ end)) s
unfolding lower_item lower_call_item is_aggregate
call_adds false line n func distinct u args s e = key_adds _ s (rw e) e
call_adds true line n func distinct u args s e = agg_adds line n func distinct u args s e

item_adds : (t : Tree expr) (s : State) → Adds t s
unfolding lower_item is_aggregate
item_adds (node expr line (Expr.Over h) f kids) s = key_adds _ s refl refl
item_adds (node expr line Expr.Var f kids) s = key_adds _ s refl refl
item_adds (node expr line Expr.Map f kids) s = key_adds _ s refl refl
item_adds (node expr line Expr.Call (func, (n, (distinct, u))) (args ▸ end)) s = call_adds (is_aggregate_func func) line n func distinct u args s refl
item_adds (node expr line Expr.PatternPredicate f kids) s = key_adds _ s refl refl
item_adds (node expr line Expr.ListPredicate f kids) s = key_adds _ s refl refl
item_adds (node expr line Expr.Unresolved f kids) s = key_adds _ s refl refl
item_adds (node expr line Expr.Undesugared f kids) s = key_adds _ s refl refl

-- ── items one after another ──

split_def : {n : ℕ} (line : ℕ) (u : Unit {0}) (f : Fields (forms projection u)) (t : Tree expr) (ts : Trees projection n) (s : State) → split_projections_agg (node projection line u f ((t ∷ᵗ []ᵗ) ▸ end) ∷ᵗ ts) s ≡ ((lower_item t s).0 (split_projections_agg ts (lower_expr t s).1).0, (split_projections_agg ts (lower_expr t s).1).1)
unfolding split_projections_agg ◌>>=◌ ret
split_def line u f t ts s = rw (item_adds t s).state

one_of : (q : Bool) (x y : ℕ) → cond q x (suc x) + cond q (suc y) y ≡ suc (x + y)
one_of true x y = omega arith
one_of false x y = omega arith

-- every item is a key or an aggregate
pub split_total : {n : ℕ} (items : Trees projection n) (s : State) → (split_projections_agg items s).0.keys + (split_projections_agg items s).0.aggs ≡ n
unfolding split_projections_agg no_split ret
split_total []ᵗ s = refl
split_total (node projection line u f ((t ∷ᵗ []ᵗ) ▸ end) ∷ᵗ ts) s =
    let p : Split = (split_projections_agg ts (lower_expr t s).1).0 in
    let x = item_adds t s in
    let h = split_total ts (lower_expr t s).1 in
    rw (split_def line u f t ts s, x.keys p, x.aggs p) (one_of (is_aggregate t) p.keys p.aggs ∙ ap (λ (z : ℕ). suc z) h)

nil_next : (i : ℕ) (ts : Trees projection 0) → i ≡ i + size_of ts
unfolding size
nil_next i []ᵗ = omega arith

nil_run : {S : Side} (i : ℕ) (m : Mem) (ts : Trees projection 0) (W : Written) (s : State) → Rep S W s m → Splits S W ts 0 (suc i) (suc i) s m m
unfolding split_projections_agg no_split ret key_recs agg_recs Below
nil_run i m []ᵗ W s r = record { to = to_wider (sub_more (0 + suc i, 0 + suc i) W) (to_refl r); counted = refl; keys = λ N A f. refl; aggregates = λ N A f. refl; below = λ N A f. tt }

nil_law : (sheet : Bytes) (a b : List ℕ) (d i : ℕ) (m : Mem) → i ≤ max_records → LowersSplit sheet a b 0 d i i 0 m m
nil_law sheet a b d i m h = record { moved = moved_refl h; next = λ ts hd. nil_next i ts; run = λ ts hd W s r bl. nil_run i m ts W s r }

-- an item and those behind it
both_run : {S : Side} {g : ℕ} (i j e : ℕ) (m m₁ m₂ : Mem) {n : ℕ} (line : ℕ) (u : Unit {0}) (f : Fields (forms projection u)) (t : Tree expr) (ts : Trees projection n) (W : Written) (s : State) →
    i + 1 ≤ j →
    j ≤ e →
    Ran S W (expr_piece t) 0 (suc (i + 1)) (suc j) s m m₁ →
    Splits S ((0 + suc (i + 1), 0 + suc j) ∷ W) ts g (suc j) (suc e) (lower_expr t s).1 m₁ m₂ →
    Splits S W (node projection line u f ((t ∷ᵗ []ᵗ) ▸ end) ∷ᵗ ts) (cond (is_aggregate t) (suc g) g) (suc i) (suc e) s m m₂
unfolding key_recs agg_recs Below below_in
both_run {S = on} i j e m m₁ m₂ line u f t ts W s l l' p q =
    let w : Sub ((0 + suc j, 0 + suc e) ∷ (0 + suc (i + 1), 0 + suc j) ∷ W) ((0 + suc i, 0 + suc e) ∷ W) = sub_within (omega arith) (le_refl _) (sub_within (omega arith) (omega arith) (sub_more (0 + suc i, 0 + suc e) W)) in
    let D = split_def line u f t ts s in
    let x = item_adds t s in
    let S : Split = (split_projections_agg ts (lower_expr t s).1).0 in
    record {
      to = rw D (to_wider w (to_then p.to q.to));
      counted = rw (D, x.aggs S, q.counted);
      keys = rw D (λ N A z. ap (λ (y : Recs). cond (is_aggregate t) [] (render (shift N 0) A t) ++ y) (q.keys N A (narrow w z)) ∙ x.key_recs_law (shift N 0) A (p.shown N A (back q.to (narrow w z))) S);
      aggregates = rw D (λ N A z. ap (λ (y : Recs). cond (is_aggregate t) (agg_of (shift N 0) A t) [] ++ y) (q.aggregates N A (narrow w z)) ∙ x.agg_recs_law (shift N 0) A (p.shown N A (back q.to (narrow w z))) S);
      below = rw D (λ N A z. (((below_more (shift N 0) on.first m₁.ctx.ops m₂.ctx.ops q.to.grow t (p.below N A (back q.to (narrow w z))), tt), tt), q.below N A (narrow w z)));
    }

module _ {sheet : Bytes} {a b : List ℕ} {n d j e g : ℕ} {m m₁ m₂ : Mem} (i : ℕ) (agg : Bool) (is : (t : Tree expr) → Held sheet a b t (d - 1) (i + 1) → agg ≡ is_aggregate t) (p : LowersExpr a b (d - 1) 0 (i + 1) j m m₁) (q : LowersSplit sheet a b n d j e g m₁ m₂) where
  cons_next : (ts : Trees projection (suc n)) → HeldOf sheet a b ts d i → e ≡ i + size_of ts
  unfolding Held size
  cons_next (node projection line u f ((t ∷ᵗ []ᵗ) ▸ end) ∷ᵗ ts) h =
      let x : j ≡ i + 1 + size t = p.next sheet t h.0.3.0.0 in
      let z : i + suc (size t + 0 + 0) ≡ j = omega arith in
      let y : e ≡ j + size_of ts = q.next ts (rw z at h.1) in
      omega arith

  cons_run : {first : ℕ} (ts : Trees projection (suc n)) → HeldOf sheet a b ts d i → (W : Written) (s : State) → Rep (side sheet a b first) W s m → Blank W (0 + suc i) (0 + suc e) → Splits (side sheet a b first) W ts (cond agg (suc g) g) (suc i) (suc e) s m m₂
  unfolding Held size
  cons_run (node projection line k f ((t ∷ᵗ []ᵗ) ▸ end) ∷ᵗ ts) h W s r bl =
      let v = p.moved.up in
      let v' = q.moved.up in
      let x : j ≡ i + 1 + size t = p.next sheet t h.0.3.0.0 in
      let z : i + suc (size t + 0 + 0) ≡ j = omega arith in
      let y = p.run sheet t h.0.3.0.0 W s r (blank_within (omega arith) (omega arith) bl) in
      let w = q.run ts (rw z at h.1) _ _ y.to.rep (blank_behind (le_refl _) (blank_within (omega arith) (le_refl _) bl)) in
      rw (is t h.0.3.0.0) (both_run i j e m m₁ m₂ line k f t ts W s v v' y w)

  cons_law : LowersSplit sheet a b (suc n) d i e (cond agg (suc g) g) m m₂
  cons_law = record { moved = moved_then (moved_within (omega arith) (le_refl _) p.moved.here p.moved) q.moved; next = cons_next; run = cons_run }

-- ── the loop ──

-- k remain from record i on behind g aggregates, and once they are lowered from here, all is done
pub record Remaining (sheet : Bytes) (a b : List ℕ) (n d : ℕ) (Done : ℕ → ℕ → Mem → Type 0) (k i g : ℕ) (m : Mem) : Type 0 where
  pub some : HeldMany sheet a b projection k d i
  pub room : RoomFor d i m
  pub few : g + k ≤ n
  pub finish : (e h : ℕ) (m' : Mem) → LowersSplit sheet a b k d i e h m m' → Done e (g + h) m'

record First (sheet : Bytes) (a b : List ℕ) (d i : ℕ) : Type 0 where
  deep : 1 ≤ d
  held : HeldSome sheet a b expr (d - 1) (i + 1)

first_by_law : (sheet : Bytes) (a b : List ℕ) (d i : ℕ) {k : ℕ} (ts : Trees projection k) → ((k ≡ 0) → ⊥) → HeldOf sheet a b ts d i → First sheet a b d i
unfolding Held
first_by_law sheet a b d i []ᵗ h hd = absurd (h refl)
first_by_law sheet a b d i (node projection line u f ((t ∷ᵗ []ᵗ) ▸ end) ∷ᵗ ts) h hd = record { deep = hd.0.2; held = record { tree = t; is = hd.0.3.0.0 } }

behind : {sheet : Bytes} {a b : List ℕ} {d j : ℕ} {m m₁ : Mem} (i : ℕ) {k : ℕ} (ts : Trees projection (suc k)) → LowersExpr a b (d - 1) 0 (i + 1) j m m₁ → HeldOf sheet a b ts d i → HeldMany sheet a b projection k d j
unfolding Held size
behind {sheet} {j = j} i (node projection line u f ((t ∷ᵗ []ᵗ) ▸ end) ∷ᵗ ts) p hd =
    let x : j ≡ i + 1 + size t = p.next sheet t hd.0.3.0.0 in
    let z : i + suc (size t + 0 + 0) ≡ j = omega arith in
    record { trees = ts; are = rw z at hd.1 }

plus : (q : Bool) (g h : ℕ) → g + cond q (suc h) h ≡ g + from_bool q + h
plus true g h = omega arith
plus false g h = omega arith

plus_few : (q : Bool) (g k n : ℕ) → g + suc k ≤ n → g + from_bool q + k ≤ n
plus_few true g k n l = omega arith
plus_few false g k n l = omega arith

-- an item adds at most one aggregate
pub at_most_one : (q : Bool) → from_bool q ≤ 1
at_most_one true = omega arith
at_most_one false = omega arith

-- one of n remains after c of them, and one less after it
remains : {c n : ℕ} → c < n → (n - c ≡ 0) → ⊥
remains l e = omega arith

none_remains : {c n : ℕ} → n ≤ c → n - c ≡ 0
none_remains l = omega arith

one_less : (c n : ℕ) → n - c - 1 ≡ n - (c + 1)
one_less c n = omega arith

module _ {sheet : Bytes} {a b : List ℕ} {n d : ℕ} {Done : ℕ → ℕ → Mem → Type 0} where
  pub child : {c x i g : ℕ} {m : Mem} → c < x → Remaining sheet a b n d Done (x - c) i g m → HeldSome sheet a b expr (d - 1) (i + 1)
  child {i = i} l p = (first_by_law sheet a b d i p.some.trees (remains l) p.some.are).held

  pub deep : {c x i g : ℕ} {m : Mem} → c < x → Remaining sheet a b n d Done (x - c) i g m → 1 ≤ d
  deep {i = i} l p = (first_by_law sheet a b d i p.some.trees (remains l) p.some.are).deep

  pub some_child : {c x i g : ℕ} {m : Mem} → c < x → Remaining sheet a b n d Done (x - c) i g m → SomeTree a b expr (d - 1) (i + 1)
  some_child l p = let x = child l p in record { sheet = sheet; tree = x.tree; held = x.is }

  pub child_low : {c x i g : ℕ} {m : Mem} → c < x → Remaining sheet a b n d Done (x - c) i g m → i + 1 < max_records
  child_low {i = i} l p = let x = child l p in let t = tree_low sheet a b x.tree (d - 1) (i + 1) x.is in omega arith

  -- there is room at its expression
  pub child_room : {c x i g : ℕ} {m : Mem} → c < x → Remaining sheet a b n d Done (x - c) i g m → RoomFor (d - 1) (i + 1) m
  child_room {i = i} l p = let x = child l p in let l = tree_low sheet a b x.tree (d - 1) (i + 1) x.is in room_from (omega arith) (omega arith) (omega arith) p.room

  less : {k i g : ℕ} {m : Mem} → Remaining sheet a b n d Done k i g m → Remaining sheet a b n d Done (suc k - 1) i g m
  less {k} p = let e : suc k - 1 ≡ k = omega arith in rw e p

  next_one : {k i j g : ℕ} {m m₁ : Mem} (agg : Bool) → ((k ≡ 0) → ⊥) → Remaining sheet a b n d Done k i g m → ((t : Tree expr) → Held sheet a b t (d - 1) (i + 1) → agg ≡ is_aggregate t) → LowersExpr a b (d - 1) 0 (i + 1) j m m₁ → Remaining sheet a b n d Done (k - 1) j (g + from_bool agg) m₁
  next_one {k = zero} agg h p is q = absurd (h refl)
  next_one {k = suc k} {i} {j} {g} {m} {m₁} agg h p is q = less (record {
    some = behind i p.some.trees q p.some.are;
    room = room_after (moved_within (omega arith) (le_refl _) q.moved.here q.moved) p.room;
    few = plus_few agg g k n p.few;
    finish = λ e x m' r. subst (λ (z : ℕ). Done e z m') (plus agg g x) (p.finish e (cond agg (suc x) x) m' (cons_law i agg is q r));
  })

  pub again : {c x i j g : ℕ} {m m₁ : Mem} (agg : Bool) → c < x → Remaining sheet a b n d Done (x - c) i g m → ((t : Tree expr) → Held sheet a b t (d - 1) (i + 1) → agg ≡ is_aggregate t) → LowersExpr a b (d - 1) 0 (i + 1) j m m₁ → Remaining sheet a b n d Done (x - (c + 1)) j (g + from_bool agg) m₁
  again {c} {x} {j = j} {g} {m₁ = m₁} agg l p is q = subst (λ (z : ℕ). Remaining sheet a b n d Done z j (g + from_bool agg) m₁) (one_less c x) (next_one agg (remains l) p is q)

  pub done : {c x i g : ℕ} {m : Mem} → x ≤ c → Remaining sheet a b n d Done (x - c) i g m → Done i g m
  done {c} {x} {i} {g} {m} l p = let h : x - c ≡ 0 = none_remains l in subst (λ (z : ℕ). Done i z m) (add-zero g) (p.finish i 0 m (rw h (nil_law sheet a b d i m p.room.here)))

  pub done_few : {k i g : ℕ} {m : Mem} → Remaining sheet a b n d Done k i g m → g ≤ n
  done_few p = omega (arith, p.few)

pub start : {sheet : Bytes} {a b : List ℕ} {n d i : ℕ} {m : Mem} → HeldMany sheet a b projection n d i → RoomFor d i m → Remaining sheet a b n d (λ e g m'. LowersSplit sheet a b n d i e g m m') (n - 0) i 0 m
start {n = n} x g = rw (sub-zero n) (record { some = x; room = g; few = omega arith; finish = λ e h m' r. (let z : 0 + h ≡ h = omega arith in rw z r) })
