-- The two lowerings of a `return`'s items, each with its operators. Assumes nothing.
use mathlib.Core.Path.{◌≡◌, refl, sym, ap, ◌∙◌}
use Prim.Native.Nat.{ℕ, zero, suc, ◌+◌, ◌-◌, ◌<◌}
use native.Mathlib.Nat.{le_refl}
use native.Mathlib.Omega.{arith}
use mathlib.Core.Bool.{Bool, true, false, not}
use mathlib.Core.List.{List, [], ◌∷◌, ◌++◌}
use Rattle.std.specs.Prelude.{Option}
use lib.Dec.{eqb}
use lib.ListN.{length}
use Rattle.model.specs.Text.{Bytes}
use Rattle.model.specs.Kind.{ReadOp, projection}
use Rattle.model.specs.Tree.{Trees}
use Rattle.model.specs.Lower.{Recs, Lowering, ◌>>=◌, ret, push, op, or_source_all, Split, split_projections_agg, aggregate_if, distinct_if}
use Rattle.words.specs.Held.{HeldOf, size_of}
use Rattle.context.specs.Tables.{Pushed, second_pass}
use Rattle.context.specs.Ops.{aggregate_op, project_op, distinct_op}
use Rattle.context.specs.declared.LowerCtx.{LowerCtx}
use Rattle.lower.specs.Side.{side}
use Rattle.lower.specs.Render.{key_recs, agg_recs}
use Rattle.lower.specs.Shows.{shift, shows_project, shows_aggregate, shows_distinct}
use Rattle.lower.specs.Rep.{State, Mem, mem, at_place, Written, Blank, Rep, Rooted, RoomFor}
use Rattle.lower.specs.Pieces.{lower_c, SomeCarried, LowersExprs}
use Rattle.lower.specs.Patterns.{SomeTrees}
use Rattle.lower.specs.Chains.{OrSource}
use Rattle.lower.specs.State.{to_then, push_to}
use Rattle.projections.specs.Items.{items_c, items_lower, items_size, items_held, items_render, items_below}
use Rattle.projections.proofs.Pushing.{none_counted, some_counted, counted, left_low, pushed_if}
use Rattle.projections.specs.Asked.{FirstAsked, SecondAsked}
use Rattle.projections.specs.Room.{room_source}
use Rattle.projections.specs.Promises.{LowersSplit, PushedIf, LowersPass, first_l, second_l}
use Rattle.projections.proofs.PartLaws.{split_total}

-- the record behind a pass, by another name
pub ends_at : {sheet : Bytes} {a b : List ℕ} {n d base i e e' k : ℕ} {L : Trees projection n → Lowering ℕ} {m m' : Mem} → e' ≡ e → LowersPass sheet a b n d base i e k L m m' → LowersPass sheet a b n d base i e' k L m m'
ends_at q p = rw q p

-- ── the first ──

abbrev parted : {n : ℕ} → Trees projection n → State → Split
parted items s = (split_projections_agg items s).0

abbrev aggregated : ℕ → Split → Recs
aggregated input p = op ReadOp.Aggregate (input, (p.keys, (p.aggs, tt))) ∷ (p.key_recs ++ p.agg_recs)

no_aggregate : (g input : ℕ) (p : Split) (s : State) → g ≡ 0 → aggregate_if g input p s ≡ (input, s)
unfolding aggregate_if ret
no_aggregate g input p s e = rw e

an_aggregate : (g input : ℕ) (p : Split) (s : State) → ((g ≡ 0) → ⊥) → aggregate_if g input p s ≡ push (aggregated input p) s
unfolding aggregate_if
an_aggregate zero input p s h = absurd (h refl)
an_aggregate (suc g) input p s h = refl

aggregate_is : (input keys keys' aggs aggs' : ℕ) (rs rs' ss ss' : Recs) → keys ≡ keys' → aggs ≡ aggs' → rs ≡ rs' → ss ≡ ss' → op ReadOp.Aggregate (input, (keys, (aggs, tt))) ∷ (rs' ++ ss') ≡ op ReadOp.Aggregate (input, (keys', (aggs', tt))) ∷ (rs ++ ss)
aggregate_is input keys keys' aggs aggs' rs rs' ss ss' e₁ e₂ e₃ e₄ = rw (e₁, e₂, e₃, e₄)

first_def : {n : ℕ} (current : Option ℕ) (items : Trees projection n) (s : State) (input : ℕ) → input ≡ (or_source_all current s).0 → first_l n current items s ≡ aggregate_if (parted items (or_source_all current s).1).aggs input (parted items (or_source_all current s).1) (split_projections_agg items (or_source_all current s).1).1
unfolding ◌>>=◌
first_def current items s input e = rw e

-- behind the source there is room for the items
pub first_room : {sheet : Bytes} {a b : List ℕ} {d i : ℕ} {n k₀ : ℕ} {current : Option ℕ} {L : Lowering ℕ} {m m₁ : Mem} → FirstAsked sheet a b n d i current m → OrSource m.ctx.ops L k₀ m m₁ → RoomFor d (i + 1) m₁
first_room g q = room_source g.ready q _ (le_refl _) (omega (arith, g.low)) g.depth

keys_left : (x y n g : ℕ) → x + y ≡ n → y ≡ g → x ≡ n - g
keys_left x y n g e f = omega arith

module _ {sheet : Bytes} {a b : List ℕ} {d i : ℕ} {n : ℕ} {current : Option ℕ} {j aggs k₀ k : ℕ} {c' : LowerCtx} {o' : List ℕ} {m m₁ m₂ : Mem}
    (g : FirstAsked sheet a b n d i current m)
    (sr : OrSource m.ctx.ops (or_source_all current) k₀ m m₁)
    (pt : LowersSplit sheet a b n d (i + 1) j aggs m₁ m₂)
    (pi : PushedIf (not (eqb aggs 0)) (aggregate_op (at_place 0 i d) k₀ (n - aggs) aggs) k₀ k m₂.ctx c' m₂.ops o') where
  first_run : {first : ℕ} (items : Trees projection n) → HeldOf sheet a b items d (i + 1) → (W : Written) (s : State) → Rep (side sheet a b first) W s m → Blank W (0 + suc (i + 1)) (0 + suc j) → Rooted (side sheet a b first) W (first_l n current items) k 0 (suc (i + 1)) (suc j) s m (mem c' o' m₂.rest)
  first_run items hd W s r bl =
      let s₁ : State = (or_source_all current s).1 in
      let S : Split = parted items s₁ in
      let x₀ = sr.run _ W s r.from r in
      let x₁ = pt.run items hd W s₁ x₀.to.rep bl in
      let ek : S.keys ≡ n - aggs = keys_left S.keys S.aggs n aggs (split_total items s₁) x₁.counted in
      let x₂ = pushed_if m₂ (λ z. aggregate_if S.aggs k₀ S z) (aggregated k₀ S) x₁.to.rep pi
      (λ e. no_aggregate S.aggs k₀ S (split_projections_agg items s₁).1 (x₁.counted ∙ none_counted aggs e))
      (λ h. an_aggregate S.aggs k₀ S (split_projections_agg items s₁).1 (λ e. some_counted aggs h (sym x₁.counted ∙ e)))
      (λ _ N A f. record {
        bounded = record { shallow = g.depth; near = omega arith; low = g.low; far = λ e. absurd (omega arith); flagged = λ e. absurd (omega arith) };
        shows = shows_aggregate refl (record {
          count = n;
          items = items;
          counted = g.counted;
          held = hd;
          below = x₁.below N A f;
          is = aggregate_is k₀ S.keys (n - aggs) S.aggs aggs (key_recs (shift N 0) A items) S.key_recs (agg_recs (shift N 0) A items) S.agg_recs ek x₁.counted (x₁.keys N A f) (x₁.aggregates N A f);
        });
      }) in
      let D = first_def current items s k₀ x₀.root in
      record { to = rw D (to_then x₀.to (to_then x₁.to x₂.to)); root = rw D x₂.root; low = left_low pi (let g = x₁.to.grow in let l = sr.low in omega arith) }

  pub first_law : LowersPass sheet a b n d 0 (i + 1) j k (first_l n current) m (mem c' o' m₂.rest)
  first_law =
      let x = pt.moved in
      let y = counted pi in
      record {
        up = x.up;
        here = x.here;
        grow = omega (arith, sr.grow, x.grow, y.grow);
        few = omega (arith, sr.few, x.few, y.few);
        fresh = omega (arith, sr.numbers, x.low, y.numbers);
        met = omega (arith, sr.mapped, x.met, y.mapped);
        in_ops = y.same ∙ x.in_ops ∙ sr.in_ops;
        in_rest = x.in_rest ∙ ap length sr.rest;
        index = λ z. rw y.mapped (x.index (rw (sr.mapped, sr.rest) z));
        next = pt.next;
        run = first_run;
      }

-- ── the second ──

pub items_some : {a b : List ℕ} {n d i : ℕ} → SomeTrees a b projection n d i → SomeCarried a b n 1 (d - 1) i
items_some {a} {b} {d = d} {i = i} x = record { sheet = x.sheet; list = items_c x.trees; held = items_held x.sheet a b x.trees d i x.held }

no_distinct : (w : Bool) (input : ℕ) (s : State) → w ≡ false → distinct_if w input s ≡ (input, s)
unfolding distinct_if ret
no_distinct w input s e = rw e

a_distinct : (w : Bool) (input : ℕ) (s : State) → w ≡ true → distinct_if w input s ≡ push (op ReadOp.Distinct (input, tt) ∷ []) s
unfolding distinct_if
a_distinct w input s e = rw e

abbrev projected : {n : ℕ} → ℕ → Trees projection n → State → Recs
projected {n} input items s = op ReadOp.Project (input, (n, tt)) ∷ (lower_c (items_c items) s).0

second_def : {n : ℕ} (distinct : Bool) (input : ℕ) (items : Trees projection n) (s : State) (k : ℕ) → k ≡ length (lower_c (items_c items) s).1.ops → second_l n distinct input items s ≡ distinct_if distinct k (push (projected input items s) (lower_c (items_c items) s).1).1
unfolding ◌>>=◌ push
second_def distinct input items s k e = rw (items_lower items s, e)

module _ {a b : List ℕ} {d i : ℕ} {n input j k : ℕ} {x : Bool} {c₁ c₂ : LowerCtx} {o₁ o₂ : List ℕ} {m m₁ : Mem}
    (g : SecondAsked a b n d i input m)
    (it : LowersExprs a b n 1 (d - 1) second_pass (i + 1) j m m₁)
    (ps : Pushed m₁.ctx c₁ m₁.ops o₁ (project_op (at_place second_pass i d) input)) (lo : length o₁ ≡ length m₁.ops)
    (pi : PushedIf x (distinct_op m₁.ctx.ops) m₁.ctx.ops k c₁ c₂ o₁ o₂) where
  pub second_low : k < c₂.ops
  second_low = left_low pi (omega (arith, ps.count))

  second_next : (sheet : Bytes) (items : Trees projection n) → HeldOf sheet a b items d (i + 1) → j ≡ i + 1 + size_of items
  second_next sheet items hd = let y = it.next sheet (items_c items) (items_held sheet a b items d (i + 1) hd) in let z = items_size items in omega arith

  second_run : (sheet : Bytes) {first : ℕ} (items : Trees projection n) → HeldOf sheet a b items d (i + 1) → (W : Written) (s : State) → Rep (side sheet a b first) W s m → Blank W (second_pass + suc (i + 1)) (second_pass + suc j) → Rooted (side sheet a b first) W (second_l n x input items) k second_pass (suc (i + 1)) (suc j) s m (mem c₂ o₂ m₁.rest)
  second_run sheet {first} items hd W s r bl =
      let k₁ : ℕ = m₁.ctx.ops in
      let x₁ = it.run sheet (items_c items) (items_held sheet a b items d (i + 1) hd) W s r bl in
      let x₂ = push_to m₁ c₁ o₁ (project_op (at_place second_pass i d) input) (projected input items s) x₁.to.rep ps
      (λ N A f. record {
        bounded = record { shallow = g.depth; near = omega arith; low = g.low; far = λ e. absurd (omega arith); flagged = λ e. absurd (omega arith) };
        shows = shows_project refl (record {
          count = n;
          items = items;
          counted = g.counted;
          held = hd;
          below = items_below (shift N second_pass) first k₁ items (x₁.below N A f);
          is = ap (λ (z : Recs). op ReadOp.Project (input, (n, tt)) ∷ z) (sym (x₁.shown N A f) ∙ sym (items_render (shift N second_pass) A items));
        });
      }) in
      let s₂ : State = (push (projected input items s) (lower_c (items_c items) s).1).1 in
      let x₃ = pushed_if (mem c₁ o₁ m₁.rest) (λ z. distinct_if x k₁ z) (op ReadOp.Distinct (k₁, tt) ∷ []) x₂.rep pi (λ e. no_distinct x k₁ s₂ e) (λ e. a_distinct x k₁ s₂ e)
      (λ _ N A f. record {
        bounded = record { shallow = omega arith; near = omega arith; low = omega arith; far = λ e. absurd (omega arith); flagged = λ e. absurd (omega arith) };
        shows = shows_distinct refl refl;
      }) in
      let D = second_def x input items s k₁ x₁.to.rep.count in
      record { to = rw D (to_then x₁.to (to_then x₂ x₃.to)); root = rw D x₃.root; low = second_low }

  pub second_law : (sheet : Bytes) → LowersPass sheet a b n d second_pass (i + 1) j k (second_l n x input) m (mem c₂ o₂ m₁.rest)
  second_law sheet =
      let v = it.moved in
      let y = counted pi in
      record {
        up = v.up;
        here = v.here;
        grow = omega (arith, v.grow, ps.count, y.grow);
        few = omega (arith, v.few, ps.count, y.few);
        fresh = omega (arith, v.low, ps.numbers, y.numbers);
        met = omega (arith, v.met, ps.mapped, y.mapped);
        in_ops = y.same ∙ lo ∙ v.in_ops;
        in_rest = v.in_rest;
        index = λ z. rw (y.mapped, ps.mapped) (v.index z);
        next = second_next sheet;
        run = second_run sheet;
      }
