-- Statements alike lower alike, if no unaliased item is a bare variable: items, order, skip and limit, clauses, arms. Assumes nothing but the parameters: R, which joins the ids, and that R is one to one.
use Rattle.std.specs.Prelude.{◌≡◌, Bool, eqb, Option, None, Some}
use Prim.Native.Nat.{ℕ, zero, suc}
use Rattle.std.proofs.Math.Bool.{true, false}
use mathlib.Core.List.{[], ◌∷◌, ◌++◌}
use Rattle.model.specs.Text.{Bytes}
use Rattle.model.specs.Field.{Fields}
use Rattle.model.specs.Kind.{Clause, Same, Expr, ReadOp, in_plan, order_key, statement, union_arm, clause, projection, order_item, pattern_part, yield_item, expr}
use Rattle.model.specs.Record.{Rec, rec, forms, same_forms, expr_forms, expr_children, clause_forms, clause_children, children}
use Rattle.model.specs.Tree.{Tree, Trees, Forest, node, ◌∷ᵗ◌}
use Rattle.model.specs.Lower.{LowerCtx, push, op, lower_expr, lower_exprs, lower_pattern, same_alias, synthesise_alias, alias_or, item, lower_projections, is_aggregate_func, Split, lower_key, lower_call_item, lower_item, split_projections_agg, lower_keys, order_by, over_expr, lower_trailers, lower_yields, distinct_if, aggregate_if, lower_clause, lower_clauses, lower_arms, lower, empty, lower_statement}
use Rattle.alike.specs.Statement.{NotVar, NamedItem, NamedItems, NamedClause, NamedClauses, NamedArms, Named}
use Rattle.alike.specs.Relation.{Equal, equal, List~, []~, ◌∷~◌, Fields~, Tree~, Trees~, Forest~, node~, []ᵗ~, ◌∷ᵗ~◌, end~, ◌▸~◌}
use Rattle.alike.specs.Action.{Ctx~, ctx~, Ran~, ran~, Does~, then~, ret~, ret_of~, push~, map_var~, or_source_all~}
use Rattle.alike.specs.Pattern.{lower_match_pattern~}
use Rattle.alike.specs.Folding.{same_fields~, fold~}

module _ (R : ℕ → ℕ → Type 0) (one_to_one : (a b x y : ℕ) → R a b → R x y → eqb a x ≡ eqb b y) where
  lower_expr~ : {e d : Tree expr} → Tree~ R expr e d → Does~ R (lower_expr e) (lower_expr d)
  unfolding lower_expr
  lower_expr~ e = fold~ R one_to_one e

  lower_exprs~ : {n m : ℕ} {es : Trees expr n} {ds : Trees expr m} → Trees~ R expr n m es ds → Does~ R (lower_exprs es) (lower_exprs ds)
  unfolding lower_exprs
  lower_exprs~ []ᵗ~ = ret~ R []
  lower_exprs~ (e ∷ᵗ~ es) = then~ R (lower_expr~ e) λ rs. then~ R (lower_exprs~ es) λ ss. ret~ R (rs ++ ss)

  lower_pattern~ : {n m : ℕ} {ps : Trees pattern_part n} {qs : Trees pattern_part m} → Trees~ R pattern_part n m ps qs → List~ (λ a b. Does~ R a b) (lower_pattern ps) (lower_pattern qs)
  unfolding lower_pattern
  lower_pattern~ []ᵗ~ = []~
  lower_pattern~ (p ∷ᵗ~ ps) = fold~ R one_to_one p ∷~ lower_pattern~ ps

  -- ── items ──

  same_alias~ : (h : Same) (f g : Fields (same_forms h)) → Equal f g → Equal (same_alias h f) (same_alias h g)
  same_alias~ h f g equal = equal

  -- a name comes from the expression of an unaliased item, and an id would show in it
  synthesise_alias~ : {e d : Tree expr} → NotVar e → Tree~ R expr e d → Equal (synthesise_alias e) (synthesise_alias d)
  unfolding NotVar synthesise_alias
  synthesise_alias~ no-var (node~ {k = Expr.Over h} {f = f} {g = g} v kids) = same_alias~ h f g (same_fields~ R h f g v)
  synthesise_alias~ no-var (node~ {k = Expr.Var} v kids) = absurd no-var
  synthesise_alias~ no-var (node~ {k = Expr.Map} v kids) = equal
  synthesise_alias~ no-var (node~ {k = Expr.Call} {f = (_, (_, _))} {g = (_, (_, _))} (equal, v) kids) = equal
  synthesise_alias~ no-var (node~ {k = Expr.PatternPredicate} v kids) = equal
  synthesise_alias~ no-var (node~ {k = Expr.ListPredicate} v kids) = equal
  synthesise_alias~ no-var (node~ {k = Expr.Unresolved} v kids) = equal
  synthesise_alias~ no-var (node~ {k = Expr.Undesugared} v kids) = equal

  name~ : (a b : Option Bytes) → Equal a b → {e d : Tree expr} → NamedItem a e → Tree~ R expr e d → Equal (alias_or a (synthesise_alias e)) (alias_or b (synthesise_alias d))
  unfolding NamedItem alias_or
  name~ (Some a) b equal w e = equal
  name~ None b equal w e = synthesise_alias~ w e

  -- an item before others that lower alike
  projection_step~ : (line : ℕ) (f g : Fields (forms projection tt)) → Fields~ R (forms projection tt) f g → {x y : Forest ((expr, 1) ∷ [])} → Forest~ R ((expr, 1) ∷ []) ((expr, 1) ∷ []) x y → {n m : ℕ} (ps : Trees projection n) (qs : Trees projection m) →
      NamedItems (node projection line tt f x ∷ᵗ ps) → (NamedItems ps → Does~ R (lower_projections ps) (lower_projections qs)) → Does~ R (lower_projections (node projection line tt f x ∷ᵗ ps)) (lower_projections (node projection line tt g y ∷ᵗ qs))
  unfolding NamedItems lower_projections
  projection_step~ line (a, _) (b, _) (v, _) (e ∷ᵗ~ []ᵗ~ ▸~ end~) ps qs (w, ws) rest = then~ R (lower_expr~ e) λ rs. then~ R (rest ws) λ ss. ret_of~ R (λ t. item t rs ++ ss) _ _ (name~ a b v w e)

  lower_projections~ : {n m : ℕ} {ps : Trees projection n} {qs : Trees projection m} → NamedItems ps → Trees~ R projection n m ps qs → Does~ R (lower_projections ps) (lower_projections qs)
  lower_projections~ w []ᵗ~ = unfold lower_projections in ret~ R []
  lower_projections~ w (node~ v kids ∷ᵗ~ ps) = projection_step~ _ _ _ v kids _ _ w (λ ws. lower_projections~ ws ps)

  -- what a step adds to a split is the same function
  lower_key~ : {e d : Tree expr} → Tree~ R expr e d → Does~ R (lower_key e) (lower_key d)
  unfolding lower_key
  lower_key~ e = then~ R (lower_expr~ e) λ rs. ret~ R _

  lower_call_item~ : (agg : Bool) {e d : Tree expr} → Tree~ R expr e d → (func : Bytes) (distinct : Bool) {n : ℕ} {xs ys : Trees expr n} → Trees~ R expr n n xs ys → Does~ R (lower_call_item agg e func distinct xs) (lower_call_item agg d func distinct ys)
  unfolding lower_call_item
  lower_call_item~ false e func distinct args = lower_key~ e
  lower_call_item~ true e func distinct args = then~ R (lower_exprs~ args) λ rs. ret~ R _

  item_step~ : (line : ℕ) (k : Expr) (f g : Fields (expr_forms k)) → Fields~ R (expr_forms k) f g → {x : Forest (expr_children k f)} {y : Forest (expr_children k g)} → Forest~ R (expr_children k f) (expr_children k g) x y → Does~ R (lower_item (node expr line k f x)) (lower_item (node expr line k g y))
  unfolding lower_item
  item_step~ line (Expr.Over h) f g v kids = lower_key~ (node~ v kids)
  item_step~ line Expr.Var f g v kids = lower_key~ (node~ v kids)
  item_step~ line Expr.Map f g v kids = lower_key~ (node~ v kids)
  item_step~ line Expr.Call (func, (n, (distinct, _))) (_, (_, (_, _))) (equal, (equal, (equal, v))) (args ▸~ end~) = lower_call_item~ (is_aggregate_func func) (node~ (equal, (equal, (equal, v))) (args ▸~ end~)) func distinct args
  item_step~ line Expr.PatternPredicate f g v kids = lower_key~ (node~ v kids)
  item_step~ line Expr.ListPredicate f g v kids = lower_key~ (node~ v kids)
  item_step~ line Expr.Unresolved f g v kids = lower_key~ (node~ v kids)
  item_step~ line Expr.Undesugared f g v kids = lower_key~ (node~ v kids)

  lower_item~ : {e d : Tree expr} → Tree~ R expr e d → Does~ R (lower_item e) (lower_item d)
  lower_item~ (node~ v kids) = item_step~ _ _ _ _ v kids

  split_step~ : (line : ℕ) (f g : Fields (forms projection tt)) {x y : Forest ((expr, 1) ∷ [])} → Forest~ R ((expr, 1) ∷ []) ((expr, 1) ∷ []) x y → {n m : ℕ} (ps : Trees projection n) (qs : Trees projection m) →
      Does~ R (split_projections_agg ps) (split_projections_agg qs) → Does~ R (split_projections_agg (node projection line tt f x ∷ᵗ ps)) (split_projections_agg (node projection line tt g y ∷ᵗ qs))
  unfolding split_projections_agg
  split_step~ line f g (e ∷ᵗ~ []ᵗ~ ▸~ end~) ps qs rest = then~ R (lower_item~ e) λ add. then~ R rest λ ss. ret~ R _

  split_projections_agg~ : {n m : ℕ} {ps : Trees projection n} {qs : Trees projection m} → Trees~ R projection n m ps qs → Does~ R (split_projections_agg ps) (split_projections_agg qs)
  split_projections_agg~ []ᵗ~ = unfold split_projections_agg in ret~ R _
  split_projections_agg~ (node~ v kids ∷ᵗ~ ps) = split_step~ _ _ _ kids _ _ (split_projections_agg~ ps)

  -- ── order, skip, limit ──

  key_step~ : (line : ℕ) (f g : Fields (forms order_item tt)) → Fields~ R (forms order_item tt) f g → {x y : Forest ((expr, 1) ∷ [])} → Forest~ R ((expr, 1) ∷ []) ((expr, 1) ∷ []) x y → {n m : ℕ} (ks : Trees order_item n) (ls : Trees order_item m) →
      Does~ R (lower_keys ks) (lower_keys ls) → Does~ R (lower_keys (node order_item line tt f x ∷ᵗ ks)) (lower_keys (node order_item line tt g y ∷ᵗ ls))
  unfolding lower_keys
  key_step~ line (a, _) (b, _) (v, _) (e ∷ᵗ~ []ᵗ~ ▸~ end~) ks ls rest = then~ R (lower_expr~ e) λ rs. then~ R rest λ ss. ret_of~ R (λ d. rec (in_plan order_key) tt (d, tt) ∷ (rs ++ ss)) a b v

  lower_keys~ : {n m : ℕ} {ks : Trees order_item n} {ls : Trees order_item m} → Trees~ R order_item n m ks ls → Does~ R (lower_keys ks) (lower_keys ls)
  lower_keys~ []ᵗ~ = unfold lower_keys in ret~ R []
  lower_keys~ (node~ v kids ∷ᵗ~ ks) = key_step~ _ _ _ v kids _ _ (lower_keys~ ks)

  order_by~ : {n : ℕ} (input : ℕ) {ks ls : Trees order_item n} → Trees~ R order_item n n ks ls → Does~ R (order_by input ks) (order_by input ls)
  unfolding order_by
  order_by~ input []ᵗ~ = ret~ R input
  order_by~ input (k ∷ᵗ~ ks) = then~ R (lower_keys~ (k ∷ᵗ~ ks)) λ rs. push~ R _

  over_expr~ : {n m : ℕ} (r : Rec) (input : ℕ) {es : Trees expr n} {ds : Trees expr m} → Trees~ R expr n m es ds → Does~ R (over_expr r input es) (over_expr r input ds)
  unfolding over_expr
  over_expr~ r input []ᵗ~ = ret~ R input
  over_expr~ r input (e ∷ᵗ~ es) = then~ R (lower_expr~ e) λ rs. push~ R (r ∷ rs)

  lower_trailers~ : {n skip limit skip' limit' : ℕ} (input : ℕ) {ks ls : Trees order_item n} {ss : Trees expr skip} {us : Trees expr skip'} {ts : Trees expr limit} {vs : Trees expr limit'} → Trees~ R order_item n n ks ls → Trees~ R expr skip skip' ss us → Trees~ R expr limit limit' ts vs → Does~ R (lower_trailers input ks ss ts) (lower_trailers input ls us vs)
  unfolding lower_trailers
  lower_trailers~ input ks ss ts = then~ R (order_by~ input ks) λ a. then~ R (over_expr~ _ a ss) λ b. over_expr~ _ b ts

  -- ── clauses ──

  yield_step~ : (line : ℕ) (f g : Fields (forms yield_item tt)) → Fields~ R (forms yield_item tt) f g → {x y : Forest []} → Forest~ R [] [] x y → {n m : ℕ} (ys : Trees yield_item n) (zs : Trees yield_item m) →
      Does~ R (lower_yields ys) (lower_yields zs) → Does~ R (lower_yields (node yield_item line tt f x ∷ᵗ ys)) (lower_yields (node yield_item line tt g y ∷ᵗ zs))
  unfolding lower_yields
  yield_step~ line (c, (a, _)) (d, (b, _)) (u, (v, _)) end~ ys zs rest = then~ R (map_var~ R one_to_one a b v) λ n. then~ R rest λ rs. ret_of~ R (λ t. rec yield_item tt (t, (n, tt)) ∷ rs) c d u

  lower_yields~ : {n m : ℕ} {ys : Trees yield_item n} {zs : Trees yield_item m} → Trees~ R yield_item n m ys zs → Does~ R (lower_yields ys) (lower_yields zs)
  lower_yields~ []ᵗ~ = unfold lower_yields in ret~ R []
  lower_yields~ (node~ v kids ∷ᵗ~ ys) = yield_step~ _ _ _ v kids _ _ (lower_yields~ ys)

  distinct_if~ : (distinct : Bool) (input : ℕ) → Does~ R (distinct_if distinct input) (distinct_if distinct input)
  unfolding distinct_if
  distinct_if~ false input = ret~ R input
  distinct_if~ true input = push~ R _

  aggregate_if~ : (n input : ℕ) (s : Split) → Does~ R (aggregate_if n input s) (aggregate_if n input s)
  unfolding aggregate_if
  aggregate_if~ zero input s = ret~ R input
  aggregate_if~ (suc n) input s = push~ R _

  clause_step~ : (line : ℕ) (k : Clause) (f g : Fields (clause_forms k)) → Fields~ R (clause_forms k) f g → (current : Option ℕ) {x : Forest (clause_children k f)} {y : Forest (clause_children k g)} → NamedClause (node clause line k f x) → Forest~ R (clause_children k f) (clause_children k g) x y → Does~ R (lower_clause (node clause line k f x) current) (lower_clause (node clause line k g y) current)
  unfolding NamedClause lower_clause
  clause_step~ line Clause.Match (optional, (_, _)) (_, (_, _)) (equal, (equal, _)) current w (parts ▸~ end~) = then~ R (lower_match_pattern~ R (lower_pattern~ parts) current optional) λ k. ret~ R _
  clause_step~ line Clause.Where f g v current w (e ∷ᵗ~ []ᵗ~ ▸~ end~) = then~ R (lower_expr~ e) λ predicate. then~ R (or_source_all~ R current) λ input. then~ R (push~ R _) λ k. ret~ R _
  clause_step~ line Clause.With (_, (_, (_, (_, _)))) (_, (_, (_, (_, _)))) (equal, (equal, (equal, v))) current w (items ▸~ predicate ▸~ keys ▸~ skip ▸~ limit ▸~ end~) =
      then~ R (or_source_all~ R current) λ input.
      then~ R (lower_projections~ w items) λ rs.
      then~ R (lower_exprs~ predicate) λ ss.
      then~ R (push~ R _) λ k.
      then~ R (lower_trailers~ k keys skip limit) λ root.
      ret~ R _
  clause_step~ line Clause.Return (_, (distinct, (_, (_, _)))) (_, (_, (_, (_, _)))) (equal, (equal, (equal, v))) current w (items ▸~ keys ▸~ skip ▸~ limit ▸~ end~) =
      then~ R (or_source_all~ R current) λ input.
      then~ R (split_projections_agg~ items) λ first.
      then~ R (aggregate_if~ first.aggs input first) λ a.
      then~ R (lower_projections~ w items) λ rs.
      then~ R (push~ R _) λ b.
      then~ R (distinct_if~ distinct b) λ d.
      then~ R (lower_trailers~ d keys skip limit) λ root.
      ret~ R _
  clause_step~ line Clause.Unwind (a, _) (b, _) (v, _) current w (e ∷ᵗ~ []ᵗ~ ▸~ end~) =
      then~ R (or_source_all~ R current) λ input.
      then~ R (lower_expr~ e) λ rs.
      then~ R (map_var~ R one_to_one a b v) λ bind.
      then~ R (push~ R _) λ k.
      ret~ R _
  clause_step~ line Clause.Call (_, (_, (_, (_, _)))) (_, (_, (_, (_, _)))) (equal, (equal, (equal, (equal, _)))) current w (es ▸~ ys ▸~ end~) =
      then~ R (lower_exprs~ es) λ rs.
      then~ R (lower_yields~ ys) λ ss.
      then~ R (push~ R _) λ k.
      ret~ R _
  clause_step~ line Clause.Write f g v current w end~ = ret~ R current

  lower_clause~ : {c d : Tree clause} → NamedClause c → Tree~ R clause c d → (current : Option ℕ) → Does~ R (lower_clause c current) (lower_clause d current)
  lower_clause~ w (node~ v kids) current = clause_step~ _ _ _ _ v current w kids

  lower_clauses~ : {n m : ℕ} {cs : Trees clause n} {ds : Trees clause m} → NamedClauses cs → Trees~ R clause n m cs ds → (current : Option ℕ) → Does~ R (lower_clauses cs current) (lower_clauses ds current)
  unfolding NamedClauses lower_clauses
  lower_clauses~ w []ᵗ~ current = ret~ R current
  lower_clauses~ w (c ∷ᵗ~ cs) current = then~ R (lower_clause~ w.0 c current) λ left. lower_clauses~ w.1 cs left

  -- ── the statement ──

  push_union~ : (left right : ℕ) (a b : Bool) → Equal a b → Does~ R (push (op ReadOp.Union (left, (right, (a, tt))) ∷ [])) (push (op ReadOp.Union (left, (right, (b, tt))) ∷ []))
  push_union~ left right a b equal = push~ R _

  arm_step~ : (line : ℕ) (f g : Fields (forms union_arm tt)) → Fields~ R (forms union_arm tt) f g → {x : Forest (children union_arm tt f)} {y : Forest (children union_arm tt g)} → Forest~ R (children union_arm tt f) (children union_arm tt g) x y → (root : Option ℕ) {n m : ℕ} (xs : Trees union_arm n) (ys : Trees union_arm m) →
      NamedArms (node union_arm line tt f x ∷ᵗ xs) → (NamedArms xs → (k : ℕ) → Does~ R (lower_arms xs (Some k)) (lower_arms ys (Some k))) → Does~ R (lower_arms (node union_arm line tt f x ∷ᵗ xs) root) (lower_arms (node union_arm line tt g y ∷ᵗ ys) root)
  unfolding NamedArms lower_arms
  arm_step~ line (a, _) (b, _) (v, _) (cs ▸~ end~) root xs ys (w, ws) rest =
      then~ R (lower_clauses~ w cs None) λ below.
      then~ R (or_source_all~ R root) λ left.
      then~ R (or_source_all~ R below) λ right.
      then~ R (push_union~ left right a b v) λ both.
      rest ws both

  lower_arms~ : {n m : ℕ} {xs : Trees union_arm n} {ys : Trees union_arm m} → NamedArms xs → Trees~ R union_arm n m xs ys → (root : Option ℕ) → Does~ R (lower_arms xs root) (lower_arms ys root)
  lower_arms~ w []ᵗ~ root = unfold lower_arms in ret~ R root
  lower_arms~ w (node~ v kids ∷ᵗ~ arms) root = arm_step~ _ _ _ v kids root _ _ w (λ ws k. lower_arms~ ws arms (Some k))

  statement_step~ : (line : ℕ) (f g : Fields (forms statement tt)) {x : Forest (children statement tt f)} {y : Forest (children statement tt g)} → Forest~ R (children statement tt f) (children statement tt g) x y → Named (node statement line tt f x) → Does~ R (lower (node statement line tt f x)) (lower (node statement line tt g y))
  unfolding Named lower
  statement_step~ line (_, (_, _)) (_, (_, _)) (cs ▸~ arms ▸~ end~) (w, ws) = then~ R (lower_clauses~ w cs None) λ head. lower_arms~ ws arms head

  pub lower~ : {t u : Tree statement} → Named t → Tree~ R statement t u → Does~ R (lower t) (lower u)
  lower~ w (node~ v kids) = statement_step~ _ _ _ kids w

  pub state~ : {A : Type 0} {W : A → A → Type 0} (x y : A × LowerCtx) → Ran~ R W x y → Ctx~ R x.1 y.1
  state~ x y (ran~ w e) = e

  pub lower_statement~ : {t u : Tree statement} → Named t → Tree~ R statement t u → Ctx~ R (lower_statement t) (lower_statement u)
  unfolding lower_statement empty
  lower_statement~ {t} {u} w p = state~ (lower t empty) (lower u empty) ((lower~ w p).run empty empty (ctx~ []~))
