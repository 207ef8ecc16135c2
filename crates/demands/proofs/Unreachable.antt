-- The places of the lowering that a checked tree never comes to: the Rust's `debug_assert!`, `panic!` and `unreachable!` places, and the defaults that the definitions have where the Rust has them. docs/DEMANDS.md lists the places beside the theorems. Whatever stands there, the lowering of a checked tree is the same. Assumes nothing: these are theorems with their proofs.
use Rattle.std.proofs.Common.{sym}
use Rattle.std.specs.Prelude.{◌≡◌, Bool, Option, None, Some}
use Rattle.std.proofs.Math.Path.{refl, ap, ap₂, fun_ext}
use Rattle.std.proofs.Common.{◌∙◌, arith}
use Prim.Native.Nat.{ℕ, zero, suc, ◌<◌}
use Rattle.std.proofs.Math.Bool.{true, false, cond}
use mathlib.Core.List.{List, [], ◌∷◌}
use Rattle.std.proofs.lemmas.Option.{none-some}
use Rattle.std.proofs.Math.Dec.{eqb}
use Rattle.std.proofs.Math.ListN.{length}
use borrow.Author.Tests.{eqb-false}
use Rattle.model.specs.Text.{Bytes}
use Rattle.model.specs.Field.{Fields, Span}
use Rattle.model.specs.Kind.{Sort, Kind, Clause, PatternElement, Expr, ReadOp, PlanExpr, statement, union_arm, clause, projection, order_item, pattern_part, pattern_element, name, yield_item, entry, expr, in_plan}
use Rattle.model.specs.Record.{Group, forms, expr_forms, children, expr_children}
use Rattle.model.specs.Tree.{Tree, Trees, Forest, node, []ᵗ, ◌∷ᵗ◌, end, ◌▸◌, to_list, fold, fold_of, fold_in}
use Rattle.model.specs.Sheet.{is_write, write_in, write_in_arms, first_write}
use Rattle.model.specs.Check.{fine, span_in, of_part, of_record, check, check_of, check_in}
use Rattle.model.specs.Lower.{Recs, LowerCtx, ◌>>=◌, ret, push, at, copy, endpoint_var, op, plan_expr_rec}
use Rattle.model.specs.Lower.{NodeStep, RelStep, Step, of_node, of_rel, Chain, start_node, expand_to, reach, lower_element, lower_elements, or_source_all, root_of, bind_path, lower_chain, Shape}
use Rattle.model.specs.Lower.{node_rel_node, other, shape_of, lower_shaped, lower_pattern_part, lower_parts, optional_join, lower_match_pattern, Lowered, expr_step, element_step, made, lower_pattern, lower_clause, lower_clauses, lower_arms, lower, lower_statement}
use Rattle.demands.specs.Sheets.{WellFormed, ReadOnly}
use Rattle.demands.specs.Within.{Within, Checked, checked_within, both_fine, TakenExpr, NodeFirst, own_expr, own_elements}
use Rattle.model.specs.Call.{record_count, max_depth}
use Rattle.laws.specs.SheetLaws.{sheet_sound}
use Rattle.bounds.proofs.Counts.{numbers_few, operators_few}
use Rattle.bounds.proofs.Ended.{or_else_none}
use Rattle.bounds.specs.Ends.{Ending}
use Rattle.bounds.specs.Root.{Newest, newest, parts_ends}
use Rattle.demands.specs.Unreachable.{Defaults, at_or, copy_or, reach_or, lower_element_or, lower_elements_or, root_or, lower_chain_or, lower_shaped_or, lower_pattern_part_or, optional_join_or, expr_step_or, made_or, lower_clause_or, lower_clauses_or, lower_arms_or, lower_or, Counts}

-- ── the lowering with anything else at those places ──

newest_in : {e : Ending} {n : ℕ} {ops : List Recs} → Newest e n ops → n < length ops
newest_in newest = omega arith

-- the root that a match leaves is an operator
pub root_in : {n : ℕ} (ps : Trees pattern_part n) (c : LowerCtx) → (lower_parts (lower_pattern ps) c).0 < length (lower_parts (lower_pattern ps) c).1.ops
root_in ps c = newest_in ((parts_ends ps).run c tt)

pattern_list : {n : ℕ} (ps : Trees pattern_part n) → to_list n (fold_of Lowered made ps) ≡ lower_pattern ps
unfolding to_list fold lower_pattern
pattern_list []ᵗ = refl
pattern_list (p ∷ᵗ ps) = ap (λ l. fold Lowered made p ∷ l) (pattern_list ps)

module _ (d : Defaults) where
  -- ── copies ──

  pub at_or_law : (ops : List Recs) (k : ℕ) → k < length ops → at_or d ops k ≡ at ops k
  unfolding at_or at
  at_or_law [] k lt = absurd (omega arith)
  at_or_law (o ∷ ops) k lt = go (eqb k (length ops)) refl (λ less. at_or_law ops k less)
    where
      go : (b : Bool) → eqb k (length ops) ≡ b → (k < length ops → at_or d ops k ≡ at ops k) → cond b o (at_or d ops k) ≡ cond b o (at ops k)
      go true e older = refl
      go false e older = older (omega (arith, eqb-false k (length ops) e))

  exists_or : {n : ℕ} (ps : Trees pattern_part n) → (lower_match_pattern (lower_pattern ps) None false >>= λ k. copy_or d k >>= λ inner. ret (plan_expr_rec PlanExpr.Exists tt ∷ inner)) ≡ (lower_match_pattern (lower_pattern ps) None false >>= λ k. copy k >>= λ inner. ret (plan_expr_rec PlanExpr.Exists tt ∷ inner))
  unfolding lower_match_pattern optional_join ◌>>=◌ ret copy_or copy
  exists_or ps = fun_ext λ c. ap (λ inner. (plan_expr_rec PlanExpr.Exists tt ∷ inner, (lower_parts (lower_pattern ps) c).1)) (at_or_law _ _ (root_in ps c))

  -- ── chains ──

  data Led : Option (ℕ × ℕ) → Type 0 where
    led : {l : ℕ × ℕ} → Led (Some l)

  start_led : (c : Chain) (n : NodeStep) (bind : ℕ) (x : LowerCtx) → Led (start_node c n bind x).0.last
  unfolding start_node ◌>>=◌ ret
  start_led c n bind x = led

  reach_or_law : (c : Chain) (n : NodeStep) (bind : ℕ) (p : Option RelStep) {l : Option (ℕ × ℕ)} → Led l → reach_or d c n bind p l ≡ reach c n bind p l
  unfolding reach_or reach
  reach_or_law c n bind None led = refl
  reach_or_law c n bind (Some r) led = refl

  reach_led : (c : Chain) (n : NodeStep) (bind : ℕ) (p : Option RelStep) {l : Option (ℕ × ℕ)} → Led l → (x : LowerCtx) → Led (reach c n bind p l x).0.last
  unfolding reach expand_to ◌>>=◌ ret
  reach_led c n bind None led x = start_led c n bind x
  reach_led c n bind (Some r) led x = led

  element_or : (c : Chain) (s : Step) → Led c.last → lower_element_or d c s ≡ lower_element c s
  unfolding lower_element_or lower_element ◌>>=◌
  element_or c (of_rel r) h = refl
  element_or c (of_node n) h = fun_ext λ x. ap (λ m. m (endpoint_var n.bind x).1) (reach_or_law c n (endpoint_var n.bind x).0 c.pending h)

  element_led : (c : Chain) (s : Step) → Led c.last → (x : LowerCtx) → Led (lower_element c s x).0.last
  unfolding lower_element ◌>>=◌ ret
  element_led c (of_rel r) h x = h
  element_led c (of_node n) h x = reach_led c n _ c.pending h _

  elements_or : (c : Chain) (ss : List Step) → Led c.last → lower_elements_or d c ss ≡ lower_elements c ss
  unfolding lower_elements_or lower_elements ◌>>=◌
  elements_or c [] h = refl
  elements_or c (s ∷ ss) h =
      ap (λ m. m >>= λ e. lower_elements_or d e ss) (element_or c s h)
      ∙ fun_ext λ x. ap (λ m. m (lower_element c s x).1) (elements_or (lower_element c s x).0 ss (element_led c s h x))

  elements_led : (c : Chain) (ss : List Step) → Led c.last → (x : LowerCtx) → Led (lower_elements c ss x).0.last
  unfolding lower_elements ◌>>=◌ ret
  elements_led c [] h x = h
  elements_led c (s ∷ ss) h x = elements_led (lower_element c s x).0 ss (element_led c s h x) _

  root_or_law : {l : Option (ℕ × ℕ)} → Led l → root_or d l ≡ or_source_all (root_of l)
  unfolding root_or or_source_all root_of
  root_or_law led = refl

  abbrev start : Chain
  start = record { last = None; pending = None; path = [] }

  first_led : (n : NodeStep) (x : LowerCtx) → Led (lower_element start (of_node n) x).0.last
  unfolding lower_element reach ◌>>=◌
  first_led n x = start_led start n _ _

  -- a chain that begins with a node
  from_node : (n : NodeStep) (ss : List Step) → lower_elements_or d start (of_node n ∷ ss) ≡ lower_elements start (of_node n ∷ ss)
  unfolding lower_elements_or lower_elements lower_element_or lower_element reach_or reach ◌>>=◌
  from_node n ss = fun_ext λ x. ap (λ m. m (lower_element start (of_node n) x).1) (elements_or (lower_element start (of_node n) x).0 ss (first_led n x))

  from_node_led : (n : NodeStep) (ss : List Step) (x : LowerCtx) → Led (lower_elements start (of_node n ∷ ss) x).0.last
  unfolding lower_elements ◌>>=◌
  from_node_led n ss x = elements_led (lower_element start (of_node n) x).0 ss (first_led n x) _

  chain_or : (named_as : Option ℕ) (n : NodeStep) (ss : List Step) → lower_chain_or d named_as (of_node n ∷ ss) ≡ lower_chain named_as (of_node n ∷ ss)
  unfolding lower_chain_or lower_chain ◌>>=◌
  chain_or named_as n ss =
      ap (λ m. m >>= λ c. root_or d c.last >>= λ root. bind_path named_as root c.path) (from_node n ss)
      ∙ fun_ext λ x.
      let r : Chain × LowerCtx = lower_elements start (of_node n ∷ ss) x in
      ap (λ m. (m >>= λ root. bind_path named_as root r.0.path) r.1) (root_or_law (from_node_led n ss x))

  shaped_or : (named_as : Option ℕ) (all : Bool) (n : NodeStep) (ss : List Step) (shape : Shape) → lower_shaped_or d named_as all (of_node n ∷ ss) shape ≡ lower_shaped named_as all (of_node n ∷ ss) shape
  unfolding lower_shaped_or lower_shaped
  shaped_or named_as all n ss (node_rel_node a r b) = refl
  shaped_or named_as all n ss other = chain_or named_as n ss

  part_or : (named_as : Option ℕ) (shortest : ℕ) (n : NodeStep) (ss : List Step) → lower_pattern_part_or d named_as shortest (of_node n ∷ ss) ≡ lower_pattern_part named_as shortest (of_node n ∷ ss)
  unfolding lower_pattern_part_or lower_pattern_part
  part_or named_as zero n ss = chain_or named_as n ss
  part_or named_as (suc m) n ss = shaped_or named_as (eqb m 1) n ss (shape_of (of_node n ∷ ss))

  -- ── a record that the check lets pass ──

  elements_step : {n : ℕ} (named_as : Option ℕ) (shortest : ℕ) (es : Trees pattern_element n) → NodeFirst es → lower_pattern_part_or d named_as shortest (to_list n (fold_of Lowered made es)) ≡ lower_pattern_part named_as shortest (to_list n (fold_of Lowered made es))
  unfolding NodeFirst to_list fold made element_step
  elements_step named_as shortest []ᵗ h = absurd h
  elements_step named_as shortest (node pattern_element line PatternElement.Node (_, (j, (p, _))) (labels ▸ props ▸ end) ∷ᵗ es) h = part_or named_as shortest _ _
  elements_step named_as shortest (node pattern_element line PatternElement.Rel f kids ∷ᵗ es) h = absurd h

  part_step : (line : ℕ) (f : Fields (forms pattern_part tt)) (kids : Forest (children pattern_part tt f)) (around : Span) → of_record pattern_part line tt f kids around ≡ fine → made_or d pattern_part line tt f (fold_in Lowered made kids) ≡ made pattern_part line tt f (fold_in Lowered made kids)
  unfolding of_record of_part made_or made fold
  part_step line (named_as, (shortest, (n, _))) (es ▸ end) around e = elements_step named_as shortest es (own_elements line es around e)

  expr_step_law : (line : ℕ) (k : Expr) (f : Fields (expr_forms k)) (kids : Forest (expr_children k f)) → TakenExpr k → expr_step_or d k f (fold_in Lowered made kids) ≡ expr_step k f (fold_in Lowered made kids)
  unfolding TakenExpr expr_step_or expr_step fold
  expr_step_law line (Expr.Over h) f kids taken = refl
  expr_step_law line Expr.Var f kids taken = refl
  expr_step_law line Expr.Map f kids taken = refl
  expr_step_law line Expr.Call f kids taken = refl
  expr_step_law line Expr.PatternPredicate (n, _) (ps ▸ end) taken = rw (pattern_list ps) (exists_or ps)
  expr_step_law line Expr.ListPredicate f kids taken = refl
  expr_step_law line Expr.Unresolved f kids taken = absurd taken
  expr_step_law line Expr.Undesugared f kids taken = absurd taken

  step : (s : Sort) (line : ℕ) (k : Kind s) (f : Fields (forms s k)) (kids : Forest (children s k f)) (around : Span) → of_record s line k f kids around ≡ fine → made_or d s line k f (fold_in Lowered made kids) ≡ made s line k f (fold_in Lowered made kids)
  unfolding made_or made of_record
  step statement line k f kids around e = refl
  step union_arm line k f kids around e = refl
  step clause line k f kids around e = refl
  step projection line k f kids around e = refl
  step order_item line k f kids around e = refl
  step pattern_part line k f kids around e = part_step line f kids around e
  step pattern_element line k f kids around e = refl
  step name line k f kids around e = refl
  step yield_item line k f kids around e = refl
  step entry line k f kids around e = refl
  step expr line k f kids around e = expr_step_law line k f kids (own_expr line k f around e)
  step (in_plan p) line k f kids around e = refl

  mutual
    unfolding fold check

    fold_or : {s : Sort} (t : Tree s) (around : Span) → check t around ≡ fine → fold Lowered (made_or d) t ≡ fold Lowered made t
    fold_or (node s line k f kids) around e =
        let p = both_fine (of_record s line k f kids around) (check_in kids (span_in s k f around)) e in
        ap (λ r. made_or d s line k f r) (fold_in_or kids (span_in s k f around) p.1) ∙ step s line k f kids around p.0

    fold_of_or : {s : Sort} {n : ℕ} (ts : Trees s n) (around : Span) → check_of ts around ≡ fine → fold_of Lowered (made_or d) ts ≡ fold_of Lowered made ts
    fold_of_or []ᵗ around e = refl
    fold_of_or (t ∷ᵗ ts) around e =
        let p = both_fine (check t around) (check_of ts around) e in
        ap₂ (λ a b. (a, b)) (fold_or t around p.0) (fold_of_or ts around p.1)

    fold_in_or : {gs : List Group} (x : Forest gs) (around : Span) → check_in x around ≡ fine → fold_in Lowered (made_or d) x ≡ fold_in Lowered made x
    fold_in_or end around e = refl
    fold_in_or (ts ▸ x) around e =
        let p = both_fine (check_of ts around) (check_in x around) e in
        ap₂ (λ a b. (a, b)) (fold_of_or ts around p.0) (fold_in_or x around p.1)

-- ── whatever stands there ──

-- Of a checked tree: every expression and every part in it is lowered the same, whatever stands at these places.
pub any_default : {t : Tree statement} → Checked t → {s : Sort} (x : Tree s) → Within x statement t → (d : Defaults) → fold Lowered (made_or d) x ≡ fold Lowered made x
any_default e x w d = let p = checked_within e w in fold_or d x p.around p.passes

-- ── clauses: what a `write` leaves, and the copy in an optional match ──

module _ (d : Defaults) where
  -- an optional match copies an operator that there is, whatever its parts are
  match_or : {n : ℕ} (parts : Trees pattern_part n) (current : Option ℕ) (optional : Bool) → (lower_parts (lower_pattern parts) >>= λ root. optional_join_or d optional current root >>= λ k. ret (Some k)) ≡ (lower_match_pattern (lower_pattern parts) current optional >>= λ k. ret (Some k))
  unfolding lower_match_pattern optional_join_or optional_join ◌>>=◌ copy_or copy
  match_or parts current false = refl
  match_or parts None true = refl
  match_or parts (Some outer) true = fun_ext λ c. ap (λ inner. (push (op ReadOp.OptionalJoin (outer, tt) ∷ inner) >>= λ k. ret (Some k)) (lower_parts (lower_pattern parts) c).1) (at_or_law d _ _ (root_in parts c))

  clause_or : (c : Tree clause) → is_write c ≡ None → (current : Option ℕ) → lower_clause_or d c current ≡ lower_clause c current
  unfolding lower_clause_or lower_clause is_write
  clause_or (node clause line Clause.Match (optional, _) (parts ▸ end)) r current = match_or parts current optional
  clause_or (node clause line Clause.Where f kids) r current = refl
  clause_or (node clause line Clause.With f kids) r current = refl
  clause_or (node clause line Clause.Return f kids) r current = refl
  clause_or (node clause line Clause.Unwind f kids) r current = refl
  clause_or (node clause line Clause.Call f kids) r current = refl
  clause_or (node clause line Clause.Write f kids) r current = absurd (none-some line (sym r))

  clauses_or : {n : ℕ} (cs : Trees clause n) → write_in cs ≡ None → (current : Option ℕ) → lower_clauses_or d cs current ≡ lower_clauses cs current
  unfolding lower_clauses_or lower_clauses write_in
  clauses_or []ᵗ r current = refl
  clauses_or (c ∷ᵗ cs) r current =
      let p = or_else_none (is_write c) (write_in cs) r in
      ap₂ (λ m k. m >>= k) (clause_or c p.0 current) (fun_ext λ left. clauses_or cs p.1 left)

  arms_or : {n : ℕ} (arms : Trees union_arm n) → write_in_arms arms ≡ None → (root : Option ℕ) → lower_arms_or d arms root ≡ lower_arms arms root
  unfolding lower_arms_or lower_arms write_in_arms
  arms_or []ᵗ r root = refl
  arms_or (node union_arm line k (all, _) (cs ▸ end) ∷ᵗ arms) r root =
      let p = or_else_none (write_in cs) (write_in_arms arms) r in
      ap₂ (λ m h. m >>= λ below. or_source_all root >>= λ left. or_source_all below >>= λ right. push (op ReadOp.Union (left, (right, (all, tt))) ∷ []) >>= λ both. h (Some both)) (clauses_or cs p.0 None) (fun_ext λ o. arms_or arms p.1 o)

-- Of a read-only tree: the statement is lowered the same, whatever a `write` leaves, and whatever stands for an operator that there is not.
pub any_write : (t : Tree statement) → ReadOnly t → (d : Defaults) → lower_or d t ≡ lower t
unfolding lower_or lower first_write
any_write (node statement line k f (cs ▸ arms ▸ end)) r d =
    let p = or_else_none (write_in cs) (write_in_arms arms) r in
    ap₂ (λ m h. m >>= λ head. h head) (clauses_or d cs p.0 None) (fun_ext λ o. arms_or d arms p.1 o)

-- ── the Rust's counters of 32 bits do not overflow ──

pub counts_small : (sheet : Bytes) (t : Tree statement) → WellFormed sheet t → Counts (lower_statement t)
unfolding record_count
counts_small sheet t h =
    let few = (sheet_sound max_depth sheet t h.behind h.reads).0.few in
    record { numbers = omega (arith, numbers_few t, few); operators = omega (arith, operators_few t, few) }
