-- The places of the lowering that a checked tree never comes to: the Rust's `debug_assert!`, `panic!` and `unreachable!` places, and the defaults that the definitions have where the Rust has them. docs/DEMANDS.md lists the places beside the theorems. Whatever stands there, the lowering of a checked tree is the same. Assumes nothing: these are definitions; the theorems are in proofs/Unreachable.
use Rattle.std.specs.Prelude.{Bool, Option, None, Some}
use Prim.Native.Nat.{ℕ, zero, suc, ◌*◌, ◌≤◌}
use Rattle.std.proofs.Math.Bool.{true, false, cond}
use mathlib.Core.List.{List, [], ◌∷◌}
use Rattle.std.proofs.Math.Dec.{eqb}
use Rattle.std.proofs.Math.ListN.{length}
use Rattle.model.specs.Text.{Bytes}
use Rattle.model.specs.Field.{Fields}
use Rattle.model.specs.Kind.{Sort, Kind, Clause, Expr, ReadOp, PlanExpr, statement, union_arm, clause, projection, order_item, pattern_part, pattern_element, name, yield_item, entry, expr, in_plan}
use Rattle.model.specs.Record.{forms, expr_forms, children, expr_children}
use Rattle.model.specs.Tree.{Tree, Trees, node, []ᵗ, ◌∷ᵗ◌, end, ◌▸◌, to_list, Results}
use Rattle.model.specs.Sheet.{max_lines}
use Rattle.model.specs.Lower.{Recs, LowerCtx, Lowering, ◌>>=◌, ret, push, endpoint_var, op, plan_expr_rec}
use Rattle.model.specs.Lower.{NodeStep, RelStep, Step, of_node, of_rel, Chain, start_node, expand_to, lower_element, or_source_all, bind_path, lower_shortest_path_part, Shape}
use Rattle.model.specs.Lower.{node_rel_node, other, shape_of, lower_parts, optional_join, lower_match_pattern, Lowered, expr_step, made, lower_pattern, lower_clause}
use Rattle.model.specs.Call.{record_operators, record_numbers}

-- ── the lowering with anything else at those places ──

-- what may stand there
pub record Defaults : Type 0 where
  -- instead of `null`
  pub unresolved : (name : Bytes) → Lowering Recs
  pub undesugared : (kind : ℕ) → Lowering Recs
  -- at the first node behind a rel that no node precedes
  pub rel_first : Chain → NodeStep → Lowering Chain
  -- at the end of a part that has no node
  pub no_node : Lowering ℕ
  -- for operator k of a list that has no operator k: the index of `self.plan.ops[..]`
  pub no_operator : ℕ → Recs
  -- at a `write` clause, behind the operator before it
  pub write : Option ℕ → Lowering (Option ℕ)

module _ (d : Defaults) where
  unfoldable pub at_or : List Recs → ℕ → Recs
  at_or [] k = d.no_operator k
  at_or (o ∷ ops) k = cond (eqb k (length ops)) o (at_or ops k)

  unfoldable pub copy_or : ℕ → Lowering Recs
  copy_or k = λ c. (at_or c.ops k, c)

  unfoldable pub reach_or : Chain → NodeStep → ℕ → Option RelStep → Option (ℕ × ℕ) → Lowering Chain
  reach_or c n bind None l = start_node c n bind
  reach_or c n bind (Some r) None = d.rel_first c n
  reach_or c n bind (Some r) (Some l) = expand_to c n r l.0 l.1 bind

  unfoldable pub lower_element_or : Chain → Step → Lowering Chain
  lower_element_or c (of_rel r) = lower_element c (of_rel r)
  lower_element_or c (of_node n) = do
    bind ← endpoint_var n.bind
    reach_or c n bind c.pending c.last

  unfoldable pub lower_elements_or : Chain → List Step → Lowering Chain
  lower_elements_or c [] = ret c
  lower_elements_or c (s ∷ ss) = do
    e ← lower_element_or c s
    lower_elements_or e ss

  unfoldable pub root_or : Option (ℕ × ℕ) → Lowering ℕ
  root_or None = d.no_node
  root_or (Some l) = ret l.0

  unfoldable pub lower_chain_or : Option ℕ → List Step → Lowering ℕ
  lower_chain_or named_as steps = do
    c ← lower_elements_or (record { last = None; pending = None; path = [] }) steps
    root ← root_or c.last
    bind_path named_as root c.path

  unfoldable pub lower_shaped_or : Option ℕ → Bool → List Step → Shape → Lowering ℕ
  lower_shaped_or named_as all steps (node_rel_node a r b) = lower_shortest_path_part named_as all a r b
  lower_shaped_or named_as all steps other = lower_chain_or named_as steps

  unfoldable pub lower_pattern_part_or : Option ℕ → ℕ → List Step → Lowering ℕ
  lower_pattern_part_or named_as zero steps = lower_chain_or named_as steps
  lower_pattern_part_or named_as (suc n) steps = lower_shaped_or named_as (eqb n 1) steps (shape_of steps)

  unfoldable pub optional_join_or : Bool → Option ℕ → ℕ → Lowering ℕ
  optional_join_or false current root = optional_join false current root
  optional_join_or true None root = optional_join true None root
  optional_join_or true (Some outer) root = do
    inner ← copy_or root
    push (op ReadOp.OptionalJoin (outer, tt) ∷ inner)

  unfoldable pub expr_step_or : (k : Expr) (f : Fields (expr_forms k)) → Results Lowered (expr_children k f) → Lowering Recs
  expr_step_or (Expr.Over h) f r = expr_step (Expr.Over h) f r
  expr_step_or Expr.Var f r = expr_step Expr.Var f r
  expr_step_or Expr.Map f r = expr_step Expr.Map f r
  expr_step_or Expr.Call f r = expr_step Expr.Call f r
  expr_step_or Expr.PatternPredicate (n, _) (parts, _) = do
    k ← lower_match_pattern (to_list n parts) None false
    inner ← copy_or k
    ret (plan_expr_rec PlanExpr.Exists tt ∷ inner)
  expr_step_or Expr.ListPredicate f r = expr_step Expr.ListPredicate f r
  expr_step_or Expr.Unresolved (n, _) r = d.unresolved n
  expr_step_or Expr.Undesugared (kind, _) r = d.undesugared kind

  -- `made` with these places changed
  unfoldable pub made_or : (s : Sort) (line : ℕ) (k : Kind s) (f : Fields (forms s k)) → Results Lowered (children s k f) → Lowered s
  made_or statement line k f r = made statement line k f r
  made_or union_arm line k f r = made union_arm line k f r
  made_or clause line k f r = made clause line k f r
  made_or projection line k f r = made projection line k f r
  made_or order_item line k f r = made order_item line k f r
  made_or pattern_part line k (named_as, (shortest, (n, _))) (elements, _) = lower_pattern_part_or named_as shortest (to_list n elements)
  made_or pattern_element line k f r = made pattern_element line k f r
  made_or name line k f r = made name line k f r
  made_or yield_item line k f r = made yield_item line k f r
  made_or entry line k f r = made entry line k f r
  made_or expr line k f r = expr_step_or k f r
  made_or (in_plan p) line k f r = made (in_plan p) line k f r

-- ── clauses: what a `write` leaves, and the copy in an optional match ──

module _ (d : Defaults) where
  unfoldable pub lower_clause_or : Tree clause → Option ℕ → Lowering (Option ℕ)
  lower_clause_or (node clause line Clause.Match (optional, _) (parts ▸ end)) current = do
    root ← lower_parts (lower_pattern parts)
    k ← optional_join_or d optional current root
    ret (Some k)
  lower_clause_or (node clause line Clause.Where f kids) current = lower_clause (node clause line Clause.Where f kids) current
  lower_clause_or (node clause line Clause.With f kids) current = lower_clause (node clause line Clause.With f kids) current
  lower_clause_or (node clause line Clause.Return f kids) current = lower_clause (node clause line Clause.Return f kids) current
  lower_clause_or (node clause line Clause.Unwind f kids) current = lower_clause (node clause line Clause.Unwind f kids) current
  lower_clause_or (node clause line Clause.Call f kids) current = lower_clause (node clause line Clause.Call f kids) current
  lower_clause_or (node clause line Clause.Write f kids) current = d.write current

  unfoldable pub lower_clauses_or : {n : ℕ} → Trees clause n → Option ℕ → Lowering (Option ℕ)
  lower_clauses_or []ᵗ current = ret current
  lower_clauses_or (c ∷ᵗ cs) current = do
    left ← lower_clause_or c current
    lower_clauses_or cs left

  unfoldable pub lower_arms_or : {n : ℕ} → Trees union_arm n → Option ℕ → Lowering (Option ℕ)
  lower_arms_or []ᵗ root = ret root
  lower_arms_or (node union_arm line k (all, _) (cs ▸ end) ∷ᵗ arms) root = do
    below ← lower_clauses_or cs None
    left ← or_source_all root
    right ← or_source_all below
    both ← push (op ReadOp.Union (left, (right, (all, tt))) ∷ [])
    lower_arms_or arms (Some both)

  unfoldable pub lower_or : Tree statement → Lowering (Option ℕ)
  lower_or (node statement line k f (cs ▸ arms ▸ end)) = do
    head ← lower_clauses_or cs None
    lower_arms_or arms head

-- ── the Rust's counters of 32 bits do not overflow ──

pub record Counts (c : LowerCtx) : Type 0 where
  pub numbers : c.scope.next_var ≤ record_numbers * max_lines
  pub operators : length c.ops ≤ record_operators * max_lines
