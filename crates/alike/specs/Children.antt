-- The children that are due behind a record depend on no span and no id. Assumes nothing but the parameter R, which joins the ids.
use Rattle.std.specs.Prelude.{ℕ, List, [], ◌∷◌}
use Rattle.model.specs.Field.{Fields}
use Rattle.model.specs.Kind.{Sort, PlanSort, Kind, PlanKind, Clause, PatternElement, Same, Expr, ReadOp, PlanExpr}
use Rattle.model.specs.Kind.{statement, union_arm, clause, projection, order_item, pattern_part, pattern_element, name, yield_item, entry, expr, in_plan}
use Rattle.model.specs.Kind.{plan, read_op, rel_spec, node_spec, plan_projection, agg_expr, order_key, path_element, mapped, plan_entry, plan_expr}
use Rattle.model.specs.Record.{Group, forms, same_forms, expr_forms, clause_forms, element_forms, op_forms, plan_expr_forms, plan_forms, arity, children, expr_children, clause_children, element_children, op_children, plan_expr_children, plan_children}
use Rattle.alike.specs.Relation.{Equal, equal, Fields~}
use Rattle.alike.specs.Folding.{same_fields~}

arity~ : (s : Sort) (h : Same) (f g : Fields (same_forms h)) → Equal f g → Equal {A = List Group} ((s, arity h f) ∷ []) ((s, arity h g) ∷ [])
arity~ s h f g equal = equal

module _ (R : ℕ → ℕ → Type 0) where
  expr_children~ : (k : Expr) (f g : Fields (expr_forms k)) → Fields~ R (expr_forms k) f g → Equal (expr_children k f) (expr_children k g)
  expr_children~ (Expr.Over h) f g v = arity~ expr h f g (same_fields~ R h f g v)
  expr_children~ Expr.Var f g v = equal
  expr_children~ Expr.Map (_, _) (_, _) (equal, _) = equal
  expr_children~ Expr.Call (_, (_, _)) (_, (_, _)) (_, (equal, _)) = equal
  expr_children~ Expr.PatternPredicate (_, _) (_, _) (equal, _) = equal
  expr_children~ Expr.ListPredicate (_, (_, (_, _))) (_, (_, (_, _))) (_, (_, (equal, _))) = equal
  expr_children~ Expr.Unresolved f g v = equal
  expr_children~ Expr.Undesugared f g v = equal

  clause_children~ : (k : Clause) (f g : Fields (clause_forms k)) → Fields~ R (clause_forms k) f g → Equal (clause_children k f) (clause_children k g)
  clause_children~ Clause.Match (_, (_, _)) (_, (_, _)) (_, (equal, _)) = equal
  clause_children~ Clause.Where f g v = equal
  clause_children~ Clause.With (_, (_, (_, (_, (_, _))))) (_, (_, (_, (_, (_, _))))) (equal, (equal, (equal, (equal, (equal, _))))) = equal
  clause_children~ Clause.Return (_, (_, (_, (_, (_, _))))) (_, (_, (_, (_, (_, _))))) (equal, (_, (equal, (equal, (equal, _))))) = equal
  clause_children~ Clause.Unwind f g v = equal
  clause_children~ Clause.Call (_, (_, (_, _))) (_, (_, (_, _))) (_, (equal, (equal, _))) = equal
  clause_children~ Clause.Write f g v = equal

  element_children~ : (k : PatternElement) (f g : Fields (element_forms k)) → Fields~ R (element_forms k) f g → Equal (element_children k f) (element_children k g)
  element_children~ PatternElement.Node (_, (_, (_, _))) (_, (_, (_, _))) (_, (equal, (equal, _))) = equal
  element_children~ PatternElement.Rel (_, (_, (_, (_, (_, _))))) (_, (_, (_, (_, (_, _))))) (_, (equal, (_, (_, (equal, _))))) = equal

  op_children~ : (k : ReadOp) (f g : Fields (op_forms k)) → Fields~ R (op_forms k) f g → Equal (op_children k f) (op_children k g)
  op_children~ ReadOp.Source (_, (_, _)) (_, (_, _)) (_, (equal, _)) = equal
  op_children~ ReadOp.Expand f g v = equal
  op_children~ ReadOp.Filter f g v = equal
  op_children~ ReadOp.Project (_, (_, _)) (_, (_, _)) (_, (equal, _)) = equal
  op_children~ ReadOp.Aggregate (_, (_, (_, _))) (_, (_, (_, _))) (_, (equal, (equal, _))) = equal
  op_children~ ReadOp.OrderBy (_, (_, _)) (_, (_, _)) (_, (equal, _)) = equal
  op_children~ ReadOp.Skip f g v = equal
  op_children~ ReadOp.Limit f g v = equal
  op_children~ ReadOp.Distinct f g v = equal
  op_children~ ReadOp.Unwind f g v = equal
  op_children~ ReadOp.Union f g v = equal
  op_children~ ReadOp.With (_, (_, (_, _))) (_, (_, (_, _))) (_, (equal, (equal, _))) = equal
  op_children~ ReadOp.OptionalJoin f g v = equal
  op_children~ ReadOp.ShortestPath f g v = equal
  op_children~ ReadOp.BindPath (_, (_, (_, _))) (_, (_, (_, _))) (_, (_, (equal, _))) = equal
  op_children~ ReadOp.ProcedureCall (_, (_, (_, (_, _)))) (_, (_, (_, (_, _)))) (_, (_, (equal, (equal, _)))) = equal

  plan_expr_children~ : (k : PlanExpr) (f g : Fields (plan_expr_forms k)) → Fields~ R (plan_expr_forms k) f g → Equal (plan_expr_children k f) (plan_expr_children k g)
  plan_expr_children~ (PlanExpr.Over h) f g v = arity~ (in_plan plan_expr) h f g (same_fields~ R h f g v)
  plan_expr_children~ PlanExpr.Var f g v = equal
  plan_expr_children~ PlanExpr.Map (_, _) (_, _) (equal, _) = equal
  plan_expr_children~ PlanExpr.Call (_, (_, _)) (_, (_, _)) (_, (equal, _)) = equal
  plan_expr_children~ PlanExpr.Exists f g v = equal
  plan_expr_children~ PlanExpr.ListPredicate (_, (_, (_, _))) (_, (_, (_, _))) (_, (_, (equal, _))) = equal

  plan_children~ : (p : PlanSort) (k : PlanKind p) (f g : Fields (plan_forms p k)) → Fields~ R (plan_forms p k) f g → Equal (plan_children p k f) (plan_children p k g)
  plan_children~ plan k (_, (_, _)) (_, (_, _)) (equal, (equal, _)) = equal
  plan_children~ read_op k f g v = op_children~ k f g v
  plan_children~ rel_spec k (_, (_, (_, (_, _)))) (_, (_, (_, (_, _)))) (equal, (_, (_, (equal, _)))) = equal
  plan_children~ node_spec k (_, (_, _)) (_, (_, _)) (equal, (equal, _)) = equal
  plan_children~ plan_projection k f g v = equal
  plan_children~ agg_expr k (_, (_, _)) (_, (_, _)) (_, (equal, _)) = equal
  plan_children~ order_key k f g v = equal
  plan_children~ path_element k f g v = equal
  plan_children~ mapped k f g v = equal
  plan_children~ plan_entry k f g v = equal
  plan_children~ plan_expr k f g v = plan_expr_children~ k f g v

  pub children~ : (s : Sort) (k : Kind s) (f g : Fields (forms s k)) → Fields~ R (forms s k) f g → Equal (children s k f) (children s k g)
  children~ statement k (_, (_, _)) (_, (_, _)) (equal, (equal, _)) = equal
  children~ union_arm k (_, (_, _)) (_, (_, _)) (_, (equal, _)) = equal
  children~ clause k f g v = clause_children~ k f g v
  children~ projection k f g v = equal
  children~ order_item k f g v = equal
  children~ pattern_part k (_, (_, (_, _))) (_, (_, (_, _))) (_, (_, (equal, _))) = equal
  children~ pattern_element k f g v = element_children~ k f g v
  children~ name k f g v = equal
  children~ yield_item k f g v = equal
  children~ entry k f g v = equal
  children~ expr k f g v = expr_children~ k f g v
  children~ (in_plan p) k f g v = plan_children~ p k f g v
