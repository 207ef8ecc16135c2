-- What can be due in a sheet (sorts) and the records that are due there (kinds), with the names of cyrs-hir and cyrs-plan. Assumes nothing: these are definitions.

-- what only the plan sheet has
pub data PlanSort : Type 0 where
  plan read_op rel_spec node_spec plan_projection agg_expr order_key path_element mapped plan_entry plan_expr : PlanSort

pub data Sort : Type 0 where
  statement union_arm clause projection order_item pattern_part pattern_element name yield_item : Sort
  -- a map's key, its expression behind it
  entry : Sort
  expr : Sort
  in_plan : PlanSort → Sort

pub data Clause : Type 0 where
  Match Where With Return Unwind Call Write : Clause

pub data PatternElement : Type 0 where
  Node Rel : PatternElement

-- the expressions that are the same record in both sheets, over their children in order
pub data Same : Type 0 where
  Null Bool Int Float String Param Prop Index Slice List BinOp UnaryOp Case IsNull InList : Same

pub data Expr : Type 0 where
  Over : Same → Expr
  Var Map Call PatternPredicate ListPredicate Unresolved Undesugared : Expr

pub data ReadOp : Type 0 where
  Source Expand Filter Project Aggregate OrderBy Skip Limit Distinct Unwind Union With : ReadOp
  OptionalJoin ShortestPath BindPath ProcedureCall : ReadOp

pub data PlanExpr : Type 0 where
  Over : Same → PlanExpr
  Var Map Call Exists ListPredicate : PlanExpr

-- a sort of one kind has nothing to tell apart
abbrev pub PlanKind : PlanSort → Type 0
PlanKind plan = Unit {0}
PlanKind read_op = ReadOp
PlanKind rel_spec = Unit {0}
PlanKind node_spec = Unit {0}
PlanKind plan_projection = Unit {0}
PlanKind agg_expr = Unit {0}
PlanKind order_key = Unit {0}
PlanKind path_element = Unit {0}
PlanKind mapped = Unit {0}
PlanKind plan_entry = Unit {0}
PlanKind plan_expr = PlanExpr

abbrev pub Kind : Sort → Type 0
Kind statement = Unit {0}
Kind union_arm = Unit {0}
Kind clause = Clause
Kind projection = Unit {0}
Kind order_item = Unit {0}
Kind pattern_part = Unit {0}
Kind pattern_element = PatternElement
Kind name = Unit {0}
Kind yield_item = Unit {0}
Kind entry = Unit {0}
Kind expr = Expr
Kind (in_plan p) = PlanKind p
