-- The record table of both sheets: of each kind its keyword, its fields and its children. A line is a keyword and fields. Assumes nothing: these are definitions.
use Rattle.std.specs.Prelude.{ℕ, zero, suc, ◌+◌, ◌*◌, Bool, true, false, cond, List, [], ◌∷◌, ◌++◌, map, Option, None, Some}
use Rattle.model.specs.Text.{Bytes, bytes, same, split, join, tab, line_feed}
use Rattle.model.specs.Field.{Form, Val, num, flag, var, var_or_absent, num_or_absent, number, number_or_absent, operator, variable, int, float, text, alias, span, length, u32, Fields, spell_fields, read_fields}
use Rattle.model.specs.Kind.{Sort, PlanSort, Kind, PlanKind, Clause, PatternElement, Same, Expr, ReadOp, PlanExpr}
use Rattle.model.specs.Kind.{statement, union_arm, clause, projection, order_item, pattern_part, pattern_element, name, yield_item, entry, expr, in_plan}
use Rattle.model.specs.Kind.{plan, read_op, rel_spec, node_spec, plan_projection, agg_expr, order_key, path_element, mapped, plan_entry, plan_expr}

-- ── fields ──

abbrev pub count : Form
count = num u32

-- the number of an operator, and of a variable
abbrev pub op_id : Form
op_id = number operator

abbrev pub var_id : Form
var_id = number variable

abbrev pub same_forms : Same → List Form
same_forms Same.Null = []
same_forms Same.Bool = flag ∷ []
same_forms Same.Int = int ∷ []
same_forms Same.Float = float ∷ []
same_forms Same.String = text ∷ []
same_forms Same.Param = text ∷ []
same_forms Same.Prop = text ∷ []
same_forms Same.Index = []
-- start, end
same_forms Same.Slice = flag ∷ flag ∷ []
same_forms Same.List = count ∷ []
same_forms Same.BinOp = num 19 ∷ []
same_forms Same.UnaryOp = num 1 ∷ []
-- scrutinee, arms, else
same_forms Same.Case = flag ∷ count ∷ flag ∷ []
same_forms Same.IsNull = flag ∷ []
same_forms Same.InList = []

abbrev pub expr_forms : Expr → List Form
expr_forms (Expr.Over h) = same_forms h
expr_forms Expr.Var = var ∷ []
expr_forms Expr.Map = count ∷ []
-- name, args, distinct
expr_forms Expr.Call = text ∷ count ∷ flag ∷ []
expr_forms Expr.PatternPredicate = count ∷ []
-- kind, var, pred
expr_forms Expr.ListPredicate = num 3 ∷ var ∷ flag ∷ []
expr_forms Expr.Unresolved = text ∷ []
expr_forms Expr.Undesugared = num 3 ∷ []

abbrev pub clause_forms : Clause → List Form
-- optional, parts
clause_forms Clause.Match = flag ∷ count ∷ span ∷ []
clause_forms Clause.Where = span ∷ []
-- items, filter, keys, skip, limit
clause_forms Clause.With = count ∷ flag ∷ count ∷ flag ∷ flag ∷ span ∷ []
-- items, distinct, keys, skip, limit
clause_forms Clause.Return = count ∷ flag ∷ count ∷ flag ∷ flag ∷ span ∷ []
clause_forms Clause.Unwind = var ∷ span ∷ []
-- name, args, yields, optional
clause_forms Clause.Call = text ∷ count ∷ count ∷ flag ∷ span ∷ []
clause_forms Clause.Write = span ∷ []

abbrev pub element_forms : PatternElement → List Form
-- var, labels, props
element_forms PatternElement.Node = var_or_absent ∷ count ∷ flag ∷ span ∷ []
-- var, types, direction, length, props
element_forms PatternElement.Rel = var_or_absent ∷ count ∷ num 2 ∷ length ∷ flag ∷ span ∷ []

abbrev pub op_forms : ReadOp → List Form
-- bind, labels
op_forms ReadOp.Source = var_id ∷ count ∷ []
-- input, from, rel, to
op_forms ReadOp.Expand = op_id ∷ var_id ∷ var_id ∷ var_id ∷ []
op_forms ReadOp.Filter = op_id ∷ []
op_forms ReadOp.Project = op_id ∷ count ∷ []
-- input, keys, aggs
op_forms ReadOp.Aggregate = op_id ∷ count ∷ count ∷ []
op_forms ReadOp.OrderBy = op_id ∷ count ∷ []
op_forms ReadOp.Skip = op_id ∷ []
op_forms ReadOp.Limit = op_id ∷ []
op_forms ReadOp.Distinct = op_id ∷ []
-- input, var
op_forms ReadOp.Unwind = op_id ∷ var_id ∷ []
-- left, right, all
op_forms ReadOp.Union = op_id ∷ op_id ∷ flag ∷ []
-- input, items, filter
op_forms ReadOp.With = op_id ∷ count ∷ flag ∷ []
op_forms ReadOp.OptionalJoin = op_id ∷ []
-- input, from, to, path, all
op_forms ReadOp.ShortestPath = op_id ∷ var_id ∷ var_id ∷ var_id ∷ flag ∷ []
-- input, var, elements
op_forms ReadOp.BindPath = op_id ∷ var_id ∷ count ∷ []
-- input, name, args, yields, optional
op_forms ReadOp.ProcedureCall = number_or_absent operator ∷ text ∷ count ∷ count ∷ flag ∷ []

abbrev pub plan_expr_forms : PlanExpr → List Form
plan_expr_forms (PlanExpr.Over h) = same_forms h
plan_expr_forms PlanExpr.Var = var_id ∷ []
plan_expr_forms PlanExpr.Map = count ∷ []
-- name, args
plan_expr_forms PlanExpr.Call = text ∷ count ∷ []
plan_expr_forms PlanExpr.Exists = []
plan_expr_forms PlanExpr.ListPredicate = num 3 ∷ var_id ∷ flag ∷ []

abbrev pub plan_forms : (p : PlanSort) → PlanKind p → List Form
-- operators, mapped
plan_forms plan k = count ∷ count ∷ []
plan_forms read_op k = op_forms k
-- types, direction, length, props
plan_forms rel_spec k = count ∷ num 2 ∷ length ∷ flag ∷ []
-- labels, props
plan_forms node_spec k = count ∷ flag ∷ []
plan_forms plan_projection k = text ∷ []
-- name, args, distinct
plan_forms agg_expr k = text ∷ count ∷ flag ∷ []
plan_forms order_key k = flag ∷ []
plan_forms path_element k = var_id ∷ []
-- number, id
plan_forms mapped k = var_id ∷ var ∷ []
plan_forms plan_entry k = text ∷ []
plan_forms plan_expr k = plan_expr_forms k

-- the second field of a part: 0 no shortest path, 1 one, 2 all of them. The table has the number itself, which tools/format.py reads there
abbrev pub all_shortest : ℕ
all_shortest = 2

abbrev pub forms : (s : Sort) → Kind s → List Form
-- clauses, arms
forms statement k = count ∷ count ∷ []
-- all, clauses
forms union_arm k = flag ∷ count ∷ []
forms clause k = clause_forms k
forms projection k = alias ∷ []
-- descending
forms order_item k = flag ∷ []
-- var, shortest, elements
forms pattern_part k = var_or_absent ∷ num 2 ∷ count ∷ []
forms pattern_element k = element_forms k
forms name k = text ∷ []
-- name, var
forms yield_item k = text ∷ var ∷ []
forms entry k = text ∷ []
forms expr k = expr_forms k
forms (in_plan p) k = plan_forms p k

-- ── children: sorts and counts, in sheet order ──

abbrev pub Group : Type 0
Group = Sort × ℕ

abbrev pub one : Bool → ℕ
one false = zero
one true = suc zero

-- how many expressions follow
abbrev pub arity : (h : Same) → Fields (same_forms h) → ℕ
arity Same.Null f = 0
arity Same.Bool f = 0
arity Same.Int f = 0
arity Same.Float f = 0
arity Same.String f = 0
arity Same.Param f = 0
arity Same.Prop f = 1
arity Same.Index f = 2
arity Same.Slice (start, (end, _)) = 1 + one start + one end
arity Same.List (n, _) = n
arity Same.BinOp f = 2
arity Same.UnaryOp f = 1
arity Same.Case (scrutinee, (arms, (otherwise, _))) = one scrutinee + arms * 2 + one otherwise
arity Same.IsNull f = 1
arity Same.InList f = 2

abbrev pub expr_children : (k : Expr) → Fields (expr_forms k) → List Group
expr_children (Expr.Over h) f = (expr, arity h f) ∷ []
expr_children Expr.Var f = []
expr_children Expr.Map (n, _) = (entry, n) ∷ []
expr_children Expr.Call (_, (args, _)) = (expr, args) ∷ []
expr_children Expr.PatternPredicate (parts, _) = (pattern_part, parts) ∷ []
expr_children Expr.ListPredicate (_, (_, (pred, _))) = (expr, suc (one pred)) ∷ []
expr_children Expr.Unresolved f = []
expr_children Expr.Undesugared f = []

abbrev pub clause_children : (k : Clause) → Fields (clause_forms k) → List Group
clause_children Clause.Match (_, (parts, _)) = (pattern_part, parts) ∷ []
clause_children Clause.Where f = (expr, 1) ∷ []
clause_children Clause.With (items, (filter, (keys, (skip, (limit, _))))) = (projection, items) ∷ (expr, one filter) ∷ (order_item, keys) ∷ (expr, one skip) ∷ (expr, one limit) ∷ []
clause_children Clause.Return (items, (_, (keys, (skip, (limit, _))))) = (projection, items) ∷ (order_item, keys) ∷ (expr, one skip) ∷ (expr, one limit) ∷ []
clause_children Clause.Unwind f = (expr, 1) ∷ []
clause_children Clause.Call (_, (args, (yields, _))) = (expr, args) ∷ (yield_item, yields) ∷ []
clause_children Clause.Write f = []

abbrev pub element_children : (k : PatternElement) → Fields (element_forms k) → List Group
element_children PatternElement.Node (_, (labels, (props, _))) = (name, labels) ∷ (expr, one props) ∷ []
element_children PatternElement.Rel (_, (types, (_, (_, (props, _))))) = (name, types) ∷ (expr, one props) ∷ []

abbrev pub op_children : (k : ReadOp) → Fields (op_forms k) → List Group
op_children ReadOp.Source (_, (labels, _)) = (name, labels) ∷ []
op_children ReadOp.Expand f = (in_plan rel_spec, 1) ∷ (in_plan node_spec, 1) ∷ []
op_children ReadOp.Filter f = (in_plan plan_expr, 1) ∷ []
op_children ReadOp.Project (_, (items, _)) = (in_plan plan_projection, items) ∷ []
op_children ReadOp.Aggregate (_, (keys, (aggs, _))) = (in_plan plan_expr, keys) ∷ (in_plan agg_expr, aggs) ∷ []
op_children ReadOp.OrderBy (_, (keys, _)) = (in_plan order_key, keys) ∷ []
op_children ReadOp.Skip f = (in_plan plan_expr, 1) ∷ []
op_children ReadOp.Limit f = (in_plan plan_expr, 1) ∷ []
op_children ReadOp.Distinct f = []
op_children ReadOp.Unwind f = (in_plan plan_expr, 1) ∷ []
op_children ReadOp.Union f = []
op_children ReadOp.With (_, (items, (filter, _))) = (in_plan plan_projection, items) ∷ (in_plan plan_expr, one filter) ∷ []
op_children ReadOp.OptionalJoin f = (in_plan read_op, 1) ∷ []
op_children ReadOp.ShortestPath f = (in_plan rel_spec, 1) ∷ []
op_children ReadOp.BindPath (_, (_, (elements, _))) = (in_plan path_element, elements) ∷ []
op_children ReadOp.ProcedureCall (_, (_, (args, (yields, _)))) = (in_plan plan_expr, args) ∷ (yield_item, yields) ∷ []

abbrev pub plan_expr_children : (k : PlanExpr) → Fields (plan_expr_forms k) → List Group
plan_expr_children (PlanExpr.Over h) f = (in_plan plan_expr, arity h f) ∷ []
plan_expr_children PlanExpr.Var f = []
plan_expr_children PlanExpr.Map (n, _) = (in_plan plan_entry, n) ∷ []
plan_expr_children PlanExpr.Call (_, (args, _)) = (in_plan plan_expr, args) ∷ []
plan_expr_children PlanExpr.Exists f = (in_plan read_op, 1) ∷ []
plan_expr_children PlanExpr.ListPredicate (_, (_, (pred, _))) = (in_plan plan_expr, suc (one pred)) ∷ []

abbrev pub plan_children : (p : PlanSort) (k : PlanKind p) → Fields (plan_forms p k) → List Group
plan_children plan k (operators, (variables, _)) = (in_plan read_op, operators) ∷ (in_plan mapped, variables) ∷ []
plan_children read_op k f = op_children k f
plan_children rel_spec k (types, (_, (_, (props, _)))) = (name, types) ∷ (in_plan plan_expr, one props) ∷ []
plan_children node_spec k (labels, (props, _)) = (name, labels) ∷ (in_plan plan_expr, one props) ∷ []
plan_children plan_projection k f = (in_plan plan_expr, 1) ∷ []
plan_children agg_expr k (_, (args, _)) = (in_plan plan_expr, args) ∷ []
plan_children order_key k f = (in_plan plan_expr, 1) ∷ []
plan_children path_element k f = []
plan_children mapped k f = []
plan_children plan_entry k f = (in_plan plan_expr, 1) ∷ []
plan_children plan_expr k f = plan_expr_children k f

abbrev pub children : (s : Sort) (k : Kind s) → Fields (forms s k) → List Group
children statement k (clauses, (arms, _)) = (clause, clauses) ∷ (union_arm, arms) ∷ []
children union_arm k (_, (clauses, _)) = (clause, clauses) ∷ []
children clause k f = clause_children k f
children projection k f = (expr, 1) ∷ []
children order_item k f = (expr, 1) ∷ []
children pattern_part k (_, (_, (elements, _))) = (pattern_element, elements) ∷ []
children pattern_element k f = element_children k f
children name k f = []
children yield_item k f = []
children entry k f = (expr, 1) ∷ []
children expr k f = expr_children k f
children (in_plan p) k f = plan_children p k f

-- a record's children are one deeper than it is, but for a map's key, whose expression stands beside it
abbrev pub plan_beside : PlanSort → Bool
plan_beside plan = false
plan_beside read_op = false
plan_beside rel_spec = false
plan_beside node_spec = false
plan_beside plan_projection = false
plan_beside agg_expr = false
plan_beside order_key = false
plan_beside path_element = false
plan_beside mapped = false
plan_beside plan_entry = true
plan_beside plan_expr = false

abbrev pub beside : Sort → Bool
beside statement = false
beside union_arm = false
beside clause = false
beside projection = false
beside order_item = false
beside pattern_part = false
beside pattern_element = false
beside name = false
beside yield_item = false
beside entry = true
beside expr = false
beside (in_plan p) = plan_beside p

-- ── keywords ──

unfoldable pub same_keyword : Same → Bytes
same_keyword Same.Null = bytes "null"
same_keyword Same.Bool = bytes "bool"
same_keyword Same.Int = bytes "int"
same_keyword Same.Float = bytes "float"
same_keyword Same.String = bytes "str"
same_keyword Same.Param = bytes "param"
same_keyword Same.Prop = bytes "prop"
same_keyword Same.Index = bytes "index"
same_keyword Same.Slice = bytes "slice"
same_keyword Same.List = bytes "list"
same_keyword Same.BinOp = bytes "bin"
same_keyword Same.UnaryOp = bytes "un"
same_keyword Same.Case = bytes "case"
same_keyword Same.IsNull = bytes "isnull"
same_keyword Same.InList = bytes "in"

unfoldable pub expr_keyword : Expr → Bytes
expr_keyword (Expr.Over h) = same_keyword h
expr_keyword Expr.Var = bytes "var"
expr_keyword Expr.Map = bytes "map"
expr_keyword Expr.Call = bytes "fn"
expr_keyword Expr.PatternPredicate = bytes "pat"
expr_keyword Expr.ListPredicate = bytes "listp"
expr_keyword Expr.Unresolved = bytes "unres"
expr_keyword Expr.Undesugared = bytes "undes"

unfoldable pub clause_keyword : Clause → Bytes
clause_keyword Clause.Match = bytes "match"
clause_keyword Clause.Where = bytes "where"
clause_keyword Clause.With = bytes "with"
clause_keyword Clause.Return = bytes "return"
clause_keyword Clause.Unwind = bytes "unwind"
clause_keyword Clause.Call = bytes "call"
clause_keyword Clause.Write = bytes "write"

unfoldable pub element_keyword : PatternElement → Bytes
element_keyword PatternElement.Node = bytes "node"
element_keyword PatternElement.Rel = bytes "rel"

unfoldable pub op_keyword : ReadOp → Bytes
op_keyword ReadOp.Source = bytes "source"
op_keyword ReadOp.Expand = bytes "expand"
op_keyword ReadOp.Filter = bytes "filter"
op_keyword ReadOp.Project = bytes "project"
op_keyword ReadOp.Aggregate = bytes "agg"
op_keyword ReadOp.OrderBy = bytes "order"
op_keyword ReadOp.Skip = bytes "skip"
op_keyword ReadOp.Limit = bytes "limit"
op_keyword ReadOp.Distinct = bytes "distinct"
op_keyword ReadOp.Unwind = bytes "unwind"
op_keyword ReadOp.Union = bytes "union"
op_keyword ReadOp.With = bytes "with"
op_keyword ReadOp.OptionalJoin = bytes "optional"
op_keyword ReadOp.ShortestPath = bytes "short"
op_keyword ReadOp.BindPath = bytes "path"
op_keyword ReadOp.ProcedureCall = bytes "call"

unfoldable pub plan_expr_keyword : PlanExpr → Bytes
plan_expr_keyword (PlanExpr.Over h) = same_keyword h
plan_expr_keyword PlanExpr.Var = bytes "var"
plan_expr_keyword PlanExpr.Map = bytes "map"
plan_expr_keyword PlanExpr.Call = bytes "fn"
plan_expr_keyword PlanExpr.Exists = bytes "exists"
plan_expr_keyword PlanExpr.ListPredicate = bytes "listp"

unfoldable pub plan_keyword : (p : PlanSort) → PlanKind p → Bytes
plan_keyword plan k = bytes "plan"
plan_keyword read_op k = op_keyword k
plan_keyword rel_spec k = bytes "rel"
plan_keyword node_spec k = bytes "to"
plan_keyword plan_projection k = bytes "item"
plan_keyword agg_expr k = bytes "aggf"
plan_keyword order_key k = bytes "key"
plan_keyword path_element k = bytes "e"
plan_keyword mapped k = bytes "v"
plan_keyword plan_entry k = bytes "name"
plan_keyword plan_expr k = plan_expr_keyword k

unfoldable pub keyword : (s : Sort) → Kind s → Bytes
keyword statement k = bytes "stmt"
keyword union_arm k = bytes "arm"
keyword clause k = clause_keyword k
keyword projection k = bytes "item"
keyword order_item k = bytes "key"
keyword pattern_part k = bytes "part"
keyword pattern_element k = element_keyword k
keyword name k = bytes "name"
keyword yield_item k = bytes "yield"
keyword entry k = bytes "name"
keyword expr k = expr_keyword k
keyword (in_plan p) k = plan_keyword p k

-- ── the kinds of a sort ──

unfoldable pub sames : List Same
sames = Same.Null ∷ Same.Bool ∷ Same.Int ∷ Same.Float ∷ Same.String ∷ Same.Param ∷ Same.Prop ∷ Same.Index ∷ Same.Slice ∷ Same.List ∷ Same.BinOp ∷ Same.UnaryOp ∷ Same.Case ∷ Same.IsNull ∷ Same.InList ∷ []

unfoldable pub plan_kinds : (p : PlanSort) → List (PlanKind p)
plan_kinds plan = tt ∷ []
plan_kinds read_op = ReadOp.Source ∷ ReadOp.Expand ∷ ReadOp.Filter ∷ ReadOp.Project ∷ ReadOp.Aggregate ∷ ReadOp.OrderBy ∷ ReadOp.Skip ∷ ReadOp.Limit ∷ ReadOp.Distinct ∷ ReadOp.Unwind ∷ ReadOp.Union ∷ ReadOp.With ∷ ReadOp.OptionalJoin ∷ ReadOp.ShortestPath ∷ ReadOp.BindPath ∷ ReadOp.ProcedureCall ∷ []
plan_kinds rel_spec = tt ∷ []
plan_kinds node_spec = tt ∷ []
plan_kinds plan_projection = tt ∷ []
plan_kinds agg_expr = tt ∷ []
plan_kinds order_key = tt ∷ []
plan_kinds path_element = tt ∷ []
plan_kinds mapped = tt ∷ []
plan_kinds plan_entry = tt ∷ []
plan_kinds plan_expr = map (λ h. PlanExpr.Over h) sames ++ (PlanExpr.Var ∷ PlanExpr.Map ∷ PlanExpr.Call ∷ PlanExpr.Exists ∷ PlanExpr.ListPredicate ∷ [])

unfoldable pub kinds : (s : Sort) → List (Kind s)
kinds statement = tt ∷ []
kinds union_arm = tt ∷ []
kinds clause = Clause.Match ∷ Clause.Where ∷ Clause.With ∷ Clause.Return ∷ Clause.Unwind ∷ Clause.Call ∷ Clause.Write ∷ []
kinds projection = tt ∷ []
kinds order_item = tt ∷ []
kinds pattern_part = tt ∷ []
kinds pattern_element = PatternElement.Node ∷ PatternElement.Rel ∷ []
kinds name = tt ∷ []
kinds yield_item = tt ∷ []
kinds entry = tt ∷ []
kinds expr = map (λ h. Expr.Over h) sames ++ (Expr.Var ∷ Expr.Map ∷ Expr.Call ∷ Expr.PatternPredicate ∷ Expr.ListPredicate ∷ Expr.Unresolved ∷ Expr.Undesugared ∷ [])
kinds (in_plan p) = plan_kinds p

-- ── a record and its line ──

pub record Rec : Type 0 where
  pub sort : Sort
  pub kind : Kind sort
  pub fields : Fields (forms sort kind)

abbrev pub rec : (s : Sort) (k : Kind s) → Fields (forms s k) → Rec
rec s k f = record { sort = s; kind = k; fields = f }

-- the numbers of operators among fields
abbrev pub of_option : Option ℕ → List ℕ
of_option None = []
of_option (Some k) = k ∷ []

abbrev pub operator_in : (f : Form) → Val f → List ℕ
operator_in (num l) v = []
operator_in flag v = []
operator_in var v = []
operator_in var_or_absent v = []
operator_in (num_or_absent l) v = []
operator_in (number operator) k = k ∷ []
operator_in (number variable) v = []
operator_in (number_or_absent operator) o = of_option o
operator_in (number_or_absent variable) v = []
operator_in int v = []
operator_in float v = []
operator_in text v = []
operator_in alias v = []
operator_in span v = []
operator_in length v = []

abbrev pub operators_in : (fs : List Form) → Fields fs → List ℕ
operators_in [] _ = []
operators_in (f ∷ fs) (v, vs) = operator_in f v ++ operators_in fs vs

-- the inputs of a record: the numbers under input, left and right
abbrev pub inputs : Rec → List ℕ
inputs r = operators_in (forms r.sort r.kind) r.fields

-- keyword and fields, parted by tabs, and a line feed
unfoldable pub spell_rec : Rec → Bytes
spell_rec r = join tab (record { first = keyword r.sort r.kind; more = spell_fields (forms r.sort r.kind) r.fields }) ++ (line_feed ∷ [])

unfoldable pub spell_recs : List Rec → Bytes
spell_recs [] = []
spell_recs (r ∷ rs) = spell_rec r ++ spell_recs rs

-- the kind that a keyword names among some of a sort
unfoldable pub kind_named : (s : Sort) → Bytes → List (Kind s) → Option (Kind s)
kind_named s w [] = None
kind_named s w (k ∷ ks) = cond (same w (keyword s k)) (Some k) (kind_named s w ks)

-- a line without its line feed, read as a record of a sort
abbrev pub RecOf : Sort → Type 0
RecOf s = (k : Kind s) × Fields (forms s k)

unfoldable pub with_fields : (s : Sort) (k : Kind s) → Option (Fields (forms s k)) → Option (RecOf s)
with_fields s k None = None
with_fields s k (Some f) = Some (k, f)

unfoldable pub read_as : (s : Sort) → List Bytes → Option (Kind s) → Option (RecOf s)
read_as s ps None = None
read_as s ps (Some k) = with_fields s k (read_fields (forms s k) ps)

unfoldable pub read_rec : (s : Sort) → Bytes → Option (RecOf s)
read_rec s l = let p = split tab l in read_as s p.more (kind_named s p.first (kinds s))
