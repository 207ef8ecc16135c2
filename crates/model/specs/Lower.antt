-- The lowering of a checked statement to operators, function by function as in lower.rs. An operator is the list of its plan records; a copy of it is that list again. Assumes nothing: these are definitions.
use Rattle.std.specs.Prelude.{ℕ, zero, suc, ◌+◌, Bool, true, false, cond, ◌||◌, List, [], ◌∷◌, ◌++◌, map, eqb, leb, length, Option, None, Some}
use Rattle.model.specs.Text.{Bytes, bytes, same, decimal}
use Rattle.model.specs.Field.{Fields, RelLength}
use Rattle.model.specs.Kind.{Sort, Kind, Clause, PatternElement, Same, Expr, ReadOp, PlanExpr}
use Rattle.model.specs.Kind.{statement, union_arm, clause, projection, order_item, pattern_part, pattern_element, name, yield_item, entry, expr, in_plan}
use Rattle.model.specs.Kind.{read_op, rel_spec, node_spec, plan_projection, agg_expr, order_key, path_element, plan_entry, plan_expr}
use Rattle.model.specs.Record.{Rec, rec, one, forms, same_forms, expr_forms, element_forms, op_forms, plan_expr_forms, children, expr_children, element_children, arity}
use Rattle.model.specs.Tree.{Tree, Trees, node, []ᵗ, ◌∷ᵗ◌, end, ◌▸◌, Many, to_list, Results, fold}

abbrev pub Recs : Type 0
Recs = List Rec

-- ── LowerCtx ──

-- what numbers are issued from: the variables that have one, the newest first, each its id and its number; and the next number
pub record Scope : Type 0 where
  pub vars : List (ℕ × ℕ)
  pub next_var : ℕ

-- operators, the newest first, and the scope
pub record LowerCtx : Type 0 where
  pub ops : List Recs
  pub scope : Scope

-- a step of the lowering gives a result and the state behind it
abbrev pub Lowering : Type 0 → Type 0
Lowering A = LowerCtx → A × LowerCtx

infixl 10 ◌>>=◌
unfoldable pub ◌>>=◌ : {A B : Type 0} → Lowering A → (A → Lowering B) → Lowering B
◌>>=◌ m k = λ c. let r = m c in k r.0 r.1

unfoldable pub ret : {A : Type 0} → A → Lowering A
ret a = λ c. (a, c)

-- the number of the next operator is how many there are
unfoldable pub push : Recs → Lowering ℕ
push op = λ c. (length c.ops, record { ops = op ∷ c.ops; scope = c.scope })

-- operator k of a list, the newest first
unfoldable pub at : List Recs → ℕ → Recs
at [] k = []
at (op ∷ ops) k = cond (eqb k (length ops)) op (at ops k)

-- a whole copy of operator k
unfoldable pub copy : ℕ → Lowering Recs
copy k = λ c. (at c.ops k, c)

unfoldable pub lookup : List (ℕ × ℕ) → ℕ → Option ℕ
lookup [] id = None
lookup (v ∷ vs) id = cond (eqb v.0 id) (Some v.1) (lookup vs id)

-- a number is issued from the scope alone
unfoldable pub issue : (Scope → ℕ × Scope) → Lowering ℕ
issue f = λ c. let r = f c.scope in (r.0, record { ops = c.ops; scope = r.1 })

-- the number of a variable that has one, or the next one, which it then has
unfoldable pub numbered : ℕ → Option ℕ → Scope → ℕ × Scope
numbered id (Some n) s = (n, s)
numbered id None s = (s.next_var, record { vars = (id, s.next_var) ∷ s.vars; next_var = suc s.next_var })

unfoldable pub map_var : ℕ → Lowering ℕ
map_var id = issue (λ s. numbered id (lookup s.vars id) s)

-- the next number, for something unnamed
unfoldable pub fresh : Lowering ℕ
fresh = issue (λ s. (s.next_var, record { vars = s.vars; next_var = suc s.next_var }))

-- the next number, which is not taken
unfoldable pub upcoming : Lowering ℕ
upcoming = issue (λ s. (s.next_var, s))

unfoldable pub endpoint_var : Option ℕ → Lowering ℕ
endpoint_var None = fresh
endpoint_var (Some id) = map_var id

-- steps one after another, their records in that order
unfoldable pub in_order : List (Lowering Recs) → Lowering Recs
in_order [] = ret []
in_order (m ∷ ms) = do
  rs ← m
  ss ← in_order ms
  ret (rs ++ ss)

-- ── plan records ──

abbrev pub op : (k : ReadOp) → Fields (op_forms k) → Rec
op k f = rec (in_plan read_op) k f

abbrev pub plan_expr_rec : (k : PlanExpr) → Fields (plan_expr_forms k) → Rec
plan_expr_rec k f = rec (in_plan plan_expr) k f

unfoldable pub source : ℕ → Recs → Recs
source bind labels = op ReadOp.Source (bind, (length labels, tt)) ∷ labels

unfoldable pub filter : ℕ → Recs → Recs
filter input predicate = op ReadOp.Filter (input, tt) ∷ predicate

-- a source of everything: it names the next number and does not take it
unfoldable pub push_source_all : Lowering ℕ
push_source_all = do
  bind ← upcoming
  push (source bind [])

-- the operator before, or a source of everything
unfoldable pub or_source_all : Option ℕ → Lowering ℕ
or_source_all None = push_source_all
or_source_all (Some k) = ret k

-- ── patterns, out of what was made of their elements ──

-- props, where there are any
abbrev pub Props : Type 0
Props = Option (Lowering Recs)

unfoldable pub has : {A : Type 0} → Option A → Bool
has None = false
has (Some a) = true

unfoldable pub lower_props : Props → Lowering Recs
lower_props None = ret []
lower_props (Some m) = m

pub record NodeStep : Type 0 where
  pub bind : Option ℕ
  pub labels : Recs
  pub props : Props

pub record RelStep : Type 0 where
  pub bind : Option ℕ
  pub types : Recs
  pub direction : ℕ
  pub length : RelLength
  pub props : Props

pub data Step : Type 0 where
  of_node : NodeStep → Step
  of_rel : RelStep → Step

-- a rel's number and its records in the plan
unfoldable pub lower_rel_element : RelStep → Lowering (ℕ × Recs)
lower_rel_element r = do
  bind_rel ← endpoint_var r.bind
  props ← lower_props r.props
  ret (bind_rel, rec (in_plan rel_spec) tt (length r.types, (r.direction, (r.length, (has r.props, tt)))) ∷ (r.types ++ props))

unfoldable pub node_recs : NodeStep → Recs → Recs
node_recs n props = rec (in_plan node_spec) tt (length n.labels, (has n.props, tt)) ∷ (n.labels ++ props)

-- a filter by a node's props, if it has any
unfoldable pub filter_by_props : ℕ → Props → Lowering ℕ
filter_by_props k None = ret k
filter_by_props k (Some m) = do
  predicate ← m
  push (filter k predicate)

-- a chain so far: the last operator and its node's number, the rel that waits for its far node, and the numbers of the path
pub record Chain : Type 0 where
  pub last : Option (ℕ × ℕ)
  pub pending : Option RelStep
  pub path : List ℕ

unfoldable pub start_node : Chain → NodeStep → ℕ → Lowering Chain
start_node c n bind = do
  k ← push (source bind n.labels)
  root ← filter_by_props k n.props
  ret (record { last = Some (root, bind); pending = None; path = c.path ++ (bind ∷ []) })

unfoldable pub expand_to : Chain → NodeStep → RelStep → ℕ → ℕ → ℕ → Lowering Chain
expand_to c n r input origin bind_to = do
  spec ← lower_rel_element r
  props ← lower_props n.props
  k ← push (op ReadOp.Expand (input, (origin, (spec.0, (bind_to, tt)))) ∷ (spec.1 ++ node_recs n props))
  ret (record { last = Some (k, bind_to); pending = None; path = c.path ++ (spec.0 ∷ bind_to ∷ []) })

unfoldable pub reach : Chain → NodeStep → ℕ → Option RelStep → Option (ℕ × ℕ) → Lowering Chain
reach c n bind None l = start_node c n bind
reach c n bind (Some r) None = start_node c n bind
reach c n bind (Some r) (Some l) = expand_to c n r l.0 l.1 bind

-- the next element: a rel waits, in place of one that waited; a node is numbered before the rel that leads to it
unfoldable pub lower_element : Chain → Step → Lowering Chain
lower_element c (of_rel r) = ret (record { last = c.last; pending = Some r; path = c.path })
lower_element c (of_node n) = do
  bind ← endpoint_var n.bind
  reach c n bind c.pending c.last

unfoldable pub lower_elements : Chain → List Step → Lowering Chain
lower_elements c [] = ret c
lower_elements c (s ∷ ss) = do
  d ← lower_element c s
  lower_elements d ss

unfoldable pub root_of : Option (ℕ × ℕ) → Option ℕ
root_of None = None
root_of (Some l) = Some l.0

unfoldable pub path_elements : List ℕ → Recs
path_elements [] = []
path_elements (n ∷ ns) = rec (in_plan path_element) tt (n, tt) ∷ path_elements ns

-- a named part ends in its path, whose number comes last
unfoldable pub bind_path : Option ℕ → ℕ → List ℕ → Lowering ℕ
bind_path None root path = ret root
bind_path (Some id) root path = do
  bind ← map_var id
  push (op ReadOp.BindPath (root, (bind, (length path, tt))) ∷ path_elements path)

unfoldable pub lower_chain : Option ℕ → List Step → Lowering ℕ
lower_chain named_as steps = do
  c ← lower_elements (record { last = None; pending = None; path = [] }) steps
  root ← or_source_all (root_of c.last)
  bind_path named_as root c.path

-- the special shortest part; the far node's labels and props are not looked at
unfoldable pub lower_shortest_path_part : Option ℕ → Bool → NodeStep → RelStep → NodeStep → Lowering ℕ
lower_shortest_path_part named_as all a r b = do
  bind_from ← endpoint_var a.bind
  k ← push (source bind_from a.labels)
  input ← filter_by_props k a.props
  spec ← lower_rel_element r
  bind_to ← endpoint_var b.bind
  path ← endpoint_var named_as
  push (op ReadOp.ShortestPath (input, (bind_from, (bind_to, (path, (all, tt))))) ∷ spec.1)

pub data Shape : Type 0 where
  node_rel_node : NodeStep → RelStep → NodeStep → Shape
  other : Shape

unfoldable pub shape_of : List Step → Shape
shape_of [] = other
shape_of (s ∷ []) = other
shape_of (s ∷ t ∷ []) = other
shape_of (of_rel r ∷ t ∷ u ∷ ss) = other
shape_of (of_node a ∷ of_node n ∷ u ∷ ss) = other
shape_of (of_node a ∷ of_rel r ∷ of_rel q ∷ ss) = other
shape_of (of_node a ∷ of_rel r ∷ of_node b ∷ []) = node_rel_node a r b
shape_of (of_node a ∷ of_rel r ∷ of_node b ∷ s ∷ ss) = other

unfoldable pub lower_shaped : Option ℕ → Bool → List Step → Shape → Lowering ℕ
lower_shaped named_as all steps (node_rel_node a r b) = lower_shortest_path_part named_as all a r b
lower_shaped named_as all steps other = lower_chain named_as steps

-- shortest: 0 no, 1 shortest, 2 all shortest
unfoldable pub lower_pattern_part : Option ℕ → ℕ → List Step → Lowering ℕ
lower_pattern_part named_as zero steps = lower_chain named_as steps
lower_pattern_part named_as (suc n) steps = lower_shaped named_as (eqb n 1) steps (shape_of steps)

-- how a further part goes with those before it: it is the root, and they stay unread
unfoldable pub further_part : ℕ → ℕ → Lowering ℕ
further_part before part = ret part

unfoldable pub lower_further : ℕ → List (Lowering ℕ) → Lowering ℕ
lower_further root [] = ret root
lower_further root (p ∷ ps) = do
  part ← p
  both ← further_part root part
  lower_further both ps

unfoldable pub lower_parts : List (Lowering ℕ) → Lowering ℕ
lower_parts [] = do
  bind ← fresh
  push (source bind [])
lower_parts (p ∷ ps) = do
  root ← p
  lower_further root ps

unfoldable pub optional_join : Bool → Option ℕ → ℕ → Lowering ℕ
optional_join false current root = ret root
optional_join true None root = ret root
optional_join true (Some outer) root = do
  inner ← copy root
  push (op ReadOp.OptionalJoin (outer, tt) ∷ inner)

unfoldable pub lower_match_pattern : List (Lowering ℕ) → Option ℕ → Bool → Lowering ℕ
lower_match_pattern parts current optional = do
  root ← lower_parts parts
  optional_join optional current root

-- ── expressions ──

-- what is made of a tree: of an expression its plan records, of a part its root operator, of an element a step, of a name itself
abbrev pub Lowered : Sort → Type 0
Lowered statement = Unit {0}
Lowered union_arm = Unit {0}
Lowered clause = Unit {0}
Lowered projection = Unit {0}
Lowered order_item = Unit {0}
Lowered pattern_part = Lowering ℕ
Lowered pattern_element = Step
Lowered name = Rec
Lowered yield_item = Unit {0}
Lowered entry = Lowering Recs
Lowered expr = Lowering Recs
Lowered (in_plan p) = Unit {0}

unfoldable pub props_of : (b : Bool) → Many (Lowering Recs) (one b) → Props
props_of false _ = None
props_of true (m, _) = Some m

-- a record over its children in order
unfoldable pub over : Rec → (n : ℕ) → Many (Lowering Recs) n → Lowering Recs
over r n es = do
  rs ← in_order (to_list n es)
  ret (r ∷ rs)

-- where nothing is noted at an expression
abbrev pub no_note : ℕ
no_note = 0

-- the first record of an expression in the plan; n is what is noted at it, a variable's number
abbrev pub expr_head : ℕ → (k : Expr) → Fields (expr_forms k) → Rec
expr_head n (Expr.Over h) f = plan_expr_rec (PlanExpr.Over h) f
expr_head n Expr.Var f = plan_expr_rec PlanExpr.Var (n, tt)
expr_head n Expr.Map (m, _) = plan_expr_rec PlanExpr.Map (m, tt)
expr_head n Expr.Call (func, (m, _)) = plan_expr_rec PlanExpr.Call (func, (m, tt))
expr_head n Expr.PatternPredicate f = plan_expr_rec PlanExpr.Exists tt
expr_head n Expr.ListPredicate (kind, (id, (pred, _))) = plan_expr_rec PlanExpr.ListPredicate (kind, (n, (pred, tt)))
expr_head n Expr.Unresolved f = plan_expr_rec (PlanExpr.Over Same.Null) tt
expr_head n Expr.Undesugared f = plan_expr_rec (PlanExpr.Over Same.Null) tt

-- the arms of lower_expr. What the check refuses does not come here.
unfoldable pub expr_step : (k : Expr) (f : Fields (expr_forms k)) → Results Lowered (expr_children k f) → Lowering Recs
expr_step (Expr.Over h) f (es, _) = over (expr_head no_note (Expr.Over h) f) (arity h f) es
expr_step Expr.Var (id, t) _ = do
  n ← map_var id
  ret (expr_head n Expr.Var (id, t) ∷ [])
expr_step Expr.Map (n, t) (es, _) = over (expr_head no_note Expr.Map (n, t)) n es
expr_step Expr.Call (func, (n, t)) (args, _) = over (expr_head no_note Expr.Call (func, (n, t))) n args
expr_step Expr.PatternPredicate (n, t) (parts, _) = do
  k ← lower_match_pattern (to_list n parts) None false
  inner ← copy k
  ret (expr_head k Expr.PatternPredicate (n, t) ∷ inner)
expr_step Expr.ListPredicate (kind, (id, (pred, t))) (es, _) = do
  n ← map_var id
  over (expr_head n Expr.ListPredicate (kind, (id, (pred, t)))) (suc (one pred)) es
expr_step Expr.Unresolved f _ = ret (expr_head no_note Expr.Unresolved f ∷ [])
expr_step Expr.Undesugared f _ = ret (expr_head no_note Expr.Undesugared f ∷ [])

unfoldable pub element_step : (k : PatternElement) (f : Fields (element_forms k)) → Results Lowered (element_children k f) → Step
element_step PatternElement.Node (bind, (n, (p, _))) (labels, (props, _)) = of_node (record { bind = bind; labels = to_list n labels; props = props_of p props })
element_step PatternElement.Rel (bind, (n, (direction, (length, (p, _))))) (types, (props, _)) = of_rel (record { bind = bind; types = to_list n types; direction = direction; length = length; props = props_of p props })

unfoldable pub made : (s : Sort) (line : ℕ) (k : Kind s) (f : Fields (forms s k)) → Results Lowered (children s k f) → Lowered s
made statement line k f _ = tt
made union_arm line k f _ = tt
made clause line k f _ = tt
made projection line k f _ = tt
made order_item line k f _ = tt
made pattern_part line k (named_as, (shortest, (n, _))) (elements, _) = lower_pattern_part named_as shortest (to_list n elements)
made pattern_element line k f r = element_step k f r
made name line k f _ = rec name k f
made yield_item line k f _ = tt
made entry line k (key, _) ((e, _), _) = over (rec (in_plan plan_entry) tt (key, tt)) 1 (e, tt)
made expr line k f r = expr_step k f r
made (in_plan p) line k f _ = tt

unfoldable pub lower_expr : Tree expr → Lowering Recs
lower_expr e = fold Lowered made e

-- expressions one after another
unfoldable pub lower_exprs : {n : ℕ} → Trees expr n → Lowering Recs
lower_exprs []ᵗ = ret []
lower_exprs (e ∷ᵗ es) = do
  rs ← lower_expr e
  ss ← lower_exprs es
  ret (rs ++ ss)

unfoldable pub lower_pattern : {n : ℕ} → Trees pattern_part n → List (Lowering ℕ)
lower_pattern []ᵗ = []
lower_pattern (p ∷ᵗ ps) = fold Lowered made p ∷ lower_pattern ps

-- ── projections ──

-- the name of an item that has no alias, by its expression
unfoldable pub same_alias : (h : Same) → Fields (same_forms h) → Bytes
same_alias Same.Null f = bytes "_"
same_alias Same.Bool f = bytes "_"
same_alias Same.Int f = bytes "_"
same_alias Same.Float f = bytes "_"
same_alias Same.String f = bytes "_"
same_alias Same.Param f = bytes "_"
same_alias Same.Prop (prop, _) = prop
same_alias Same.Index f = bytes "_"
same_alias Same.Slice f = bytes "_"
same_alias Same.List f = bytes "_"
same_alias Same.BinOp f = bytes "_"
same_alias Same.UnaryOp f = bytes "_"
same_alias Same.Case f = bytes "_"
same_alias Same.IsNull f = bytes "_"
same_alias Same.InList f = bytes "_"

-- the name of an item without an alias, by its expression's own record
abbrev pub expr_alias : (k : Expr) → Fields (expr_forms k) → Bytes
expr_alias (Expr.Over h) f = same_alias h f
expr_alias Expr.Var (id, _) = bytes "_v" ++ decimal id
expr_alias Expr.Map f = bytes "_"
expr_alias Expr.Call (func, _) = func
expr_alias Expr.PatternPredicate f = bytes "_"
expr_alias Expr.ListPredicate f = bytes "_"
expr_alias Expr.Unresolved f = bytes "_"
expr_alias Expr.Undesugared f = bytes "_"

unfoldable pub synthesise_alias : Tree expr → Bytes
synthesise_alias (node expr line k f kids) = expr_alias k f

unfoldable pub alias_or : Option Bytes → Bytes → Bytes
alias_or None t = t
alias_or (Some a) t = a

unfoldable pub item : Bytes → Recs → Recs
item alias rs = rec (in_plan plan_projection) tt (alias, tt) ∷ rs

unfoldable pub lower_projections : {n : ℕ} → Trees projection n → Lowering Recs
lower_projections []ᵗ = ret []
lower_projections (node projection line k (alias, _) (e ∷ᵗ []ᵗ ▸ end) ∷ᵗ ps) = do
  rs ← lower_expr e
  ss ← lower_projections ps
  ret (item (alias_or alias (synthesise_alias e)) rs ++ ss)

-- ASCII capitals, and how far a small letter is behind its capital
abbrev pub capital_a : ℕ
capital_a = 65

abbrev pub capital_z : ℕ
capital_z = 90

abbrev pub to_small : ℕ
to_small = 32

unfoldable pub lowercase : ℕ → ℕ
lowercase b = cond (leb capital_a b) (cond (leb b capital_z) (b + to_small) b) b

unfoldable pub aggregates : List Bytes
aggregates = bytes "count" ∷ bytes "sum" ∷ bytes "avg" ∷ bytes "min" ∷ bytes "max" ∷ bytes "collect" ∷ bytes "stdev" ∷ bytes "stdevp" ∷ bytes "percentilecont" ∷ bytes "percentiledisc" ∷ []

unfoldable pub among : Bytes → List Bytes → Bool
among t [] = false
among t (u ∷ us) = same t u || among t us

unfoldable pub is_aggregate_func : Bytes → Bool
is_aggregate_func func = among (map (λ b. lowercase b) func) aggregates

-- the first lowering of a `return`: its keys, which are all items but the aggregates, and its aggregates, of which the arguments alone are lowered
pub record Split : Type 0 where
  pub keys : ℕ
  pub key_recs : Recs
  pub aggs : ℕ
  pub agg_recs : Recs

unfoldable pub no_split : Split
no_split = record { keys = 0; key_recs = []; aggs = 0; agg_recs = [] }

unfoldable pub with_key : Recs → Split → Split
with_key rs s = record { keys = suc s.keys; key_recs = rs ++ s.key_recs; aggs = s.aggs; agg_recs = s.agg_recs }

unfoldable pub with_agg : Recs → Split → Split
with_agg rs s = record { keys = s.keys; key_recs = s.key_recs; aggs = suc s.aggs; agg_recs = rs ++ s.agg_recs }

unfoldable pub lower_key : Tree expr → Lowering (Split → Split)
lower_key e = do
  rs ← lower_expr e
  ret (λ s. with_key rs s)

unfoldable pub lower_call_item : Bool → Tree expr → Bytes → Bool → {n : ℕ} → Trees expr n → Lowering (Split → Split)
lower_call_item false e func distinct args = lower_key e
lower_call_item true e func distinct {n} args = do
  rs ← lower_exprs args
  ret (λ s. with_agg (rec (in_plan agg_expr) tt (func, (n, (distinct, tt))) ∷ rs) s)

unfoldable pub lower_item : Tree expr → Lowering (Split → Split)
lower_item (node expr line (Expr.Over h) f kids) = lower_key (node expr line (Expr.Over h) f kids)
lower_item (node expr line Expr.Var f kids) = lower_key (node expr line Expr.Var f kids)
lower_item (node expr line Expr.Map f kids) = lower_key (node expr line Expr.Map f kids)
lower_item (node expr line Expr.Call (func, (n, (distinct, t))) (args ▸ end)) =
    lower_call_item (is_aggregate_func func) (node expr line Expr.Call (func, (n, (distinct, t))) (args ▸ end)) func distinct args
lower_item (node expr line Expr.PatternPredicate f kids) = lower_key (node expr line Expr.PatternPredicate f kids)
lower_item (node expr line Expr.ListPredicate f kids) = lower_key (node expr line Expr.ListPredicate f kids)
lower_item (node expr line Expr.Unresolved f kids) = lower_key (node expr line Expr.Unresolved f kids)
lower_item (node expr line Expr.Undesugared f kids) = lower_key (node expr line Expr.Undesugared f kids)

unfoldable pub split_projections_agg : {n : ℕ} → Trees projection n → Lowering Split
split_projections_agg []ᵗ = ret no_split
split_projections_agg (node projection line k f (e ∷ᵗ []ᵗ ▸ end) ∷ᵗ ps) = do
  add ← lower_item e
  others ← split_projections_agg ps
  ret (add others)

-- ── order, skip, limit ──

unfoldable pub lower_keys : {n : ℕ} → Trees order_item n → Lowering Recs
lower_keys []ᵗ = ret []
lower_keys (node order_item line k (descending, _) (e ∷ᵗ []ᵗ ▸ end) ∷ᵗ ks) = do
  rs ← lower_expr e
  ss ← lower_keys ks
  ret (rec (in_plan order_key) tt (descending, tt) ∷ (rs ++ ss))

unfoldable pub order_by : {n : ℕ} → ℕ → Trees order_item n → Lowering ℕ
order_by input []ᵗ = ret input
order_by {n} input (k ∷ᵗ ks) = do
  rs ← lower_keys (k ∷ᵗ ks)
  push (op ReadOp.OrderBy (input, (n, tt)) ∷ rs)

-- an operator over one expression, where there is one
unfoldable pub over_expr : {n : ℕ} → Rec → ℕ → Trees expr n → Lowering ℕ
over_expr r input []ᵗ = ret input
over_expr r input (e ∷ᵗ es) = do
  rs ← lower_expr e
  push (r ∷ rs)

unfoldable pub lower_trailers : {n skip limit : ℕ} → ℕ → Trees order_item n → Trees expr skip → Trees expr limit → Lowering ℕ
lower_trailers input keys skip limit = do
  a ← order_by input keys
  b ← over_expr (op ReadOp.Skip (a, tt)) a skip
  over_expr (op ReadOp.Limit (b, tt)) b limit

-- ── clauses ──

unfoldable pub lower_yields : {n : ℕ} → Trees yield_item n → Lowering Recs
lower_yields []ᵗ = ret []
lower_yields (node yield_item line k (column, (id, _)) end ∷ᵗ ys) = do
  n ← map_var id
  rs ← lower_yields ys
  ret (rec yield_item tt (column, (n, tt)) ∷ rs)

unfoldable pub distinct_if : Bool → ℕ → Lowering ℕ
distinct_if false input = ret input
distinct_if true input = push (op ReadOp.Distinct (input, tt) ∷ [])

unfoldable pub aggregate_if : ℕ → ℕ → Split → Lowering ℕ
aggregate_if zero input s = ret input
aggregate_if (suc n) input s = push (op ReadOp.Aggregate (input, (s.keys, (s.aggs, tt))) ∷ (s.key_recs ++ s.agg_recs))

-- a clause behind the operator before it, if there is one; the operator that it leaves
unfoldable pub lower_clause : Tree clause → Option ℕ → Lowering (Option ℕ)
lower_clause (node clause line Clause.Match (optional, _) (parts ▸ end)) current = do
  k ← lower_match_pattern (lower_pattern parts) current optional
  ret (Some k)
lower_clause (node clause line Clause.Where f (e ∷ᵗ []ᵗ ▸ end)) current = do
  predicate ← lower_expr e
  input ← or_source_all current
  k ← push (filter input predicate)
  ret (Some k)
lower_clause (node clause line Clause.With (n, (filtered, _)) (items ▸ predicate ▸ keys ▸ skip ▸ limit ▸ end)) current = do
  input ← or_source_all current
  rs ← lower_projections items
  ss ← lower_exprs predicate
  k ← push (op ReadOp.With (input, (n, (filtered, tt))) ∷ (rs ++ ss))
  root ← lower_trailers k keys skip limit
  ret (Some root)
lower_clause (node clause line Clause.Return (n, (distinct, _)) (items ▸ keys ▸ skip ▸ limit ▸ end)) current = do
  input ← or_source_all current
  first ← split_projections_agg items
  a ← aggregate_if first.aggs input first
  rs ← lower_projections items
  b ← push (op ReadOp.Project (a, (n, tt)) ∷ rs)
  d ← distinct_if distinct b
  root ← lower_trailers d keys skip limit
  ret (Some root)
lower_clause (node clause line Clause.Unwind (id, _) (e ∷ᵗ []ᵗ ▸ end)) current = do
  input ← or_source_all current
  rs ← lower_expr e
  bind ← map_var id
  k ← push (op ReadOp.Unwind (input, (bind, tt)) ∷ rs)
  ret (Some k)
lower_clause (node clause line Clause.Call (procedure, (args, (yields, (optional, _)))) (es ▸ ys ▸ end)) current = do
  rs ← lower_exprs es
  ss ← lower_yields ys
  k ← push (op ReadOp.ProcedureCall (current, (procedure, (args, (yields, (optional, tt))))) ∷ (rs ++ ss))
  ret (Some k)
lower_clause (node clause line Clause.Write f kids) current = ret current

unfoldable pub lower_clauses : {n : ℕ} → Trees clause n → Option ℕ → Lowering (Option ℕ)
lower_clauses []ᵗ current = ret current
lower_clauses (c ∷ᵗ cs) current = do
  previous ← lower_clause c current
  lower_clauses cs previous

-- ── the statement ──

unfoldable pub lower_arms : {n : ℕ} → Trees union_arm n → Option ℕ → Lowering (Option ℕ)
lower_arms []ᵗ root = ret root
lower_arms (node union_arm line k (all, _) (cs ▸ end) ∷ᵗ arms) root = do
  below ← lower_clauses cs None
  left ← or_source_all root
  right ← or_source_all below
  both ← push (op ReadOp.Union (left, (right, (all, tt))) ∷ [])
  lower_arms arms (Some both)

-- the operator that the lowering ends on, where there is one
unfoldable pub lower : Tree statement → Lowering (Option ℕ)
lower (node statement line k f (cs ▸ arms ▸ end)) = do
  head ← lower_clauses cs None
  lower_arms arms head

unfoldable pub empty : LowerCtx
empty = record { ops = []; scope = record { vars = []; next_var = 0 } }

unfoldable pub lower_statement : Tree statement → LowerCtx
lower_statement t = (lower t empty).1

-- ── two statements ──

-- the variables are forgotten; the next number and the operators stay
abbrev pub without_vars : LowerCtx → LowerCtx
without_vars c = record { ops = c.ops; scope = record { vars = []; next_var = c.scope.next_var } }

unfoldable pub forget_vars : Lowering (Unit {0})
forget_vars = λ c. (tt, without_vars c)

-- the number of the `union` that the lowering of a pair ends on
unfoldable pub lower_union_pair : (left right : Tree statement) (all : Bool) → Lowering ℕ
lower_union_pair left right all = do
  left_root ← lower left
  forgotten ← forget_vars
  right_root ← lower right
  l ← or_source_all left_root
  r ← or_source_all right_root
  push (op ReadOp.Union (l, (r, (all, tt))) ∷ [])

unfoldable pub lower_pair : (left right : Tree statement) (all : Bool) → LowerCtx
lower_pair left right all = (lower_union_pair left right all empty).1
