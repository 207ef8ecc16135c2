-- Laws of the record table: a keyword names one kind of a sort, keywords hold no separator, and no number of the table has more than 64 bits. Assumes nothing: each law is proved.
use Rattle.std.specs.Prelude.{◌≡◌, refl, Bool, true, false, ◌&&◌, List, [], ◌∷◌, ℕ, leb, Some}
use Rattle.std.proofs.Common.{◌∙◌, ap}
use Rattle.std.proofs.lemmas.Option.{none-some, same_Some}
use Rattle.model.specs.Text.{Bytes, minus, bytes_from, bytes, same_by, same}
use Rattle.model.specs.Kind.{Sort, PlanSort, Kind, PlanKind, Clause, PatternElement, Same, Expr, ReadOp, PlanExpr}
use Rattle.model.specs.Kind.{statement, union_arm, clause, projection, order_item, pattern_part, pattern_element, name, yield_item, entry, expr, in_plan}
use Rattle.model.specs.Kind.{plan, read_op, rel_spec, node_spec, plan_projection, agg_expr, order_key, path_element, mapped, plan_entry, plan_expr}
use Rattle.model.specs.Record.{forms, same_keyword, expr_keyword, clause_keyword, element_keyword, op_keyword, plan_expr_keyword, plan_keyword, keyword, sames, plan_kinds, kinds, kind_named}
use Rattle.laws.specs.TextLaws.{and_left, and_right, same_sound, every, Free, above_free, Separator, separator_low}
use Rattle.laws.specs.FieldLaws.{limited, all_limited}

-- ── a keyword and its kind ──

-- an expression of both sheets is named by its keyword in either
same_named : (h : Same) → (kind_named expr (same_keyword h) (kinds expr) ≡ Some (Expr.Over h)) × (kind_named (in_plan plan_expr) (same_keyword h) (plan_kinds plan_expr) ≡ Some (PlanExpr.Over h))
unfolding bytes_from bytes same_by same same_keyword expr_keyword plan_expr_keyword plan_keyword keyword sames plan_kinds kinds kind_named
same_named Same.Null = (refl, refl)
same_named Same.Bool = (refl, refl)
same_named Same.Int = (refl, refl)
same_named Same.Float = (refl, refl)
same_named Same.String = (refl, refl)
same_named Same.Param = (refl, refl)
same_named Same.Prop = (refl, refl)
same_named Same.Index = (refl, refl)
same_named Same.Slice = (refl, refl)
same_named Same.List = (refl, refl)
same_named Same.BinOp = (refl, refl)
same_named Same.UnaryOp = (refl, refl)
same_named Same.Case = (refl, refl)
same_named Same.IsNull = (refl, refl)
same_named Same.InList = (refl, refl)

plan_named : (p : PlanSort) (k : PlanKind p) → kind_named (in_plan p) (plan_keyword p k) (plan_kinds p) ≡ Some k
unfolding bytes_from bytes same_by same same_keyword op_keyword plan_expr_keyword plan_keyword keyword sames plan_kinds kind_named
plan_named plan k = refl
plan_named read_op ReadOp.Source = refl
plan_named read_op ReadOp.Expand = refl
plan_named read_op ReadOp.Filter = refl
plan_named read_op ReadOp.Project = refl
plan_named read_op ReadOp.Aggregate = refl
plan_named read_op ReadOp.OrderBy = refl
plan_named read_op ReadOp.Skip = refl
plan_named read_op ReadOp.Limit = refl
plan_named read_op ReadOp.Distinct = refl
plan_named read_op ReadOp.Unwind = refl
plan_named read_op ReadOp.Union = refl
plan_named read_op ReadOp.With = refl
plan_named read_op ReadOp.OptionalJoin = refl
plan_named read_op ReadOp.ShortestPath = refl
plan_named read_op ReadOp.BindPath = refl
plan_named read_op ReadOp.ProcedureCall = refl
plan_named rel_spec k = refl
plan_named node_spec k = refl
plan_named plan_projection k = refl
plan_named agg_expr k = refl
plan_named order_key k = refl
plan_named path_element k = refl
plan_named mapped k = refl
plan_named plan_entry k = refl
plan_named plan_expr (PlanExpr.Over h) = (same_named h).1
plan_named plan_expr PlanExpr.Var = refl
plan_named plan_expr PlanExpr.Map = refl
plan_named plan_expr PlanExpr.Call = refl
plan_named plan_expr PlanExpr.Exists = refl
plan_named plan_expr PlanExpr.ListPredicate = refl

-- a keyword names its own kind, and so no two kinds of a sort share one
pub kind_named_law : (s : Sort) (k : Kind s) → kind_named s (keyword s k) (kinds s) ≡ Some k
unfolding bytes_from bytes same_by same same_keyword expr_keyword clause_keyword element_keyword keyword sames kinds kind_named
kind_named_law statement k = refl
kind_named_law union_arm k = refl
kind_named_law clause Clause.Match = refl
kind_named_law clause Clause.Where = refl
kind_named_law clause Clause.With = refl
kind_named_law clause Clause.Return = refl
kind_named_law clause Clause.Unwind = refl
kind_named_law clause Clause.Call = refl
kind_named_law clause Clause.Write = refl
kind_named_law projection k = refl
kind_named_law order_item k = refl
kind_named_law pattern_part k = refl
kind_named_law pattern_element PatternElement.Node = refl
kind_named_law pattern_element PatternElement.Rel = refl
kind_named_law name k = refl
kind_named_law yield_item k = refl
kind_named_law entry k = refl
kind_named_law expr (Expr.Over h) = (same_named h).0
kind_named_law expr Expr.Var = refl
kind_named_law expr Expr.Map = refl
kind_named_law expr Expr.Call = refl
kind_named_law expr Expr.PatternPredicate = refl
kind_named_law expr Expr.ListPredicate = refl
kind_named_law expr Expr.Unresolved = refl
kind_named_law expr Expr.Undesugared = refl
kind_named_law (in_plan p) k = plan_named p k

-- a kind that is found has the keyword
pub named_keyword : (s : Sort) (w : Bytes) (ks : List (Kind s)) (k : Kind s) → kind_named s w ks ≡ Some k → w ≡ keyword s k
unfolding kind_named
named_keyword s w [] k e = absurd (none-some _ e)
named_keyword s w (j ∷ ks) k e = go (same w (keyword s j)) refl (named_keyword s w ks k)
  where
    go : (b : Bool) → same w (keyword s j) ≡ b → (kind_named s w ks ≡ Some k → w ≡ keyword s k) → w ≡ keyword s k
    go true p ih = same_sound w (keyword s j) p ∙ ap (λ i. keyword s i) (same_Some j k (rw p at e))
    go false p ih = ih (rw p at e)

-- ── what all kinds of a sort pass ──

named_passes : (s : Sort) (test : Kind s → Bool) (w : Bytes) (ks : List (Kind s)) (k : Kind s) → every test ks ≡ true → kind_named s w ks ≡ Some k → test k ≡ true
unfolding kind_named every
named_passes s test w [] k h e = absurd (none-some _ e)
named_passes s test w (j ∷ ks) k h e = go (same w (keyword s j)) refl (named_passes s test w ks k)
  where
    go : (b : Bool) → same w (keyword s j) ≡ b → (every test ks ≡ true → kind_named s w ks ≡ Some k → test k ≡ true) → test k ≡ true
    go true p ih = rw (same_Some j k (rw p at e)) at (and_left (test j) (every test ks) h)
    go false p ih = ih (and_right (test j) (every test ks) h) (rw p at e)

-- so a law of kinds is proved by running through each sort's list
pub passes : (s : Sort) (test : Kind s → Bool) → every test (kinds s) ≡ true → (k : Kind s) → test k ≡ true
passes s test h k = named_passes s test (keyword s k) (kinds s) k h (kind_named_law s k)

-- the keyword's bytes are above the separators
letters : Bytes → Bool
letters w = every (λ b. leb minus b) w

-- a kind's keyword and the limits of its numbers
sound : (s : Sort) → Kind s → Bool
sound s k = letters (keyword s k) && all_limited (forms s k)

plan_sound : (p : PlanSort) → every (λ k. sound (in_plan p) k) (plan_kinds p) ≡ true
unfolding every letters sound all_limited limited bytes_from bytes same_keyword op_keyword plan_expr_keyword plan_keyword keyword plan_kinds sames
plan_sound plan = refl
plan_sound read_op = refl
plan_sound rel_spec = refl
plan_sound node_spec = refl
plan_sound plan_projection = refl
plan_sound agg_expr = refl
plan_sound order_key = refl
plan_sound path_element = refl
plan_sound mapped = refl
plan_sound plan_entry = refl
plan_sound plan_expr = refl

table_sound : (s : Sort) → every (λ k. sound s k) (kinds s) ≡ true
unfolding every letters sound all_limited limited bytes_from bytes same_keyword expr_keyword clause_keyword element_keyword keyword kinds sames
table_sound statement = refl
table_sound union_arm = refl
table_sound clause = refl
table_sound projection = refl
table_sound order_item = refl
table_sound pattern_part = refl
table_sound pattern_element = refl
table_sound name = refl
table_sound yield_item = refl
table_sound entry = refl
table_sound expr = refl
table_sound (in_plan p) = plan_sound p

-- no number of a record has more than 64 bits
pub forms_limited : (s : Sort) (k : Kind s) → all_limited (forms s k) ≡ true
unfolding sound
forms_limited s k = and_right (letters (keyword s k)) _ (passes s (λ j. sound s j) (table_sound s) k)

pub keyword_free : {sep : ℕ} → Separator sep → (s : Sort) (k : Kind s) → Free sep (keyword s k)
unfolding sound letters
keyword_free {sep} q s k = above_free minus sep (separator_low q) (keyword s k) (and_left _ (all_limited (forms s k)) (passes s (λ j. sound s j) (table_sound s) k))
