-- What trees come to in the plan, read off the numbers that are noted at their records: a note is kept by the record's line, and a pattern's copy is of the operator noted at it. Assumes nothing: these are definitions.
use Rattle.std.specs.Prelude.{ℕ, ◌≤◌, ◌<◌, Bool, true, false, cond, List, [], ◌∷◌, ◌++◌, Option, None, Some}
use Rattle.model.specs.Text.{Bytes}
use Rattle.model.specs.Field.{Fields}
use Rattle.model.specs.Kind.{Sort, Kind, PatternElement, Expr}
use Rattle.model.specs.Kind.{statement, union_arm, clause, projection, order_item, pattern_part, pattern_element, name, yield_item, entry, expr, in_plan}
use Rattle.model.specs.Kind.{rel_spec, node_spec, agg_expr, order_key, plan_entry}
use Rattle.model.specs.Record.{Rec, rec, Group, forms, expr_forms, element_forms, children}
use Rattle.model.specs.Tree.{Tree, Trees, Forest, node, []ᵗ, ◌∷ᵗ◌, end, ◌▸◌}
use Rattle.model.specs.Lower.{Recs, expr_head, item, alias_or, synthesise_alias, is_aggregate_func}

-- what is noted at a line: the number issued at its record, or a pattern's root operator
abbrev pub Notes : Type 0
Notes = ℕ → ℕ

-- operators by number
abbrev pub Ops : Type 0
Ops = ℕ → Recs

-- what stands behind an expression's first record, out of what its children come to: a pattern's is the copy of its operator
unfoldable pub expr_rest : Ops → (n : ℕ) → Expr → Recs → Recs
expr_rest A n (Expr.Over h) rs = rs
expr_rest A n Expr.Var rs = []
expr_rest A n Expr.Map rs = rs
expr_rest A n Expr.Call rs = rs
expr_rest A n Expr.PatternPredicate rs = A n
expr_rest A n Expr.ListPredicate rs = rs
expr_rest A n Expr.Unresolved rs = []
expr_rest A n Expr.Undesugared rs = []

-- an expression, over what its children come to
unfoldable pub expr_recs : Notes → Ops → (line : ℕ) (k : Expr) → Fields (expr_forms k) → Recs → Recs
expr_recs N A line k f rs = expr_head (N line) k f ∷ expr_rest A (N line) k rs

-- the name of an item without an alias
unfoldable pub name_of : Forest ((expr, 1) ∷ []) → Bytes
name_of ((e ∷ᵗ []ᵗ) ▸ end) = synthesise_alias e

-- a record, over what its children come to
unfoldable pub recs_over : Notes → Ops → (s : Sort) (line : ℕ) (k : Kind s) (f : Fields (forms s k)) → Forest (children s k f) → Recs → Recs
recs_over N A statement line k f kids rs = []
recs_over N A union_arm line k f kids rs = []
recs_over N A clause line k f kids rs = []
recs_over N A projection line k (alias, _) kids rs = item (alias_or alias (name_of kids)) rs
recs_over N A order_item line k (descending, _) kids rs = rec (in_plan order_key) tt (descending, tt) ∷ rs
recs_over N A pattern_part line k f kids rs = []
recs_over N A pattern_element line k f kids rs = []
recs_over N A name line k f kids rs = rec name k f ∷ []
recs_over N A yield_item line k (column, (id, _)) kids rs = rec yield_item tt (column, (N line, tt)) ∷ []
recs_over N A entry line k (key, _) kids rs = rec (in_plan plan_entry) tt (key, tt) ∷ rs
recs_over N A expr line k f kids rs = expr_recs N A line k f rs
recs_over N A (in_plan p) line k f kids rs = []

unfoldable mutual
  pub render : Notes → Ops → {s : Sort} → Tree s → Recs
  render N A (node s line k f kids) = recs_over N A s line k f kids (render_in N A kids)

  pub render_of : Notes → Ops → {s : Sort} {n : ℕ} → Trees s n → Recs
  render_of N A []ᵗ = []
  render_of N A (t ∷ᵗ ts) = render N A t ++ render_of N A ts

  pub render_in : Notes → Ops → {gs : List Group} → Forest gs → Recs
  render_in N A end = []
  render_in N A (ts ▸ f) = render_of N A ts ++ render_in N A f

-- every copy is of an operator from lo on and below hi
unfoldable pub copies_below : Notes → (lo hi : ℕ) → (line : ℕ) → Expr → Type 0 → Type 0
copies_below N lo hi line (Expr.Over h) inside = inside
copies_below N lo hi line Expr.Var inside = Unit {0}
copies_below N lo hi line Expr.Map inside = inside
copies_below N lo hi line Expr.Call inside = inside
copies_below N lo hi line Expr.PatternPredicate inside = (lo ≤ N line) × (N line < hi)
copies_below N lo hi line Expr.ListPredicate inside = inside
copies_below N lo hi line Expr.Unresolved inside = Unit {0}
copies_below N lo hi line Expr.Undesugared inside = Unit {0}

unfoldable pub below_in : Notes → (lo hi : ℕ) → (s : Sort) (line : ℕ) → Kind s → Type 0 → Type 0
below_in N lo hi statement line k inside = Unit {0}
below_in N lo hi union_arm line k inside = Unit {0}
below_in N lo hi clause line k inside = Unit {0}
below_in N lo hi projection line k inside = inside
below_in N lo hi order_item line k inside = inside
below_in N lo hi pattern_part line k inside = Unit {0}
below_in N lo hi pattern_element line k inside = Unit {0}
below_in N lo hi name line k inside = Unit {0}
below_in N lo hi yield_item line k inside = Unit {0}
below_in N lo hi entry line k inside = inside
below_in N lo hi expr line k inside = copies_below N lo hi line k inside
below_in N lo hi (in_plan p) line k inside = Unit {0}

unfoldable mutual
  pub Below : Notes → (lo hi : ℕ) → {s : Sort} → Tree s → Type 0
  Below N lo hi (node s line k f kids) = below_in N lo hi s line k (BelowIn N lo hi kids)

  pub BelowOf : Notes → (lo hi : ℕ) → {s : Sort} {n : ℕ} → Trees s n → Type 0
  BelowOf N lo hi []ᵗ = Unit {0}
  BelowOf N lo hi (t ∷ᵗ ts) = Below N lo hi t × BelowOf N lo hi ts

  pub BelowIn : Notes → (lo hi : ℕ) → {gs : List Group} → Forest gs → Type 0
  BelowIn N lo hi end = Unit {0}
  BelowIn N lo hi (ts ▸ f) = BelowOf N lo hi ts × BelowIn N lo hi f

-- ── pattern elements ──

unfoldable pub KidsBelow : Notes → (lo hi : ℕ) → {s : Sort} → Tree s → Type 0
KidsBelow N lo hi (node s line k f kids) = BelowIn N lo hi kids

-- `rel` without variable or span, and `to`
unfoldable pub spec_rec : (k : PatternElement) → Fields (element_forms k) → Rec
spec_rec PatternElement.Node (bind, (n, (p, _))) = rec (in_plan node_spec) tt (n, (p, tt))
spec_rec PatternElement.Rel (bind, (n, (direction, (length, (p, _))))) = rec (in_plan rel_spec) tt (n, (direction, (length, (p, tt))))

unfoldable pub spec_recs : Notes → Ops → Tree pattern_element → Recs
spec_recs N A (node pattern_element line k f kids) = spec_rec k f ∷ render_in N A kids

-- the numbers of a path: every node's, and a rel's where a node stands before it and the next element is a node
unfoldable pub kept_rel : Notes → Bool → Option ℕ → List ℕ
kept_rel N seen None = []
kept_rel N false (Some line) = []
kept_rel N true (Some line) = N line ∷ []

unfoldable pub kept_from : Notes → Bool → Option ℕ → {n : ℕ} → Trees pattern_element n → List ℕ
kept_from N seen waits []ᵗ = []
kept_from N seen waits (node pattern_element line PatternElement.Node f kids ∷ᵗ ts) = kept_rel N seen waits ++ (N line ∷ kept_from N true None ts)
kept_from N seen waits (node pattern_element line PatternElement.Rel f kids ∷ᵗ ts) = kept_from N seen (Some line) ts

-- ── the items of a `return`, parted into keys and aggregates ──

abbrev pub item_expr : Tree projection → Tree expr
item_expr (node projection line k f ((e ∷ᵗ []ᵗ) ▸ end)) = e

-- a call of an aggregating function
unfoldable pub is_aggregate : Tree expr → Bool
is_aggregate (node expr line (Expr.Over h) f kids) = false
is_aggregate (node expr line Expr.Var f kids) = false
is_aggregate (node expr line Expr.Map f kids) = false
is_aggregate (node expr line Expr.Call (func, _) kids) = is_aggregate_func func
is_aggregate (node expr line Expr.PatternPredicate f kids) = false
is_aggregate (node expr line Expr.ListPredicate f kids) = false
is_aggregate (node expr line Expr.Unresolved f kids) = false
is_aggregate (node expr line Expr.Undesugared f kids) = false

-- an aggregate, whose arguments alone are expressions
unfoldable pub agg_of : Notes → Ops → Tree expr → Recs
agg_of N A (node expr line (Expr.Over h) f kids) = []
agg_of N A (node expr line Expr.Var f kids) = []
agg_of N A (node expr line Expr.Map f kids) = []
agg_of N A (node expr line Expr.Call (func, (n, (distinct, _))) (args ▸ end)) = rec (in_plan agg_expr) tt (func, (n, (distinct, tt))) ∷ render_of N A args
agg_of N A (node expr line Expr.PatternPredicate f kids) = []
agg_of N A (node expr line Expr.ListPredicate f kids) = []
agg_of N A (node expr line Expr.Unresolved f kids) = []
agg_of N A (node expr line Expr.Undesugared f kids) = []

unfoldable pub key_recs : Notes → Ops → {n : ℕ} → Trees projection n → Recs
key_recs N A []ᵗ = []
key_recs N A (p ∷ᵗ ps) = cond (is_aggregate (item_expr p)) [] (render N A (item_expr p)) ++ key_recs N A ps

unfoldable pub agg_recs : Notes → Ops → {n : ℕ} → Trees projection n → Recs
agg_recs N A []ᵗ = []
agg_recs N A (p ∷ᵗ ps) = cond (is_aggregate (item_expr p)) (agg_of N A (item_expr p)) [] ++ agg_recs N A ps
