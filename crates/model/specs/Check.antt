-- The check of a resolved statement (`precheck_statement`, `check_pattern`, `check_expr` of lower.rs): the first record, in sheet order, that the lowering does not take. Assumes nothing: these are definitions.
use Rattle.std.specs.Prelude.{ℕ, List, [], ◌∷◌}
use Rattle.model.specs.Field.{Span, Fields}
use Rattle.model.specs.Kind.{Sort, Kind, Clause, PatternElement, Expr, statement, union_arm, clause, projection, order_item, pattern_part, pattern_element, name, yield_item, entry, expr, in_plan}
use Rattle.model.specs.Record.{Group, forms, clause_forms, element_forms, expr_forms, children}
use Rattle.model.specs.Tree.{Tree, Trees, Forest, node, []ᵗ, ◌∷ᵗ◌, end, ◌▸◌}
use Rattle.model.specs.Refusal.{Refusal}

-- fine; or what the record is refused with
pub data Verdict : Type 0 where
  fine : Verdict
  violated : Refusal → Verdict

unfoldable pub and_then : Verdict → Verdict → Verdict
and_then fine v = v
and_then (violated r) v = violated r

abbrev pub clause_span : (k : Clause) → Fields (clause_forms k) → Span
clause_span Clause.Match (_, (_, (span, _))) = span
clause_span Clause.Where (span, _) = span
clause_span Clause.With (_, (_, (_, (_, (_, (span, _)))))) = span
clause_span Clause.Return (_, (_, (_, (_, (_, (span, _)))))) = span
clause_span Clause.Unwind (_, (span, _)) = span
clause_span Clause.Call (_, (_, (_, (_, (span, _))))) = span
clause_span Clause.Write (span, _) = span

abbrev pub element_span : (k : PatternElement) → Fields (element_forms k) → Span
element_span PatternElement.Node (_, (_, (_, (span, _)))) = span
element_span PatternElement.Rel (_, (_, (_, (_, (_, (span, _)))))) = span

-- the span that is reported inside a record, under a span around it: a clause's and an element's own
abbrev pub span_in : (s : Sort) (k : Kind s) → Fields (forms s k) → Span → Span
span_in statement k f around = around
span_in union_arm k f around = around
span_in clause k f around = clause_span k f
span_in projection k f around = around
span_in order_item k f around = around
span_in pattern_part k f around = around
span_in pattern_element k f around = element_span k f
span_in name k f around = around
span_in yield_item k f around = around
span_in entry k f around = around
span_in expr k f around = around
span_in (in_plan p) k f around = around

unfoldable pub of_expr : (line : ℕ) (k : Expr) → Fields (expr_forms k) → Span → Verdict
of_expr line (Expr.Over h) f span = fine
of_expr line Expr.Var f span = fine
of_expr line Expr.Map f span = fine
of_expr line Expr.Call f span = fine
of_expr line Expr.PatternPredicate f span = fine
of_expr line Expr.ListPredicate f span = fine
of_expr line Expr.Unresolved (unresolved, _) span = violated (Refusal.UnresolvedName line span unresolved)
of_expr line Expr.Undesugared (kind, _) span = violated (Refusal.UndesugaredExpr line span kind)

-- a part has to begin with a node
unfoldable pub of_elements : {n : ℕ} → (line : ℕ) → Trees pattern_element n → Span → Verdict
of_elements line []ᵗ span = violated (Refusal.EmptyPatternPart line span)
of_elements line (node pattern_element l PatternElement.Node f kids ∷ᵗ ts) span = fine
of_elements line (node pattern_element l PatternElement.Rel f kids ∷ᵗ ts) span = violated (Refusal.EmptyPatternPart line span)

unfoldable pub of_part : {n : ℕ} → (line : ℕ) → Forest ((pattern_element, n) ∷ []) → Span → Verdict
of_part line (ts ▸ end) span = of_elements line ts span

-- what a record itself gives
unfoldable pub of_record : (s : Sort) (line : ℕ) (k : Kind s) (f : Fields (forms s k)) → Forest (children s k f) → Span → Verdict
of_record statement line k f kids span = fine
of_record union_arm line k f kids span = fine
of_record clause line k f kids span = fine
of_record projection line k f kids span = fine
of_record order_item line k f kids span = fine
of_record pattern_part line k (_, (_, (n, _))) kids span = of_part line kids span
of_record pattern_element line k f kids span = fine
of_record name line k f kids span = fine
of_record yield_item line k f kids span = fine
of_record entry line k f kids span = fine
of_record expr line k f kids span = of_expr line k f span
of_record (in_plan p) line k f kids span = fine

-- a record, then its children in sheet order: `check` of an expression is the Rust's check_expr, `check_of` of parts its check_pattern
unfoldable mutual
  pub check : {s : Sort} → Tree s → Span → Verdict
  check (node s line k f kids) span = and_then (of_record s line k f kids span) (check_in kids (span_in s k f span))

  pub check_of : {s : Sort} {n : ℕ} → Trees s n → Span → Verdict
  check_of []ᵗ span = fine
  check_of (t ∷ᵗ ts) span = and_then (check t span) (check_of ts span)

  pub check_in : {gs : List Group} → Forest gs → Span → Verdict
  check_in end span = fine
  check_in (ts ▸ f) span = and_then (check_of ts span) (check_in f span)

-- every record that can be refused stands in a clause, whose span replaces this one
unfoldable pub no_span : Span
no_span = record { start = 0; end = 0 }

unfoldable pub precheck_statement : Tree statement → Verdict
precheck_statement t = check t no_span
