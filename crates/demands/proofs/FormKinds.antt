-- The kind of the form that a sheet is refused for with 7 is at most 3: so a pair's answer, which adds 10 or 20 to it, tells side and form. Assumes nothing: these are definitions, and laws with their proofs.
use Rattle.std.specs.Prelude.{[], ℕ, ◌≤◌, List, ◌∷◌}
use Rattle.model.specs.Text.{Bytes}
use Rattle.model.specs.Field.{Span, Fields}
use Rattle.model.specs.Kind.{Sort, Kind, Expr, PatternElement, statement, union_arm, clause, projection, order_item, pattern_part, pattern_element, name, yield_item, entry, expr, in_plan}
use Rattle.model.specs.Record.{rec, Group, forms, expr_forms, children}
use Rattle.model.specs.Tree.{[]ᵗ, Tree, Trees, Forest, node, ◌∷ᵗ◌, end, ◌▸◌, records, records_of, records_in}
use Rattle.model.specs.Refusal.{Refusal}
use Rattle.model.specs.Check.{Verdict, fine, violated, and_then, span_in, of_expr, of_elements, of_part, of_record, check, check_of, check_in, no_span, precheck_statement}
use Rattle.laws.specs.TextLaws.{Each, each_head, each_tail, each_left, each_right}
use Rattle.laws.specs.RecordLaws.{Fits, fits_rec}
use Rattle.demands.specs.Within.{limit}
use Rattle.demands.specs.PairDemand1.{max_form}

pub data Small : Verdict → Type 0 where
  nothing : Small fine
  unresolved : {line : ℕ} {s : Span} {x : Bytes} → Small (violated (Refusal.UnresolvedName line s x))
  undesugared : {line kind : ℕ} {s : Span} → kind ≤ max_form → Small (violated (Refusal.UndesugaredExpr line s kind))
  empty_part : {line : ℕ} {s : Span} → Small (violated (Refusal.EmptyPatternPart line s))

pub form_small : {line kind : ℕ} {s : Span} → Small (violated (Refusal.UndesugaredExpr line s kind)) → kind ≤ max_form
form_small (undesugared l) = l

small_then : {v w : Verdict} → Small v → Small w → Small (and_then v w)
unfolding and_then
small_then nothing h = h
small_then unresolved h = unresolved
small_then (undesugared l) h = undesugared l
small_then empty_part h = empty_part

small_expr : (line : ℕ) (k : Expr) (f : Fields (expr_forms k)) (s : Span) → Fits (rec expr k f) → Small (of_expr line k f s)
unfolding of_expr fits_rec
small_expr line (Expr.Over h) f s e = nothing
small_expr line Expr.Var f s e = nothing
small_expr line Expr.Map f s e = nothing
small_expr line Expr.Call f s e = nothing
small_expr line Expr.PatternPredicate f s e = nothing
small_expr line Expr.ListPredicate f s e = nothing
small_expr line Expr.Unresolved (x, _) s e = unresolved
small_expr line Expr.Undesugared (kind, rest) s e = undesugared (limit max_form kind [] rest e)

small_elements : {n : ℕ} (line : ℕ) (ts : Trees pattern_element n) (s : Span) → Small (of_elements line ts s)
unfolding of_elements
small_elements line []ᵗ s = empty_part
small_elements line (node pattern_element l PatternElement.Node f kids ∷ᵗ ts) s = nothing
small_elements line (node pattern_element l PatternElement.Rel f kids ∷ᵗ ts) s = empty_part

small_part : {n : ℕ} (line : ℕ) (kids : Forest ((pattern_element, n) ∷ [])) (s : Span) → Small (of_part line kids s)
unfolding of_part
small_part line (ts ▸ end) s = small_elements line ts s

small_record : (s : Sort) (line : ℕ) (k : Kind s) (f : Fields (forms s k)) (kids : Forest (children s k f)) (z : Span) → Fits (rec s k f) → Small (of_record s line k f kids z)
unfolding of_record
small_record statement line k f kids z e = nothing
small_record union_arm line k f kids z e = nothing
small_record clause line k f kids z e = nothing
small_record projection line k f kids z e = nothing
small_record order_item line k f kids z e = nothing
small_record pattern_part line k (_, (_, (n, _))) kids z e = small_part line kids z
small_record pattern_element line k f kids z e = nothing
small_record name line k f kids z e = nothing
small_record yield_item line k f kids z e = nothing
small_record entry line k f kids z e = nothing
small_record expr line k f kids z e = small_expr line k f z e
small_record (in_plan p) line k f kids z e = nothing

mutual
  unfolding check records

  small_check : {s : Sort} (t : Tree s) (z : Span) → Each Fits (records t) → Small (check t z)
  small_check (node s line k f kids) z h = small_then (small_record s line k f kids z (each_head h)) (small_check_in kids (span_in s k f z) (each_tail h))

  small_check_of : {s : Sort} {n : ℕ} (ts : Trees s n) (z : Span) → Each Fits (records_of ts) → Small (check_of ts z)
  small_check_of []ᵗ z h = nothing
  small_check_of (t ∷ᵗ ts) z h = small_then (small_check t z (each_left (records t) (records_of ts) h)) (small_check_of ts z (each_right (records t) (records_of ts) h))

  small_check_in : {gs : List Group} (f : Forest gs) (z : Span) → Each Fits (records_in f) → Small (check_in f z)
  small_check_in end z h = nothing
  small_check_in (ts ▸ f) z h = small_then (small_check_of ts z (each_left (records_of ts) (records_in f) h)) (small_check_in f z (each_right (records_of ts) (records_in f) h))

-- of a sheet that was read
pub small_verdict : (t : Tree statement) → Each Fits (records t) → Small (precheck_statement t)
unfolding precheck_statement
small_verdict t h = small_check t no_span h
