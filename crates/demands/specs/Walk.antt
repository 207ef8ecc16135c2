-- What the check's walk meets, said on the lines of a sheet alone, without the check: document 01's section 'The check'. Assumes nothing: these are definitions.
use Rattle.std.specs.Prelude.{◌≡◌, ℕ, zero, suc, Bool, true, false, cond, List, [], ◌∷◌, ◌++◌, Option, None, Some}
use Rattle.model.specs.Text.{Bytes}
use Rattle.model.specs.Field.{Form, num, flag, var, var_or_absent, num_or_absent, number_or_absent, int, float, text, alias, span, Fields, Span}
use Rattle.model.specs.Field as Field
use Rattle.model.specs.Kind.{Sort, Kind, PatternElement, Expr, statement, union_arm, clause, projection, order_item, pattern_part, pattern_element, name, yield_item, entry, expr, in_plan}
use Rattle.model.specs.Record.{Rec, rec, Group, forms, clause_forms, element_forms, expr_forms}
use Rattle.model.specs.Tree.{Tree, Trees, Forest, node, []ᵗ, ◌∷ᵗ◌, end, ◌▸◌}
use Rattle.model.specs.Refusal.{Refusal}
use Rattle.model.specs.Check.{Verdict, fine, violated}

-- ── the lines of a sheet ──

-- a line: its record, and the records that it stands in, the nearest first
pub record Line : Type 0 where
  pub this : Rec
  pub above : List Rec

-- the lines of a tree that stands in `above`, in sheet order
unfoldable mutual
  pub lines : {s : Sort} → List Rec → Tree s → List Line
  lines above (node s line k f kids) = record { this = rec s k f; above = above } ∷ lines_in (rec s k f ∷ above) kids

  pub lines_of : {s : Sort} {n : ℕ} → List Rec → Trees s n → List Line
  lines_of above []ᵗ = []
  lines_of above (t ∷ᵗ ts) = lines above t ++ lines_of above ts

  pub lines_in : {gs : List Group} → List Rec → Forest gs → List Line
  lines_in above end = []
  lines_in above (ts ▸ f) = lines_of above ts ++ lines_in above f

-- ── what the walk meets ──

-- which of the three it is, with what its record says
pub data Fault : Type 0 where
  UnresolvedName : (name : Bytes) → Fault
  UndesugaredExpr : (kind : ℕ) → Fault
  EmptyPatternPart : Fault

-- what it is refused with, at a line and with a span
abbrev pub refusal_at : (line : ℕ) → Span → Fault → Refusal
refusal_at line s (Fault.UnresolvedName x) = Refusal.UnresolvedName line s x
refusal_at line s (Fault.UndesugaredExpr kind) = Refusal.UndesugaredExpr line s kind
refusal_at line s Fault.EmptyPatternPart = Refusal.EmptyPatternPart line s

-- `unres` and `undes`
unfoldable pub expr_fault : (k : Expr) → Fields (expr_forms k) → Option Fault
expr_fault (Expr.Over h) f = None
expr_fault Expr.Var f = None
expr_fault Expr.Map f = None
expr_fault Expr.Call f = None
expr_fault Expr.PatternPredicate f = None
expr_fault Expr.ListPredicate f = None
expr_fault Expr.Unresolved (x, _) = Some (Fault.UnresolvedName x)
expr_fault Expr.Undesugared (kind, _) = Some (Fault.UndesugaredExpr kind)

unfoldable pub is_rel : (s : Sort) → Kind s → Bool
is_rel statement k = false
is_rel union_arm k = false
is_rel clause k = false
is_rel projection k = false
is_rel order_item k = false
is_rel pattern_part k = false
is_rel pattern_element PatternElement.Node = false
is_rel pattern_element PatternElement.Rel = true
is_rel name k = false
is_rel yield_item k = false
is_rel entry k = false
is_rel expr k = false
is_rel (in_plan p) k = false

-- the next line is a `rel`
unfoldable pub rel_next : List Line → Bool
rel_next [] = false
rel_next (l ∷ ls) = is_rel l.this.sort l.this.kind

-- a `part` with no elements, or with a `rel` on the next line
unfoldable pub part_fault : (elements : ℕ) → List Line → Option Fault
part_fault zero behind = Some Fault.EmptyPatternPart
part_fault (suc n) behind = cond (rel_next behind) (Some Fault.EmptyPatternPart) None

-- what a line is, by its record and the line behind it
unfoldable pub fault_of : (s : Sort) (k : Kind s) → Fields (forms s k) → List Line → Option Fault
fault_of statement k f behind = None
fault_of union_arm k f behind = None
fault_of clause k f behind = None
fault_of projection k f behind = None
fault_of order_item k f behind = None
fault_of pattern_part k (_, (_, (elements, _))) behind = part_fault elements behind
fault_of pattern_element k f behind = None
fault_of name k f behind = None
fault_of yield_item k f behind = None
fault_of entry k f behind = None
fault_of expr k f behind = expr_fault k f
fault_of (in_plan p) k f behind = None

unfoldable pub fault_at : Line → List Line → Option Fault
fault_at l behind = fault_of l.this.sort l.this.kind l.this.fields behind

-- the walk meets one of the three
pub data Meets : List Line → Type 0 where
  here : {l : Line} {ls : List Line} {x : Fault} → fault_at l ls ≡ Some x → Meets (l ∷ ls)
  later : {l : Line} {ls : List Line} → Meets ls → Meets (l ∷ ls)

-- ── the span ──

-- the span among the fields of a record, where it has one
unfoldable pub span_field : (fs : List Form) → Fields fs → Option Span
span_field [] _ = None
span_field (num l ∷ fs) (v, vs) = span_field fs vs
span_field (flag ∷ fs) (v, vs) = span_field fs vs
span_field (var ∷ fs) (v, vs) = span_field fs vs
span_field (var_or_absent ∷ fs) (v, vs) = span_field fs vs
span_field (num_or_absent l ∷ fs) (v, vs) = span_field fs vs
span_field (Field.number n ∷ fs) (v, vs) = span_field fs vs
span_field (number_or_absent n ∷ fs) (v, vs) = span_field fs vs
span_field (int ∷ fs) (v, vs) = span_field fs vs
span_field (float ∷ fs) (v, vs) = span_field fs vs
span_field (text ∷ fs) (v, vs) = span_field fs vs
span_field (alias ∷ fs) (v, vs) = span_field fs vs
span_field (span ∷ fs) (v, vs) = Some v
span_field (Field.length ∷ fs) (v, vs) = span_field fs vs

-- a clause, a node and a rel have a span of their own for what stands in them: in a node or rel that is its props
unfoldable pub own_span : (s : Sort) (k : Kind s) → Fields (forms s k) → Option Span
own_span statement k f = None
own_span union_arm k f = None
own_span clause k f = span_field (clause_forms k) f
own_span projection k f = None
own_span order_item k f = None
own_span pattern_part k f = None
own_span pattern_element k f = span_field (element_forms k) f
own_span name k f = None
own_span yield_item k f = None
own_span entry k f = None
own_span expr k f = None
own_span (in_plan p) k f = None

unfoldable pub or_span : Option Span → Span → Span
or_span None s = s
or_span (Some own) s = own

-- The span that is reported at a line: that of the nearest clause, node or rel that it stands in. So a pattern inside an expression keeps the span around it. `outside` is for a line that stands in none; the theorem holds whatever it is, so no such line is reported.
unfoldable pub span_at : (outside : Span) → (above : List Rec) → Span
span_at outside [] = outside
span_at outside (r ∷ rs) = or_span (own_span r.sort r.kind r.fields) (span_at outside rs)

-- ── the first met ──

unfoldable pub report_or : (line : ℕ) → Span → Option Fault → Verdict → Verdict
report_or line s None behind = behind
report_or line s (Some x) behind = violated (refusal_at line s x)

-- the first of some lines, the first of which has the number n, that is a fault
unfoldable pub first_fault : (outside : Span) (n : ℕ) → List Line → Verdict
first_fault outside n [] = fine
first_fault outside n (l ∷ ls) = report_or n (span_at outside l.above) (fault_at l ls) (first_fault outside (suc n) ls)
