-- What the check's answers mean: the verdicts of the definition. Assumes nothing: these are definitions.
use Rattle.std.specs.Prelude.{◌≡◌, Result, Ok, Err}
use Rattle.model.specs.Text.{Bytes}
use Rattle.model.specs.Field.{Span}
use Rattle.model.specs.Refusal.{Refusal}
use Rattle.model.specs.Check.{Verdict, fine, violated}
use Rattle.precheck.specs.declared.HirSpan.{HirSpan}
use Rattle.precheck.specs.declared.PlanLowerError.{PlanLowerError}
use Rattle.precheck.specs.declared.PlanLowerError.TheVariants.{UnresolvedName, UndesugaredExpr, EmptyPatternPart}

abbrev pub span_of : HirSpan → Span
span_of s = record { start = s.start; end = s.end }

-- the refusal that an error stands for; the code does not carry the name, which stands in the record of the line
abbrev pub error_of : PlanLowerError → (unresolved : Bytes) → Refusal
error_of (UnresolvedName line span) unresolved = Refusal.UnresolvedName line (span_of span) unresolved
error_of (UndesugaredExpr line span kind) unresolved = Refusal.UndesugaredExpr line (span_of span) kind
error_of (EmptyPatternPart line span) unresolved = Refusal.EmptyPatternPart line (span_of span)

-- the verdict is an error's, with some name
pub record Found (x : PlanLowerError) (v : Verdict) : Type 0 where
  pub unresolved : Bytes
  pub is : v ≡ violated (error_of x unresolved)

-- the verdict that an answer stands for
abbrev pub Says : Result (Unit {0}) PlanLowerError → Verdict → Type 0
Says (Ok _) v = v ≡ fine
Says (Err x) v = Found x v
