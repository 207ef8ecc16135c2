-- Demand 2: a well-formed read-only sheet is refused for its tree exactly if the check's walk meets an unresolved name, an undesugared form or a part that is empty or starts with a relationship, and the first met is reported; otherwise, within the limits, the plan is the defined one.
-- What the walk meets is said in Walk, on the sheet's lines. The theorem is `demand2`, in proofs/Demand2. Assumes nothing: these are definitions.
use Rattle.std.specs.Prelude.{◌≡◌, ◌↔◌, ◌≤◌, [], ◌++◌, map, length, drop}
use Rattle.model.specs.Text.{Bytes}
use Rattle.model.specs.Field.{Span}
use Rattle.model.specs.Kind.{statement}
use Rattle.model.specs.Tree.{Tree, records}
use Rattle.model.specs.Check.{Verdict, violated, precheck_statement}
use Rattle.model.specs.Lower.{LowerCtx, lower_statement}
use Rattle.model.specs.Plan.{plan_sheet}
use Rattle.model.specs.Refusal.{Refusal, Answer, values_of}
use Rattle.model.specs.Call.{Outcome, then, test_check, test_plan, outcome, max_plan}
use Rattle.demands.specs.Sheets.{answer}
use Rattle.demands.specs.Walk.{lines, Meets, first_fault}

-- ── the demand ──

-- refused for its tree: the numbers 6 to 8
pub record ForTree (a : Answer) : Type 0 where
  pub low : 6 ≤ a.number
  pub high : a.number ≤ 8

-- the limits of a plan: refusals 9 and 10
pub record WithinLimits (c : LowerCtx) (slice : Bytes) : Type 0 where
  pub operators : length c.ops ≤ max_plan
  pub numbers : c.scope.next_var ≤ max_plan
  pub room : length (plan_sheet c) ≤ length slice

-- its plan in the slice, and behind it what stood there
abbrev pub plan_in : Tree statement → Bytes → Outcome
plan_in t slice = record { answer = answer 0 0 0 0 0 (length (plan_sheet (lower_statement t))); slice = plan_sheet (lower_statement t) ++ drop (length (plan_sheet (lower_statement t))) slice }

-- of a call with a sheet whose tree is t
pub record Demand2 (t : Tree statement) (slice : Bytes) (o : Outcome) : Type 0 where
  -- the lines are the sheet's records, and their numbers are the places in that list, from 1
  pub sheet_lines : map (λ l. l.this) (lines [] t) ≡ records t
  -- the check's verdict is the first faulty line, with its span
  pub verdict : (outside : Span) → precheck_statement t ≡ first_fault outside 1 (lines [] t)
  -- refused for its tree exactly if the walk meets one of the three
  pub exactly : ForTree o.answer ↔ Meets (lines [] t)
  -- with the first met
  pub first_met : (outside : Span) {r : Refusal} → first_fault outside 1 (lines [] t) ≡ violated r → o ≡ record { answer = values_of r; slice = slice }
  -- otherwise, within the limits, the plan is the defined one
  pub otherwise : (Meets (lines [] t) → ⊥) → WithinLimits (lower_statement t) slice → o ≡ plan_in t slice

-- ── the calls ──

-- a call with a well-formed read-only sheet, behind the check
unfoldable pub behind_check : Tree statement → Bytes → Verdict → Outcome
behind_check t slice v = outcome slice (then (test_check t v) λ u. test_plan (lower_statement u))
