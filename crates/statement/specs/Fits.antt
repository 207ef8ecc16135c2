-- The length that an accepted plan is answered with lies within the slice. Assumes nothing.
use Rattle.std.specs.Prelude.{◌≡◌, refl, Bool, true, false, cond, List, ◌++◌, ℕ, ◌≤◌, ltb, length, drop}
use Rattle.std.proofs.Common.{ap, arith, length-append}
use Rattle.model.specs.Text.{Bytes}
use Rattle.model.specs.Lower.{LowerCtx}
use Rattle.model.specs.Plan.{plan_sheet}
use Rattle.model.specs.Refusal.{Refusal, Answer, accepted, values_of}
use Rattle.model.specs.Call.{Test, refuse, pass, planned, Outcome, written, outcome, lower_call, max_depth}

-- a refusal tells no length
no_length : (r : Refusal) → (values_of r).length ≡ 0
no_length Refusal.ShortWork = refl
no_length Refusal.LongSheet = refl
no_length (Refusal.BadLine line) = refl
no_length (Refusal.BigTree line) = refl
no_length (Refusal.WriteClause line) = refl
no_length (Refusal.UnresolvedName line span name) = refl
no_length (Refusal.UndesugaredExpr line span kind) = refl
no_length (Refusal.EmptyPatternPart line span) = refl
no_length Refusal.PlanFull = refl
no_length Refusal.NoRoom = refl

-- what is written, or refused with 10
abbrev either : Bool → (text slice : Bytes) → Outcome
either t text slice = cond t (record { answer = values_of Refusal.NoRoom; slice = slice }) (record { answer = accepted (length text); slice = text ++ drop (length text) slice })

either_fits : (t : Bool) (text slice : Bytes) → (either t text slice).answer.length ≤ length (either t text slice).slice
either_fits true text slice = omega arith
either_fits false text slice = omega (arith, length-append text (drop (length text) slice))

written_fits : (text slice : Bytes) → (written text slice).answer.length ≤ length (written text slice).slice
unfolding written
written_fits text slice = either_fits (ltb (length slice) (length text)) text slice

outcome_fits : (slice : Bytes) (m : Test LowerCtx) → (outcome slice m).answer.length ≤ length (outcome slice m).slice
unfolding outcome
outcome_fits slice (refuse r) = omega (arith, no_length r)
outcome_fits slice (pass c) = written_fits (plan_sheet c) slice

pub length_fits : (work : List ℕ) (sheet slice : Bytes) → (lower_call work sheet slice).answer.length ≤ length (lower_call work sheet slice).slice
unfolding lower_call
length_fits work sheet slice = outcome_fits slice (planned max_depth work sheet)

-- the same of what a call has answered and left
pub answer_fits : (work : List ℕ) (sheet slice slice' : Bytes) (a : Answer) → record { answer = a; slice = slice' } ≡ lower_call work sheet slice → a.length ≤ length slice'
answer_fits work sheet slice slice' a e =
    let l = ap (λ (o : Outcome). o.answer.length) e in
    let s = ap (λ (o : Outcome). length o.slice) e in
    omega (arith, l, s, length_fits work sheet slice)
