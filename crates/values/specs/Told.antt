-- The struct of an answer's values as the model's answer, and what a side's fault is told by. Assumes nothing.
use Rattle.std.specs.Prelude.{◌≡◌, ℕ, ◌+◌, ◌*◌, List, [], ◌∷◌, Result, Ok, Err}
use Rattle.model.specs.Refusal.{Refusal as Refuses, Answer, accepted, values_of}
use Rattle.model.specs.Side.{side_step}
use Rattle.precheck.specs.declared.PlanLowerError.{PlanLowerError}
use Rattle.sides.specs.declared.Side.{Side}
use Rattle.sides.specs.Fault.{side_number}
use Rattle.statement.specs.declared.Fault.{Fault}
use Rattle.statement.specs.declared.Refusal.{Refusal}
use Rattle.values.specs.declared.Values.{Values}

abbrev pub told : Values → Answer
told v = record { number = v.number; line = v.line; start = v.start; end = v.end; kind = v.kind; length = v.length }

-- number, line, start, end, kind and length
abbrev pub words_of : Answer → List ℕ
words_of a = a.number ∷ a.line ∷ a.start ∷ a.end ∷ a.kind ∷ a.length ∷ []

-- the kind of a side's fault
abbrev pub kind_on : Side → Fault → ℕ
kind_on side Fault.LongSheet = side_number side
kind_on side (Fault.Unread e) = side_number side
kind_on side (Fault.Refused (PlanLowerError.UnresolvedName line span)) = side_number side
kind_on side (Fault.Refused (PlanLowerError.UndesugaredExpr line span kind)) = side_step * side_number side + kind
kind_on side (Fault.Refused (PlanLowerError.EmptyPatternPart line span)) = side_number side

-- the values of an answer, where OfSheet says which are those of what is wrong with a sheet
abbrev pub AnswerTold : {F : Type 0} → (F → Values → Type 0) → Result ℕ (Refusal F) → Values → Type 0
AnswerTold OfSheet (Ok n) v = told v ≡ accepted n
AnswerTold OfSheet (Err Refusal.ShortWork) v = told v ≡ values_of Refuses.ShortWork
AnswerTold OfSheet (Err (Refusal.OfSheet f)) v = OfSheet f v
AnswerTold OfSheet (Err Refusal.PlanFull) v = told v ≡ values_of Refuses.PlanFull
AnswerTold OfSheet (Err Refusal.NoRoom) v = told v ≡ values_of Refuses.NoRoom
