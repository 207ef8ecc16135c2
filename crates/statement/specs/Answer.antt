-- What the calls' answers mean: the six values of the refusal that has the same name and carries the same. Assumes nothing: these are definitions.
use Rattle.std.specs.Prelude.{◌≡◌, Bool, true, false, List, [], ◌∷◌, ℕ, ◌≤◌, length, Result, Ok, Err}
use Rattle.model.specs.Text.{Bytes}
use Rattle.model.specs.Refusal.{Refusal as Refuses, Answer as Values, accepted, values_of}
use Rattle.model.specs.Call.{short, work_words}
use Rattle.precheck.specs.Answer.{error_of}
use Rattle.precheck.specs.declared.PlanLowerError.{PlanLowerError}
use Rattle.sheet.specs.Reader.{refusal_of as read_refusal}
use Rattle.statement.specs.declared.Fault.{Fault}
use Rattle.statement.specs.declared.Refusal.{Refusal}

-- the refusal that a fault stands for; the code does not carry the name, which stands in the record of the line
abbrev pub fault_of : Fault → (unresolved : Bytes) → Refuses
fault_of Fault.LongSheet unresolved = Refuses.LongSheet
fault_of (Fault.Unread e) unresolved = read_refusal e
fault_of (Fault.Refused x) unresolved = error_of x unresolved

-- refusals 6 to 8, whatever the name is: no value tells it
abbrev pub error_answer : PlanLowerError → Values
error_answer x = values_of (error_of x [])

-- refusals 2 to 8, in the same way
abbrev pub fault_answer : Fault → Values
fault_answer f = values_of (fault_of f [])

-- all refusals of a call, where `of_sheet` has those of a sheet
abbrev pub refusal_answer : {F : Type 0} → (F → Values) → Refusal F → Values
refusal_answer of_sheet Refusal.ShortWork = values_of Refuses.ShortWork
refusal_answer of_sheet (Refusal.OfSheet f) = of_sheet f
refusal_answer of_sheet Refusal.PlanFull = values_of Refuses.PlanFull
refusal_answer of_sheet Refusal.NoRoom = values_of Refuses.NoRoom

-- and what is accepted
abbrev pub call_answer : {F : Type 0} → (F → Values) → Result ℕ (Refusal F) → Values
call_answer of_sheet (Ok n) = accepted n
call_answer of_sheet (Err r) = refusal_answer of_sheet r

-- the answer of a call with one sheet
abbrev pub answer_of : Result ℕ (Refusal Fault) → Values
answer_of x = call_answer fault_answer x

-- whether four slices are long enough
abbrev pub Long : List ℕ → List ℕ → List ℕ → List ℕ → Bool → Type 0
Long a b c d true = (work_words ≤ length a) × (work_words ≤ length b) × (work_words ≤ length c) × (work_words ≤ length d)
Long a b c d false = short (length a ∷ length b ∷ length c ∷ length d ∷ []) ≡ true
