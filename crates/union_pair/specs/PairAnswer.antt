-- What the answers of the call with two sheets mean: the six values of the refusal that has the same name and carries the same, and of its side. Assumes nothing: these are definitions.
use Rattle.std.specs.Prelude.{[], ℕ, Result}
use Rattle.model.specs.Refusal.{Answer as Values}
use Rattle.model.specs.Side.{side_values}
use Rattle.statement.specs.declared.Refusal.{Refusal}
use Rattle.statement.specs.Answer.{call_answer}
use Rattle.sides.specs.declared.SideFault.{SideFault}
use Rattle.sides.specs.Fault.{on_side_of}

-- the values of a side's fault, whatever the name is: no value tells it
abbrev pub fault_values : SideFault → Values
fault_values f = side_values (on_side_of f [])

abbrev pub pair_answer_of : Result ℕ (Refusal SideFault) → Values
pair_answer_of x = call_answer fault_values x
