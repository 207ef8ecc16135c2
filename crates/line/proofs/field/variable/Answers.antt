-- `line::field::variable` meets its contract. Assumes nothing.
use Rattle.line.proofs.WordLaws.{variable_at, variable_at_absent, variable_at_none}
use Rattle.line.proofs.field.variable.Goals as goal

pub returns-in_err-id : goal.returns-in_err-id
returns-in_err-id c = rw c.from_residual.ensures (variable_at_none _ _ c.in_err-id.ensures)

pub returns-in-Some : goal.returns-in-Some
returns-in-Some c = variable_at _ _ _ c.in_ok-id.ensures _ c.in-Some.is

pub returns-in-None : goal.returns-in-None
returns-in-None c = variable_at_absent _ _ _ c.in_ok-id.ensures c.in-None.is
