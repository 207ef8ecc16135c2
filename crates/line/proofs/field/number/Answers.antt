-- `line::field::number` meets its contract. Assumes nothing.
use Rattle.line.proofs.WordLaws.{number_at}
use Rattle.line.proofs.field.number.Goals as goal

pub returns : goal.returns
returns c = number_at _ _ _ _ c.in_ok-n.ensures
