-- `line::field::float_words` meets its contract. Assumes nothing.
use Rattle.line.proofs.WordLaws.{float_is}
use Rattle.line.proofs.field.float_words.Goals as goal

pub returns : goal.returns
returns c = float_is _ _ c.in_ok-n.ensures _ c.halves.ensures
