-- `line::field::text` meets its contract. Assumes nothing.
use Rattle.line.proofs.NameLaws.{text_is}
use Rattle.line.proofs.field.text.Goals as goal

pub returns : goal.returns
returns c = text_is _ _ _ c.in_ok-end.ensures
