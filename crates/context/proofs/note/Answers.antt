-- `note` meets its contract. Assumes nothing.
use Rattle.context.proofs.Laws
use Rattle.context.proofs.note.Goals as goal

pub returns : goal.returns
returns c = Laws.notes _ _ _ (c.requires.0) (c.requires.1)
