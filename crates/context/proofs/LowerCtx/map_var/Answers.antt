-- `map_var` meets its contract: the number that is found, or that of a new variable. Assumes nothing.
use Rattle.context.proofs.Laws
use Rattle.context.proofs.LowerCtx.map_var.Goals as goal

pub returns-in-Some : goal.returns-in-Some
returns-in-Some c = Laws.old_var _ _ _ _ c.find.ensures c.in-Some.is
