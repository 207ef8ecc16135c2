-- `endpoint_var` meets its contract: the number by the id, or the next one. Assumes nothing.
use Rattle.context.proofs.Laws
use Rattle.context.proofs.LowerCtx.endpoint_var.Goals as goal

pub returns-in-Some : goal.returns-in-Some
returns-in-Some c = Laws.named_law _ _ _ _ _ _ _ c.in-Some.is c.number.ensures

pub returns-in-None : goal.returns-in-None
returns-in-None c = Laws.unnamed_law _ _ _ _ _ _ c.in-None.is c.fresh-r.ensures c.note.ensures
