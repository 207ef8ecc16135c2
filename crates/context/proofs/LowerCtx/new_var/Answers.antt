-- `new_var` meets its contract: the variable stands behind the others, and in the index. Assumes nothing.
use Rattle.context.proofs.Adding
use Rattle.context.proofs.LowerCtx.new_var.Goals as goal

pub returns : goal.returns
returns c = Adding.new_var _ _ _ _ c.requires.can_map.met c.requires.can_map.held.long c.enter.ensures c.requires.id_value
