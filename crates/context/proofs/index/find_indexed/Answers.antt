-- `find_indexed` meets its contract: the variable at the end of the way down, if it has the id. Assumes nothing.
use Rattle.context.proofs.Tree
use Rattle.context.proofs.Laws
use Rattle.context.proofs.index.find_indexed.Goals as goal

pub returns-then-count-eq0 : goal.returns-then-count-eq0
returns-then-count-eq0 c = Laws.nothing _ _ _ c.if-count-eq0.true

pub returns-then-vars-p : goal.returns-then-vars-p
returns-then-vars-p c = Tree.found_not _ _ _ _ _ c.descend-end.ensures c.if-vars-p.true

pub returns : goal.returns
returns c = Tree.found_at _ _ _ _ _ c.descend-end.ensures c.if-vars-p.false
