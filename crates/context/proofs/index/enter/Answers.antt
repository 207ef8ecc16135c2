-- `enter` meets its contract: joined, with no child of its own; or beyond the index. Assumes nothing.
use Rattle.context.proofs.Tree
use native.Mathlib.Omega.{arith}
use Rattle.context.proofs.index.enter.Goals as goal

pub returns-then-k-ge-MAX_INDEXED : goal.returns-then-k-ge-MAX_INDEXED
returns-then-k-ge-MAX_INDEXED c = Tree.entered_full _ _ _ c.requires.index_held.index c.if-k-ge-MAX_INDEXED.true

pub returns : goal.returns
returns c = Tree.entered_room _ _ _ c.requires.index_held.index (omega arith) c.requires.index_held.long c.requires.id_value c.join.ensures
