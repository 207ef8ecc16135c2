-- `join` meets its contract: the root, or the child at the end of the way down. Assumes nothing.
use Rattle.context.proofs.Tree
use Rattle.context.specs.Tables.{root, child}
use mathlib.Core.Path.{refl}
use borrow.Author.Rules.{rules}
use Rattle.context.proofs.index.join.Goals as goal

pub returns-then-k-eq0 : goal.returns-then-k-eq0
returns-then-k-eq0 c = root c.if-k-eq0.true refl

pub set_child-requires : goal.set_child-requires
set_child-requires c = (
  search rules,
  search rules,
  search rules,
  c.descend-end.ensures.end (Tree.not_met _ _ _ c.requires.id_value _ c.descend-end.ensures.way.low),
)

pub returns : goal.returns
returns c =
    child
    _
    _
    c.descend-end.ensures.way
    (c.descend-end.ensures.end (Tree.not_met _ _ _ c.requires.id_value _ c.descend-end.ensures.way.low))
    c.set_child.ensures
