-- `line::group::children_of` meets its contract. The loop's invariant: the groups so far and those that are left are all. Assumes nothing.
use Rattle.line.proofs.CountLaws.{Adding}
use Rattle.line.proofs.group.children_of.Given as goal

abbrev pub invariant-loop-g : goal.invariant-loop-g
invariant-loop-g l = Adding l.kind l.part l.g l.sum
