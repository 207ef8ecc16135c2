-- `descend` meets its contract. The loop's invariant: the way down has come to variable p. Assumes nothing.
use Rattle.context.specs.Tables.{Descends}
use Prim.Native.Nat.{◌-◌}
use Rattle.context.proofs.index.descend.Given as goal

abbrev pub invariant-loop-p : goal.invariant-loop-p
invariant-loop-p l = Descends l.vars l.count l.id l.p l.bits

abbrev pub decreases-loop-p : goal.decreases-loop-p
decreases-loop-p l = l.count - l.p
