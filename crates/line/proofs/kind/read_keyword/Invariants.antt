-- `line::kind::read_keyword` meets its contract. The loop's invariant: the bytes passed are packed. Assumes nothing.
use Prim.Native.Nat.{◌+◌}
use Rattle.line.proofs.PackLaws.{Packing}
use Rattle.line.proofs.kind.read_keyword.Given as goal

abbrev pub invariant-loop-k : goal.invariant-loop-k
invariant-loop-k l = Packing l.c.bytes.now l.c.at l.v (l.c.at + l.k)
