-- `record::number::gather_at` meets its contract. The loop's invariant: the digits left, behind the number so far, give the whole answer. Assumes nothing.
use Prim.Native.Nat.{◌+◌}
use Rattle.record.proofs.GatherLaws.{Digits}
use Rattle.record.proofs.number.gather_at.Given as goal

abbrev pub invariant-loop-k : goal.invariant-loop-k
invariant-loop-k l = Digits l.limit l.c.bytes.now l.c.at l.first l.v (l.c.at + l.k)
