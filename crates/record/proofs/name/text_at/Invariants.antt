-- `record::name::text_at` meets its contract. The loop's invariant: the bytes left come to what the whole name comes to. Assumes nothing.
use Prim.Native.Nat.{◌-◌}
use lib.ListN.{length}
use Rattle.record.proofs.NameLaws.{Naming}
use Rattle.record.proofs.name.text_at.Given as goal

abbrev pub invariant-loop-i : goal.invariant-loop-i
invariant-loop-i l = Naming l.c.bytes.now l.c.at l.i

abbrev pub decreases-loop-i : goal.decreases-loop-i
decreases-loop-i l = length l.c.bytes.now - l.i
