-- `record::number::gather` meets its contract. The loop's invariant: the digits left, behind the number so far, give the whole answer. Assumes nothing.
use mathlib.Core.Path.{◌≡◌}
use Prim.Native.Nat.{◌≤◌}
use lib.ListN.{drop}
use Rattle.record.specs.Number.{digits_on}
use Rattle.record.proofs.number.gather.Given as goal

abbrev pub invariant-loop-b : goal.invariant-loop-b
invariant-loop-b l = (l.v ≤ l.limit) × (digits_on l.limit l.v (drop l.b-index l.s) ≡ digits_on l.limit 0 l.s)
