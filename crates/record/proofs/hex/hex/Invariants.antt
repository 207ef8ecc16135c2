-- `record::hex::hex` meets its contract. The loop's invariant: the digits left, behind the number so far, give the whole answer. Assumes nothing.
use mathlib.Core.Path.{◌≡◌}
use Prim.Native.Nat.{◌<◌, ◌^◌}
use lib.ListN.{drop}
use Rattle.record.specs.Hex.{hex_on}
use Rattle.record.proofs.hex.hex.Given as goal

abbrev pub invariant-loop-b : goal.invariant-loop-b
invariant-loop-b l = (l.v < 16 ^ l.b-index) × (hex_on l.v (drop l.b-index l.s) ≡ hex_on 0 l.s)
