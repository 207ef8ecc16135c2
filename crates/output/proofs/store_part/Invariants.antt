-- The first i bytes are stored.
use Rattle.std.proofs.Common.{◌≡◌, take}
use Rattle.output.proofs.store_part.Given as goal

abbrev pub invariant-loop-i : goal.invariant-loop-i
invariant-loop-i l = take l.i l.part ≡ take l.i l.s
