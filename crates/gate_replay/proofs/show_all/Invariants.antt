-- `show_all` ends: what is left of the file gets shorter. Assumes nothing.
use Rattle.std.specs.Prelude.{length}
use Rattle.gate_replay.proofs.show_all.Given as goal

abbrev pub decreases-loop-left : goal.decreases-loop-left
decreases-loop-left g l = length l.left
