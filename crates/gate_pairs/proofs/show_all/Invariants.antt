-- `show_all` ends: what is left of the file gets shorter. Assumes nothing.
use Rattle.std.specs.Prelude.{length}
use Rattle.gate_pairs.proofs.show_all.Given as goal

abbrev pub decreases-loop-texts : goal.decreases-loop-texts
decreases-loop-texts g l = length l.pairs
