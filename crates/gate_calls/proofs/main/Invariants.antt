-- `main` ends: what is left of the list gets shorter. Assumes nothing.
use Rattle.std.specs.Prelude.{length}
use Rattle.gate_calls.proofs.main.Given as goal

abbrev pub decreases-loop-case : goal.decreases-loop-case
decreases-loop-case l = length l.left
