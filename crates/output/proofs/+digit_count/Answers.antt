-- `digit_count` meets its contract. Assumes nothing.
use Rattle.std.proofs.Common.{arith}
use Rattle.output.specs.Wide.{counted_more}
use Rattle.output.proofs.+digit_count.Goals as goal

pub returns-in-None : goal.returns-in-None
returns-in-None t c = counted_more c.in-None.ensures (omega (arith, c.ranges.n.fits)) c.digit_count.ensures
