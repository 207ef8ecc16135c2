-- `store_digits` meets its contract. Assumes nothing.
use Rattle.std.proofs.Common.{arith}
use Rattle.output.proofs.Storing.{fill_start, fill_more, fill_all}
use Rattle.output.proofs.store_digits.Goals as goal

pub loop-k-init : goal.loop-k-init
loop-k-init c = fill_start _ _

pub loop-k-preserved : goal.loop-k-preserved
loop-k-preserved c = fill_more c.loop-k.k _ _ c.loop-k-test.true (omega arith) c.loop-k.invariant

pub returns : goal.returns
returns c = fill_all _ _ c.loop-k-test.false c.loop-k.invariant
