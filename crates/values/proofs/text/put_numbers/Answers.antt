-- `put_numbers` meets its contract: no number, and then one more each time. Assumes nothing.
use Rattle.values.proofs.Numbers.{none_put, one_more}
use Rattle.values.proofs.text.put_numbers.Goals as goal

pub loop-n-init : goal.loop-n-init
loop-n-init c = none_put _ c.args.numbers.now

pub loop-n-preserved : goal.loop-n-preserved
loop-n-preserved c = one_more _ _ _ c.loop-n-test.true c.loop-n.invariant c.put_byte.ensures c.put_decimal.ensures
