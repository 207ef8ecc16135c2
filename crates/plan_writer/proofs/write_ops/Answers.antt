-- `write_ops` meets its contract. Assumes nothing.
use Rattle.plan_writer.proofs.WholeLaws
use Rattle.plan_writer.proofs.write_ops.Goals as goal

pub loop-k-init : goal.loop-k-init
loop-k-init c = WholeLaws.no_ops

pub write_op-requires : goal.write_op-requires
write_op-requires c = WholeLaws.plan_at c.loop-k.invariant.begun c.loop-k-test.true c.requires

pub loop-k-preserved : goal.loop-k-preserved
loop-k-preserved c = WholeLaws.one_more c.loop-k-test.true c.loop-k.invariant c.write_op.ensures

pub returns : goal.returns
returns c = WholeLaws.all_ops c.loop-k-test.false c.loop-k.invariant
