-- `write_vars` meets its contract. Assumes nothing.
use Rattle.plan_writer.proofs.WholeLaws
use Rattle.plan_writer.proofs.write_vars.Goals as goal

pub loop-k-init : goal.loop-k-init
loop-k-init c = WholeLaws.no_vars

pub loop-k-preserved : goal.loop-k-preserved
loop-k-preserved c = WholeLaws.next_var_law c.loop-k-test.true c.loop-k.invariant c.variable-v.ensures c.put_row.ensures

pub returns : goal.returns
returns c = WholeLaws.all_vars c.loop-k-test.false c.loop-k.invariant
