-- `pair::write_sheet` meets its contract. Assumes nothing.
use Rattle.plan_writer.proofs.PairLaws
use Rattle.plan_writer.proofs.pair.write_sheet.Goals as goal

pub returns : goal.returns
returns c = PairLaws.pair_wrote c.put_row.ensures c.write_ops.ensures c.write_ops-2.ensures c.write_vars.ensures
