-- `put_end` meets its contract. Assumes nothing.
use Rattle.std.proofs.Common.{◌≤◌, arith, length, take_all}
use Rattle.output.specs.Writes.{◌⨾◌}
use Rattle.plan_line.proofs.RowLaws.{no_numbers, one_more}
use Rattle.plan_line.proofs.row.put_end.Goals as goal

pub loop-n-init : goal.loop-n-init
loop-n-init g c = no_numbers

pub loop-n-preserved : goal.loop-n-preserved
loop-n-preserved g c = one_more _ _ (omega arith) c.loop-n.invariant c.put_number.ensures

pub returns : goal.returns
returns g c =
    let all : length c.args.numbers ≤ c.loop-n.n-index = omega arith in
    rw (take_all c.loop-n.n-index c.args.numbers all) at c.loop-n.invariant ⨾ c.put_byte.ensures
