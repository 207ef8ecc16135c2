-- `put_row` meets its contract. Assumes nothing.
use Rattle.output.specs.Writes.{◌⨾◌}
use Rattle.plan_line.specs.Row.{row_text}
use Rattle.plan_line.proofs.row.put_row.Goals as goal

pub returns : goal.returns
unfolding row_text
returns g c = c.put_keyword.ensures ⨾ c.put_end.ensures
