-- `put_named` meets its contract. Assumes nothing.
use Rattle.output.specs.Writes.{◌⨾◌}
use Rattle.plan_line.specs.Row.{named_text}
use Rattle.plan_line.proofs.row.put_named.Goals as goal

pub returns : goal.returns
unfolding named_text
returns g c = c.put_keyword.ensures ⨾ (c.put_text.ensures ⨾ c.put_end.ensures)
