-- `put_procedure` meets its contract. Assumes nothing.
use Rattle.plan_line.specs.Row.{call_text}
use Rattle.output.specs.Writes.{◌⨾◌}
use Rattle.plan_sheet.proofs.clause.put_procedure.Goals as goal

pub returns : goal.returns
unfolding call_text
returns c =
    c.put_keyword.ensures
    ⨾ c.put_input.ensures
    ⨾ rw c.text.ensures at c.put_text.ensures
    ⨾ c.put_counts.ensures
