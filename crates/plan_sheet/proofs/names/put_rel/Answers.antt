-- `put_rel` meets its contract. Assumes nothing.
use Rattle.plan_line.specs.Row.{rel_text}
use Rattle.output.specs.Writes.{◌⨾◌}
use Rattle.plan_sheet.proofs.names.put_rel.Goals as goal

pub returns : goal.returns
unfolding rel_text
returns c =
    c.put_keyword.ensures
    ⨾ rw c.word-types.ensures at c.put_number.ensures
    ⨾ rw c.word-direction.ensures at c.put_number-2.ensures
    ⨾ rw c.text.ensures at c.put_text.ensures
    ⨾ rw c.word-props.ensures at c.put_number-3.ensures
    ⨾ c.put_byte.ensures
