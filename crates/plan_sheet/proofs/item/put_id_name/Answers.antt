-- `put_id_name` meets its contract. Assumes nothing.
use Rattle.model.specs.Text.{behind, bytes, bytes_from}
use Rattle.output.specs.Writes.{◌⨾◌}
use Rattle.plan_line.specs.Row.{numbers_text, named_text}
use Rattle.plan_sheet.proofs.item.put_id_name.Goals as goal

pub returns : goal.returns
unfolding named_text numbers_text behind bytes bytes_from
returns c = c.put_keyword.ensures ⨾ c.put_part.ensures ⨾ rw c.from.ensures at c.put_decimal.ensures ⨾ c.put_byte.ensures
