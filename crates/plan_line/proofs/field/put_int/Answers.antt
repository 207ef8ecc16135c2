-- `put_int` meets its contract. Assumes nothing.
use Rattle.plan_line.proofs.SignedLaws.{put_held, read_from}
use Rattle.output.specs.Writes.{◌⨾◌}
use Rattle.plan_line.specs.Row.{int_text}
use Rattle.plan_line.proofs.field.put_int.Goals as goal

pub returns : goal.returns
unfolding int_text
returns c =
    let is = read_from c.signed_of-n.ensures c.word-low.ensures c.word-high.ensures in
    c.put_keyword.ensures
    ⨾ (c.put_byte.ensures ⨾ put_held _ _ c.signed_of-n.type_inv is c.put_signed.ensures)
    ⨾ c.put_byte-2.ensures
