-- `Page::put_signed` meets its contract. Assumes nothing.
use Rattle.output.proofs.Signed.{put_minus, put_plain}
use Rattle.output.proofs.Page.put_signed.Goals as goal
use Rattle.output.proofs.Page.put_signed.Goals.{then-n-lt0, else-n-lt0}

pub returns : goal.returns
returns c =
    elim c.if-n-lt0.branch [
      | then-n-lt0 w ↦ put_minus _ c.ranges.n w.if-n-lt0.true c.unsigned_abs-m.ensures.value w.put_byte.ensures (rw w.self-is at c.put_decimal.ensures)
      | else-n-lt0 w ↦ put_plain _ c.ranges.n w.if-n-lt0.false c.unsigned_abs-m.ensures.value (rw w.self-is at c.put_decimal.ensures)
    ]
