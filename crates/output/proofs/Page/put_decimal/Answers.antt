-- `Page::put_decimal` meets its contract. Assumes nothing.
use Rattle.std.proofs.Common.{refl, arith}
use Rattle.model.specs.Text.{decimal}
use Rattle.output.specs.Writes.{counted, stored, replaced}
use Rattle.output.specs.Wide.{counted_long}
use Rattle.output.proofs.Storing.{all_digits}
use Rattle.output.proofs.Page.put_decimal.Goals as goal
use Rattle.output.proofs.Page.put_decimal.Goals.{then-end-self, else-end-self}

pub returns : goal.returns
returns c =
    let long = counted_long c.digit_count-d.ensures in
    let p = c.args.self.now.bytes.now in
    let at = c.args.self.now.out in
    elim c.if-end-self.branch [
      | then-end-self w ↦
          rw (w.self-is, all_digits c.args.n p at c.digit_count-d.ensures (omega arith) w.store_digits.ensures)
          (stored _ _ _ refl long c.saturating_add-end.ensures (replaced (decimal c.args.n) p at _ long (omega arith)))
      | else-end-self w ↦ rw w.self-is (counted _ _ _ long c.saturating_add-end.ensures w.if-end-self.false)
    ]
