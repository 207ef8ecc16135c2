-- `Page::put_tabbed` meets its contract. Assumes nothing.
use Rattle.std.proofs.Common.{◌∷◌, ◌+◌, refl, arith}
use Rattle.model.specs.Text.{tab, decimal}
use Rattle.output.specs.Writes.{counted, stored, replaced}
use Rattle.output.specs.Wide.{counted_long, one_digit}
use Rattle.output.proofs.Storing.{part_long, behind_tab}
use Rattle.output.proofs.Page.put_tabbed.Goals as goal
use Rattle.output.proofs.Page.put_tabbed.Goals.{then-end-self, else-end-self}

pub returns-then-n-lt-TWO_DIGITS : goal.returns-then-n-lt-TWO_DIGITS
returns-then-n-lt-TWO_DIGITS c = rw (one_digit _ c.if-n-lt-TWO_DIGITS.true) c.put_two.ensures

pub returns : goal.returns
returns c =
    let long = counted_long c.digit_count-width.ensures in
    let p = c.args.self.now.bytes.now in
    let at = c.args.self.now.out in
    let d = c.digit_count-width.result in
    elim c.if-end-self.branch [
      | then-end-self w ↦
          rw (w.self-is, behind_tab c.args.n d _ c.digit_count-width.ensures (part_long p at (d + 1) (omega arith)) w.store_digits.ensures)
          (stored _ _ _ refl (omega arith) c.saturating_add-end.ensures (replaced (tab ∷ decimal c.args.n) p at _ (omega arith) (omega arith)))
      | else-end-self w ↦ rw w.self-is (counted _ _ _ (omega arith) c.saturating_add-end.ensures w.if-end-self.false)
    ]
