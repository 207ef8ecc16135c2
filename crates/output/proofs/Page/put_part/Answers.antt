-- `Page::put_part` meets its contract. Assumes nothing.
use Rattle.std.proofs.Common.{refl, arith}
use Rattle.output.specs.Writes.{counted, stored, replaced}
use Rattle.output.proofs.Page.put_part.Goals as goal
use Rattle.output.proofs.Page.put_part.Goals.{then-end-self, else-end-self}

pub returns : goal.returns
returns c =
    elim c.if-end-self.branch [
      | then-end-self w ↦ rw (w.self-is, w.store_part.ensures) (stored _ _ _ refl refl c.saturating_add-end.ensures (replaced c.args.s.now c.args.self.now.bytes.now c.args.self.now.out _ refl (omega arith)))
      | else-end-self w ↦ rw w.self-is (counted _ _ _ refl c.saturating_add-end.ensures w.if-end-self.false)
    ]
