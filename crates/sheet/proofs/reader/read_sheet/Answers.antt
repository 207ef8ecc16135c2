-- `read_sheet` meets its contract. The loop's invariant: the slices are those that were lent, and what is left to read gives the whole answer. Assumes nothing.
use mathlib.Core.Path.{◌≡◌, refl}
use native.Mathlib.Omega.{arith}
use Rattle.sheet.specs.Dues.{topmost, none_due_is}
use Rattle.sheet.specs.Reader.{begin}
use Rattle.sheet.specs.Next.{next_unended}
use Rattle.sheet.proofs.reader.read_sheet.Goals as goal

pub loop-due-init : goal.loop-due-init
loop-due-init c = (record { first = refl; second = refl; first_long = refl; second_long = refl }, begin c.push.ensures (omega arith))

pub returns-then-last-at-clause-reads : goal.returns-then-last-at-clause-reads
returns-then-last-at-clause-reads c = next_unended _ c.loop-due.invariant.1 (topmost c.loop-due-test.true c.loop-due.due.stands) c.line.ensures (c.lines_end-last.ensures.none _ c.if-last-at.true)

pub loop-due-smaller : goal.loop-due-smaller
loop-due-smaller c = omega (arith, (c.in_ok-read_next.ensures.next _ c.loop-due.invariant.1).0, c.read_next.new.at.few)

pub returns-clause-reads : goal.returns-clause-reads
returns-clause-reads c = let none : c.loop-due.due.groups ≡ 0 = omega (arith, c.loop-due-test.false) in c.finish.ensures.is _ _ _ (rw (none_due_is _ _ none) at c.loop-due.invariant.1)
