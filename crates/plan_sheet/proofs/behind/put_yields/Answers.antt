-- `put_yields` meets its contract. Assumes nothing.
use Rattle.plan_sheet.proofs.BehindLaws
use Rattle.plan_sheet.proofs.DueLaws.{due_yet}
use Rattle.std.proofs.Math.Nat.{add-sub_cancel_left, sub-add-eq}
use native.Mathlib.Omega.{arith}
use Rattle.plan_sheet.proofs.behind.put_yields.Goals as goal

pub loop-at-init : goal.loop-at-init
loop-at-init c = rw (add-sub_cancel_left c.args.i c.count-n.result) (BehindLaws.yields_going (rw c.count-n.ensures.0 c.requires.due))

pub text-requires : goal.text-requires
text-requires c = record { words = omega arith; text_in = BehindLaws.yield_in c.args.r.now.roomy (due_yet c.loop-at-test.true) c.loop-at.invariant.some }

pub loop-at-preserved : goal.loop-at-preserved
loop-at-preserved c =
    rw
    (sub-add-eq _ c.loop-at.at 1)
    (BehindLaws.yields_again
    c.args.r.now.roomy
    (due_yet c.loop-at-test.true)
    c.loop-at.invariant
    c.note_of-number.ensures
    (rw c.text.ensures at c.put_named.ensures))

pub returns : goal.returns
returns c = rw c.count-n.ensures.0 at (BehindLaws.yields_done (omega arith) c.loop-at.invariant)
