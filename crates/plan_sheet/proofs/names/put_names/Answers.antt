-- `put_names` meets its contract. Assumes nothing.
use Rattle.plan_sheet.proofs.NameLaws
use Rattle.plan_sheet.proofs.DueLaws.{due_yet}
use Rattle.std.proofs.Math.Nat.{add-sub_cancel_left, sub-add-eq}
use Rattle.std.proofs.Common.{refl}
use native.Mathlib.Omega.{arith}
use Rattle.plan_sheet.proofs.names.put_names.Goals as goal

pub overflow_add-next : goal.overflow_add-next
overflow_add-next c = omega (arith, NameLaws.names_end c.requires)

pub loop-at-init : goal.loop-at-init
loop-at-init c = rw (add-sub_cancel_left c.args.i c.args.n) (NameLaws.names_going c.requires)

pub put_copied-requires : goal.put_copied-requires
put_copied-requires c = NameLaws.first_record c.args.r.now.roomy (due_yet c.loop-at-test.true) c.loop-at.invariant.some

pub loop-at-preserved : goal.loop-at-preserved
loop-at-preserved c =
    rw
    (sub-add-eq _ c.loop-at.at 1)
    (NameLaws.names_again
    c.args.r.now.roomy
    (due_yet c.loop-at-test.true)
    c.loop-at.invariant
    c.put_copied.ensures)

pub returns : goal.returns
returns c = λ h. (refl, (NameLaws.names_done (omega arith) c.loop-at.invariant h).1)
