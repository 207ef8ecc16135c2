-- `put_path` meets its contract. Assumes nothing.
use Rattle.plan_sheet.proofs.PathLaws
use Rattle.plan_sheet.proofs.DueLaws.{due_yet}
use Rattle.std.proofs.Math.Nat.{sub-zero, sub-add-eq}
use Rattle.std.proofs.Common.{refl}
use native.Mathlib.Omega.{arith}
use Rattle.plan_sheet.proofs.path.put_path.Goals as goal

pub loop-init : goal.loop-init
loop-init c = rw (sub-zero c.word-n.result) (PathLaws.walking (rw c.word-n.ensures c.requires.due))

pub invariant_of-element : goal.invariant_of-element
invariant_of-element c = record { stands = (PathLaws.element_starts (due_yet c.loop-test.true) c.loop.invariant.some).1 }

pub put_step-path-requires : goal.put_step-path-requires
put_step-path-requires c = record { in_rest = c.requires.notes.in_rest; near = c.requires.notes.near; low = c.loop.invariant.low }

pub skip-at-requires : goal.skip-at-requires
skip-at-requires c = (PathLaws.element_starts (due_yet c.loop-test.true) c.loop.invariant.some).0

pub loop-preserved : goal.loop-preserved
loop-preserved c =
    rw
    (sub-add-eq c.word-n.result c.loop.counter 1)
    (PathLaws.walk_on
    c.args.r.now.roomy
    (due_yet c.loop-test.true)
    c.loop.invariant
    refl
    c.put_step-path.ensures
    c.skip-at.ensures)

pub returns : goal.returns
returns c = rw c.word-n.ensures at (PathLaws.walk_done (omega arith) c.loop.invariant)
