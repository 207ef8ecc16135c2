-- `put_step` meets its contract. Assumes nothing.
use Rattle.plan_sheet.proofs.PathLaws
use Rattle.plan_sheet.proofs.path.put_step.Goals as goal

pub returns-then-kind-eq-NODE : goal.returns-then-kind-eq-NODE
returns-then-kind-eq-NODE c =
    rw
    c.kind-kind.ensures
    at
    (PathLaws.node_step_law
    c.args.rest.now
    c.args.base
    c.args.path
    c.if-kind-eq-NODE.true
    c.put_kept.ensures
    c.note_of-n.ensures
    c.put_row.ensures)
