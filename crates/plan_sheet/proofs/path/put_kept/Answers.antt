-- `put_kept` meets its contract. Assumes nothing.
use Rattle.plan_sheet.proofs.PathLaws
use Rattle.plan_sheet.proofs.path.put_kept.Goals as goal

pub returns-in_default : goal.returns-in_default
returns-in_default c = PathLaws.none_waits c.args.rest.now c.args.base c.args.path c.in_default.is

pub returns-then-path : goal.returns-then-path
returns-then-path c =
    PathLaws.kept
    c.args.rest.now
    c.args.base
    c.args.path
    c.in-Some.is
    c.if-path.true
    c.note_of-n.ensures
    c.put_row.ensures

pub returns-else-path : goal.returns-else-path
returns-else-path c = PathLaws.not_kept c.args.rest.now c.args.base c.args.path c.in-Some.is c.if-path.false
