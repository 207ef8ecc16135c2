-- `test_sides` meets its contract: both sheets are read, and then both are checked. Assumes nothing.
use Rattle.std.proofs.lemmas.Result.{err_from_is_err_and}
use Rattle.sides.proofs.Laws.{read_passed, read_failed, left_held, right_held, checked_at}
use Rattle.sides.proofs.test_sides.Goals as goal

pub returns-in_err-both_read-clause-tested : goal.returns-in_err-both_read-clause-tested
returns-in_err-both_read-clause-tested c =
    let p = err_from_is_err_and c.from_residual.result c.from_residual.ensures.1 in
    rw (p.1, p.2) (read_failed c.args.left.now c.args.right.now _ _ _ _ c.read_sheet-x.result c.read_sheet-y.result c.both_read.ensures c.read_sheet-x.ensures.reads c.read_sheet-y.ensures.reads c.in_err-both_read.was)

pub checks-requires : goal.checks-requires
checks-requires c = left_held c.args.left.now c.args.right.now _ _ _ _ c.shared.ensures (read_passed c.args.left.now c.args.right.now _ _ _ _ c.read_sheet-x.result c.read_sheet-y.result c.both_read.ensures c.read_sheet-x.ensures.reads c.read_sheet-y.ensures.reads c.in_ok-both_read.was)

pub checks-requires-2 : goal.checks-requires-2
checks-requires-2 c = right_held c.args.left.now c.args.right.now _ _ _ _ c.shared-2.ensures (read_passed c.args.left.now c.args.right.now _ _ _ _ c.read_sheet-x.result c.read_sheet-y.result c.both_read.ensures c.read_sheet-x.ensures.reads c.read_sheet-y.ensures.reads c.in_ok-both_read.was)

pub returns-clause-tested : goal.returns-clause-tested
returns-clause-tested c =
    let b = read_passed c.args.left.now c.args.right.now _ _ _ _ c.read_sheet-x.result c.read_sheet-y.result c.both_read.ensures c.read_sheet-x.ensures.reads c.read_sheet-y.ensures.reads c.in_ok-both_read.was in
    checked_at _ _ _ _ _ _ c.checks.result c.checks-2.result c.each.ensures c.shared.ensures c.shared-2.ensures b c.checks.ensures c.checks-2.ensures
