-- `test_sheet` meets its contract: test 2, the reader's answer, the check's, or what passed them all. Assumes nothing.
use Rattle.std.proofs.lemmas.Result.{err_from_is_err_and}
use Rattle.precheck.proofs.Laws.{handed_on}
use Rattle.statement.specs.Tests.{not_long, long_fails, unread_fails, check_fails, all_pass}
use Rattle.statement.specs.Sizing.{held_as}
use Rattle.statement.proofs.test_sheet.Goals as goal

pub returns-in_err-test_bytes-clause-tested : goal.returns-in_err-test_bytes-clause-tested
returns-in_err-test_bytes-clause-tested c = rw (handed_on c.from_residual.ensures.1) (long_fails _ c.test_bytes.ensures c.in_err-test_bytes.was)

pub returns-in_err-n-clause-tested : goal.returns-in_err-n-clause-tested
returns-in_err-n-clause-tested c =
    let p = err_from_is_err_and c.from_residual-in_err-n.result c.from_residual-in_err-n.ensures.1 in
    rw (p.1, p.2) (unread_fails _ (not_long _ c.test_bytes.ensures c.in_ok-test_bytes.was) _ (rw c.in_err-n.was at c.read_sheet.ensures.reads))

pub returns-in_err-precheck_statement-clause-tested : goal.returns-in_err-precheck_statement-clause-tested
returns-in_err-precheck_statement-clause-tested c =
    let p = err_from_is_err_and c.from_residual-in_err-precheck_statement.result c.from_residual-in_err-precheck_statement.ensures.1 in
    let d = rw c.in_ok-n.was at c.read_sheet.ensures.reads in
    rw (p.1, p.2) (check_fails _ (not_long _ c.test_bytes.ensures c.in_ok-test_bytes.was) d.1 _ (rw c.in_err-precheck_statement.was at (c.precheck_statement.ensures _ d.0 (held_as _ d c.shared.ensures))))

pub returns-clause-tested : goal.returns-clause-tested
returns-clause-tested c =
    let d = rw c.in_ok-n.was at c.read_sheet.ensures.reads in
    all_pass _ (not_long _ c.test_bytes.ensures c.in_ok-test_bytes.was) d (rw c.in_ok-precheck_statement.was at (c.precheck_statement.ensures _ d.0 (held_as _ d c.shared.ensures)))
