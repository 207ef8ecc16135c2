-- `lower_read` meets its contract: a fault of the sheet, or what the lowering and the writer give. Assumes nothing.
use Rattle.std.proofs.lemmas.Result.{err_from_is_err_and}
use Rattle.statement.specs.Tests.{passed_as, passed_held}
use Rattle.statement.specs.Lowering.{lower_failed, lower_passed}
use Rattle.statement.specs.Tables.{lowered}
use Rattle.statement.proofs.lowering.lower_read.Goals as goal

pub returns-in_err-test_sheet-clause-gives : goal.returns-in_err-test_sheet-clause-gives
returns-in_err-test_sheet-clause-gives c =
    let p = err_from_is_err_and c.from_residual.result c.from_residual.ensures.1 in
    rw (p.1, p.2) (lower_failed _ _ _ (rw c.in_err-test_sheet.was at c.test_sheet.ensures.tested))

pub write_lowered-requires : goal.write_lowered-requires
write_lowered-requires c = lowered (passed_held (passed_as c.shared-records.ensures (rw c.in_ok-test_sheet.was at c.test_sheet.ensures.tested))) c.lower-ctx.ensures.lowered

pub returns-clause-gives : goal.returns-clause-gives
returns-clause-gives c =
    let p = passed_as c.shared-records.ensures (rw c.in_ok-test_sheet.was at c.test_sheet.ensures.tested) in
    let R = c.lower-ctx.ensures.lowered.run p.tree p.held in
    lower_passed _ _ _ p.is c.write_lowered.result (c.write_lowered.ensures R.written _ R.rep)
