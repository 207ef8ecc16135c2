-- `size_statement` meets its contract: test 1, and then the others. Assumes nothing.
use Rattle.std.proofs.Common.{arith}
use Rattle.std.proofs.lemmas.Result.{err_from_is_err_and}
use Rattle.statement.specs.Sizing.{is_long, is_short, enough, no_size, size_failed}
use Rattle.statement.proofs.Sizing.{size_fine}
use Rattle.statement.proofs.size_statement.Goals as goal

pub returns-then-not-long_enough-clause-sized : goal.returns-then-not-long_enough-clause-sized
returns-then-not-long_enough-clause-sized c = no_size _ _ (is_short _ _ c.long_enough.ensures c.if-not-long_enough.true)

pub invariant_of-test_sheet : goal.invariant_of-test_sheet
invariant_of-test_sheet c =
    let e = enough _ _ _ _ (is_long _ _ c.long_enough.ensures c.if-not-long_enough.false) in
    record { roomy = record { first = e.first; second = e.second } }

pub test_sheet-requires : goal.test_sheet-requires
test_sheet-requires c = (enough _ _ _ _ (is_long _ _ c.long_enough.ensures c.if-not-long_enough.false)).third

pub returns-in_err-n-clause-sized : goal.returns-in_err-n-clause-sized
returns-in_err-n-clause-sized c =
    let p = err_from_is_err_and c.from_residual.result c.from_residual.ensures.1 in
    rw (p.1, p.2) (size_failed _ _ (is_long _ _ c.long_enough.ensures c.if-not-long_enough.false) _ (rw c.in_err-n.was at c.test_sheet.ensures.tested))

pub overflow_mul-result : goal.overflow_mul-result
overflow_mul-result c = omega (arith, (rw c.in_ok-n.was at c.test_sheet.ensures.tested).few)

pub returns-clause-sized : goal.returns-clause-sized
returns-clause-sized c = size_fine _ (is_long _ _ c.long_enough.ensures c.if-not-long_enough.false) (rw c.in_ok-n.was at c.test_sheet.ensures.tested)
