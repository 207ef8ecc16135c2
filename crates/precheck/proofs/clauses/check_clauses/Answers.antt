-- `check_clauses` meets its contract: the invariant says that what remains has the verdict of the whole. Assumes nothing.
use Rattle.precheck.proofs.Checks.{next_standing}
use Rattle.precheck.proofs.Laws.{again, stop, done, stopped_as}
use Rattle.precheck.proofs.clauses.check_clauses.Goals as goal

pub at-requires : goal.at-requires
at-requires c = (next_standing c.args.r.now.roomy c.loop.invariant c.loop-test.true c.requires.there).low

pub check_clause-requires : goal.check_clause-requires
check_clause-requires c = record { deep = c.requires.deep; there = rw (c.at.ensures.0, c.at.ensures.1) (next_standing c.args.r.now.roomy c.loop.invariant c.loop-test.true c.requires.there) }

pub returns-in_err-at : goal.returns-in_err-at
returns-in_err-at c = stopped_as c.from_residual.ensures.1 (stop c.loop.invariant c.loop-test.true (rw (c.at.ensures.0, c.at.ensures.1) at c.in_err-at.ensures))

pub loop-preserved : goal.loop-preserved
loop-preserved c = again c.loop.invariant c.loop-test.true (rw (c.at.ensures.0, c.at.ensures.1) at c.in_ok-at.ensures)

pub returns : goal.returns
returns c = done c.loop.invariant c.loop-test.false
