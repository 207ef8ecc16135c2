-- `check_arms` meets its contract: the invariant says that what remains has the verdict of the whole. Assumes nothing.
use native.Mathlib.Omega.{arith}
use borrow.Author.Rules.{rules}
use Rattle.precheck.proofs.ClauseLaws.{as_arm}
use Rattle.precheck.proofs.Checks.{some_turned, walks_turned, next_standing}
use Rattle.precheck.proofs.Laws.{child, again, stop, done, stopped_as}
use Rattle.precheck.proofs.clauses.check_arms.Goals as goal

pub count-clauses-requires : goal.count-clauses-requires
count-clauses-requires c = ((next_standing c.args.r.now.roomy c.loop.invariant c.loop-test.true c.requires.there).low, search rules)

pub overflow_add-at : goal.overflow_add-at
overflow_add-at c = omega (arith, (next_standing c.args.r.now.roomy c.loop.invariant c.loop-test.true c.requires.there).low)

pub check_clauses-requires : goal.check_clauses-requires
check_clauses-requires c =
    record {
      deep = omega (arith, c.requires.deep);
      there = some_turned (as_arm c.args.r.now.roomy c.count-clauses.ensures.0) (child c.loop.invariant c.loop-test.true c.requires.there);
    }

pub returns-in_err-at : goal.returns-in_err-at
returns-in_err-at c = stopped_as c.from_residual.ensures.1 (stop c.loop.invariant c.loop-test.true (walks_turned (as_arm c.args.r.now.roomy c.count-clauses.ensures.0) c.in_err-at.ensures))

pub loop-preserved : goal.loop-preserved
loop-preserved c = again c.loop.invariant c.loop-test.true (walks_turned (as_arm c.args.r.now.roomy c.count-clauses.ensures.0) c.in_ok-at.ensures)

pub returns : goal.returns
returns c = done c.loop.invariant c.loop-test.false
