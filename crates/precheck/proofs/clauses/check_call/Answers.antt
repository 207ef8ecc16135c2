-- `check_call` meets its contract: the arguments, then the yields, which are passed over by their count. Assumes nothing.
use Rattle.precheck.proofs.Checks.{counted_on, counted_stopped}
use Rattle.precheck.proofs.clauses.check_call.Goals as goal

pub returns-in_err-at : goal.returns-in_err-at
returns-in_err-at c = counted_stopped c.count-args.ensures.0 c.from_residual.ensures.1 c.in_err-at.ensures

pub returns : goal.returns
returns c =
    counted_on
    c.count-args.ensures.0
    c.in_ok-at.ensures
    (record { each = λ v e h. (h.0, rw c.count-yields.ensures.0 h.1) })
