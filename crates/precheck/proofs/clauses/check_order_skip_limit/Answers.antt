-- `check_order_skip_limit` meets its contract: keys, then skip, then limit. Assumes nothing.
use Rattle.precheck.proofs.Checks.{walks_counted, counted_on, counted_stopped}
use Rattle.precheck.proofs.clauses.check_order_skip_limit.Goals as goal

pub returns-in_err-p : goal.returns-in_err-p
returns-in_err-p c = counted_stopped c.count-keys.ensures.0 c.from_residual.ensures.1 c.in_err-p.ensures

pub returns-in_err-q : goal.returns-in_err-q
returns-in_err-q c = counted_on c.count-keys.ensures.0 c.in_ok-p.ensures (counted_stopped c.count-skip.ensures.0 c.from_residual-in_err-q.ensures.1 c.in_err-q.ensures)

pub returns : goal.returns
returns c = counted_on c.count-keys.ensures.0 c.in_ok-p.ensures (counted_on c.count-skip.ensures.0 c.in_ok-q.ensures (walks_counted c.count-limit.ensures.0 c.check_exprs-3.ensures))
