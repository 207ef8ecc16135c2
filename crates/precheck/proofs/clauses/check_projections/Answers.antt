-- `check_projections` meets its contract: items, then filters, then the rest. Assumes nothing.
use Rattle.precheck.proofs.Checks.{counted_on, counted_stopped}
use Rattle.precheck.proofs.Laws.{then_walks, then_stopped, stopped_as}
use Rattle.precheck.proofs.clauses.check_projections.Goals as goal

pub returns-in_err-p : goal.returns-in_err-p
returns-in_err-p c = counted_stopped c.count-items.ensures.0 c.from_residual.ensures.1 c.in_err-p.ensures

pub returns-in_err-q : goal.returns-in_err-q
returns-in_err-q c = counted_on c.count-items.ensures.0 c.in_ok-p.ensures (stopped_as c.from_residual-in_err-q.ensures.1 (then_stopped c.in_err-q.ensures))

pub returns : goal.returns
returns c = counted_on c.count-items.ensures.0 c.in_ok-p.ensures (then_walks c.in_ok-q.ensures c.check_order_skip_limit.ensures)
