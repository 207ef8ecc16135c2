-- `lower_statement` meets its contract: test 1, and then the others. Assumes nothing.
use Rattle.statement.specs.Lowering.{lower_short, called, length_bound}
use Rattle.statement.specs.Sizing.{is_long, is_short, enough}
use Rattle.statement.proofs.lowering.lower_statement.Goals as goal

pub returns-then-not-long_enough-clause-plan_after : goal.returns-then-not-long_enough-clause-plan_after
returns-then-not-long_enough-clause-plan_after c = lower_short _ _ _ (is_short _ _ c.long_enough.ensures c.if-not-long_enough.true)

pub invariant_of-lower_read : goal.invariant_of-lower_read
invariant_of-lower_read c =
    let e = enough _ _ _ _ (is_long _ _ c.long_enough.ensures c.if-not-long_enough.false) in
    record { roomy = record { first = e.first; second = e.second } }

pub lower_read-requires : goal.lower_read-requires
lower_read-requires c = let e = enough _ _ _ _ (is_long _ _ c.long_enough.ensures c.if-not-long_enough.false) in (e.third, e.fourth)

pub returns-clause-plan_after : goal.returns-clause-plan_after
returns-clause-plan_after c = called _ _ _ _ c.lower_read.result (is_long _ _ c.long_enough.ensures c.if-not-long_enough.false) c.lower_read.ensures.gives

pub returns-clause-length_in_bounds : goal.returns-clause-length_in_bounds
returns-clause-length_in_bounds c = length_bound _ _ _ _ c.lower_read.result (called _ _ _ _ c.lower_read.result (is_long _ _ c.long_enough.ensures c.if-not-long_enough.false) c.lower_read.ensures.gives)
