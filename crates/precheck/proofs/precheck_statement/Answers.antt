-- `precheck_statement` meets its contract: the records alone, or else the clauses of the head, then the arms. Assumes nothing.
use native.Mathlib.Omega.{arith}
use Rattle.precheck.proofs.ClauseLaws.{as_statement, held_at, some_held}
use Rattle.precheck.proofs.Checks.{some_turned, walks_turned, walk_fine}
use Rattle.precheck.proofs.FlatLaws.{fine_statement}
use Rattle.precheck.proofs.Laws.{first_of_law, after, then_walks, then_stopped, handed_on, some_none}
use Rattle.precheck.proofs.precheck_statement.Goals as goal

pub returns-then-nothing_refused : goal.returns-then-nothing_refused
returns-then-nothing_refused c = fine_statement (c.nothing_refused.ensures.so c.if-nothing_refused.true) _

pub check_clauses-requires : goal.check_clauses-requires
check_clauses-requires c =
    let statement = as_statement c.args.r.now.roomy c.count-clauses.ensures.0 c.count-arms.ensures.0 in
    record {
      deep = omega (arith, c.requires.least_depth_le_depth);
      there = first_of_law (some_turned statement (some_held c.requires.held_some));
    }

pub returns-in_err-at : goal.returns-in_err-at
returns-in_err-at c =
    let statement = as_statement c.args.r.now.roomy c.count-clauses.ensures.0 c.count-arms.ensures.0 in
    rw (handed_on c.from_residual.ensures.1) λ sheet t h. (walks_turned statement (then_stopped c.in_err-at.ensures)).each _ _ (held_at sheet t h)

pub check_arms-requires : goal.check_arms-requires
check_arms-requires c =
    let statement = as_statement c.args.r.now.roomy c.count-clauses.ensures.0 c.count-arms.ensures.0 in
    let arms = after c.in_ok-at.ensures (some_turned statement (some_held c.requires.held_some)) in
    -- by `some_none` this goal stands where no arms are looked at, and what is false then is the answer's
    record { deep = omega (arith, c.requires.least_depth_le_depth); there = search (arms, some_none) }

-- before the goal at the other end, so that a check that leaves out the arms is refused here first
pub returns : goal.returns
returns c =
    let statement = as_statement c.args.r.now.roomy c.count-clauses.ensures.0 c.count-arms.ensures.0 in
    λ sheet t h. walk_fine (walks_turned statement (then_walks c.in_ok-at.ensures c.in_ok-check_arms.ensures)) (held_at sheet t h)

pub returns-in_err-check_arms : goal.returns-in_err-check_arms
returns-in_err-check_arms c =
    let statement = as_statement c.args.r.now.roomy c.count-clauses.ensures.0 c.count-arms.ensures.0 in
    rw (handed_on c.from_residual-in_err-check_arms.ensures.1) λ sheet t h. (walks_turned statement (then_walks c.in_ok-at.ensures c.in_err-check_arms.ensures)).each _ _ (held_at sheet t h)
