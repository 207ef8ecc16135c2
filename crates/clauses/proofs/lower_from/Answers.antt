-- `clauses::lower_from` meets its contract.
use Rattle.std.proofs.Common.{arith}
use Rattle.context.specs.OpLaws.{under_none}
use Rattle.projections.specs.Room
use Rattle.clauses.proofs.Room as Inputs
use Rattle.clauses.proofs.Whole
use Rattle.clauses.proofs.lower_from.Goals as goal

pub overflow_sub-less : goal.overflow_sub-less
overflow_sub-less c = Whole.deep c.args.r.now.roomy c.requires

pub lower_turns-head-requires : goal.lower_turns-head-requires
lower_turns-head-requires c = record { held = Whole.some_clauses c.args.r.now.roomy c.requires c.count-clauses.ensures.0; ready = c.requires.ready; depth = omega (arith, c.requires.depth); stands = under_none }

pub lower_turns-requires : goal.lower_turns-requires
lower_turns-requires c =
    record {
      held = Whole.some_arms c.args.r.now.roomy c.requires c.count-clauses.ensures.0 c.lower_turns-head.ensures.lowered c.count-arms.ensures.0;
      ready = Room.ready_after c.lower_turns-head.ensures.lowered.moved c.requires.ready;
      depth = omega (arith, c.requires.depth);
      stands = Inputs.stands_under _ _ c.lower_turns-head.ensures.lowered.stands;
    }

pub returns-clause-lowered : goal.returns-clause-lowered
returns-clause-lowered c = Whole.from_law c.args.r.now.roomy c.requires c.count-clauses.ensures.0 c.lower_turns-head.ensures.lowered c.count-arms.ensures.0 c.lower_turns.ensures.lowered
