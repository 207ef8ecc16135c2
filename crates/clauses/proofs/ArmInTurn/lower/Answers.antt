-- `clauses::ArmInTurn::lower` meets its contract.
use Rattle.std.proofs.Common.{arith}
use Rattle.context.specs.OpLaws.{under_none}
use Rattle.projections.specs.Room
use Rattle.clauses.proofs.Joining
use Rattle.clauses.proofs.ArmInTurn.lower.Goals as goal

pub word-all-requires : goal.word-all-requires
word-all-requires c = (Room.low (Room.some_tree c.requires.held), omega arith)

pub count-n-requires : goal.count-n-requires
count-n-requires c = (Room.low (Room.some_tree c.requires.held), omega arith)

pub overflow_sub-less : goal.overflow_sub-less
overflow_sub-less c = let l = Room.bounds_of (Room.some_tree c.requires.held) c.requires.ready c.requires.depth in l.deep

pub lower_turns-below-requires : goal.lower_turns-below-requires
lower_turns-below-requires c =
    let l = Room.bounds_of (Room.some_tree c.requires.held) c.requires.ready c.requires.depth in
    record {
      held = Joining.some_clauses c.args.r.now.roomy c.count-n.ensures.0 c.requires.held;
      ready = Room.ready_from (omega arith) (omega (arith, l.low)) c.requires.ready;
      depth = omega (arith, l.shallow);
      stands = under_none;
    }

pub returns-clause-lowered : goal.returns-clause-lowered
returns-clause-lowered c = Joining.arm_law _ _ _ c.args.r.now.roomy c.count-n.ensures.0 c.word-all.ensures c.lower_turns-below.ensures.lowered (c.unite-z.ensures _)
