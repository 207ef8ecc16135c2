-- `clauses::reading::lower_match` meets its contract.
use Rattle.std.proofs.Common.{le_refl, arith}
use Rattle.projections.specs.Room
use Rattle.clauses.proofs.Matching
use Rattle.clauses.proofs.reading.lower_match.Goals as goal

pub word-optional-requires : goal.word-optional-requires
word-optional-requires c = (Room.low c.requires.tree, omega arith)

pub count-n-requires : goal.count-n-requires
count-n-requires c = (Room.low c.requires.tree, omega arith)

pub overflow_sub-less : goal.overflow_sub-less
overflow_sub-less c = omega (arith, Room.bounds c.requires)

pub lower_parts-s-requires : goal.lower_parts-s-requires
lower_parts-s-requires c =
    let l = Room.bounds c.requires in
    record {
      tree = record { low = l.low; trees = Matching.some_parts c.args.r.now.roomy c.requires c.count-n.ensures.0 };
      room = Room.ready_room c.requires.ready (le_refl _) (omega (arith, l.low)) (omega (arith, l.shallow));
      depth = omega (arith, l.shallow);
      pass = omega arith;
    }

pub returns-clause-lowered : goal.returns-clause-lowered
returns-clause-lowered c =
    let law = Matching.match_law c.args.r.now.roomy c.requires c.count-n.ensures.0 c.word-optional.ensures c.lower_parts-s.ensures.lowered (c.join_before.ensures.1 _) in
    λ sheet. Matching.ends_at c.join_before.ensures.0 (law sheet)
