-- `projections::passes::first_pass` meets its contract.
use Rattle.std.proofs.Common.{arith}
use Rattle.lower.specs.Exprs
use Rattle.projections.specs.Room
use Rattle.projections.proofs.PassLaws
use Rattle.projections.proofs.Pushing.{pushed_if_as}
use Rattle.projections.proofs.passes.first_pass.Goals as goal

pub split_projections_agg-p-requires : goal.split_projections_agg-p-requires
split_projections_agg-p-requires c =
    let room_for = PassLaws.first_room c.requires (c.or_source_all-q.ensures.source _) in
    record { items = c.requires.items; room = room_for; depth = c.requires.depth }

pub aggregate-x-requires : goal.aggregate-x-requires
aggregate-x-requires c =
    Room.fits (omega arith) (omega (arith, c.requires.low)) c.requires.depth

pub overflow_cast-keys : goal.overflow_cast-keys
overflow_cast-keys c = omega (arith, Room.few_trees (omega (arith, c.requires.low)) (Room.some_trees c.requires.items))

pub overflow_cast-p : goal.overflow_cast-p
overflow_cast-p c = omega (arith, Room.few_trees (omega (arith, c.requires.low)) (Room.some_trees c.requires.items), c.split_projections_agg-p.ensures.lowered.1)

pub push_if-requires : goal.push_if-requires
push_if-requires c =
    let room_for = PassLaws.first_room c.requires (c.or_source_all-q.ensures.source _) in
    Exprs.can_push (Exprs.room_after c.split_projections_agg-p.ensures.lowered.0.moved room_for)

pub returns-clause-lowered : goal.returns-clause-lowered
returns-clause-lowered c =
    let pushed = pushed_if_as c.aggregate-x.ensures c.push_if.ensures.1 in
    let law = PassLaws.first_law c.requires (c.or_source_all-q.ensures.source _) c.split_projections_agg-p.ensures.lowered.0 pushed in
    PassLaws.ends_at c.push_if.ensures.0 law
