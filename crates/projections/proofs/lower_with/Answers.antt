-- `projections::lower_with` meets its contract.
use Rattle.std.proofs.Common.{arith}
use Rattle.context.specs.OpLaws.{pushed_as}
use Rattle.lower.specs.Exprs
use Rattle.projections.specs.Room
use Rattle.projections.proofs.WithLaws
use Rattle.projections.proofs.lower_with.Goals as goal

pub count-items-requires : goal.count-items-requires
count-items-requires c = (Room.low c.requires.tree, omega arith)

pub count-filter-requires : goal.count-filter-requires
count-filter-requires c = (Room.low c.requires.tree, omega arith)

pub overflow_sub-less : goal.overflow_sub-less
overflow_sub-less c = omega (arith, Room.bounds c.requires)

pub lower_items-s-requires : goal.lower_items-s-requires
lower_items-s-requires c =
    let l = Room.bounds c.requires in
    let room_for = Room.clause_room c.requires (c.or_source_all-q.ensures.source _) in
    record { items = WithLaws.with_items c.args.r.now.roomy c.requires c.count-items.ensures.0; room = room_for; depth = omega (arith, l.shallow); pass = omega arith }

pub lower_exprs-t-requires : goal.lower_exprs-t-requires
lower_exprs-t-requires c =
    let l = Room.bounds c.requires in
    let room_for = Room.clause_room c.requires (c.or_source_all-q.ensures.source _) in
    let predicate = WithLaws.with_predicate c.args.r.now.roomy c.requires c.count-items.ensures.0 c.lower_items-s.ensures.lowered c.count-filter.ensures.0 in
    record { tree = predicate; room = Exprs.room_after c.lower_items-s.ensures.lowered.moved room_for; depth = omega (arith, l.shallow); pass = omega arith }

pub over-requires : goal.over-requires
over-requires c =
    let l = Room.bounds c.requires in
    Room.fits (omega arith) (omega (arith, l.low)) (omega (arith, l.shallow))

pub push-z-requires : goal.push-z-requires
push-z-requires c =
    let room_for = Room.clause_room c.requires (c.or_source_all-q.ensures.source _) in
    Exprs.can_push (Exprs.room_after c.lower_exprs-t.ensures.lowered.moved (Exprs.room_after c.lower_items-s.ensures.lowered.moved room_for))

pub lower_trailers-requires : goal.lower_trailers-requires
lower_trailers-requires c =
    let room = c.args.r.now.roomy in
    let l = Room.bounds c.requires in
    let pushed = pushed_as c.over.ensures c.push-z.ensures.pushed in
    let tail = WithLaws.with_tail room c.requires c.count-items.ensures.0 c.lower_items-s.ensures.lowered c.count-filter.ensures.0 c.lower_exprs-t.ensures.lowered in
    let moved = WithLaws.with_moved room c.requires c.count-items.ensures.0 c.lower_items-s.ensures.lowered c.count-filter.ensures.0 c.lower_exprs-t.ensures.lowered (c.or_source_all-q.ensures.source _) pushed c.push-z.auto.ops in
    rw (c.push-z.ensures.next, c.push-z.ensures.op) (record {
      low = l.low;
      tail = tail;
      ready = Room.ready_after moved c.requires.ready;
      depth = omega (arith, l.shallow);
      stands = omega (arith, c.push-z.ensures.pushed.count);
    })

pub returns-clause-lowered : goal.returns-clause-lowered
returns-clause-lowered c =
    let pushed = pushed_as c.over.ensures c.push-z.ensures.pushed in
    WithLaws.with_law c.args.r.now.roomy c.requires c.count-items.ensures.0 c.lower_items-s.ensures.lowered c.count-filter.ensures.0 c.lower_exprs-t.ensures.lowered (c.or_source_all-q.ensures.source _) pushed c.push-z.auto.ops (rw (c.push-z.ensures.next, c.push-z.ensures.op) at c.lower_trailers.ensures.lowered)
