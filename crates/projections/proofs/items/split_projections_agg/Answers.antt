-- `projections::items::split_projections_agg` meets its contract.
use Rattle.std.proofs.Common.{arith}
use Rattle.context.specs.LentLaws.{same_refl, same_then}
use Rattle.projections.proofs.PartLaws
use Rattle.projections.proofs.PartLaws.{at_most_one}
use Rattle.projections.proofs.items.split_projections_agg.Goals as goal

pub loop-init : goal.loop-init
loop-init c = (PartLaws.start c.requires.items c.requires.room, same_refl)

pub overflow_sub-less : goal.overflow_sub-less
overflow_sub-less c = PartLaws.deep c.loop-test.true c.loop.invariant.0

pub invariant_of-expr : goal.invariant_of-expr
invariant_of-expr c = record { stands = PartLaws.child_low c.loop-test.true c.loop.invariant.0 }

pub is_aggregate-agg-requires : goal.is_aggregate-agg-requires
is_aggregate-agg-requires c = record { depth = _; held = PartLaws.child c.loop-test.true c.loop.invariant.0 }

pub lower_expr-cur-requires : goal.lower_expr-cur-requires
lower_expr-cur-requires c =
    let child = PartLaws.some_child c.loop-test.true c.loop.invariant.0 in
    let room_for = PartLaws.child_room c.loop-test.true c.loop.invariant.0 in
    record { tree = child; room = room_for; depth = omega (arith, c.requires.depth); pass = omega arith }

pub overflow_add-aggs : goal.overflow_add-aggs
overflow_add-aggs c = rw c.from-aggs.ensures (omega (arith, at_most_one c.is_aggregate-agg.result))

pub loop-preserved : goal.loop-preserved
loop-preserved c = (rw c.from-aggs.ensures (PartLaws.again _ c.loop-test.true c.loop.invariant.0 (λ t hd. c.is_aggregate-agg.ensures _ t hd) c.lower_expr-cur.ensures.lowered), same_then c.loop.invariant.1 c.lower_expr-cur.ensures.same)

pub returns-clause-lowered : goal.returns-clause-lowered
returns-clause-lowered c = (PartLaws.done c.loop-test.false c.loop.invariant.0, PartLaws.done_few c.loop.invariant.0)

pub returns-clause-same : goal.returns-clause-same
returns-clause-same c = c.loop.invariant.1
