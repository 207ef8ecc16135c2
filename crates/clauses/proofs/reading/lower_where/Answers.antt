-- `clauses::reading::lower_where` meets its contract.
use Rattle.std.proofs.Common.{[], ◌∙◌, arith}
use Rattle.context.specs.OpLaws.{pushed_as}
use Rattle.projections.specs.Room
use Rattle.clauses.proofs.Filtering
use Rattle.clauses.proofs.Matching
use Rattle.clauses.proofs.reading.lower_where.Goals as goal

pub overflow_sub-less : goal.overflow_sub-less
overflow_sub-less c = omega (arith, Room.bounds c.requires)

pub lower_expr-s-requires : goal.lower_expr-s-requires
lower_expr-s-requires c =
    let l = Room.bounds c.requires in
    record {
      tree = Filtering.some_predicate c.args.r.now.roomy c.requires;
      room = Room.ready_room c.requires.ready (omega arith) (omega (arith, l.low)) (omega (arith, l.shallow));
      depth = omega (arith, l.shallow);
      pass = omega arith;
    }

pub over-requires : goal.over-requires
over-requires c =
    let l = Room.bounds c.requires in
    Room.fits (omega arith) (omega (arith, l.low)) (omega (arith, l.shallow))

pub push-requires : goal.push-requires
push-requires c =
    let few = Room.few_after c.requires.ready c.lower_expr-s.ensures.lowered.moved (omega arith) in
    let held = Room.ops_after c.requires.ready c.lower_expr-s.ensures.lowered.moved (omega arith) in
    record { few = omega (arith, few, (c.or_source_all-q.ensures.source []).few); long = rw c.or_source_all-q.auto.ops held }

pub returns-clause-lowered : goal.returns-clause-lowered
returns-clause-lowered c =
    let source = c.or_source_all-q.ensures in
    let pushed = pushed_as c.over.ensures c.push.ensures.pushed in
    let law = Filtering.where_law c.args.r.now.roomy c.requires c.lower_expr-s.ensures.lowered (source.source _) pushed c.push.auto.ops in
    λ sheet. rw c.push.ensures.op (Matching.ends_at (c.push.ensures.next ∙ source.same) (law sheet))
