-- `clauses::reading::lower_call` meets its contract.
use Rattle.std.proofs.Common.{arith}
use Rattle.context.specs.OpLaws.{pushed_as}
use Rattle.projections.specs.Room
use Rattle.clauses.proofs.Calling
use Rattle.clauses.proofs.reading.lower_call.Goals as goal

pub count-args-requires : goal.count-args-requires
count-args-requires c = (Room.low c.requires.tree, omega arith)

pub count-yields-requires : goal.count-yields-requires
count-yields-requires c = (Room.low c.requires.tree, omega arith)

pub overflow_sub-less : goal.overflow_sub-less
overflow_sub-less c = omega (arith, Room.bounds c.requires)

pub lower_exprs-s-requires : goal.lower_exprs-s-requires
lower_exprs-s-requires c =
    let l = Room.bounds c.requires in
    record {
      tree = Calling.some_args c.args.r.now.roomy c.requires c.count-args.ensures.0;
      room = Room.ready_room c.requires.ready (omega arith) (omega (arith, l.low)) (omega (arith, l.shallow));
      depth = omega (arith, l.shallow);
      pass = omega arith;
    }

pub lower_yields-t-requires : goal.lower_yields-t-requires
lower_yields-t-requires c = Calling.asked_yields c.args.r.now.roomy c.requires c.count-args.ensures.0 c.count-yields.ensures.0 c.lower_exprs-s.ensures.lowered

pub returns-clause-lowered : goal.returns-clause-lowered
returns-clause-lowered c =
    let pushed = pushed_as c.procedure_call.ensures c.push.ensures.pushed in
    rw (c.push.ensures.next, c.push.ensures.op) (Calling.call_law c.args.r.now.roomy c.requires c.count-args.ensures.0 c.count-yields.ensures.0 c.lower_exprs-s.ensures.lowered (c.lower_yields-t.ensures _) pushed c.push.auto.ops)
