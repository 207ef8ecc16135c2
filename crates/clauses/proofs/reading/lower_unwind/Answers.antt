-- `clauses::reading::lower_unwind` meets its contract.
use Rattle.std.proofs.Common.{◌∙◌, arith}
use Rattle.context.specs.OpLaws.{pushed_as}
use Rattle.projections.specs.Room
use Rattle.clauses.proofs.Room as Inputs
use Rattle.clauses.proofs.Yields
use Rattle.clauses.proofs.Unwinding
use Rattle.clauses.proofs.reading.lower_unwind.Goals as goal

pub word-id-requires : goal.word-id-requires
word-id-requires c = (Room.low c.requires.tree, omega arith)

pub overflow_sub-less : goal.overflow_sub-less
overflow_sub-less c = omega (arith, Room.bounds c.requires)

pub lower_expr-s-requires : goal.lower_expr-s-requires
lower_expr-s-requires c =
    let l = Room.bounds c.requires in
    record {
      tree = Unwinding.some_list c.args.r.now.roomy c.requires;
      room = Room.clause_room c.requires (c.or_source_all-q.ensures.source _);
      depth = omega (arith, l.shallow);
      pass = omega arith;
    }

pub number-m-requires : goal.number-m-requires
number-m-requires c =
    let l = Room.bounds c.requires in
    Inputs.can_number c.requires.ready (c.or_source_all-q.ensures.source _) c.lower_expr-s.ensures.lowered.moved (omega arith) (omega arith) (omega (arith, l.low))

pub unwind-requires : goal.unwind-requires
unwind-requires c =
    let l = Room.bounds c.requires in
    Room.fits (omega arith) (omega (arith, l.low)) (omega (arith, l.shallow))

pub push-requires : goal.push-requires
push-requires c =
    let few = Inputs.few_sourced c.requires.ready (c.or_source_all-q.ensures.source _) c.lower_expr-s.ensures.lowered.moved (omega arith) in
    record { few = omega (arith, few, c.number-m.ensures.issued.ops); long = rw (c.lower_expr-s.ensures.lowered.moved.in_ops ∙ c.or_source_all-q.auto.ops) c.requires.ready.in_ops }

pub returns-clause-lowered : goal.returns-clause-lowered
returns-clause-lowered c =
    let pushed = pushed_as c.unwind.ensures c.push.ensures.pushed in
    rw (c.push.ensures.next, c.push.ensures.op) (Unwinding.unwind_law c.args.r.now.roomy c.requires (c.or_source_all-q.ensures.source _) c.lower_expr-s.ensures.lowered (Yields.numbered c.word-id.ensures c.number-m.ensures) c.number-m.auto.rest pushed c.push.auto.ops)
