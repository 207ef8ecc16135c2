-- `nothing_refused` meets its contract: what is due from a record on is the whole tree, and the records before it are taken. Assumes nothing.
use native.Mathlib.Omega.{arith}
use Rattle.words.proofs.Counting
use Rattle.precheck.proofs.FlatLaws.{one_more, all_taken}
use Rattle.precheck.proofs.flat.nothing_refused.Goals as goal

pub at-requires : goal.at-requires
at-requires c = Counting.in_range c.requires c.loop-i.invariant.0.1 c.if-due-eq0.false

pub record_taken-requires : goal.record_taken-requires
record_taken-requires c = rw (c.at.ensures.0, c.at.ensures.1) (Counting.next c.requires c.loop-i.invariant.0.1 c.if-due-eq0.false)

pub children-requires : goal.children-requires
children-requires c = Counting.in_range c.requires c.loop-i.invariant.0.1 c.if-due-eq0.false

pub overflow_add-due : goal.overflow_add-due
overflow_add-due c = omega (arith, Counting.due_fits c.requires c.loop-i.invariant.0 c.children.ensures.1)

pub loop-i-preserved : goal.loop-i-preserved
loop-i-preserved c = (
  Counting.walked c.args.r.now.roomy c.requires c.loop-i.invariant.0 c.if-due-eq0.false c.children.ensures.0,
  one_more c.loop-i.invariant.1 (rw (c.at.ensures.0, c.at.ensures.1) at (c.record_taken.ensures.so c.if-not-record_taken.false)),
)

pub returns-then-due-eq0 : goal.returns-then-due-eq0
returns-then-due-eq0 c = record { so = λ e. all_taken (Counting.done c.if-due-eq0.true c.loop-i.invariant.0.1) c.loop-i.invariant.1 }

pub returns-after-loop-i : goal.returns-after-loop-i
returns-after-loop-i c = record { so = λ e. all_taken (Counting.done (Counting.spent c.requires c.loop-i.invariant.0 (omega (arith, c.loop-i-test.false))).0 c.loop-i.invariant.0.1) c.loop-i.invariant.1 }
