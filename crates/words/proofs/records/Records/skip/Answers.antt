-- `words::records::skip` meets its contract: what is due from a record on is the whole tree there. Assumes nothing.
use Rattle.words.proofs.Counting
use native.Mathlib.Omega.{arith}
use Rattle.words.proofs.records.Records.skip.Goals as goal

pub loop-due-init : goal.loop-due-init
loop-due-init c = Counting.begun c.requires

pub children-n-requires : goal.children-n-requires
children-n-requires c = Counting.in_range c.requires c.loop-due.invariant.1 c.loop-due-test.true

pub overflow_add-due : goal.overflow_add-due
overflow_add-due c = omega (arith, Counting.due_fits c.requires c.loop-due.invariant c.children-n.ensures.1)

pub overflow_add-at : goal.overflow_add-at
overflow_add-at c = omega (arith, c.loop-due.invariant.0)

pub loop-due-smaller : goal.loop-due-smaller
loop-due-smaller c = omega (arith, Counting.in_range c.requires c.loop-due.invariant.1 c.loop-due-test.true)

pub loop-due-preserved : goal.loop-due-preserved
loop-due-preserved c = Counting.walked c.args.self.now.roomy c.requires c.loop-due.invariant c.loop-due-test.true c.children-n.ensures.0

pub returns : goal.returns
returns c = Counting.done c.loop-due-test.false c.loop-due.invariant.1
