-- `Stack::push` meets its contract: three words one behind the other. Assumes nothing.
use native.Mathlib.Omega.{arith}
use Rattle.words.specs.Sorts.{sort_low}
use Rattle.sheet.specs.Dues.{pushed, pushed_stacked}
use Rattle.sheet.proofs.stack.Stack.push.Goals as goal

pub invariant_of-self-3 : goal.invariant_of-self-3
invariant_of-self-3 c = record { stands = rw c.number.ensures (pushed_stacked c.args.self.now.stands (omega arith) c.args.g.due (sort_low c.args.g.sort) c.args.g.low c.requires) }

pub returns : goal.returns
returns c = rw c.number.ensures (pushed _ c.args.self.now.stands (omega arith) c.requires)
