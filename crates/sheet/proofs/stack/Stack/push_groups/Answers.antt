-- `Stack::push_groups` meets its contract: the groups that a kind has, from the last to the first; those behind it are groups of none. Assumes nothing.
use Prim.Native.Nat.{◌-◌}
use native.Mathlib.Omega.{arith}
use Rattle.std.proofs.Common.{sym, ◌∙◌}
use Rattle.sheet.specs.Dues.{begun, groups_step, groups_pass}
use Rattle.sheet.proofs.stack.Stack.push_groups.Goals as goal

pub loop-g-init : goal.loop-g-init
loop-g-init c = begun c.groups_of-g.ensures

pub of-count-requires : goal.of-count-requires
of-count-requires c = c.count_place-place.ensures.among

pub push-requires : goal.push-requires
push-requires c = rw c.group_sort-sort.ensures (omega (arith, c.requires.each (c.loop-g.g - 1) (omega arith), c.loop-g.invariant.1.high))

pub loop-g-preserved-then-count-ne0 : goal.loop-g-preserved-then-count-ne0
loop-g-preserved-then-count-ne0 c = (omega arith, groups_step (omega arith) c.loop-g.invariant.0 c.loop-g.invariant.1 (rw (c.group_sort-sort.ensures, c.of-count.ensures, c.count_place-place.ensures.is _) at c.push.ensures))

pub loop-g-preserved : goal.loop-g-preserved
loop-g-preserved c = (omega arith, groups_pass (omega arith) c.loop-g.invariant.0 c.loop-g.invariant.1 (sym (c.count_place-place.ensures.is _) ∙ sym c.of-count.ensures ∙ c.if-count-ne0.false))
