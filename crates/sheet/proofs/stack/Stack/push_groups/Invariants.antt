-- `Stack::push_groups` meets its contract: the groups that a kind has, from the last to the first; those behind it are groups of none. Assumes nothing.
use Prim.Native.Nat.{◌≤◌, ◌-◌}
use Rattle.words.specs.Words.{part}
use Rattle.words.specs.Table.{group_count}
use Rattle.sheet.specs.Dues.{Groups}
use Rattle.sheet.proofs.stack.Stack.push_groups.Given as goal

abbrev pub invariant-loop-g : goal.invariant-loop-g
invariant-loop-g l = (l.g ≤ group_count) × Groups l.initial.self.words.now l.self.words.now l.kind (part l.r.records.now.a.now l.r.records.now.b.now l.r.i) l.g (group_count - l.g) l.initial.self.groups l.room l.self.groups
