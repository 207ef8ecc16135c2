-- `find` meets its contract. The loop's invariant: among the first k variables the id is found as among all. Assumes nothing.
use mathlib.Core.Path.{◌≡◌}
use Prim.Native.Nat.{◌≤◌, ◌-◌}
use Rattle.context.proofs.Laws
use Rattle.context.specs.Tables.{max_indexed}
use Rattle.context.proofs.index.find.Given as goal

abbrev pub invariant-loop-k : goal.invariant-loop-k
invariant-loop-k l = (l.k ≤ l.count) × (l.k - (l.k - max_indexed) ≡ l.count - (l.count - max_indexed)) × (Laws.from l.vars l.count l.id ≡ Laws.from l.vars l.k l.id)

abbrev pub decreases-loop-k : goal.decreases-loop-k
decreases-loop-k l = l.k
