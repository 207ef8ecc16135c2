-- The digits behind the first k are stored, and v has those that are left.
use Rattle.std.proofs.Common.{◌≡◌, ◌++◌, length, drop}
use Rattle.output.specs.Wide.{tens}
use Rattle.output.proofs.store_digits.Given as goal

abbrev pub invariant-loop-k : goal.invariant-loop-k
invariant-loop-k l = tens l.k l.v ++ drop l.k l.digits ≡ tens (length l.initial.digits) l.n
