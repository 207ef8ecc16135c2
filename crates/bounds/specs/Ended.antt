-- The lowering's result is the number of the last operator, and that is the one that `ends_on` names. Assumes nothing: these are definitions; the theorems are in proofs/Ended.
use Rattle.std.specs.Prelude.{ℕ, Bool, true, false, List, [], Option, None, Some}
use Rattle.model.specs.Lower.{Recs}
use Rattle.bounds.specs.Ends.{Ending}
use Rattle.bounds.specs.Root.{Newest}

-- the result of lowering a statement, and the operators then
pub data Ended : Option Ending → Option ℕ → List Recs → Type 0 where
  nowhere : Ended None None []
  on : {k : Ending} {n : ℕ} {ops : List Recs} → Newest k n ops → Ended (Some k) (Some n) ops

-- ── clauses ──

-- whether an operator precedes
pub data First : Bool → Option ℕ → Type 0 where
  first : First true None
  behind : {n : ℕ} → First false (Some n)

-- what a clause leaves; the next one is not the first
pub record Leaves (e : Option Ending) (o : Option ℕ) (ops : List Recs) : Type 0 where
  pub ended : Ended e o ops
  pub next : First false o
