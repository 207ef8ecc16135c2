-- The operators of a written plan stand by number: behind the first line come the lines of operator 0, then those of operator 1, and so on. Assumes nothing: these are definitions; the theorems are in proofs/Operators.
use Rattle.std.specs.Prelude.{◌≡◌, ℕ, zero, suc, ◌+◌, List, [], ◌∷◌, ◌++◌, length}
use Rattle.model.specs.Record.{spell_recs}
use Rattle.model.specs.Lower.{Recs, LowerCtx, at}
use Rattle.model.specs.Plan.{mapped_recs, first_rec, plan_sheet}

-- n operators of a state, from operator k on: `at ops k` is operator k
unfoldable pub from : List Recs → (k n : ℕ) → List Recs
from ops k zero = []
from ops k (suc n) = at ops k ∷ from ops (suc k) n

-- all of them, by number
unfoldable pub by_number : List Recs → List Recs
by_number ops = from ops 0 (length ops)

-- the lines of operators, one after another
unfoldable pub operator_lines : List Recs → Recs
operator_lines [] = []
operator_lines (op ∷ ops) = op ++ operator_lines ops

-- Of a state with more than k operators: in its plan sheet the lines of operator k stand behind the first line and those of the operators 0 to k - 1, and before those of the later ones and the `v` lines.
pub record OperatorStands (c : LowerCtx) (k : ℕ) : Type 0 where
  pub later : ℕ
  pub count : length c.ops ≡ k + suc later
  pub stands : plan_sheet c ≡ spell_recs (first_rec c ∷ operator_lines (from c.ops 0 k)) ++ (spell_recs (at c.ops k) ++ spell_recs (operator_lines (from c.ops (suc k) later) ++ mapped_recs c.scope.vars))
