-- How many operators, numbers and mapped variables a plan has. Assumes nothing: these are definitions; the theorems are in proofs/Counts.
use Rattle.std.specs.Prelude.{ℕ, suc, ◌≤◌, [], ◌∷◌}
use Rattle.model.specs.Kind.{in_plan, mapped}
use Rattle.model.specs.Record.{rec}
use Rattle.model.specs.Lower.{Recs}

-- `v` lines whose numbers rise strictly, from `low` on and all below `high`
pub data Rising : (low high : ℕ) → Recs → Type 0 where
  none : {low high : ℕ} → low ≤ high → Rising low high []
  line : {low number id high : ℕ} {rs : Recs} → low ≤ number → Rising (suc number) high rs → Rising low high (rec (in_plan mapped) tt (number, (id, tt)) ∷ rs)
