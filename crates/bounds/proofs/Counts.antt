-- How many operators, numbers and mapped variables a plan has. Assumes nothing: these are theorems with their proofs.
use Rattle.std.specs.Prelude.{ℕ, ◌*◌, ◌<◌, ◌≤◌, List, [], ◌∷◌, ◌++◌, refl, length}
use Rattle.std.proofs.Common.{zero-le, le_refl, arith}
use Rattle.model.specs.Kind.{statement, in_plan, mapped}
use Rattle.model.specs.Record.{rec}
use Rattle.model.specs.Tree.{Tree}
use Rattle.model.specs.Lower.{Recs, empty, lower_statement}
use Rattle.model.specs.Plan.{mapped_recs}
use Rattle.model.specs.Call.{record_count, record_operators, record_numbers, Figure}
use Rattle.bounds.specs.Bounded.{Spent, Falling, []ᶠ, ◌∷ᶠ◌}
use Rattle.bounds.specs.Size.{size, size_records}
use Rattle.bounds.proofs.Clause.{lower✓}
use Rattle.bounds.proofs.Inputs.{ordered_empty}
use Rattle.bounds.specs.Counts.{Rising, none, line}

pub spent : (t : Tree statement) → Spent (record_operators * size t) (record_numbers * size t) empty (lower_statement t)
unfolding lower_statement empty
spent t = ((lower✓ t).run empty refl ordered_empty).spent

pub operators_few : (t : Tree statement) → length (lower_statement t).ops ≤ record_operators * record_count t
unfolding record_count empty
operators_few t = omega (arith, (spent t).added, size_records t)

-- `return` lowers its items twice, so one for each record is too few
pub numbers_few : (t : Tree statement) → (lower_statement t).scope.next_var ≤ record_numbers * record_count t
unfolding record_count empty
numbers_few t = omega (arith, (spent t).issued, size_records t)

-- ── mapped variables ──

pub falling : (t : Tree statement) → Falling (lower_statement t).scope.next_var (lower_statement t).scope.vars
unfolding lower_statement empty
falling t = ((lower✓ t).run empty refl ordered_empty).ordered.falling

pub falling_few : {bound : ℕ} {vs : List (ℕ × ℕ)} → Falling bound vs → length vs ≤ bound
falling_few []ᶠ = omega arith
falling_few (lt ∷ᶠ vs) = omega (arith, falling_few vs)

pub mapped_few : (t : Tree statement) → length (lower_statement t).scope.vars ≤ (lower_statement t).scope.next_var
mapped_few t = falling_few (falling t)

pub rising_snoc : {low number high : ℕ} {rs : Recs} (id : ℕ) → Rising low number rs → number < high → Rising low high (rs ++ (rec (in_plan mapped) tt (number, (id, tt)) ∷ []))
rising_snoc id (none le) lt = line le (none lt)
rising_snoc id (line le r) lt = line le (rising_snoc id r lt)

pub falling_rising : {bound : ℕ} {vs : List (ℕ × ℕ)} → Falling bound vs → Rising 0 bound (mapped_recs vs)
unfolding mapped_recs
falling_rising []ᶠ = none zero-le
falling_rising (◌∷ᶠ◌ {v = v} lt vs) = rising_snoc v.0 (falling_rising vs) lt

-- the `v` lines of the plan, in its order: every mapped number is one that was issued
pub mapped_rising : (t : Tree statement) → Rising 0 (lower_statement t).scope.next_var (mapped_recs (lower_statement t).scope.vars)
mapped_rising t = falling_rising (falling t)

-- ── the sizing call ──

-- for every tree there is a figure within the bounds
pub figure : (t : Tree statement) → Figure t (record_operators * record_count t)
unfolding record_count empty
figure t = record { enough = omega (arith, (spent t).added, size_records t); few = le_refl _ }
