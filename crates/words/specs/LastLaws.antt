-- The last of the numbers that a match tells apart. Assumes nothing.
use Rattle.std.specs.Prelude.{◌≡◌, ℕ, zero, suc, ◌<◌, ◌≤◌}
use Rattle.std.proofs.Common.{arith}

-- a number is none of the first n
abbrev pub Not : ℕ → ℕ → Type 0
Not k zero = Unit {0}
Not k (suc n) = Not k n × (k ≡ n → ⊥)

pub at_least : (k n : ℕ) → Not k n → n ≤ k
at_least k zero h = omega arith
at_least k (suc n) h = let low : n ≤ k = at_least k n h.0 in let other = h.1 in omega (arith, low, other)

pub last_is : (k n : ℕ) → k < suc n → Not k n → k ≡ n
last_is k n l h = let low : n ≤ k = at_least k n h in omega (arith, low, l)
