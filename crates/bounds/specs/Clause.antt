-- Clauses, arms and the statement: at most four operators and two numbers a record. Assumes nothing: these are definitions; the lemmas are in proofs/Clause.
use Rattle.std.specs.Prelude.{ℕ, ◌≤◌}
use Rattle.model.specs.Lower.{Split}
use Rattle.bounds.specs.Earlier.{Low}
use Rattle.bounds.specs.Bounded.{Post}

pub record SplitLow (s : Split) (n : ℕ) : Type 0 where
  pub keys : Low n s.key_recs
  pub aggs : Low n s.agg_recs

-- what one item adds
abbrev pub Adds : Post (Split → Split)
Adds f n = (s : Split) (m : ℕ) → n ≤ m → SplitLow s m → SplitLow (f s) m
