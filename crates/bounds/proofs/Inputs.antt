-- Every operator's inputs are earlier operators, in copies inside it too. Assumes nothing: these are theorems with their proofs.
use Rattle.std.specs.Prelude.{ℕ, ◌<◌, refl}
use Rattle.model.specs.Kind.{statement}
use Rattle.model.specs.Tree.{Tree}
use Rattle.model.specs.Lower.{at, empty, lower_statement}
use Rattle.model.specs.Record.{inputs}
use Rattle.bounds.specs.Earlier.{All, Earlier, []ᵉ, at_low}
use Rattle.bounds.specs.Bounded.{Ordered, []ᶠ}
use Rattle.bounds.proofs.Clause.{lower✓}

pub ordered_empty : Ordered empty
unfolding empty
ordered_empty = record { earlier = []ᵉ; falling = []ᶠ }

pub earlier : (t : Tree statement) → Earlier (lower_statement t).ops
unfolding lower_statement empty
earlier t = ((lower✓ t).run empty refl ordered_empty).ordered.earlier

-- in the words of document 01: of every operator k, every record r, the records of its copies among them, and every number n under input, left or right in r
pub inputs_earlier : (t : Tree statement) (k : ℕ) → All (λ r. All (λ n. n < k) (inputs r)) (at (lower_statement t).ops k)
inputs_earlier t k = at_low (earlier t) k
