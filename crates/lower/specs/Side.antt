-- A sheet, the words of its records, and the operators of the plan that its table holds. Assumes nothing: these are definitions.
use Rattle.std.specs.Prelude.{ℕ, List}
use Rattle.model.specs.Text.{Bytes}

-- The table of a sheet holds the operators from the first one on, each at its own number: those before it are of another sheet. A single sheet's are all there are, from 0 on.
pub record Side : Type 0 where
  pub sheet : Bytes
  pub a : List ℕ
  pub b : List ℕ
  pub first : ℕ

abbrev pub side : Bytes → (a b : List ℕ) → ℕ → Side
side sheet a b first = record { sheet = sheet; a = a; b = b; first = first }
