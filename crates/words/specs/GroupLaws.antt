-- What a record's groups ask for, by the table of children and by the definition. Assumes nothing: these are definitions; the laws about them stand in proofs/.
use Rattle.std.specs.Prelude.{◌≡◌, ℕ, List, [], ◌∷◌, ◌++◌, replicate}
use Rattle.model.specs.Text.{Bytes}
use Rattle.model.specs.Kind.{Sort, Kind}
use Rattle.model.specs.Record.{Group, forms, children}
use Rattle.words.specs.Words.{fields_of}
use Rattle.words.specs.Held.{Flags}
use Rattle.words.specs.Table.{groups_of}

-- the sorts of the records that some groups ask for, one by one
unfoldable pub sorts_of : List Group → List Sort
sorts_of [] = []
sorts_of (g ∷ gs) = replicate g.1 g.0 ++ sorts_of gs

-- row n has the groups of a kind
abbrev pub GroupRow : (s : Sort) → ℕ → Kind s → Type 0
GroupRow s n k = (sheet : Bytes) (ws : List ℕ) → Flags (forms s k) ws 0 → sorts_of (groups_of n ws) ≡ sorts_of (children s k (fields_of (forms s k) sheet ws 0))
