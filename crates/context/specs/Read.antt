-- The notes, as they are read. Assumes nothing: these are definitions.
use Rattle.std.specs.Prelude.{ℕ, suc, ◌+◌, List, get_or}

-- what is noted at record i, in the pass whose notes begin at base
abbrev pub note_of : List ℕ → (base i : ℕ) → ℕ
note_of rest base i = get_or rest (base + suc i) 0
