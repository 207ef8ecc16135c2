-- An answer as text. Assumes nothing: these are definitions.
use Rattle.std.specs.Prelude.{◌∷◌, ℕ, List, take}
use Rattle.std.specs.List.{flat_map}
use Rattle.model.specs.Text.{Bytes, decimal}
use Rattle.model.specs.Refusal.{Answer}
use Rattle.values.specs.Told.{words_of}

-- a number behind a separator
abbrev pub parted : ℕ → ℕ → Bytes
parted separator n = separator ∷ decimal n

-- each number behind a separator: all of an answer but the length, and all
unfoldable pub numbers_text : ℕ → List ℕ → Bytes
numbers_text separator ns = flat_map (parted separator) ns

abbrev pub refusal_text : ℕ → Answer → Bytes
refusal_text separator a = numbers_text separator (take 5 (words_of a))

abbrev pub values_text : ℕ → Answer → Bytes
values_text separator a = numbers_text separator (words_of a)
