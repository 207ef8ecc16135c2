-- Reading a name byte by byte. Assumes nothing: these are definitions.
use Rattle.std.specs.Prelude.{◌≡◌, ℕ, ◌+◌, Bool, true, false, cond, [], ◌∷◌, eqb, get_or, Option, None, Some}
use Rattle.model.specs.Text.{Bytes, tab, line_feed, backslash, letter_n, letter_t}

-- what the bytes before have come to: nothing open, a backslash that waits for its letter, or a byte that may not stand there
pub data Seen : Type 0 where
  Plain : Seen
  Escape : Seen
  Bad : Seen

-- no tab and no line feed stands bare
unfoldable pub bare : ℕ → Seen
bare b = cond (eqb b tab) Bad (cond (eqb b line_feed) Bad (cond (eqb b backslash) Escape Plain))

-- behind a backslash stands one of three letters
unfoldable pub letter : ℕ → Seen
letter b = cond (eqb b backslash) Plain (cond (eqb b letter_n) Plain (cond (eqb b letter_t) Plain Bad))

unfoldable pub step : Seen → ℕ → Seen
step Plain b = bare b
step Escape b = letter b
step Bad b = Bad

unfoldable pub seen_on : Seen → Bytes → Seen
seen_on q [] = q
seen_on q (b ∷ s) = seen_on (step q b) s

abbrev pub is_plain : Seen → Bool
is_plain Plain = true
is_plain Escape = false
is_plain Bad = false

-- how many bytes the character at i has; none if a backslash has no letter
pub data CharAt (s : Bytes) (i : ℕ) : Option ℕ → Type 0 where
  bare_one : (get_or s i 0 ≡ backslash → ⊥) → CharAt s i (Some 1)
  escaped : get_or s i 0 ≡ backslash → is_plain (letter (get_or s (i + 1) 0)) ≡ true → CharAt s i (Some 2)
  broken : get_or s i 0 ≡ backslash → is_plain (letter (get_or s (i + 1) 0)) ≡ false → CharAt s i None
