-- Runs of digits. Assumes nothing: these are definitions.
use Rattle.std.specs.Prelude.{ℕ, ◌-◌, Bool, true, cond, ◌&&◌, [], ◌∷◌, leb, Option, None, Some}
use Rattle.model.specs.Text.{Bytes, value_on, digit0, digit9}

-- the size of the smallest signed number of 64 bits
abbrev pub most_below : ℕ
most_below = 9223372036854775808

abbrev pub digit : ℕ → Bool
digit b = leb digit0 b && leb b digit9

unfoldable pub digit_value : ℕ → Option ℕ
digit_value b = cond (digit b) (Some (b - digit0)) None

unfoldable pub all_digits : Bytes → Bool
all_digits [] = true
all_digits (b ∷ s) = digit b && all_digits s

-- digits that follow a number v: the number with them, if it is at most the limit
unfoldable pub digits_on : ℕ → ℕ → Bytes → Option ℕ
digits_on limit v s = cond (all_digits s && leb (value_on v s) limit) (Some (value_on v s)) None
