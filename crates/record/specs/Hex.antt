-- Runs of hexadecimal digits. Assumes nothing: these are definitions.
use Rattle.std.specs.Prelude.{ℕ, ◌-◌, Bool, true, cond, ◌&&◌, [], ◌∷◌, leb, Option, None, Some}
use Rattle.model.specs.Text.{Bytes, hex_value_on, digit0, digit9, letter_base}
use Rattle.record.specs.Answer.{is_read}

abbrev pub letter_a : ℕ
letter_a = 97

abbrev pub letter_f : ℕ
letter_f = 102

-- the value of a lower-case digit
unfoldable pub digit : ℕ → Option ℕ
digit b =
    cond (leb digit0 b && leb b digit9) (Some (b - digit0))
    (cond (leb letter_a b && leb b letter_f) (Some (b - letter_base)) None)

unfoldable pub all_hex : Bytes → Bool
all_hex [] = true
all_hex (b ∷ s) = is_read (digit b) && all_hex s

-- digits that follow a number v
unfoldable pub hex_on : ℕ → Bytes → Option ℕ
hex_on v s = cond (all_hex s) (Some (hex_value_on v s)) None
