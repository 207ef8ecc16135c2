-- Bytes, numbers and names as a sheet spells them. Each form has a spelling; what a text could mean at best is its `value`, `unescape` and so on, and `Field.read` takes that for read only if it spells the text again. So the spellings alone say what is read. Assumes nothing: these are definitions.
use Rattle.std.specs.Prelude.{ℕ, zero, suc, ◌+◌, ◌*◌, ◌-◌, ◌/◌, ◌%◌, Bool, true, false, cond, not, ◌&&◌, List, [], ◌∷◌, ◌++◌, eqb, ltb, leb, ℤ, pos, negsuc}
use Prim.Native.String.{String, len, char_at}
use Prim.Native.Char.{code}

abbrev pub Bytes : Type 0
Bytes = List ℕ

-- the bytes of an ASCII text
unfoldable pub bytes_from : String → ℕ → ℕ → Bytes
bytes_from s zero i = []
bytes_from s (suc n) i = code (char_at s i) ∷ bytes_from s n (suc i)

unfoldable pub bytes : String → Bytes
unfolding bytes_from
bytes s = bytes_from s (len s) 0

abbrev pub tab : ℕ
tab = 9

abbrev pub line_feed : ℕ
line_feed = 10

abbrev pub backslash : ℕ
backslash = 92

-- the letters that stand for tab and line feed behind a backslash
abbrev pub letter_t : ℕ
letter_t = 116

abbrev pub letter_n : ℕ
letter_n = 110

-- the minus sign
abbrev pub minus : ℕ
minus = 45

-- what stands for something absent
abbrev pub dash : Bytes
dash = minus ∷ []

-- what a name that is given stands behind
abbrev pub equals : ℕ
equals = 61

abbrev pub digit0 : ℕ
digit0 = 48

abbrev pub digit1 : ℕ
digit1 = 49

abbrev pub digit9 : ℕ
digit9 = 57

-- the byte of a hexadecimal letter is so far above its value
abbrev pub letter_base : ℕ
letter_base = 87

-- two lists are the same, element by element
unfoldable pub same_by : {A : Type 0} → (A → A → Bool) → List A → List A → Bool
same_by eq [] [] = true
same_by eq [] (b ∷ t) = false
same_by eq (a ∷ s) [] = false
same_by eq (a ∷ s) (b ∷ t) = eq a b && same_by eq s t

unfoldable pub same : Bytes → Bytes → Bool
same s t = same_by (λ a b. eqb a b) s t

-- the pieces of a text between separators: the first, and those after it
pub record Pieces : Type 0 where
  pub first : Bytes
  pub more : List Bytes

unfoldable pub split : ℕ → Bytes → Pieces
split sep [] = record { first = []; more = [] }
split sep (b ∷ s) =
    let r = split sep s in
    cond (eqb b sep) (record { first = []; more = r.first ∷ r.more }) (record { first = b ∷ r.first; more = r.more })

-- what is split into such pieces
unfoldable pub behind : ℕ → List Bytes → Bytes
behind sep [] = []
behind sep (p ∷ ps) = sep ∷ (p ++ behind sep ps)

unfoldable pub join : ℕ → Pieces → Bytes
join sep p = p.first ++ behind sep p.more

-- decimal, with no spare zero; k is a bound on the digits
unfoldable pub digits : ℕ → ℕ → Bytes
digits zero n = []
digits (suc k) n = cond (ltb n 10) ((digit0 + n) ∷ []) (digits k (n / 10) ++ ((digit0 + n % 10) ∷ []))

-- no number of a sheet has more than 64 bits, so that this many digits are enough
abbrev pub max_digits : ℕ
max_digits = 20

unfoldable pub decimal : ℕ → Bytes
decimal n = digits max_digits n

unfoldable pub value_on : ℕ → Bytes → ℕ
value_on v [] = v
value_on v (b ∷ s) = value_on (v * 10 + (b - digit0)) s

unfoldable pub value : Bytes → ℕ
value s = value_on 0 s

unfoldable pub signed : ℤ → Bytes
signed (pos n) = decimal n
signed (negsuc n) = minus ∷ decimal (suc n)

unfoldable pub negative : ℕ → ℤ
negative zero = pos 0
negative (suc n) = negsuc n

unfoldable pub signed_value : Bytes → ℤ
signed_value [] = pos 0
signed_value (b ∷ s) = cond (eqb b minus) (negative (value s)) (pos (value (b ∷ s)))

-- k hexadecimal digits, lower case
unfoldable pub hex_digit : ℕ → ℕ
hex_digit d = cond (ltb d 10) (digit0 + d) (letter_base + d)

unfoldable pub hex_digits : ℕ → ℕ → Bytes
hex_digits zero n = []
hex_digits (suc k) n = hex_digits k (n / 16) ++ (hex_digit (n % 16) ∷ [])

unfoldable pub hex_digit_value : ℕ → ℕ
hex_digit_value b = cond (leb b digit9) (b - digit0) (b - letter_base)

unfoldable pub hex_value_on : ℕ → Bytes → ℕ
hex_value_on v [] = v
hex_value_on v (b ∷ s) = hex_value_on (v * 16 + hex_digit_value b) s

unfoldable pub hex_value : Bytes → ℕ
hex_value s = hex_value_on 0 s

-- a name: tab, line feed and backslash are escaped, and no other byte is
unfoldable pub escape_byte : ℕ → Bytes
escape_byte b =
    cond (eqb b tab) (backslash ∷ letter_t ∷ [])
    (cond (eqb b line_feed) (backslash ∷ letter_n ∷ [])
    (cond (eqb b backslash) (backslash ∷ backslash ∷ [])
    (b ∷ [])))

unfoldable pub escape : Bytes → Bytes
escape [] = []
escape (b ∷ t) = escape_byte b ++ escape t

-- the byte that a letter stands for behind a backslash
unfoldable pub unescape_byte : ℕ → ℕ
unescape_byte c = cond (eqb c letter_t) tab (cond (eqb c letter_n) line_feed c)

-- what a byte adds to the name; `after` says that a backslash stands before it
unfoldable pub meant : Bool → ℕ → Bytes
meant after b = cond after (unescape_byte b ∷ []) (cond (eqb b backslash) [] (b ∷ []))

unfoldable pub unescape_on : Bool → Bytes → Bytes
unescape_on false [] = []
unescape_on true [] = backslash ∷ []
unescape_on after (b ∷ s) = meant after b ++ unescape_on (not after && eqb b backslash) s

unfoldable pub unescape : Bytes → Bytes
unescape s = unescape_on false s
