-- The forms of a record's fields: the values of each, its spelling, and its reading. Assumes nothing: these are definitions.
use Rattle.std.specs.Prelude.{ℕ, zero, suc, Bool, true, false, cond, ◌&&◌, leb, ℤ, pos, negsuc, take, drop, Option, None, Some}
use mathlib.Core.List.{List, [], ◌∷◌, ◌++◌, tail}
use Rattle.model.specs.Text.{Bytes, dash, equals, digit0, digit1, bytes, same, same_by, decimal, value, signed, signed_value, hex_digits, hex_value, escape, unescape}

abbrev pub u32 : ℕ
u32 = 4294967295

abbrev pub u64 : ℕ
u64 = 18446744073709551615

-- the largest signed number of 64 bits
abbrev pub i64 : ℕ
i64 = 9223372036854775807

-- a float has so many hexadecimal digits
abbrev pub float_digits : ℕ
float_digits = 16

-- what a plan numbers
pub data Numbered : Type 0 where
  operator : Numbered
  variable : Numbered

pub data Form : Type 0 where
  num : (limit : ℕ) → Form
  flag : Form
  -- a variable's id
  var : Form
  var_or_absent : Form
  -- a number, or `-`
  num_or_absent : (limit : ℕ) → Form
  -- a number of the plan
  number : Numbered → Form
  number_or_absent : Numbered → Form
  int : Form
  float : Form
  text : Form
  -- `-`, or `=` and a name
  alias : Form
  -- two fields, the start at most the end
  span : Form
  -- three fields: `one - -`, or `var` with two bounds
  length : Form

pub record Span : Type 0 where
  pub start : ℕ
  pub end : ℕ

pub data RelLength : Type 0 where
  Single : RelLength
  Variable : (min max : Option ℕ) → RelLength

abbrev pub Val : Form → Type 0
Val (num l) = ℕ
Val flag = Bool
Val var = ℕ
Val var_or_absent = Option ℕ
Val (num_or_absent l) = Option ℕ
Val (number n) = ℕ
Val (number_or_absent n) = Option ℕ
Val int = ℤ
Val float = ℕ
Val text = Bytes
Val alias = Option Bytes
Val span = Span
Val length = RelLength

-- how many of a line's pieces a form takes
unfoldable pub width : Form → ℕ
width (num l) = 1
width flag = 1
width var = 1
width var_or_absent = 1
width (num_or_absent l) = 1
width (number n) = 1
width (number_or_absent n) = 1
width int = 1
width float = 1
width text = 1
width alias = 1
width span = 2
width length = 3

unfoldable pub spell_flag : Bool → Bytes
spell_flag false = digit0 ∷ []
spell_flag true = digit1 ∷ []

unfoldable pub spell_option : Option ℕ → Bytes
spell_option None = dash
spell_option (Some n) = decimal n

unfoldable pub spell_alias : Option Bytes → Bytes
spell_alias None = dash
spell_alias (Some t) = equals ∷ escape t

unfoldable pub spell_length : RelLength → List Bytes
spell_length Single = bytes "one" ∷ dash ∷ dash ∷ []
spell_length (Variable min max) = bytes "var" ∷ spell_option min ∷ spell_option max ∷ []

unfoldable pub spell : (f : Form) → Val f → List Bytes
spell (num l) n = decimal n ∷ []
spell flag b = spell_flag b ∷ []
spell var n = decimal n ∷ []
spell var_or_absent o = spell_option o ∷ []
spell (num_or_absent l) o = spell_option o ∷ []
spell (number n) k = decimal k ∷ []
spell (number_or_absent n) o = spell_option o ∷ []
spell int z = signed z ∷ []
spell float n = hex_digits float_digits n ∷ []
spell text t = escape t ∷ []
spell alias a = spell_alias a ∷ []
spell span s = decimal s.start ∷ decimal s.end ∷ []
spell length l = spell_length l

-- the range of a form's values
unfoldable pub fits_option : ℕ → Option ℕ → Bool
fits_option l None = true
fits_option l (Some n) = leb n l

unfoldable pub fits_int : ℤ → Bool
fits_int (pos n) = leb n i64
fits_int (negsuc n) = leb n i64

unfoldable pub fits_length : RelLength → Bool
fits_length Single = true
fits_length (Variable min max) = fits_option u64 min && fits_option u64 max

unfoldable pub fits : (f : Form) → Val f → Bool
fits (num l) n = leb n l
fits flag b = true
fits var n = leb n u32
fits var_or_absent o = fits_option u32 o
fits (num_or_absent l) o = fits_option l o
fits (number n) k = leb k u32
fits (number_or_absent n) o = fits_option u32 o
fits int z = fits_int z
fits float n = leb n u64
fits text t = true
fits alias a = true
fits span s = leb s.start s.end && leb s.end u32
fits length l = fits_length l

-- what the pieces could mean at best
unfoldable pub option_value : Bytes → Option ℕ
option_value s = cond (same s dash) None (Some (value s))

unfoldable pub alias_value : Bytes → Option Bytes
alias_value s = cond (same s dash) None (Some (unescape (tail s)))

unfoldable pub length_value : Bytes → Bytes → Bytes → RelLength
length_value k min max = cond (same k (bytes "one")) Single (Variable (option_value min) (option_value max))

-- piece i of a list
unfoldable pub piece : ℕ → List Bytes → Bytes
piece i [] = []
piece zero (p ∷ ps) = p
piece (suc i) (p ∷ ps) = piece i ps

unfoldable pub meaning : (f : Form) → List Bytes → Val f
meaning (num l) ps = value (piece 0 ps)
meaning flag ps = same (piece 0 ps) (digit1 ∷ [])
meaning var ps = value (piece 0 ps)
meaning var_or_absent ps = option_value (piece 0 ps)
meaning (num_or_absent l) ps = option_value (piece 0 ps)
meaning (number n) ps = value (piece 0 ps)
meaning (number_or_absent n) ps = option_value (piece 0 ps)
meaning int ps = signed_value (piece 0 ps)
meaning float ps = hex_value (piece 0 ps)
meaning text ps = unescape (piece 0 ps)
meaning alias ps = alias_value (piece 0 ps)
meaning span ps = record { start = value (piece 0 ps); end = value (piece 1 ps) }
meaning length ps = length_value (piece 0 ps) (piece 1 ps) (piece 2 ps)

-- pieces are read as a value if they are its spelling and it is in range
unfoldable pub read : (f : Form) → List Bytes → Option (Val f)
read f ps =
    let v = meaning f ps in
    cond (fits f v && same_by (λ s t. same s t) (spell f v) ps) (Some v) None

-- the fields of a record
abbrev pub Fields : List Form → Type 0
Fields [] = Unit {0}
Fields (f ∷ fs) = Val f × Fields fs

unfoldable pub spell_fields : (fs : List Form) → Fields fs → List Bytes
spell_fields [] _ = []
spell_fields (f ∷ fs) (v, vs) = spell f v ++ spell_fields fs vs

unfoldable pub both : {A B : Type 0} → Option A → Option B → Option (A × B)
both None o = None
both (Some a) None = None
both (Some a) (Some b) = Some (a, b)

unfoldable pub read_fields : (fs : List Form) → List Bytes → Option (Fields fs)
read_fields [] [] = Some tt
read_fields [] (p ∷ ps) = None
read_fields (f ∷ fs) ps = both (read f (take (width f) ps)) (read_fields fs (drop (width f) ps))
