-- How words hold records: sixteen words a record, the first 1,024 records in one slice and the others in a second. Word 0 is the number of the record's kind; words 1 and 15 say where its line stands, word 14 how many children it has; field g is words 2g + 2 and 2g + 3; a text is its place in the sheet.
-- One function reads a record of a sort off its words, and the crates above cite that. Definitions only.
use Rattle.std.specs.Prelude.{ℕ, zero, suc, ◌+◌, ◌*◌, ◌-◌, ◌≤◌, cond, List, [], ◌∷◌, eqb, ltb, ℤ, pos, negsuc, length, get_or, Option, None, Some}
use Rattle.std.proofs.Math.Seq.{slice}
use Rattle.model.specs.Text.{Bytes, unescape, split, tab}
use Rattle.model.specs.Field.{Form, num, flag, var, var_or_absent, num_or_absent, number, number_or_absent, int, float, text, alias, span, Fields, Val, meaning}
use Rattle.model.specs.Field
use Rattle.model.specs.Kind.{Sort, Kind, statement, union_arm, clause, projection, order_item, pattern_part, pattern_element, name, yield_item, entry, expr, in_plan}
use Rattle.model.specs.Record.{RecOf, forms, kinds}
use Rattle.model.specs.Call.{work_words}
use Rattle.words.specs.Places.{kind_at, stmt_kind, arm_kind, match_kind, item_kind, key_kind, part_kind, node_kind, name_kind, yield_kind, entry_kind, null_kind, kind_count}

-- ── places ──

abbrev pub max_records : ℕ
max_records = 2048

abbrev pub record_words : ℕ
record_words = 16

-- so many stand in the first slice
abbrev pub first_records : ℕ
first_records = 1024

-- the slices are long enough
pub record Roomy (a b : List ℕ) : Type 0 where
  pub first : work_words ≤ length a
  pub second : work_words ≤ length b

-- word c of record i
abbrev pub cell : List ℕ → List ℕ → ℕ → ℕ → ℕ
cell a b i c = cond (ltb i first_records) (get_or a (i * record_words + c) 0) (get_or b ((i - first_records) * record_words + c) 0)

-- the sixteen words of record i
unfoldable pub part : List ℕ → List ℕ → ℕ → List ℕ
part a b i =
    cond
    (ltb i first_records)
    (slice (i * record_words) (i * record_words + record_words) a)
    (slice ((i - first_records) * record_words) ((i - first_records) * record_words + record_words) b)

-- ── fields ──

abbrev pub two32 : ℕ
two32 = 4294967296

abbrev pub two31 : ℕ
two31 = 2147483648

-- a signed number: the high word's top bit says that it is negative, and the rest is then one less than its size
unfoldable pub int_of : ℕ → ℕ → ℤ
int_of lo hi = cond (ltb hi two31) (pos (hi * two32 + lo)) (negsuc ((hi - two31) * two32 + lo))

-- a number or none, by a first word that is 0 for none
unfoldable pub option_of : ℕ → ℕ → Option ℕ
option_of zero n = None
option_of (suc p) n = Some n

-- a name at a place; no name stands at the place 0
unfoldable pub alias_of : Bytes → ℕ → ℕ → Option Bytes
alias_of sheet zero y = None
alias_of sheet (suc x) y = Some (unescape (slice (suc x) y sheet))

-- pieces of a part of the sheet
unfoldable pub pieces_of : Bytes → List Bytes
pieces_of s = let p = split tab s in p.first ∷ p.more

-- a field's value, from its two words
unfoldable pub field_of : (f : Form) → Bytes → ℕ → ℕ → Val f
field_of (num l) sheet x y = x
field_of flag sheet x y = eqb x 1
field_of var sheet x y = x
field_of var_or_absent sheet x y = option_of x y
field_of (num_or_absent l) sheet x y = option_of x y
field_of (number n) sheet x y = x
field_of (number_or_absent n) sheet x y = option_of x y
field_of int sheet x y = int_of x y
field_of float sheet x y = y * two32 + x
field_of text sheet x y = unescape (slice x y sheet)
field_of alias sheet x y = alias_of sheet x y
field_of span sheet x y = record { start = x; end = y }
field_of Field.length sheet x y = meaning Field.length (pieces_of (slice x y sheet))

-- the two words of field g
abbrev pub first_at : ℕ → ℕ
first_at g = g + g + 2

abbrev pub second_at : ℕ → ℕ
second_at g = g + g + 3

-- the fields from field g on
unfoldable pub fields_of : (fs : List Form) → Bytes → List ℕ → ℕ → Fields fs
fields_of [] sheet ws g = tt
fields_of (f ∷ fs) sheet ws g = (field_of f sheet (get_or ws (first_at g) 0) (get_or ws (second_at g) 0), fields_of fs sheet ws (suc g))

-- ── kinds ──

-- the number of a sort's first kind: kinds are numbered sort by sort, in the table's order
unfoldable pub first_kind : Sort → ℕ
first_kind statement = stmt_kind
first_kind union_arm = arm_kind
first_kind clause = match_kind
first_kind projection = item_kind
first_kind order_item = key_kind
first_kind pattern_part = part_kind
first_kind pattern_element = node_kind
first_kind name = name_kind
first_kind yield_item = yield_kind
first_kind entry = entry_kind
first_kind expr = null_kind
first_kind (in_plan p) = kind_count

unfoldable pub nth : {A : Type 0} → List A → ℕ → Option A
nth [] i = None
nth (a ∷ l) zero = Some a
nth (a ∷ l) (suc i) = nth l i

unfoldable pub kind_of : (s : Sort) → ℕ → Option (Kind s)
kind_of s n = cond (ltb n (first_kind s)) None (nth (kinds s) (n - first_kind s))

-- ── records ──

unfoldable pub rec_of : (s : Sort) → Bytes → List ℕ → Option (Kind s) → Option (RecOf s)
rec_of s sheet ws None = None
rec_of s sheet ws (Some k) = Some (k, fields_of (forms s k) sheet ws 0)

-- sixteen words, read as a record of a sort
unfoldable pub decode : (s : Sort) → Bytes → List ℕ → Option (RecOf s)
decode s sheet ws = rec_of s sheet ws (kind_of s (get_or ws kind_at 0))
