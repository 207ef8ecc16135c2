-- What reading a field gives: its two words, and where it ends. Assumes nothing: these are definitions.
use Rattle.std.specs.Prelude.{◌≡◌, ℕ, ◌+◌, ◌≤◌, ◌<◌, List, [], ◌∷◌, take, drop, get_or, Option, None, Some}
use Rattle.std.proofs.Math.Seq.{slice}
use Rattle.model.specs.Text.{Bytes, tab}
use Rattle.model.specs.Field.{Form, Val, read, width}
use Rattle.words.specs.Words.{field_of}
use Rattle.words.specs.Held.{Flag, Text}
use Rattle.record.specs.declared.piece.Piece.{Piece}
use Rattle.record.specs.InPlace.{value_in, end_in}
use Rattle.record.specs.Place.{LineEnd, Ends, EndsAt}
use Rattle.line.specs.Place.{pieces_at}
use Rattle.line.specs.declared.field.Words.{Words}

-- the value that two words stand for
abbrev pub words_value : (f : Form) → Bytes → Option Words → Option (Val f)
words_value f sheet (Some w) = Some (field_of f sheet w.first w.second)
words_value f sheet None = None

-- a flag's word is 0 or 1, and a text stands at its place
abbrev pub WordsFit : Form → Bytes → Option Words → Type 0
WordsFit f sheet (Some w) = Flag f w.first × Text f sheet w.first w.second
WordsFit f sheet None = Unit {0}

-- pieces are read as the value of two words, or not at all
pub record WordsOf (f : Form) (sheet : Bytes) (ps : List Bytes) (r : Option Words) : Type 0 where
  pub is : read f ps ≡ words_value f sheet r
  pub fit : WordsFit f sheet r

-- a field of one piece, that at place p
pub record WordsAt (f : Form) (sheet : Bytes) (p : ℕ) (r : Option (Piece Words)) : Type 0 where
  pub is : (q : ℕ) → Ends sheet p q → WordsOf f sheet (slice p q sheet ∷ []) (value_in r)
  pub ends : EndsAt sheet p (end_in r)

-- the piece at place p was read on its own, and P is so of it and what was read
pub record Own (sheet : Bytes) (p : ℕ) (P : Bytes → Option Words → Type 0) (r : Option (Piece Words)) : Type 0 where
  pub end : ℕ
  pub piece : Ends sheet p end
  pub reads : P (slice p end sheet) (value_in r)
  pub ends : EndsAt sheet p (end_in r)

-- the field's last piece ends at r, before the line's end at a tab, and the pieces behind the field's begin behind r
pub record BehindAt (f : Form) (sheet : Bytes) (p e r : ℕ) : Type 0 where
  pub from : p ≤ r
  pub to : r ≤ e
  pub stop : r < e → get_or sheet r 0 ≡ tab
  pub pieces : pieces_at sheet (r + 1) e ≡ drop (width f) (pieces_at sheet p e)

abbrev pub Behind : Form → Bytes → ℕ → ℕ → Option ℕ → Type 0
Behind f sheet p e (Some r) = BehindAt f sheet p e r
Behind f sheet p e None = Unit {0}

-- the field at place p of a line that ends at e
pub record FieldAt (f : Form) (sheet : Bytes) (p e : ℕ) (r : Option (Piece Words)) : Type 0 where
  pub words : WordsOf f sheet (take (width f) (pieces_at sheet p e)) (value_in r)
  pub behind : Behind f sheet p e (end_in r)

-- of the line that place p is in
abbrev pub FieldHere : Form → Bytes → ℕ → Option (Piece Words) → Type 0
FieldHere f sheet p r = (e : ℕ) → LineEnd sheet p e → FieldAt f sheet p e r
