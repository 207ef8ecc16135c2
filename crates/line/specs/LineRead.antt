-- What reading a line gives: the words of its record. Assumes nothing: these are definitions.
use Rattle.std.specs.Prelude.{◌≡◌, ℕ, ◌+◌, ◌%◌, ◌<◌, ◌≤◌, true, List, length, get_or, Option, None, Some}
use Rattle.std.proofs.Math.Seq.{slice}
use Rattle.model.specs.Text.{Bytes}
use Rattle.model.specs.Field.{Fields, read_fields}
use Rattle.model.specs.Kind.{Sort, Kind}
use Rattle.model.specs.Record.{forms, read_rec}
use Rattle.words.specs.Words.{fields_of, kind_of, decode, part, max_records, record_words, two32}
use Rattle.words.specs.Places.{line_start_at, line_end_at, kind_at, children_at, kind_count}
use Rattle.words.specs.Held.{Flags, Texts, total}
use Rattle.words.specs.Table.{forms_at, groups_of}
use Rattle.record.specs.declared.piece.Piece.{Piece}
use Rattle.record.specs.Place.{LineEnd, separates}
use Rattle.line.specs.Place.{pieces_at}

-- ── what the functions ask ──

-- the fields of a kind, from behind place p on: a piece ends at p, and there are the words of a record
pub record FieldsAsked (sheet : Bytes) (p : ℕ) (ws : List ℕ) : Type 0 where
  pub stop : separates (get_or sheet p 0) ≡ true
  pub words : length ws ≡ record_words

-- ── fields ──

-- a record's words from here on are its fields', two each
abbrev pub first_word : ℕ
first_word = 2

-- and none from here on: a record has at most six fields
abbrev pub fields_end : ℕ
fields_end = 14

-- the same words up to those of the last field
abbrev pub Alike : List ℕ → List ℕ → Type 0
Alike ws vs = (c : ℕ) → c < fields_end → get_or vs c 0 ≡ get_or ws c 0

-- The fields of kind n are those that the words hold, whatever stands behind them, and the line ends behind the last; or there are none. The first one's piece begins behind place p.
abbrev pub FieldsAnswer : Option ℕ → (n : ℕ) (sheet : Bytes) (p e : ℕ) (ws : List ℕ) → Type 0
FieldsAnswer (Some z) n sheet p e ws = (z ≡ e) × ((vs : List ℕ) → Alike ws vs → (read_fields (forms_at n) (pieces_at sheet (p + 1) e) ≡ Some (fields_of (forms_at n) sheet vs 0)) × Flags (forms_at n) vs 0 × Texts (forms_at n) sheet vs 0)
FieldsAnswer None n sheet p e ws = read_fields (forms_at n) (pieces_at sheet (p + 1) e) ≡ None

-- the words that no field has are as they were: those before the first field's and those behind the last one's
abbrev pub Kept : List ℕ → List ℕ → Type 0
Kept before after = (c : ℕ) → (first_word ≤ c → fields_end ≤ c) → get_or after c 0 ≡ get_or before c 0

-- behind place p
pub record FieldsRead (n : ℕ) (sheet : Bytes) (p e : ℕ) (before after : List ℕ) (r : Option ℕ) : Type 0 where
  pub answer : FieldsAnswer r n sheet p e after
  pub kept : Kept before after
  pub long : length after ≡ record_words

-- ── a record ──

-- the line is a record of kind number n, and the words hold it
pub record Got (s : Sort) (sheet : Bytes) (p e : ℕ) (ws : List ℕ) (n : ℕ) : Type 0 where
  pub kind : Kind s
  pub fields : Fields (forms s kind)
  pub read : read_rec s (slice p e sheet) ≡ Some (kind, fields)
  pub held : decode s sheet ws ≡ Some (kind, fields)
  pub flags : Flags (forms s kind) ws 0
  pub texts : Texts (forms s kind) sheet ws 0
  pub number : get_or ws kind_at 0 ≡ n
  pub start : get_or ws line_start_at 0 ≡ p
  pub end : get_or ws line_end_at 0 ≡ e + 1
  pub kids : get_or ws children_at 0 ≡ total (groups_of n ws) % two32
  pub named : kind_of s n ≡ Some kind
  pub low : n < kind_count

abbrev pub LineAnswer : Option (Piece ℕ) → (s : Sort) (sheet : Bytes) (p e : ℕ) (ws : List ℕ) → Type 0
LineAnswer (Some k) s sheet p e ws = (k.end ≡ e + 1) × Got s sheet p e ws k.value
LineAnswer None s sheet p e ws = read_rec s (slice p e sheet) ≡ None

-- the line from p up to e, read as a record of a sort; the next one begins behind its line feed
pub record LineRead (s : Sort) (sheet : Bytes) (p e : ℕ) (ws : List ℕ) (r : Option (Piece ℕ)) : Type 0 where
  pub answer : LineAnswer r s sheet p e ws
  pub long : length ws ≡ record_words

-- the same in the words of record i of two slices; the other records stay
pub record IntoRead (s : Sort) (sheet : Bytes) (p e i : ℕ) (a b a₁ b₁ : List ℕ) (r : Option (Piece ℕ)) : Type 0 where
  pub line : LineRead s sheet p e (part a₁ b₁ i) r
  pub others : (j : ℕ) → j < max_records → (j ≡ i → ⊥) → part a₁ b₁ j ≡ part a b j
  pub first : length a₁ ≡ length a
  pub second : length b₁ ≡ length b

-- the line that place p is in
abbrev pub FieldsHere : ℕ → Bytes → ℕ → List ℕ → List ℕ → Option ℕ → Type 0
FieldsHere n sheet p before after r = (e : ℕ) → LineEnd sheet p e → FieldsRead n sheet p e before after r

abbrev pub LineHere : Sort → Bytes → ℕ → List ℕ → Option (Piece ℕ) → Type 0
LineHere s sheet p ws r = (e : ℕ) → LineEnd sheet p e → LineRead s sheet p e ws r

abbrev pub IntoHere : Sort → Bytes → ℕ → ℕ → List ℕ → List ℕ → List ℕ → List ℕ → Option (Piece ℕ) → Type 0
IntoHere s sheet p i a b a₁ b₁ r = (e : ℕ) → LineEnd sheet p e → IntoRead s sheet p e i a b a₁ b₁ r
