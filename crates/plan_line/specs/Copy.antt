-- A line that is the same in both sheets, and a text of a line. Assumes nothing: these are definitions.
use Rattle.std.specs.Prelude.{◌≡◌, ℕ, ◌+◌, ◌<◌, ◌≤◌, List, length}
use Rattle.std.proofs.Math.Seq.{slice}
use Rattle.model.specs.Text.{Bytes}
use Rattle.model.specs.Field.{Fields}
use Rattle.model.specs.Kind.{Sort, Kind}
use Rattle.model.specs.Record.{rec, forms, spell_rec}
use Rattle.output.specs.declared.Page.{Page}
use Rattle.output.specs.Page.{Puts}
use Rattle.words.specs.Words.{cell, two32}
use Rattle.words.specs.declared.records.Record.{Record}
use Rattle.words.specs.Held.{RecordAt}

-- some record stands at i
pub record SomeRecord (sheet : Bytes) (a b : List ℕ) (i : ℕ) : Type 0 where
  pub sort : Sort
  pub kind : Kind sort
  pub fields : Fields (forms sort kind)
  pub at : RecordAt sheet a b i sort kind fields

-- its line is put, whatever record it is
pub record Copied (sheet : Bytes) (a b : List ℕ) (i : ℕ) (p q : Page) : Type 0 where
  pub line : (s : Sort) (k : Kind s) (f : Fields (forms s k)) → RecordAt sheet a b i s k f → Puts (spell_rec (rec s k f)) p q

-- it has n bytes, whatever record it is
pub record LineBytes (a b : List ℕ) (i n : ℕ) : Type 0 where
  pub long : (sheet : Bytes) (s : Sort) (k : Kind s) (f : Fields (forms s k)) → RecordAt sheet a b i s k f → n ≡ length (spell_rec (rec s k f))
  pub few : n < two32

-- the text whose place stands in word c of record i and in the next one
abbrev pub text_at : Bytes → List ℕ → List ℕ → (i c : ℕ) → Bytes
text_at sheet a b i c = slice (cell a b i c) (cell a b i (c + 1)) sheet

-- what a line with such a text asks
pub record TextAsked (sheet : Bytes) (a b : List ℕ) (i c : ℕ) : Type 0 where
  pub from : cell a b i c ≤ cell a b i (c + 1)
  pub to : cell a b i (c + 1) ≤ length sheet

-- such a text has n bytes, whatever sheet it stands in
pub record TextBytes (a b : List ℕ) (i c n : ℕ) : Type 0 where
  pub long : (sheet : Bytes) → TextAsked sheet a b i c → n ≡ length (text_at sheet a b i c)
  pub few : n < two32

-- ── the same of one record with its number ──

abbrev pub word_of : Record → (c : ℕ) → ℕ
word_of r c = cell r.records.now.a.now r.records.now.b.now r.i c

abbrev pub text_of : Bytes → Record → (c : ℕ) → Bytes
text_of sheet r c = text_at sheet r.records.now.a.now r.records.now.b.now r.i c

abbrev pub TextIn : Bytes → Record → (c : ℕ) → Type 0
TextIn sheet r c = TextAsked sheet r.records.now.a.now r.records.now.b.now r.i c

abbrev pub TextHas : Record → (c n : ℕ) → Type 0
TextHas r c n = TextBytes r.records.now.a.now r.records.now.b.now r.i c n

abbrev pub RecordIn : Bytes → Record → Type 0
RecordIn sheet r = SomeRecord sheet r.records.now.a.now r.records.now.b.now r.i

abbrev pub LineCopied : Bytes → Record → Page → Page → Type 0
LineCopied sheet r p q = Copied sheet r.records.now.a.now r.records.now.b.now r.i p q

abbrev pub LineHas : Record → ℕ → Type 0
LineHas r n = LineBytes r.records.now.a.now r.records.now.b.now r.i n
