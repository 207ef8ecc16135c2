-- A line from its keyword and its fields. Assumes nothing.
use mathlib.Core.Path.{◌≡◌, refl, sym, ap, ◌∙◌}
use Prim.Native.Nat.{ℕ, ◌+◌, ◌%◌, ◌<◌}
use mathlib.Core.List.{List, ◌∷◌}
use Rattle.std.specs.Prelude.{Option, None, Some}
use native.Mathlib.Omega.{arith}
use borrow.Author.Tests.{ltb-true}
use lib.ListN.{length, get_or, set, length-set}
use lib.Seq.{slice, get_or-set_same, get_or-set_other}
use Rattle.words.specs.Places.{kind_count, sort_count, kind_at, line_start_at, children_at, line_end_at}
use Rattle.model.specs.Text.{Bytes, split, tab}
use Rattle.model.specs.Kind.{Sort, Kind}
use Rattle.model.specs.Record.{kinds, forms, kind_named, with_fields, read_as, read_rec}
use Rattle.words.specs.Words.{pieces_of, fields_of, kind_of, rec_of, decode, record_words, two32}
use Rattle.words.specs.Held.{total}
use Rattle.words.specs.Table.{sort_of, groups_of}
use Rattle.words.specs.TableLaws.{Row, tabled, kind_row}
use Rattle.record.specs.Place.{LineEnd, Fed, Ends}
use Rattle.line.specs.declared.kind.Keyword.{Keyword}
use Rattle.line.specs.Kinds.{KeywordAt, kind_found, Named}
use Rattle.line.specs.Place.{pieces_at}
use Rattle.line.specs.LineRead.{Alike, FieldsRead, FieldsHere, Got, LineHere}
use Rattle.line.proofs.KindLaws.{untold}
use Rattle.line.proofs.CountLaws.{same_total}
use Rattle.line.proofs.PlaceLaws.{piece_at, line_at, pieces_from, some_left}

-- a line read by its pieces
by_pieces : (s : Sort) (l a : Bytes) (ms : List Bytes) → pieces_of l ≡ a ∷ ms → read_rec s l ≡ read_as s ms (kind_named s a (kinds s))
unfolding read_rec pieces_of
by_pieces s l a ms e =
    let first : (split tab l).first ≡ a = cc in
    let more : (split tab l).more ≡ ms = cc in
    rw (first, more)

-- what the fields leave, and where they end
module _ (n : ℕ) (sheet : Bytes) (p r : ℕ) (f : Fed sheet p) (h : Ends sheet p r) (ws ws₁ : List ℕ) (t : Option ℕ) (z : FieldsHere n sheet r ws ws₁ t) where
  fields_there : FieldsRead n sheet r f.end ws ws₁ t
  fields_there = z f.end (line_at sheet p f.end f.line r h)

  pub fields_long : length ws₁ ≡ record_words
  fields_long = fields_there.long

module _ (sheet : Bytes) (p m r : ℕ) (low : m < sort_count) (ends : Ends sheet p r) (w : Option ℕ) (named : Named (sort_of m) (slice p r sheet) w) where
  line_is : (e : ℕ) → LineEnd sheet p e → read_rec (sort_of m) (slice p e sheet) ≡ read_as (sort_of m) (pieces_at sheet (r + 1) e) (kind_found (sort_of m) w)
  line_is e l =
      let f = piece_at sheet p e l r ends in
      by_pieces (sort_of m) _ _ _ (sym (some_left sheet p e l.from) ∙ pieces_from sheet p e r (omega (arith, l.to)) f e f.to (omega arith))
      ∙ ap (read_as (sort_of m) (pieces_at sheet (r + 1) e)) named.is

  pub line_unnamed : w ≡ None → (ws : List ℕ) → length ws ≡ record_words → LineHere (sort_of m) sheet p ws None
  unfolding read_as
  line_unnamed q ws n e l = record { answer = line_is e l ∙ ap (λ x. read_as (sort_of m) (pieces_at sheet (r + 1) e) (kind_found (sort_of m) x)) q; long = n }

  module _ (n : ℕ) (q : w ≡ Some n) where
    kind : Kind (sort_of m)
    kind = (rw q at named.known).0

    known : kind_of (sort_of m) n ≡ Some kind
    unfolding kind
    known = (rw q at named.known).1

    table : Row (sort_of m) n kind
    table = kind_row (sort_of m) (λ i j. Row (sort_of m) i j) (tabled m low).rows n kind known

    pub line_low : n < kind_count
    line_low = ltb-true n kind_count table.low

    fields_is : (e : ℕ) → LineEnd sheet p e → read_rec (sort_of m) (slice p e sheet) ≡ read_as (sort_of m) (pieces_at sheet (r + 1) e) (Some kind)
    fields_is e l = line_is e l ∙ ap (λ x. read_as (sort_of m) (pieces_at sheet (r + 1) e) (kind_found (sort_of m) x)) q ∙ ap (read_as (sort_of m) (pieces_at sheet (r + 1) e)) known

    module _ (ws ws₁ : List ℕ) (long : length ws ≡ record_words) (t : Option ℕ) (z : FieldsHere n sheet r (set (set ws line_start_at p) kind_at n) ws₁ t) where
      fields_here : (e : ℕ) → LineEnd sheet p e → FieldsRead n sheet r e (set (set ws line_start_at p) kind_at n) ws₁ t
      fields_here e l = z e (line_at sheet p e l r ends)

      pub line_not : t ≡ None → LineHere (sort_of m) sheet p ws₁ None
      unfolding read_as with_fields
      line_not o e l =
          let none = rw table.fields at (rw o at (fields_here e l).answer) in
          record { answer = fields_is e l ∙ ap (with_fields (sort_of m) kind) none; long = (fields_here e l).long }

      -- ── a record ──

      module _ (e₁ : ℕ) (o : t ≡ Some e₁) (many : ℕ) (counts : many ≡ total (groups_of n ws₁) % two32) (e : ℕ) (l : LineEnd sheet p e) where
        read : FieldsRead n sheet r e (set (set ws line_start_at p) kind_at n) ws₁ (Some e₁)
        read = rw o at (fields_here e l)

        at_end_law : e₁ ≡ e
        at_end_law = read.answer.0

        -- the number of children, and behind it the end of the line
        abbrev ws₂ : List ℕ
        ws₂ = set ws₁ children_at many

        abbrev ws₃ : List ℕ
        ws₃ = set ws₂ line_end_at (e₁ + 1)

        -- no other word has changed
        others : (c : ℕ) → (c ≡ children_at → ⊥) → (c ≡ line_end_at → ⊥) → get_or ws₃ c 0 ≡ get_or ws₁ c 0
        others c h k = get_or-set_other ws₂ line_end_at c (e₁ + 1) 0 k ∙ get_or-set_other ws₁ children_at c many 0 h

        first_word : get_or ws₃ kind_at 0 ≡ n
        first_word =
            others kind_at (omega arith) (omega arith) ∙ read.kept kind_at (λ h. absurd (omega arith))
            ∙ get_or-set_same (set ws line_start_at p) kind_at n 0 (omega (arith, length-set ws line_start_at p))

        start_word : get_or ws₃ line_start_at 0 ≡ p
        start_word =
            others line_start_at (omega arith) (omega arith) ∙ read.kept line_start_at (λ h. absurd (omega arith))
            ∙ get_or-set_other (set ws line_start_at p) kind_at line_start_at n 0 (omega arith) ∙ get_or-set_same ws line_start_at p 0 (omega arith)

        end_word : get_or ws₃ line_end_at 0 ≡ e + 1
        end_word = get_or-set_same ws₂ line_end_at (e₁ + 1) 0 (omega (arith, length-set ws₁ children_at many, read.long)) ∙ ap (λ x. x + 1) at_end_law

        same_fields : Alike ws₁ ws₃
        same_fields c h = others c (omega arith) (omega arith)

        children_word : get_or ws₃ children_at 0 ≡ total (groups_of n ws₃) % two32
        children_word =
            get_or-set_other ws₂ line_end_at children_at (e₁ + 1) 0 (omega arith) ∙ get_or-set_same ws₁ children_at many 0 (omega (arith, read.long))
            ∙ counts ∙ ap (λ x. x % two32) (sym (same_total n ws₁ ws₃ same_fields))

        got : Got (sort_of m) sheet p e ws₃ n
        unfolding read_as with_fields decode rec_of
        got =
            let yes = rw table.fields at (read.answer.1 ws₃ same_fields) in
            record {
              kind = kind;
              fields = fields_of (forms (sort_of m) kind) sheet ws₃ 0;
              read = fields_is e l ∙ ap (with_fields (sort_of m) kind) yes.0;
              held = rw (first_word, known);
              flags = yes.1;
              texts = yes.2;
              number = first_word;
              start = start_word;
              end = end_word;
              kids = children_word;
              named = known;
              low = line_low;
            }

      pub line_got : (e₁ : ℕ) → t ≡ Some e₁ → (many : ℕ) → many ≡ total (groups_of n ws₁) % two32 → LineHere (sort_of m) sheet p (set (set ws₁ children_at many) line_end_at (e₁ + 1)) (Some (record { value = n; end = e₁ + 1 }))
      line_got e₁ o many counts e l =
          record {
            answer = (ap (λ x. x + 1) (at_end_law e₁ o many counts e l), got e₁ o many counts e l);
            long = length-set (set ws₁ children_at many) line_end_at (e₁ + 1) ∙ length-set ws₁ children_at many ∙ (read e₁ o many counts e l).long;
          }

-- a keyword longer than all others
pub line_keyless : (sheet : Bytes) (p m : ℕ) → m < sort_count → (k : Keyword) → k.word ≡ None → KeywordAt sheet p k → (ws : List ℕ) → length ws ≡ record_words → LineHere (sort_of m) sheet p ws None
line_keyless sheet p m low k none key ws n = line_unnamed sheet p m k.end low key.ends None (untold m (slice p k.end sheet) low (rw none at key.packed)) refl ws n
