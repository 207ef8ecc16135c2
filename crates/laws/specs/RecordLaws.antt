-- Laws of lines: a line is read as a record exactly if it spells the record and the fields fit; and the lines of a sheet of records. Assumes nothing: each law is proved.
use Rattle.std.specs.Prelude.{◌≡◌, refl, Bool, true, List, [], ◌∷◌, ◌++◌, ℕ, Option, None, Some}
use Rattle.std.proofs.Common.{sym, ◌∙◌, ap, ap₂, subst, append-nil, append_assoc}
use Rattle.std.proofs.lemmas.Option.{none-some, same_Some}
use Rattle.model.specs.Text.{Bytes, Pieces, split, behind, join, tab, line_feed}
use Rattle.model.specs.Field.{Fields, spell_fields, read_fields}
use Rattle.model.specs.Kind.{Sort, Kind}
use Rattle.model.specs.Record.{forms, keyword, kinds, Rec, rec, spell_rec, spell_recs, kind_named, RecOf, with_fields, read_as, read_rec}
use Rattle.laws.specs.TextLaws.{Free, Separator, between_fields, between_lines, Parted, split_join, split_line, join_split, join_free}
use Rattle.laws.specs.FieldLaws.{fits_all, spell_fields_read, read_fields_spell, spell_fields_free}
use Rattle.laws.specs.KindLaws.{kind_named_law, named_keyword, forms_limited, keyword_free}

-- keyword and fields of a record
unfoldable pub line_pieces : Rec → Pieces
line_pieces r = record { first = keyword r.sort r.kind; more = spell_fields (forms r.sort r.kind) r.fields }

-- its line, without the line feed
unfoldable pub line_text : Rec → Bytes
line_text r = join tab (line_pieces r)

-- the record that a line was read as
abbrev pub rec_of : (s : Sort) → RecOf s → Rec
rec_of s x = rec s x.0 x.1

-- its fields are in range
unfoldable pub fits_rec : Rec → Bool
fits_rec r = fits_all (forms r.sort r.kind) r.fields

abbrev pub Fits : Rec → Type 0
Fits r = fits_rec r ≡ true

pub pieces_parted : {sep : ℕ} → Separator sep → (r : Rec) → Parted sep (line_pieces r)
unfolding line_pieces
pieces_parted q r = record { first = keyword_free q r.sort r.kind; more = spell_fields_free q (forms r.sort r.kind) r.fields }

-- a line holds no line feed
pub line_free : (r : Rec) → Free line_feed (line_text r)
unfolding line_text
line_free r = join_free line_feed tab refl (line_pieces r) (pieces_parted between_lines r)

-- ── a line is read as the record that it spells, and as no other ──

-- a record that fits is read from its line
pub line_read : (s : Sort) (x : RecOf s) → Fits (rec_of s x) → read_rec s (line_text (rec_of s x)) ≡ Some x
unfolding fits_rec line_pieces line_text read_rec read_as with_fields
line_read s x h = rw (split_join tab (line_pieces (rec_of s x)) (pieces_parted between_fields (rec_of s x)), kind_named_law s x.0, spell_fields_read (forms s x.0) (forms_limited s x.0) x.1 h)

read_as_some : (s : Sort) (ps : List Bytes) (o : Option (Kind s)) (x : RecOf s) → read_as s ps o ≡ Some x → (o ≡ Some x.0) × (read_fields (forms s x.0) ps ≡ Some x.1)
unfolding read_as with_fields
read_as_some s ps None x e = absurd (none-some _ e)
read_as_some s ps (Some k) x e = go (read_fields (forms s k) ps) refl
  where
    go : (f : Option (Fields (forms s k))) → read_fields (forms s k) ps ≡ f → (Some k ≡ Some x.0) × (read_fields (forms s x.0) ps ≡ Some x.1)
    go None p = absurd (none-some _ (rw p at e))
    go (Some f) p = subst (λ y. (Some k ≡ Some y.0) × (read_fields (forms s y.0) ps ≡ Some y.1)) (same_Some (k, f) x (rw p at e)) (refl, p)

-- what reads as a record is its line, and the record fits
pub read_line_law : (s : Sort) (l : Bytes) (x : RecOf s) → read_rec s l ≡ Some x → (l ≡ line_text (rec_of s x)) × Fits (rec_of s x)
unfolding fits_rec line_pieces line_text read_rec
read_line_law s l x e =
    let p = split tab l in
    let h = read_as_some s p.more (kind_named s p.first (kinds s)) x e in
    let f = read_fields_spell (forms s x.0) p.more x.1 h.1 in
    (sym (join_split tab l) ∙ ap₂ (λ a b. join tab (record { first = a; more = b })) (named_keyword s p.first (kinds s) x.0 h.0) (sym f.0), f.1)

-- ── the lines of records, one below the other ──

-- a sheet's records, and the pieces of what follows them
unfoldable pub ahead : List Rec → Pieces → Pieces
ahead [] p = p
ahead (r ∷ rs) p = record { first = line_text r; more = (ahead rs p).first ∷ (ahead rs p).more }

pub ahead_append : (rs ss : List Rec) (p : Pieces) → ahead (rs ++ ss) p ≡ ahead rs (ahead ss p)
unfolding ahead
ahead_append [] ss p = refl
ahead_append (r ∷ rs) ss p = rw (ahead_append rs ss p)

pub spell_rec_line : (r : Rec) (t : Bytes) → spell_rec r ++ t ≡ line_text r ++ (line_feed ∷ t)
unfolding spell_rec line_text line_pieces
spell_rec_line r t = append_assoc (line_text r) (line_feed ∷ []) t

-- the pieces of spelled records are their lines
pub lines_ahead : (rs : List Rec) (t : Bytes) → split line_feed (spell_recs rs ++ t) ≡ ahead rs (split line_feed t)
unfolding spell_recs ahead
lines_ahead [] t = refl
lines_ahead (r ∷ rs) t = rw (append_assoc (spell_rec r) (spell_recs rs) t, spell_rec_line r (spell_recs rs ++ t), split_line line_feed (line_text r) (spell_recs rs ++ t) (line_free r), lines_ahead rs t)

-- and the other way
pub join_ahead : (rs : List Rec) (p : Pieces) → join line_feed (ahead rs p) ≡ spell_recs rs ++ join line_feed p
unfolding spell_recs ahead join behind
join_ahead [] p = refl
join_ahead (r ∷ rs) p = rw (append_assoc (spell_rec r) (spell_recs rs) (join line_feed p), spell_rec_line r (spell_recs rs ++ join line_feed p), ← join_ahead rs p)

-- no line behind the records
abbrev pub nothing : Pieces
nothing = record { first = []; more = [] }

pub lines_all : (rs : List Rec) → split line_feed (spell_recs rs) ≡ ahead rs nothing
unfolding split
lines_all rs = ap (λ t. split line_feed t) (sym (append-nil (spell_recs rs))) ∙ lines_ahead rs []
