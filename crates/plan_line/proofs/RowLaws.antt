-- Records as lines of numbers and names. Assumes nothing: every law is proved.
use mathlib.Core.Path.{◌≡◌, refl, sym, ap, ◌∙◌}
use Prim.Native.Nat.{ℕ, zero, suc, ◌+◌, ◌<◌, ◌≤◌}
use native.Mathlib.Omega.{arith}
use native.Mathlib.Numerals.{add-one}
use mathlib.Core.List.{List, [], ◌∷◌, ◌++◌, map, tail, append-nil, append_assoc}
use lib.Dec.{eqb}
use lib.IntN.{ℤ}
use lib.ListN.{length, get_or, take, length-append}
use lib.Seq.{slice, take-suc}
use Rattle.std.proofs.lemmas.List.{map-append}
use Rattle.model.specs.Text.{Bytes, tab, line_feed, behind, join, decimal, digits, signed, escape, unescape}
use Rattle.model.specs.Field.{Form, text, spell, spell_flag, spell_fields}
use Rattle.model.specs.Record.{Rec, forms, keyword, spell_rec}
use Rattle.output.specs.declared.Page.{Page}
use Rattle.output.specs.Page.{Puts}
use Rattle.output.specs.Writes.{◌⨾◌, stay}
use Rattle.laws.specs.TextLaws.{join_split}
use Rattle.words.specs.Words.{field_of, pieces_of}
use Rattle.words.specs.Held.{PlaceAt}
use Rattle.plan_line.specs.declared.keyword.Keyword.{Keyword}
use Rattle.plan_line.specs.Keywords.{word}
use Rattle.plan_line.specs.Row.{numbers_text, row_text, named_text, int_text, numbers_length}

-- ── a field ──

one_piece : (p : Bytes) → behind tab (p ∷ []) ≡ tab ∷ p
unfolding behind
one_piece p = ap (λ (s : Bytes). tab ∷ s) (append-nil p)

-- the pieces of a text, behind tabs
pieces_back : (s : Bytes) → behind tab (pieces_of s) ≡ tab ∷ s
unfolding behind pieces_of join
pieces_back s = ap (λ (t : Bytes). tab ∷ t) (join_split tab s)

-- a field that stands in the sheet is spelled as the sheet has it
pub place_text : {f : Form} {sheet : Bytes} {x y : ℕ} → PlaceAt f sheet x y → behind tab (spell f (field_of f sheet x y)) ≡ tab ∷ slice x y sheet
place_text {f} {sheet} {x} {y} h = ap (behind tab) h.spelled ∙ pieces_back (slice x y sheet)

pub flag_decimal : (x : ℕ) → x ≤ 1 → spell_flag (eqb x 1) ≡ decimal x
unfolding spell_flag decimal digits
flag_decimal zero h = refl
flag_decimal (suc zero) h = refl
flag_decimal (suc (suc x)) h = absurd (omega arith)

pub behind_append : (sep : ℕ) (ps qs : List Bytes) → behind sep (ps ++ qs) ≡ behind sep ps ++ behind sep qs
unfolding behind
behind_append sep [] qs = refl
behind_append sep (p ∷ ps) qs = ap (λ (s : Bytes). sep ∷ s) (ap (λ (s : Bytes). p ++ s) (behind_append sep ps qs) ∙ sym (append_assoc p (behind sep ps) (behind sep qs)))

-- ── a line piece by piece ──

-- numbers and the line feed, as they are written one behind another
abbrev pieces : List ℕ → Bytes
pieces [] = line_feed ∷ []
pieces (n ∷ ns) = (tab ∷ decimal n) ++ pieces ns

pieces_are : (ns : List ℕ) → pieces ns ≡ numbers_text ns ++ (line_feed ∷ [])
unfolding numbers_text behind
pieces_are [] = refl
pieces_are (n ∷ ns) = ap (λ (t : Bytes). (tab ∷ decimal n) ++ t) (pieces_are ns) ∙ sym (append_assoc (tab ∷ decimal n) (numbers_text ns) (line_feed ∷ []))

-- no number
pub no_numbers : {g : Page} → Puts (numbers_text []) g g
unfolding numbers_text behind
no_numbers = stay

-- one number more
pub one_more : (ns : List ℕ) (i : ℕ) {g g' g'' : Page} → i < length ns → Puts (numbers_text (take i ns)) g g' → Puts (tab ∷ decimal (get_or ns i 0)) g' g'' → Puts (numbers_text (take (i + 1) ns)) g g''
unfolding numbers_text
one_more ns i h a b =
    let n : ℕ = get_or ns i 0 in
    rw (add-one i, take-suc ns i 0 h, map-append (λ n. decimal n) (take i ns) (n ∷ []), behind_append tab (map (λ n. decimal n) (take i ns)) (decimal n ∷ []), one_piece (decimal n)) (a ⨾ b)

-- ── how many bytes a line has ──

pieces_long : (ns : List ℕ) → length (pieces ns) ≡ numbers_length ns
pieces_long [] = refl
pieces_long (n ∷ ns) = length-append (tab ∷ decimal n) (pieces ns) ∙ ap (λ (m : ℕ). suc (length (decimal n)) + m) (pieces_long ns)

pub row_long : (k : Keyword) (ns : List ℕ) → length (row_text k ns) ≡ length (word k) + numbers_length ns
unfolding row_text
row_long k ns = rw (← pieces_are ns) (length-append (word k) (pieces ns) ∙ ap (λ (m : ℕ). length (word k) + m) (pieces_long ns))

pub named_long : (k : Keyword) (name : Bytes) (ns : List ℕ) → length (named_text k name ns) ≡ length (word k) + (suc (length name) + numbers_length ns)
unfolding named_text
named_long k name ns =
    rw (← pieces_are ns) (length-append (word k) ((tab ∷ name) ++ pieces ns) ∙ ap (λ (m : ℕ). length (word k) + m) (length-append (tab ∷ name) (pieces ns) ∙ ap (λ (m : ℕ). suc (length name) + m) (pieces_long ns)))

-- ── records ──

pub record_line : (w : Bytes) (ps : List Bytes) → join tab (record { first = w; more = ps }) ++ (line_feed ∷ []) ≡ w ++ (behind tab ps ++ (line_feed ∷ []))
unfolding join
record_line w ps = append_assoc w (behind tab ps) (line_feed ∷ [])

pub row_rec : (r : Rec) (k : Keyword) (ns : List ℕ) → keyword r.sort r.kind ≡ word k → spell_fields (forms r.sort r.kind) r.fields ≡ map (λ n. decimal n) ns → spell_rec r ≡ row_text k ns
unfolding spell_rec row_text numbers_text
row_rec r k ns e p = record_line (keyword r.sort r.kind) (spell_fields (forms r.sort r.kind) r.fields) ∙ rw (e, p)

pub named_rec_law : (r : Rec) (k : Keyword) (name : Bytes) (ns : List ℕ) → keyword r.sort r.kind ≡ word k → spell_fields (forms r.sort r.kind) r.fields ≡ name ∷ map (λ n. decimal n) ns → spell_rec r ≡ named_text k name ns
unfolding spell_rec named_text numbers_text behind
named_rec_law r k name ns e p = record_line (keyword r.sort r.kind) (spell_fields (forms r.sort r.kind) r.fields) ∙ rw (e, p) (ap (λ (s : Bytes). word k ++ (tab ∷ s)) (append_assoc name (behind tab (map (λ n. decimal n) ns)) (line_feed ∷ [])))

pub int_rec : (r : Rec) (z : ℤ) → keyword r.sort r.kind ≡ word Keyword.Int → spell_fields (forms r.sort r.kind) r.fields ≡ signed z ∷ [] → spell_rec r ≡ int_text z
unfolding spell_rec int_text
int_rec r z e p = record_line (keyword r.sort r.kind) (spell_fields (forms r.sort r.kind) r.fields) ∙ rw (e, p, one_piece (signed z))

-- a name is spelled as the sheet has it
pub place_escape : {sheet : Bytes} {x y : ℕ} → PlaceAt text sheet x y → escape (unescape (slice x y sheet)) ≡ slice x y sheet
unfolding spell field_of
place_escape {sheet} {x} {y} h = ap (λ (s : Bytes). tail s) (sym (one_piece (escape (unescape (slice x y sheet)))) ∙ place_text h)
