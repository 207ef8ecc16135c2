-- Filling a record's words field by field: what the fields that are left come to is what all of them come to. Assumes nothing.
use mathlib.Core.Path.{◌≡◌, refl, sym, ap, ◌∙◌}
use Prim.Native.Nat.{ℕ, zero, suc, ◌+◌, ◌<◌, ◌≤◌}
use mathlib.Core.Bool.{Bool, true, false}
use mathlib.Core.List.{List, [], ◌∷◌}
use Rattle.std.specs.Prelude.{Option, None, Some}
use native.Mathlib.Numerals.{add-one}
use native.Mathlib.Omega.{arith}
use lib.ListN.{length, take, drop, get_or, set, length-set, drop_of_length-le}
use lib.Dec.{ltb}
use borrow.Author.Tests.{ltb-true, ltb-false}
use lib.Seq.{take-nil, drop-cons, get_or-set_same, get_or-set_other}
use Rattle.words.specs.Places.{kind_count, form_count}
use Rattle.model.specs.Text.{Bytes, tab, line_feed}
use Rattle.model.specs.Field.{num, flag, var, var_or_absent, num_or_absent, number, number_or_absent, int, float, text, alias, span, read, width, both, read_fields}
use Rattle.model.specs.Field
use Rattle.words.specs.Words.{field_of, fields_of, first_at, second_at, pieces_of, record_words}
use Rattle.words.specs.Held.{Flag, Flags, Text, Texts}
use Rattle.words.specs.Table.{max_fields, field_count, codes, code_at, form_of, forms_in, forms_from, forms_at}
use Rattle.words.specs.TableLaws.{code_row}
use Rattle.words.specs.Forms.{form_at, form_is, coded}
use Rattle.words.specs.declared.form.Form.{Form}
use Rattle.std.proofs.lemmas.List.{get_or_past}
use Rattle.record.specs.Place.{LineEnd, separates}
use Rattle.record.proofs.PlaceLaws.{separates_is}
use Rattle.line.specs.Place.{pieces_at}
use Rattle.line.specs.FieldRead.{FieldAt}
use Rattle.line.specs.LineRead.{FieldsRead, Kept, first_word, fields_end}
use Rattle.record.specs.declared.piece.Piece.{Piece}
use Rattle.line.specs.declared.field.Words.{Words}
use Rattle.line.proofs.PlaceLaws.{none_left, some_left}
use Rattle.line.proofs.SpanLaws.{too_few}

-- ── rows ──

row_end : (cs : List ℕ) (i : ℕ) → get_or cs i 0 ≡ 0 → forms_in (drop i cs) ≡ []
unfolding forms_in
row_end cs i e = go (ltb i (length cs)) refl
  where
    go : (t : Bool) → ltb i (length cs) ≡ t → forms_in (drop i cs) ≡ []
    go true q = rw (drop-cons cs i 0 (ltb-true i (length cs) q), e)
    go false q = rw (drop_of_length-le cs (ltb-false i (length cs) q))

row_more : (cs : List ℕ) (i : ℕ) → (get_or cs i 0 ≡ 0 → ⊥) → forms_in (drop i cs) ≡ form_of (get_or cs i 0) ∷ forms_in (drop (suc i) cs)
unfolding forms_in
row_more cs i e = at (ltb i (length cs)) refl
  where
    go : (c : ℕ) → (c ≡ 0 → ⊥) → forms_in (c ∷ drop (suc i) cs) ≡ form_of c ∷ forms_in (drop (suc i) cs)
    go zero e = absurd (e refl)
    go (suc c) e = refl

    at : (t : Bool) → ltb i (length cs) ≡ t → forms_in (drop i cs) ≡ form_of (get_or cs i 0) ∷ forms_in (drop (suc i) cs)
    at true q = rw (drop-cons cs i 0 (ltb-true i (length cs) q)) (go (get_or cs i 0) e)
    at false q = absurd (e (get_or_past cs i 0 (ltb-false i (length cs) q)))

-- a kind has few fields, and so has a number that is no kind's
few_forms : (n : ℕ) → length (forms_at n) ≤ max_fields
unfolding forms_at forms_from forms_in
few_forms n = go (ltb n kind_count) refl
  where
    go : (t : Bool) → ltb n kind_count ≡ t → length (forms_in (drop 0 (get_or codes n []))) ≤ max_fields
    go true q = (code_row n (ltb-true n kind_count q)).few
    go false q = rw (get_or_past codes n [] (ltb-false n kind_count q)) (omega arith)

-- each code is that of a form, or of none
code_low : (n g : ℕ) → g < field_count → code_at n g < form_count
code_low n g h = go (ltb n kind_count) refl
  where
    go : (t : Bool) → ltb n kind_count ≡ t → code_at n g < form_count
    go true q = (code_row n (ltb-true n kind_count q)).low g h
    go false q = rw (get_or_past codes n [] (ltb-false n kind_count q)) (omega arith)

form_some : (n g : ℕ) (f : Form) → form_at n g ≡ Some f → (0 < code_at n g) × (form_is f ≡ form_of (code_at n g))
form_some n g f e = rw e at (coded (code_at n g))

form_none : (n g : ℕ) → g < field_count → form_at n g ≡ None → code_at n g ≡ 0
form_none n g h e = (rw e at (coded (code_at n g))) (code_low n g h)

-- ── words ──

-- the same words before word n
abbrev Agree : ℕ → List ℕ → List ℕ → Type 0
Agree n vs ws = (i : ℕ) → i < n → get_or vs i 0 ≡ get_or ws i 0

-- field g written
abbrev put : List ℕ → ℕ → ℕ → ℕ → List ℕ
put ws g x y = set (set ws (first_at g) x) (second_at g) y

module _ (ws : List ℕ) (g x y : ℕ) (h : second_at g < length ws) where
  put_first : get_or (put ws g x y) (first_at g) 0 ≡ x
  put_first = get_or-set_other (set ws (first_at g) x) (second_at g) (first_at g) y 0 (omega arith) ∙ get_or-set_same ws (first_at g) x 0 (omega arith)

  put_second : get_or (put ws g x y) (second_at g) 0 ≡ y
  put_second = get_or-set_same (set ws (first_at g) x) (second_at g) y 0 (rw length-set h)

  put_other : (c : ℕ) → (c ≡ first_at g → ⊥) → (c ≡ second_at g → ⊥) → get_or (put ws g x y) c 0 ≡ get_or ws c 0
  put_other c p q = get_or-set_other (set ws (first_at g) x) (second_at g) c y 0 (λ e. q e) ∙ get_or-set_other ws (first_at g) c x 0 (λ e. p e)

  put_below : Agree (first_at g) (put ws g x y) ws
  put_below i k = get_or-set_other (set ws (first_at g) x) (second_at g) i y 0 (omega arith) ∙ get_or-set_other ws (first_at g) i x 0 (omega arith)

-- ── fields ──

module _ (sheet : Bytes) where
  -- the forms that are left, from field g on, and their pieces
  pub record Going (fs : List Field.Form) (ps : List Bytes) (rest : List Field.Form) (qs : List Bytes) (ws : List ℕ) (g : ℕ) : Type 0 where
    pub some_so : (vs : List ℕ) → Agree (first_at g) vs ws → read_fields rest qs ≡ Some (fields_of rest sheet vs g) → Flags rest vs g → Texts rest sheet vs g → (read_fields fs ps ≡ Some (fields_of fs sheet vs 0)) × Flags fs vs 0 × Texts fs sheet vs 0
    pub none_so : read_fields rest qs ≡ None → read_fields fs ps ≡ None

  go_first : (fs : List Field.Form) (ps : List Bytes) (ws : List ℕ) → Going fs ps fs ps ws 0
  go_first fs ps ws = record { some_so = λ vs a e f t. (e, f, t); none_so = λ e. e }

  module _ (fs : List Field.Form) (ps : List Bytes) (f : Field.Form) (rest : List Field.Form) (qs : List Bytes) (ws : List ℕ) (g : ℕ) (s : Going fs ps (f ∷ rest) qs ws g) where
    go_none : read f (take (width f) qs) ≡ None → read_fields fs ps ≡ None
    unfolding read_fields both
    go_none e = s.none_so (rw e)

    go_more : (x y : ℕ) → second_at g < length ws → read f (take (width f) qs) ≡ Some (field_of f sheet x y) → Flag f x → Text f sheet x y → Going fs ps rest (drop (width f) qs) (put ws g x y) (suc g)
    unfolding read_fields both fields_of
    go_more x y h e l d =
        record {
          some_so = λ vs a r k t.
              let first : get_or vs (first_at g) 0 ≡ x = a (first_at g) (omega arith) ∙ put_first ws g x y h in
              let second : get_or vs (second_at g) 0 ≡ y = a (second_at g) (omega arith) ∙ put_second ws g x y h in
              s.some_so vs (λ i q. a i (omega arith) ∙ put_below ws g x y h i q) (rw (e, r, first, second)) (rw first l, k) (rw (first, second) d, t);
          none_so = λ r. s.none_so (rw (e, r));
        }

-- every field has a piece
width_up : (f : Field.Form) → 0 < width f
unfolding width
width_up (num l) = omega arith
width_up flag = omega arith
width_up var = omega arith
width_up var_or_absent = omega arith
width_up (num_or_absent l) = omega arith
width_up (number n) = omega arith
width_up (number_or_absent n) = omega arith
width_up int = omega arith
width_up float = omega arith
width_up text = omega arith
width_up alias = omega arith
width_up span = omega arith
width_up Field.length = omega arith

-- ── the loop ──

-- the fields up to place `at`, where the last of them ends
pub record Filling (n : ℕ) (sheet : Bytes) (p e : ℕ) (ws₀ ws : List ℕ) (at g : ℕ) : Type 0 where
  pub long : length ws ≡ record_words
  pub room : g + length (forms_from n g) ≡ length (forms_at n)
  pub kept : Kept ws₀ ws
  pub from : p ≤ at
  pub to : at ≤ e
  pub stop : at < e → get_or sheet at 0 ≡ tab
  pub going : Going sheet (forms_at n) (pieces_at sheet (p + 1) e) (forms_from n g) (pieces_at sheet (at + 1) e) ws g

-- where a piece ends before the line does, a tab stands
ends_tab : (sheet : Bytes) (p e : ℕ) → LineEnd sheet p e → separates (get_or sheet p 0) ≡ true → p < e → get_or sheet p 0 ≡ tab
ends_tab sheet p e l h k = separates_is (get_or sheet p 0) h (λ z. l.free p (omega arith) k z)

pub fill_start : (n : ℕ) (sheet : Bytes) (p : ℕ) (ws : List ℕ) → length ws ≡ record_words → separates (get_or sheet p 0) ≡ true → (e : ℕ) → LineEnd sheet p e → Filling n sheet p e ws ws p 0
unfolding forms_at
fill_start n sheet p ws l s e line =
    record {
      long = l;
      room = omega arith;
      kept = λ c h. refl;
      from = omega arith;
      to = line.from;
      stop = ends_tab sheet p e line s;
      going = go_first sheet (forms_at n) (pieces_at sheet (p + 1) e) ws;
    }

module _ (n : ℕ) (sheet : Bytes) (p e : ℕ) (line : LineEnd sheet p e) (ws₀ ws : List ℕ) (at g : ℕ) (f : Filling n sheet p e ws₀ ws at g) where
  -- ── a form is left ──

  module _ (form : Form) (h : form_at n g ≡ Some form) where
    rest_is : forms_from n g ≡ form_is form ∷ forms_from n (suc g)
    unfolding forms_from
    rest_is =
        let some = form_some n g form h in
        row_more (get_or codes n []) g (λ z. omega (arith, some.0, z)) ∙ ap (λ x. x ∷ forms_in (drop (suc g) (get_or codes n []))) (sym some.1)

    fill_room : g < max_fields
    fill_room = omega (arith, few_forms n, f.room, ap length rest_is)

    form_going : Going sheet (forms_at n) (pieces_at sheet (p + 1) e) (form_is form ∷ forms_from n (suc g)) (pieces_at sheet (at + 1) e) ws g
    form_going = rw rest_is at f.going

    -- no tab: the line ends, and the field has no piece
    pub fill_few : (get_or sheet at 0 ≡ tab → ⊥) → FieldsRead n sheet p e ws₀ ws None
    fill_few z = record { answer = go_none sheet _ _ _ _ _ ws g form_going (too_few (form_is form) _ few); kept = f.kept; long = f.long }
      where
        done : at ≡ e
        done = go (ltb at e) refl
          where
            go : (t : Bool) → ltb at e ≡ t → at ≡ e
            go true q = absurd (z (f.stop (ltb-true at e q)))
            go false q = let up = ltb-false at e q in omega (arith, f.to)

        few : length (take (width (form_is form)) (pieces_at sheet (at + 1) e)) < width (form_is form)
        few = rw (none_left sheet (at + 1) e (omega (arith, done)), take-nil) (width_up (form_is form))

    -- a tab: the line goes on behind it
    module _ (z : get_or sheet at 0 ≡ tab) where
      pub fill_line : LineEnd sheet (at + 1) e
      fill_line =
          let other : at ≡ e → ⊥ = λ q. omega (arith, z, rw (← q) at line.feed) in
          record { from = omega (arith, f.to, other); to = line.to; feed = line.feed; free = λ i a b. line.free i (omega (arith, f.from)) b }

      module _ (w : Option (Piece Words)) (k : FieldAt (form_is form) sheet (at + 1) e w) where
        pub fill_not : w ≡ None → FieldsRead n sheet p e ws₀ ws None
        fill_not q = record { answer = go_none sheet _ _ _ _ _ ws g form_going (rw q at k.words.is); kept = f.kept; long = f.long }

        pub fill_more : (r : Piece Words) → w ≡ Some r → Filling n sheet p e ws₀ (put ws g r.value.first r.value.second) r.end (g + 1)
        fill_more r q =
            let is = rw q at k.words in
            let behind = rw q at k.behind in
            let fits : second_at g < length ws = omega (arith, f.long, fill_room) in
            let outside : (c : ℕ) → (first_word ≤ c → fields_end ≤ c) → (d : ℕ) → first_at g ≤ d → d ≤ second_at g → c ≡ d → ⊥ = λ c z d a b q. (let high : fields_end ≤ c = z (omega arith) in omega (arith, fill_room)) in
            record {
              long = rw (length-set, length-set) f.long;
              room = rw (add-one g) (omega (arith, f.room, ap length rest_is));
              kept = λ c z. put_other ws g r.value.first r.value.second fits c (λ q. outside c z (first_at g) (omega arith) (omega arith) q) (λ q. outside c z (second_at g) (omega arith) (omega arith) q) ∙ f.kept c z;
              from = omega (arith, f.from, behind.from);
              to = behind.to;
              stop = behind.stop;
              going = rw (add-one g, behind.pieces) (go_more sheet _ _ _ _ _ ws g form_going r.value.first r.value.second fits is.is is.fit.0 is.fit.1);
            }

  -- ── no form is left ──

  -- the row ends here
  pub no_form : g < max_fields → form_at n g ≡ None → forms_from n g ≡ []
  unfolding forms_from
  no_form l h = row_end (get_or codes n []) g (form_none n g (omega arith) h)

  -- or all forms are read
  pub all_forms : length (forms_at n) ≤ g → forms_from n g ≡ []
  all_forms l = none_of (forms_from n g) (omega (arith, f.room, l))
    where
      none_of : (l : List Field.Form) → length l ≡ 0 → l ≡ []
      none_of [] e = refl
      none_of (x ∷ l) e = absurd (omega arith)

  module _ (rest_none : forms_from n g ≡ []) where
    last_going : Going sheet (forms_at n) (pieces_at sheet (p + 1) e) [] (pieces_at sheet (at + 1) e) ws g
    last_going = rw rest_none at f.going

    pub fill_yes : get_or sheet at 0 ≡ line_feed → FieldsRead n sheet p e ws₀ ws (Some at)
    unfolding read_fields fields_of
    fill_yes z =
        record {
          answer = (done, λ vs a. last_going.some_so vs (λ i q. a i (omega (arith, few_forms n, f.room))) (rw (none_left sheet (at + 1) e (omega (arith, done)))) tt tt);
          kept = f.kept;
          long = f.long;
        }
      where
        done : at ≡ e
        done = go (ltb at e) refl
          where
            go : (t : Bool) → ltb at e ≡ t → at ≡ e
            go true q = absurd (line.free at f.from (ltb-true at e q) z)
            go false q = let up = ltb-false at e q in omega (arith, f.to)

    pub fill_no : (get_or sheet at 0 ≡ line_feed → ⊥) → FieldsRead n sheet p e ws₀ ws None
    unfolding read_fields pieces_of
    fill_no z =
        let other : at ≡ e → ⊥ = λ q. z (rw (← q) at line.feed) in
        record { answer = last_going.none_so (rw (some_left sheet (at + 1) e (omega (arith, f.to, other)))); kept = f.kept; long = f.long }
