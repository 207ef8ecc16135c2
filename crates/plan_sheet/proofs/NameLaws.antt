-- Names one after another, and the line of a pattern's element. Assumes nothing: every law is proved.
use mathlib.Core.Path.{◌≡◌, refl, sym, ap, ◌∙◌}
use Prim.Native.Nat.{ℕ, suc, ◌+◌, ◌-◌, ◌≤◌}
use native.Mathlib.Omega.{arith}
use mathlib.Core.Logic.{◌⊎◌, inl, inr}
use mathlib.Core.List.{List, [], ◌∷◌, ◌++◌, append-nil, append_assoc}
use lib.ListN.{length}
use Rattle.model.specs.Text.{Bytes, tab, line_feed, behind, decimal, bytes, bytes_from}
use Rattle.model.specs.Field.{Fields, spell, spell_flag, spell_fields}
use Rattle.model.specs.Field
use Rattle.model.specs.Kind.{PatternElement, pattern_element, name}
use Rattle.model.specs.Record.{rec, element_forms, keyword, plan_keyword, spell_rec, spell_recs}
use Rattle.model.specs.Tree.{Trees, node, []ᵗ, ◌∷ᵗ◌, end}
use Rattle.model.specs.Lower.{Recs}
use Rattle.output.specs.declared.Page.{Page}
use Rattle.output.specs.Page.{Puts}
use Rattle.output.specs.Writes.{◌⨾◌, stay}
use Rattle.words.specs.Words.{Roomy, cell, field_of, fields_of, max_records}
use Rattle.words.specs.Held.{Held, HeldOf, RecordAt, PlaceAt, size, size_of}
use Rattle.words.specs.Cells.{shown}
use Rattle.lower.specs.Render.{Notes, Ops, recs_over, render, render_of, spec_rec}
use Rattle.words.specs.Numbers.{element_number}
use Rattle.words.specs.Numbers
use Rattle.plan_line.specs.Keywords.{word}
use Rattle.plan_line.specs.declared.keyword.Keyword.{Keyword}
use Rattle.plan_line.specs.Copy.{SomeRecord, Copied}
use Rattle.plan_line.specs.Row.{row_text, rel_text}
use Rattle.plan_sheet.specs.Due.{Names, no_names, name_more, names_recs, ElementAt}
use Rattle.plan_line.specs.Copy.{TextAsked, text_at}
use Rattle.plan_line.proofs.RowLaws.{flag_decimal, behind_append, place_text, record_line, row_rec}
use Rattle.plan_sheet.proofs.HeadLaws.{some_record, texts_at}
use Rattle.words.specs.Places.{kind_at, node_kind, node_labels_at, node_props_at, rel_direction_at, rel_kind, rel_length_at, rel_props_at, rel_types_at}

-- ── names ──

module _ {sheet : Bytes} {a b : List ℕ} (room : Roomy a b) where
  pub first_record : {n i : ℕ} → (n ≡ 0 → ⊥) → Names sheet a b n i → SomeRecord sheet a b i
  first_record z no_names = absurd (z refl)
  first_record z (name_more f h c) = some_record h

  -- what is left of the names h
  pub record NamesStill {n i : ℕ} (h : Names sheet a b n i) (start : Page) (m at : ℕ) (p : Page) : Type 0 where
    pub others : Names sheet a b m at
    pub text : (q : Page) → Puts (spell_recs (names_recs others)) p q → Puts (spell_recs (names_recs h)) start q

  names_step : {n i m at : ℕ} {start p q : Page} (h : Names sheet a b n i) → (m ≡ 0 → ⊥) → (others : Names sheet a b m at) → ((q : Page) → Puts (spell_recs (names_recs others)) p q → Puts (spell_recs (names_recs h)) start q) → Copied sheet a b at p q → NamesStill h start (m - 1) (at + 1) q
  unfolding names_recs spell_recs
  names_step h z no_names text w = absurd (z refl)
  names_step {m = suc m} h z (name_more f r c) text w =
      let e : suc m - 1 ≡ m = omega arith in
      rw e (record { others = c; text = λ q v. text q (w.line name tt f r ⨾ v) })

-- the loop over n names
pub record NamesGoing (sheet : Bytes) (a b : List ℕ) (n i : ℕ) (start : Page) (m at : ℕ) (p : Page) : Type 0 where
  pub some : Names sheet a b m at
  pub each : (h : Names sheet a b n i) → (o : Names sheet a b m at) × ((q : Page) → Puts (spell_recs (names_recs o)) p q → Puts (spell_recs (names_recs h)) start q)
  pub sum : at + m ≡ i + n

pub names_going : {sheet : Bytes} {a b : List ℕ} {n i : ℕ} {p : Page} → Names sheet a b n i → NamesGoing sheet a b n i p n i p
names_going h = record { some = h; each = λ h. (h, λ q r. r); sum = refl }

-- they end among the records
pub names_end : {sheet : Bytes} {a b : List ℕ} {n i : ℕ} → Names sheet a b n i → (n ≡ 0) ⊎ (i + n ≤ max_records)
names_end no_names = inl refl
names_end (name_more f h no_names) = inr (omega (arith, h.low))
names_end (name_more f h (name_more g k c)) = inr (omega (arith, names_end (name_more g k c)))

pub names_again : {sheet : Bytes} {a b : List ℕ} {n i m at : ℕ} {start p q : Page} → Roomy a b → (m ≡ 0 → ⊥) → NamesGoing sheet a b n i start m at p → Copied sheet a b at p q → NamesGoing sheet a b n i start (m - 1) (at + 1) q
names_again room z g w =
    record {
      some = (names_step room g.some z g.some (λ q r. r) w).others;
      each = λ h. let s = names_step room h z (g.each h).0 (g.each h).1 w in (s.others, s.text);
      sum = omega (arith, g.sum);
    }

no_more : {sheet : Bytes} {a b : List ℕ} {m at : ℕ} → m ≡ 0 → (o : Names sheet a b m at) → names_recs o ≡ []
unfolding names_recs
no_more z no_names = refl
no_more {m = suc m} z (name_more f h c) = let e : suc m ≡ 0 = z in absurd (omega arith)

pub names_done : {sheet : Bytes} {a b : List ℕ} {n i m at : ℕ} {start p : Page} → m ≡ 0 → NamesGoing sheet a b n i start m at p → (h : Names sheet a b n i) → (at ≡ i + n) × Puts (spell_recs (names_recs h)) start p
unfolding spell_recs
names_done {p = p} z g h = let s = g.each h in (omega (arith, g.sum), s.1 p (rw (no_more z s.0) stay))

-- names out of a group of trees
pub record NamesMade (sheet : Bytes) (a b : List ℕ) (n i : ℕ) (recs : Recs) (stop : ℕ) : Type 0 where
  pub names : Names sheet a b n i
  pub recs_are : names_recs names ≡ recs
  pub count : length recs ≡ n
  pub stop_is : i + n ≡ stop

pub names_made : {sheet : Bytes} {a b : List ℕ} (N : Notes) (A : Ops) (d : ℕ) {n : ℕ} (ts : Trees name n) (i : ℕ) → HeldOf sheet a b ts d i → NamesMade sheet a b n i (render_of N A ts) (i + size_of ts)
unfolding Held render recs_over size names_recs
names_made N A d []ᵗ i h = record { names = no_names; recs_are = refl; count = refl; stop_is = refl }
names_made N A d (node name line k f end ∷ᵗ ts) i h =
    let m = names_made N A d ts (i + 1) h.1 in
    record {
      names = name_more f h.0.1 m.names;
      recs_are = ap (λ (r : Recs). rec name tt f ∷ r) m.recs_are;
      count = ap suc m.count;
      stop_is = omega (arith, m.stop_is);
    }

-- names come to the same records whatever is noted
pub names_alike : (N : Notes) (A B : Ops) {n : ℕ} (ts : Trees name n) → render_of N A ts ≡ render_of N B ts
unfolding render recs_over
names_alike N A B []ᵗ = refl
names_alike N A B (node name line k f end ∷ᵗ ts) = ap (λ (r : Recs). rec name tt f ∷ r) (names_alike N A B ts)

-- ── elements ──

four : (p q r s t : Bytes) → (p ++ (q ++ (r ++ s))) ++ t ≡ p ++ (q ++ (r ++ (s ++ t)))
four p q r s t = append_assoc p (q ++ (r ++ s)) t ∙ ap (λ (x : Bytes). p ++ x) (append_assoc q (r ++ s) t ∙ ap (λ (x : Bytes). q ++ x) (append_assoc r s t))

module _ {sheet : Bytes} {a b : List ℕ} {i : ℕ} (room : Roomy a b) where
  pub element_number_law : (h : ElementAt sheet a b i) → cell a b i kind_at ≡ element_number h.kind
  element_number_law h = Numbers.element_number_law (cell a b i kind_at) h.kind (shown room h.at).kind

  node_fields : (k : PatternElement) (f : Fields (element_forms k)) → RecordAt sheet a b i pattern_element k f → element_number k ≡ node_kind → spell_rec (spec_rec k f) ≡ row_text Keyword.To (cell a b i node_labels_at ∷ cell a b i node_props_at ∷ [])
  unfolding element_number spec_rec keyword plan_keyword word bytes bytes_from spell_fields spell fields_of field_of
  node_fields PatternElement.Node f at e =
      let s = shown room at in
      row_rec _ Keyword.To (cell a b i node_labels_at ∷ cell a b i node_props_at ∷ []) refl (rw s.fields (rw (flag_decimal (cell a b i node_props_at) s.flags.1.1.0)))
  node_fields PatternElement.Rel f at e = let z : ◌≡◌ {A = ℕ} rel_kind node_kind = e in absurd (omega arith)

  rel_place : (k : PatternElement) (f : Fields (element_forms k)) → RecordAt sheet a b i pattern_element k f → (element_number k ≡ node_kind → ⊥) → PlaceAt Field.length sheet (cell a b i rel_length_at) (cell a b i (rel_length_at + 1))
  unfolding element_number
  rel_place PatternElement.Node f at e = absurd (e refl)
  rel_place PatternElement.Rel f at e = (texts_at room at).1.1.1.0

  rel_fields : PlaceAt Field.length sheet (cell a b i rel_length_at) (cell a b i (rel_length_at + 1)) → (k : PatternElement) (f : Fields (element_forms k)) → RecordAt sheet a b i pattern_element k f → (element_number k ≡ node_kind → ⊥) → spell_rec (spec_rec k f) ≡ rel_text (cell a b i rel_types_at) (cell a b i rel_direction_at) (text_at sheet a b i rel_length_at) (cell a b i rel_props_at)
  unfolding element_number spec_rec spell_rec keyword plan_keyword word bytes bytes_from spell_fields spell fields_of field_of rel_text behind
  rel_fields p PatternElement.Node f at e = absurd (e refl)
  rel_fields p PatternElement.Rel f at e =
      let s = shown room at in
      let len : Bytes = text_at sheet a b i rel_length_at in
      let props : spell_flag f.1.1.1.1.0 ≡ decimal (cell a b i rel_props_at) = rw s.fields (flag_decimal (cell a b i rel_props_at) s.flags.1.1.1.1.0) in
      let body : behind tab (spell Field.length f.1.1.1.0) ≡ tab ∷ len = rw s.fields (place_text p) in
      let tail : behind tab (spell Field.length f.1.1.1.0 ++ (spell_flag f.1.1.1.1.0 ∷ [])) ≡ (tab ∷ len) ++ (tab ∷ decimal (cell a b i rel_props_at)) =
      behind_append tab (spell Field.length f.1.1.1.0) (spell_flag f.1.1.1.1.0 ∷ [])
      ∙ rw (props, append-nil (decimal (cell a b i rel_props_at))) (ap (λ (x : Bytes). x ++ (tab ∷ decimal (cell a b i rel_props_at))) body) in
      let types : f.1.0 ≡ cell a b i rel_types_at = ap (λ (x : Fields (element_forms PatternElement.Rel)). x.1.0) s.fields in
      let direction : f.1.1.0 ≡ cell a b i rel_direction_at = ap (λ (x : Fields (element_forms PatternElement.Rel)). x.1.1.0) s.fields in
      record_line (word Keyword.Rel) _
      ∙ ap (λ (x : Bytes). word Keyword.Rel ++ x) (rw (tail, types, direction) (four (tab ∷ decimal (cell a b i rel_types_at)) (tab ∷ decimal (cell a b i rel_direction_at)) (tab ∷ len) (tab ∷ decimal (cell a b i rel_props_at)) (line_feed ∷ [])))

  module _ (h : ElementAt sheet a b i) where
    pub node_line : cell a b i kind_at ≡ node_kind → spell_rec (spec_rec h.kind h.fields) ≡ row_text Keyword.To (cell a b i node_labels_at ∷ cell a b i node_props_at ∷ [])
    node_line e = node_fields h.kind h.fields h.at (sym (element_number_law h) ∙ e)

    pub rel_in : (cell a b i kind_at ≡ node_kind → ⊥) → TextAsked sheet a b i rel_length_at
    rel_in e = let p = rel_place h.kind h.fields h.at (λ x. e (element_number_law h ∙ x)) in record { from = p.from; to = p.to }

    pub rel_line : (cell a b i kind_at ≡ node_kind → ⊥) → spell_rec (spec_rec h.kind h.fields) ≡ rel_text (cell a b i rel_types_at) (cell a b i rel_direction_at) (text_at sheet a b i rel_length_at) (cell a b i rel_props_at)
    rel_line e =
        let n : element_number h.kind ≡ node_kind → ⊥ = λ x. e (element_number_law h ∙ x) in
        rel_fields (rel_place h.kind h.fields h.at n) h.kind h.fields h.at n
