-- What a record that is held has below it, as the writers take it. Assumes nothing: every law is proved.
use mathlib.Core.Path.{◌≡◌, refl, sym, ap, ◌∙◌}
use Prim.Native.Nat.{ℕ, suc, ◌+◌, ◌-◌, ◌≤◌, ◌<◌}
use native.Mathlib.Nat.{add-zero}
use native.Mathlib.Omega.{arith}
use mathlib.Core.Bool.{cond}
use mathlib.Core.List.{List, [], ◌∷◌, ◌++◌, append-nil}
use lib.Dec.{eqb}
use borrow.Author.Tests.{eq-eqb, ne_eqb}
use Rattle.model.specs.Text.{Bytes}
use Rattle.model.specs.Field.{Fields}
use Rattle.model.specs.Kind.{Expr, PatternElement, pattern_element, name, expr}
use Rattle.model.specs.Record.{one, arity, element_forms, children, kinds, sames}
use Rattle.model.specs.Tree.{Tree, Trees, Forest, node, end, ◌▸◌}
use Rattle.model.specs.Lower.{Recs, expr_head}
use Rattle.words.specs.Words.{Roomy, cell, kind_of, first_kind, nth, field_of, fields_of}
use Rattle.words.specs.Held.{Held, HeldOf, size, size_of}
use Rattle.words.specs.Cells.{shown, flag_word}
use Rattle.lower.specs.Render.{Notes, Ops, expr_recs, expr_rest, recs_over, render, render_of, render_in, Below, BelowOf, BelowIn, below_in, copies_below, spec_rec, spec_recs, KidsBelow}
use Rattle.words.specs.Places.{pat_kind, kind_at, node_kind, node_labels_at, node_props_at, rel_kind, rel_props_at}
use Rattle.words.specs.Count.{count_at}
use Rattle.words.proofs.Counting.{counted}
use Rattle.words.specs.Numbers.{expr_number, element_number}
use Rattle.plan_sheet.specs.Due.{ExprAt, ElementAt, Carried, carried_recs, carried_end, Names, names_recs}
use Rattle.plan_sheet.specs.Due
use Rattle.plan_sheet.proofs.HeadLaws.{at_kind, number_is, kind_is}
use Rattle.plan_sheet.proofs.DueLaws.{Made, expr_of, exprs_made, entries_made}
use Rattle.plan_sheet.proofs.NameLaws.{NamesMade, names_made, names_alike, element_number_law}

-- ── expressions ──

-- an expression as its first record and n expressions below it
pub record ExprParts (sheet : Bytes) (a b : List ℕ) (N : Notes) (first below left i n : ℕ) (t : Tree expr) (at : ExprAt sheet a b i) : Type 0 where
  pub list : Carried sheet a b N first below (left - 1) n (i + 1)
  pub recs : (A : Ops) → render N A t ≡ expr_head (N (suc i)) at.kind at.fields ∷ carried_recs A list
  pub stop : carried_end list ≡ i + size t

-- a group of as many as are due
grouped : {sheet : Bytes} {a b : List ℕ} {N : Notes} {first below d j m n stop : ℕ} {R : Ops → Recs} → n ≡ m → Made sheet a b N first below d m j R stop → Made sheet a b N first below d n j R stop
grouped e m = rw e m

bare : {sheet : Bytes} {a b : List ℕ} (N : Notes) (first below d j : ℕ) {n : ℕ} → n ≡ 0 → Made sheet a b N first below d n j (λ A. []) j
unfolding carried_recs carried_end
bare N first below d j e = rw e (record { list = Due.none; recs_are = λ A. refl; stop_is = refl })

module _ {sheet : Bytes} {a b : List ℕ} (N : Notes) (first below left i n : ℕ) where
  pub parts : Roomy a b → n ≡ count_at a b i → (t : Tree expr) (h : Held sheet a b t left i) → Below N first below t → (cell a b i kind_at ≡ pat_kind → ⊥) → ExprParts sheet a b N first below left i n t (expr_of left t i h)
  unfolding Held Below render size below_in copies_below recs_over expr_recs expr_rest expr_of expr_number
  parts room e (node expr line (Expr.Over o) f (ts ▸ end)) h u z =
      let m = grouped (e ∙ counted h.1 (left - 1) (ts ▸ end) h.3 ∙ add-zero (arity o f)) (exprs_made N first below (left - 1) ts (i + 1) h.3.0 u.0) in
      record { list = m.list; recs = λ A. rw (m.recs_are A, append-nil (render_of N A ts)); stop = m.stop_is ∙ omega arith }
  parts room e (node expr line Expr.Var f end) h u z =
      let m = bare N first below (left - 1) (i + 1) (e ∙ counted h.1 (left - 1) end h.3) in
      record { list = m.list; recs = λ A. rw (m.recs_are A, h.0); stop = m.stop_is ∙ omega arith }
  parts room e (node expr line Expr.Map f (ts ▸ end)) h u z =
      let m = grouped (e ∙ counted h.1 (left - 1) (ts ▸ end) h.3 ∙ add-zero f.0) (entries_made N first below (left - 1) ts (i + 1) h.3.0 u.0) in
      record { list = m.list; recs = λ A. rw (m.recs_are A, append-nil (render_of N A ts)); stop = m.stop_is ∙ omega arith }
  parts room e (node expr line Expr.Call f (ts ▸ end)) h u z =
      let m = grouped (e ∙ counted h.1 (left - 1) (ts ▸ end) h.3 ∙ add-zero f.1.0) (exprs_made N first below (left - 1) ts (i + 1) h.3.0 u.0) in
      record { list = m.list; recs = λ A. rw (m.recs_are A, append-nil (render_of N A ts)); stop = m.stop_is ∙ omega arith }
  parts room e (node expr line Expr.PatternPredicate f (ts ▸ end)) h u z = absurd (z (number_is room (record { kind = Expr.PatternPredicate; fields = f; at = h.1 })))
  parts room e (node expr line Expr.ListPredicate f (ts ▸ end)) h u z =
      let m = grouped (e ∙ counted h.1 (left - 1) (ts ▸ end) h.3 ∙ add-zero (suc (one f.1.1.0))) (exprs_made N first below (left - 1) ts (i + 1) h.3.0 u.0) in
      record { list = m.list; recs = λ A. rw (m.recs_are A, append-nil (render_of N A ts), h.0); stop = m.stop_is ∙ omega arith }
  parts room e (node expr line Expr.Unresolved f end) h u z =
      let m = bare N first below (left - 1) (i + 1) (e ∙ counted h.1 (left - 1) end h.3) in
      record { list = m.list; recs = λ A. rw (m.recs_are A); stop = m.stop_is ∙ omega arith }
  parts room e (node expr line Expr.Undesugared f end) h u z =
      let m = bare N first below (left - 1) (i + 1) (e ∙ counted h.1 (left - 1) end h.3) in
      record { list = m.list; recs = λ A. rw (m.recs_are A); stop = m.stop_is ∙ omega arith }

-- a pattern as its first record and the operator that it copies
pub record Copy (N : Notes) (first below i : ℕ) {sheet : Bytes} {a b : List ℕ} (t : Tree expr) (at : ExprAt sheet a b i) : Type 0 where
  pub from : first ≤ N (suc i)
  pub low : N (suc i) < below
  pub recs : (A : Ops) → render N A t ≡ expr_head (N (suc i)) at.kind at.fields ∷ A (N (suc i))

module _ {sheet : Bytes} {a b : List ℕ} (N : Notes) (first below left i : ℕ) where
  pub copied : Roomy a b → (t : Tree expr) (h : Held sheet a b t left i) → Below N first below t → cell a b i kind_at ≡ pat_kind → Copy N first below i t (expr_of left t i h)
  unfolding Held Below render below_in copies_below recs_over expr_recs expr_rest expr_of kind_of first_kind nth kinds sames
  copied room (node expr line k f kids) h u e =
      at_kind Expr.PatternPredicate k (λ k f. (kids : Forest (children expr k f)) (h : Held sheet a b (node expr line k f kids) left i) → Below N first below (node expr line k f kids) → Copy N first below i (node expr line k f kids) (expr_of left (node expr line k f kids) i h))
      (kind_is room (record { kind = k; fields = f; at = h.1 }) pat_kind Expr.PatternPredicate e refl)
      (λ f kids h u. record { from = rw h.0 at u.0; low = rw h.0 at u.1; recs = λ A. rw h.0 })
      f kids h u

pub deep : (sheet : Bytes) (a b : List ℕ) (left i : ℕ) (t : Tree expr) → Held sheet a b t left i → 0 < left
unfolding Held
deep sheet a b left i (node expr line k f kids) h = h.2

-- ── elements of patterns ──

abbrev pub props_at : List ℕ → List ℕ → ℕ → ℕ
props_at a b i = cond (eqb (cell a b i kind_at) node_kind) (cell a b i node_props_at) (cell a b i rel_props_at)

pub record ElementParts (sheet : Bytes) (a b : List ℕ) (N : Notes) (first below left i : ℕ) (t : Tree pattern_element) : Type 0 where
  pub at : ElementAt sheet a b i
  pub deep : 0 < left
  pub names : Names sheet a b (cell a b i node_labels_at) (i + 1)
  pub list : Carried sheet a b N first below (left - 1) (props_at a b i) (i + 1 + cell a b i node_labels_at)
  pub recs : (A : Ops) → spec_recs N A t ≡ spec_rec at.kind at.fields ∷ (names_recs names ++ carried_recs A list)

-- names and so many props, and the records that they come to
abbrev ElementMade : (sheet : Bytes) (a b : List ℕ) (N : Notes) (first below left i props : ℕ) → (Ops → Recs) → Type 0
ElementMade sheet a b N first below left i props R = (names : Names sheet a b (cell a b i node_labels_at) (i + 1)) × (list : Carried sheet a b N first below (left - 1) props (i + 1 + cell a b i node_labels_at)) × ((A : Ops) → R A ≡ names_recs names ++ carried_recs A list)

module _ {sheet : Bytes} {a b : List ℕ} (N : Notes) (first below left i : ℕ) where
  -- counted by the words
  element_made : {n p props : ℕ} (labels : Trees name n) (ps : Trees expr p) → n ≡ cell a b i node_labels_at → p ≡ props → HeldOf sheet a b labels (left - 1) (i + 1) → HeldOf sheet a b ps (left - 1) (i + 1 + size_of labels) → BelowOf N first below ps → ElementMade sheet a b N first below left i props (λ A. render_of N A labels ++ (render_of N A ps ++ []))
  element_made {n} {p} {props} labels ps e q hl hp u =
      let m : NamesMade sheet a b n (i + 1) (render_of N (λ k. []) labels) (i + 1 + size_of labels) = names_made N (λ k. []) (left - 1) labels (i + 1) hl in
      let hp' : HeldOf sheet a b ps (left - 1) (i + 1 + n) = rw m.stop_is hp in
      let l : Made sheet a b N first below (left - 1) p (i + 1 + n) (λ A. render_of N A ps) (i + 1 + n + size_of ps) = exprs_made N first below (left - 1) ps (i + 1 + n) hp' u in
      rw (← e, ← q) (m.names, l.list, λ A. rw (l.recs_are A, append-nil (render_of N A ps)) (ap (λ (r : Recs). r ++ render_of N A ps) (same_names A m)))
    where
      same_names : (A : Ops) (m : NamesMade sheet a b n (i + 1) (render_of N (λ k. []) labels) (i + 1 + size_of labels)) → render_of N A labels ≡ names_recs m.names
      same_names A m = names_alike N A (λ k. []) labels ∙ sym m.recs_are

  pub element_parts : Roomy a b → (t : Tree pattern_element) → Held sheet a b t left i → KidsBelow N first below t → ElementParts sheet a b N first below left i t
  unfolding Held KidsBelow BelowIn render_in spec_recs fields_of field_of element_number
  element_parts room (node pattern_element line PatternElement.Node f (labels ▸ ps ▸ end)) h u =
      let at : ElementAt sheet a b i = record { kind = PatternElement.Node; fields = f; at = h.1 } in
      let s = shown room h.1 in
      let n : f.1.0 ≡ cell a b i node_labels_at = ap (λ (x : Fields (element_forms PatternElement.Node)). x.1.0) s.fields in
      let q : one f.1.1.0 ≡ cell a b i node_props_at = ap (λ (x : Fields (element_forms PatternElement.Node)). one x.1.1.0) s.fields ∙ flag_word (cell a b i node_props_at) s.flags.1.1.0 in
      let k : props_at a b i ≡ cell a b i node_props_at = rw (eq-eqb (cell a b i kind_at) node_kind (element_number_law room at)) in
      let m = element_made labels ps n (q ∙ sym k) h.3.0 h.3.1.0 u.1.0 in
      record { at = at; deep = h.2; names = m.0; list = m.1; recs = λ A. ap (λ (r : Recs). spec_rec PatternElement.Node f ∷ r) (m.2 A) }
  element_parts room (node pattern_element line PatternElement.Rel f (labels ▸ ps ▸ end)) h u =
      let at : ElementAt sheet a b i = record { kind = PatternElement.Rel; fields = f; at = h.1 } in
      let s = shown room h.1 in
      let n : f.1.0 ≡ cell a b i node_labels_at = ap (λ (x : Fields (element_forms PatternElement.Rel)). x.1.0) s.fields in
      let q : one f.1.1.1.1.0 ≡ cell a b i rel_props_at = ap (λ (x : Fields (element_forms PatternElement.Rel)). one x.1.1.1.1.0) s.fields ∙ flag_word (cell a b i rel_props_at) s.flags.1.1.1.1.0 in
      let k : props_at a b i ≡ cell a b i rel_props_at = rw (ne_eqb (cell a b i kind_at) node_kind (λ x. let y : ◌≡◌ {A = ℕ} rel_kind node_kind = sym (element_number_law room at) ∙ x in omega arith)) in
      let m = element_made labels ps n (q ∙ sym k) h.3.0 h.3.1.0 u.1.0 in
      record { at = at; deep = h.2; names = m.0; list = m.1; recs = λ A. ap (λ (r : Recs). spec_rec PatternElement.Rel f ∷ r) (m.2 A) }
