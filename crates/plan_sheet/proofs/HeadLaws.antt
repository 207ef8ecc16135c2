-- What the words of a record say of its line in the plan. Assumes nothing: every law is proved.
use mathlib.Core.Path.{◌≡◌, refl, sym, subst, ◌∙◌}
use Prim.Native.Nat.{ℕ, ◌+◌, ◌≤◌, ◌<◌}
use native.Mathlib.Omega.{arith}
use mathlib.Core.Bool.{Bool, true, false, cond, false≢true}
use mathlib.Core.Logic.{◌⊎◌, inl, inr}
use mathlib.Core.List.{List, [], ◌∷◌, append-nil}
use Rattle.std.specs.Prelude.{Option, None, Some}
use Rattle.std.proofs.lemmas.Option.{same_Some}
use borrow.Author.Tests.{eq-eqb, eqb-true, eqb-false, ltb-false}
use lib.Dec.{eqb, ltb}
use Rattle.model.specs.Text.{Bytes, bytes, bytes_from}
use Rattle.model.specs.Field.{Fields, text, spell, spell_fields}
use Rattle.model.specs.Kind.{Sort, Kind, Same, Expr, projection, order_item, entry, expr}
use Rattle.model.specs.Record.{rec, forms, expr_forms, kinds, sames, keyword, expr_keyword, plan_keyword, plan_expr_keyword, same_keyword, spell_rec, spell_recs}
use Rattle.model.specs.Lower.{Recs, expr_head}
use Rattle.output.specs.declared.Page.{Page}
use Rattle.output.specs.Page.{Puts}
use Rattle.output.specs.Writes.{stay}
use Rattle.words.specs.Words.{Roomy, cell, kind_of, first_kind, nth, field_of, fields_of, int_of, max_records}
use Rattle.words.specs.Held.{RecordAt, Texts, PlaceAt}
use Rattle.words.specs.Places.{kind_at, item_kind, key_kind, entry_kind, null_kind, int_kind, var_kind, fn_kind, pat_kind, list_predicate_kind, unres_kind, undes_kind, name_at, int_low_at, int_high_at, fn_args_at, list_predicate_kind_at, list_predicate_pred_at}
use Rattle.words.specs.Cells.{cells, part_cells, shown, numbered, number_of}
use Rattle.words.specs.Numbers.{Others, among, other_than, expr_number, expr_number_law}
use Rattle.plan_line.specs.Keywords.{word}
use Rattle.plan_line.specs.declared.keyword.Keyword.{Keyword}
use Rattle.plan_line.specs.Copy.{SomeRecord, Copied}
use Rattle.plan_line.specs.Row.{row_text, named_text, int_text}
use Rattle.plan_sheet.specs.Due.{ExprAt, ItemAt, named_rec, item_name, Line}
use Rattle.plan_line.specs.Copy.{TextAsked, text_at}
use Rattle.plan_line.proofs.RowLaws.{flag_decimal, row_rec, named_rec_law, int_rec, place_escape}

-- ── expressions ──

-- the kinds whose line is another one in the plan, as the code's `match` leaves them behind its arms
abbrev pub renamed : List ℕ
renamed = undes_kind ∷ unres_kind ∷ list_predicate_kind ∷ pat_kind ∷ fn_kind ∷ var_kind ∷ []

-- with them the kind whose number is written anew
abbrev pub rewritten : List ℕ
rewritten = undes_kind ∷ unres_kind ∷ list_predicate_kind ∷ pat_kind ∷ fn_kind ∷ int_kind ∷ var_kind ∷ []

pub two : (n k : ℕ) → k ≤ n → n ≤ k + 1 → (n ≡ k) ⊎ (n ≡ k + 1)
two n k l m = go (eqb n k) refl
  where
    go : (t : Bool) → eqb n k ≡ t → (n ≡ k) ⊎ (n ≡ k + 1)
    go true p = inl (eqb-true n k p)
    go false p = inr (omega (arith, eqb-false n k p))

-- what a match leaves for its last arm, from the test on all that it has arms for
pub others : (c : ℕ) (ks : List ℕ) → among c ks ≡ false → Others c ks
others c [] e = tt
others c (k ∷ ks) e = go (λ r. others c ks r) (eqb c k) refl e
  where
    go : (among c ks ≡ false → Others c ks) → (t : Bool) → eqb c k ≡ t → cond t true (among c ks) ≡ false → Others c ks × (c ≡ k → ⊥)
    go f true p r = absurd (false≢true (sym r))
    go f false p r = (f r, λ q. false≢true (sym p ∙ eq-eqb c k q))

not_renamed : (c : ℕ) → Others c rewritten → Others c renamed
not_renamed c z =
    ((((((tt, other_than c var_kind rewritten z refl), other_than c fn_kind rewritten z refl), other_than c pat_kind rewritten z refl), other_than c list_predicate_kind rewritten z refl), other_than c unres_kind rewritten z refl), other_than c undes_kind rewritten z refl)

-- the kinds of the lines that stand before expressions, likewise
abbrev pub lines : List ℕ
lines = item_kind ∷ key_kind ∷ entry_kind ∷ []

from_first : {A : Type 0} (t : Bool) (f n : ℕ) (o : Option A) (k : A) → t ≡ ltb n f → cond t None o ≡ Some k → f ≤ n
from_first true f n o k l h = let z : ◌≡◌ {A = ℕ} 0 1 = cc in absurd (omega arith)
from_first false f n o k l h = ltb-false n f (sym l)

pub at_kind : (k₀ k : Expr) (P : (k : Expr) → Fields (expr_forms k) → Type 0) → k₀ ≡ k → ((f : Fields (expr_forms k₀)) → P k₀ f) → (f : Fields (expr_forms k)) → P k f
at_kind k₀ k P e h = subst (λ (k : Expr). (f : Fields (expr_forms k)) → P k f) e h

-- the others have the line that the statement sheet has
pub copied_kind : (c n : ℕ) (k : Expr) (f : Fields (expr_forms k)) → c ≡ expr_number k → Others c renamed → spell_rec (rec expr k f) ≡ spell_rec (expr_head n k f)
unfolding expr_number spell_rec spell_fields keyword expr_keyword plan_keyword plan_expr_keyword
copied_kind c n (Expr.Over o) f e z = refl
copied_kind c n Expr.Map f e z = refl
copied_kind c n Expr.Var f e z = absurd (other_than c var_kind renamed z refl e)
copied_kind c n Expr.Call f e z = absurd (other_than c fn_kind renamed z refl e)
copied_kind c n Expr.PatternPredicate f e z = absurd (other_than c pat_kind renamed z refl e)
copied_kind c n Expr.ListPredicate f e z = absurd (other_than c list_predicate_kind renamed z refl e)
copied_kind c n Expr.Unresolved f e z = absurd (other_than c unres_kind renamed z refl e)
copied_kind c n Expr.Undesugared f e z = absurd (other_than c undes_kind renamed z refl e)

-- the record of a line
module _ {sheet : Bytes} {a b : List ℕ} {i : ℕ} where
  pub some_record : {s : Sort} {k : Kind s} {f : Fields (forms s k)} → RecordAt sheet a b i s k f → SomeRecord sheet a b i
  some_record {s} {k} {f} h = record { sort = s; kind = k; fields = f; at = h }

  pub line_record : {recs : Recs} {j : ℕ} → Line sheet a b i recs j → SomeRecord sheet a b i
  line_record (Line.bare h) = some_record h.at
  line_record (Line.named h) = some_record h
  line_record (Line.keyed h) = some_record h
  line_record (Line.aliased h) = some_record h.at

  pub line_low : {recs : Recs} {j : ℕ} → Line sheet a b i recs j → i < max_records
  line_low l = (line_record l).at.low

module _ {sheet : Bytes} {a b : List ℕ} {i : ℕ} (room : Roomy a b) where
  -- so, read off the words one by one
  pub texts_at : {s : Sort} {k : Kind s} {f : Fields (forms s k)} → RecordAt sheet a b i s k f → Texts (forms s k) sheet (cells a b i) 0
  texts_at h = rw (part_cells a b i room h.low) at h.texts

  pub number_is : (h : ExprAt sheet a b i) → cell a b i kind_at ≡ expr_number h.kind
  number_is h = expr_number_law (cell a b i kind_at) h.kind (shown room h.at).kind

  pub kind_is : (h : ExprAt sheet a b i) (n : ℕ) (k : Expr) → cell a b i kind_at ≡ n → kind_of expr n ≡ Some k → k ≡ h.kind
  kind_is h n k e q = same_Some _ _ (sym q ∙ rw e at (shown room h.at).kind)

  module _ (n : ℕ) (h : ExprAt sheet a b i) where
    pub var_head : cell a b i kind_at ≡ var_kind → spell_rec (expr_head n h.kind h.fields) ≡ row_text Keyword.Var (n ∷ [])
    unfolding kind_of first_kind nth kinds sames keyword plan_keyword plan_expr_keyword word bytes bytes_from spell_fields spell
    var_head e = at_kind Expr.Var h.kind (λ k f. spell_rec (expr_head n k f) ≡ row_text Keyword.Var (n ∷ [])) (kind_is h var_kind Expr.Var e refl) (λ f. row_rec _ Keyword.Var (n ∷ []) refl refl) h.fields

    pub exists_head : cell a b i kind_at ≡ pat_kind → spell_rec (expr_head n h.kind h.fields) ≡ row_text Keyword.Exists []
    unfolding kind_of first_kind nth kinds sames keyword plan_keyword plan_expr_keyword word bytes bytes_from spell_fields spell
    exists_head e = at_kind Expr.PatternPredicate h.kind (λ k f. spell_rec (expr_head n k f) ≡ row_text Keyword.Exists []) (kind_is h pat_kind Expr.PatternPredicate e refl) (λ f. row_rec _ Keyword.Exists [] refl refl) h.fields

    unresolved_head : cell a b i kind_at ≡ unres_kind → spell_rec (expr_head n h.kind h.fields) ≡ row_text Keyword.Null []
    unfolding kind_of first_kind nth kinds sames keyword plan_keyword plan_expr_keyword same_keyword word bytes bytes_from spell_fields spell
    unresolved_head e = at_kind Expr.Unresolved h.kind (λ k f. spell_rec (expr_head n k f) ≡ row_text Keyword.Null []) (kind_is h unres_kind Expr.Unresolved e refl) (λ f. row_rec _ Keyword.Null [] refl refl) h.fields

    undesugared_head : cell a b i kind_at ≡ undes_kind → spell_rec (expr_head n h.kind h.fields) ≡ row_text Keyword.Null []
    unfolding kind_of first_kind nth kinds sames keyword plan_keyword plan_expr_keyword same_keyword word bytes bytes_from spell_fields spell
    undesugared_head e = at_kind Expr.Undesugared h.kind (λ k f. spell_rec (expr_head n k f) ≡ row_text Keyword.Null []) (kind_is h undes_kind Expr.Undesugared e refl) (λ f. row_rec _ Keyword.Null [] refl refl) h.fields

    -- the two kinds that are printed as a null have the last numbers
    pub null_head : unres_kind ≤ cell a b i kind_at → cell a b i kind_at ≤ undes_kind → spell_rec (expr_head n h.kind h.fields) ≡ row_text Keyword.Null []
    null_head l m = elim (two (cell a b i kind_at) unres_kind l m) [ inl e ↦ unresolved_head e | inr e ↦ undesugared_head e ]

    any_fields : (f : Fields (expr_forms Expr.ListPredicate)) → RecordAt sheet a b i expr Expr.ListPredicate f → spell_rec (expr_head n Expr.ListPredicate f) ≡ row_text Keyword.ListPredicate (cell a b i list_predicate_kind_at ∷ n ∷ cell a b i list_predicate_pred_at ∷ [])
    unfolding keyword plan_keyword plan_expr_keyword word bytes bytes_from spell_fields spell fields_of field_of
    any_fields f at =
        let s = shown room at in
        row_rec _ Keyword.ListPredicate (cell a b i list_predicate_kind_at ∷ n ∷ cell a b i list_predicate_pred_at ∷ []) refl (rw s.fields (rw (flag_decimal (cell a b i list_predicate_pred_at) s.flags.1.1.0)))

    pub any_head : cell a b i kind_at ≡ list_predicate_kind → spell_rec (expr_head n h.kind h.fields) ≡ row_text Keyword.ListPredicate (cell a b i list_predicate_kind_at ∷ n ∷ cell a b i list_predicate_pred_at ∷ [])
    unfolding kind_of first_kind nth kinds sames
    any_head e = at_kind Expr.ListPredicate h.kind (λ k f. RecordAt sheet a b i expr k f → spell_rec (expr_head n k f) ≡ row_text Keyword.ListPredicate (cell a b i list_predicate_kind_at ∷ n ∷ cell a b i list_predicate_pred_at ∷ [])) (kind_is h list_predicate_kind Expr.ListPredicate e refl) any_fields h.fields h.at

    pub call_place : cell a b i kind_at ≡ fn_kind → PlaceAt text sheet (cell a b i name_at) (cell a b i (name_at + 1))
    unfolding kind_of first_kind nth kinds sames
    call_place e = at_kind Expr.Call h.kind (λ k f. RecordAt sheet a b i expr k f → PlaceAt text sheet (cell a b i name_at) (cell a b i (name_at + 1))) (kind_is h fn_kind Expr.Call e refl) (λ f at. (texts_at at).0) h.fields h.at

    pub call_in : cell a b i kind_at ≡ fn_kind → TextAsked sheet a b i name_at
    call_in e = let p = call_place e in record { from = p.from; to = p.to }

    call_fields : PlaceAt text sheet (cell a b i name_at) (cell a b i (name_at + 1)) → (f : Fields (expr_forms Expr.Call)) → RecordAt sheet a b i expr Expr.Call f → spell_rec (expr_head n Expr.Call f) ≡ named_text Keyword.Fn (text_at sheet a b i name_at) (cell a b i fn_args_at ∷ [])
    unfolding keyword plan_keyword plan_expr_keyword word bytes bytes_from spell_fields spell fields_of field_of
    call_fields p f at = named_rec_law _ Keyword.Fn (text_at sheet a b i name_at) (cell a b i fn_args_at ∷ []) refl (rw (shown room at).fields (rw (place_escape p)))

    pub call_head : cell a b i kind_at ≡ fn_kind → spell_rec (expr_head n h.kind h.fields) ≡ named_text Keyword.Fn (text_at sheet a b i name_at) (cell a b i fn_args_at ∷ [])
    unfolding kind_of first_kind nth kinds sames
    call_head e = at_kind Expr.Call h.kind (λ k f. RecordAt sheet a b i expr k f → spell_rec (expr_head n k f) ≡ named_text Keyword.Fn (text_at sheet a b i name_at) (cell a b i fn_args_at ∷ [])) (kind_is h fn_kind Expr.Call e refl) (call_fields (call_place e)) h.fields h.at

    int_fields : (f : Fields (expr_forms (Expr.Over Same.Int))) → RecordAt sheet a b i expr (Expr.Over Same.Int) f → spell_rec (expr_head n (Expr.Over Same.Int) f) ≡ int_text (int_of (cell a b i int_low_at) (cell a b i int_high_at))
    unfolding keyword plan_keyword plan_expr_keyword same_keyword word bytes bytes_from spell_fields spell fields_of field_of
    int_fields f at = int_rec _ (int_of (cell a b i int_low_at) (cell a b i int_high_at)) refl (rw (shown room at).fields)

    pub int_head : cell a b i kind_at ≡ int_kind → spell_rec (expr_head n h.kind h.fields) ≡ int_text (int_of (cell a b i int_low_at) (cell a b i int_high_at))
    unfolding kind_of first_kind nth kinds sames
    int_head e = at_kind (Expr.Over Same.Int) h.kind (λ k f. RecordAt sheet a b i expr k f → spell_rec (expr_head n k f) ≡ int_text (int_of (cell a b i int_low_at) (cell a b i int_high_at))) (kind_is h int_kind (Expr.Over Same.Int) e refl) int_fields h.fields h.at

  pub copied_head : (n kind : ℕ) {p q : Page} → kind ≡ cell a b i kind_at → Others kind rewritten → (h : ExprAt sheet a b i) → Copied sheet a b i p q → Puts (spell_rec (expr_head n h.kind h.fields)) p q
  copied_head n kind e z h c = rw (copied_kind kind n h.kind h.fields (e ∙ number_is h) (not_renamed kind z)) at (c.line expr h.kind h.fields h.at)

  -- the kinds of expressions are the last
  pub expr_high : (h : ExprAt sheet a b i) → null_kind ≤ cell a b i kind_at
  unfolding kind_of first_kind
  expr_high h = from_first (ltb (cell a b i kind_at) null_kind) null_kind (cell a b i kind_at) _ h.kind refl (shown room h.at).kind

  -- ── the line before an expression ──

  entry_number : {f : Fields (forms entry tt)} → RecordAt sheet a b i entry tt f → cell a b i kind_at ≡ entry_kind
  unfolding numbered first_kind kinds
  entry_number h = number_of entry (λ x. entry_kind) refl (cell a b i kind_at) tt (shown room h).kind

  key_number : {f : Fields (forms order_item tt)} → RecordAt sheet a b i order_item tt f → cell a b i kind_at ≡ key_kind
  unfolding numbered first_kind kinds
  key_number h = number_of order_item (λ x. key_kind) refl (cell a b i kind_at) tt (shown room h).kind

  item_number : {f : Fields (forms projection tt)} → RecordAt sheet a b i projection tt f → cell a b i kind_at ≡ item_kind
  unfolding numbered first_kind kinds
  item_number h = number_of projection (λ x. item_kind) refl (cell a b i kind_at) tt (shown room h).kind

  pub item_there : {recs : Recs} {j : ℕ} → cell a b i kind_at ≡ item_kind → Line sheet a b i recs j → ItemAt sheet a b i
  item_there e (Line.bare h) = absurd (omega (arith, expr_high h))
  item_there e (Line.named h) = absurd (omega (arith, entry_number h))
  item_there e (Line.keyed h) = absurd (omega (arith, key_number h))
  item_there e (Line.aliased h) = h

  module _ {g g' : Page} where
    -- a map's name and a sort key are the same in both sheets
    pub same_put : {recs : Recs} {j : ℕ} → (cell a b i kind_at ≡ key_kind) ⊎ (cell a b i kind_at ≡ entry_kind) → Line sheet a b i recs j → Copied sheet a b i g g' → (i + 1 ≡ j) × Puts (spell_recs recs) g g'
    unfolding spell_recs spell_rec keyword plan_keyword
    same_put e (Line.bare h) p = absurd (omega (arith, e, expr_high h))
    same_put e (Line.named h) p = (refl, rw append-nil (p.line entry tt _ h))
    same_put e (Line.keyed h) p = (refl, rw append-nil (p.line order_item tt _ h))
    same_put e (Line.aliased h) p = absurd (omega (arith, e, item_number h.at))

    pub aliased_put : {recs : Recs} {j : ℕ} → cell a b i kind_at ≡ item_kind → Line sheet a b i recs j → ((h : ItemAt sheet a b i) → Puts (spell_rec (named_rec (item_name h))) g g') → (i + 1 ≡ j) × Puts (spell_recs recs) g g'
    unfolding spell_recs
    aliased_put e (Line.bare h) p = absurd (omega (arith, expr_high h))
    aliased_put e (Line.named h) p = absurd (omega (arith, entry_number h))
    aliased_put e (Line.keyed h) p = absurd (omega (arith, key_number h))
    aliased_put e (Line.aliased h) p = (refl, rw append-nil (p h))

  pub bare_put : {g : Page} {recs : Recs} {j : ℕ} (kind : ℕ) → kind ≡ cell a b i kind_at → Others kind lines → Line sheet a b i recs j → (i ≡ j) × Puts (spell_recs recs) g g
  unfolding spell_recs
  bare_put kind e z (Line.bare h) = (refl, stay)
  bare_put kind e z (Line.named h) = absurd (other_than kind entry_kind lines z refl (e ∙ entry_number h))
  bare_put kind e z (Line.keyed h) = absurd (other_than kind key_kind lines z refl (e ∙ key_number h))
  bare_put kind e z (Line.aliased h) = absurd (other_than kind item_kind lines z refl (e ∙ item_number h.at))
