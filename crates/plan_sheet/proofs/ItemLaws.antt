-- The name of an item, off its record and its expression's. Assumes nothing: every law is proved.
use mathlib.Core.Path.{◌≡◌, refl, sym, ap, ◌∙◌}
use Prim.Native.Nat.{ℕ, zero, suc, ◌+◌, ◌/◌, ◌%◌, ◌<◌}
use native.Mathlib.Omega.{arith}
use mathlib.Core.Bool.{Bool, true, false, cond}
use mathlib.Core.Logic.{◌⊎◌, inl, inr}
use mathlib.Core.List.{List, [], ◌∷◌, ◌++◌, append_assoc}
use Rattle.std.specs.Prelude.{None, Some}
use borrow.Author.Tests.{ne_eqb, ltb-true}
use lib.Dec.{ltb}
use lib.Seq.{slice}
use Rattle.model.specs.Text.{Bytes, decimal, digits, bytes, bytes_from, escape_byte, escape, unescape, tab, line_feed, backslash, digit0, max_digits}
use Rattle.model.specs.Field.{Fields, text, spell, spell_fields}
use Rattle.model.specs.Kind.{Same, Expr, projection, expr}
use Rattle.model.specs.Record.{forms, same_forms, expr_forms, kinds, sames, keyword, plan_keyword, spell_rec}
use Rattle.model.specs.Lower.{same_alias, alias_or, expr_alias}
use Rattle.words.specs.Words.{Roomy, cell, kind_of, first_kind, nth, alias_of, field_of, fields_of}
use Rattle.words.specs.Held.{RecordAt, PlaceAt}
use Rattle.words.specs.Cells.{shown}
use Rattle.words.specs.Numbers.{same_number, expr_number, Others}
use Rattle.plan_line.specs.Keywords.{word}
use Rattle.plan_line.specs.declared.keyword.Keyword.{Keyword}
use Rattle.plan_line.specs.Row.{named_text}
use Rattle.plan_sheet.specs.Due.{ExprAt, ItemAt, named_rec, item_name}
use Rattle.plan_line.specs.Copy.{TextAsked, text_at}
use Rattle.plan_line.proofs.RowLaws.{named_rec_law, place_escape}
use Rattle.plan_sheet.proofs.HeadLaws.{at_kind, texts_at, number_is, kind_is, call_in, call_place}
use Rattle.words.specs.Places.{fn_kind, item_alias_at, kind_at, name_at, prop_kind, var_id_at, var_kind}

-- ── digits are not escaped ──

digit_plain : (d : ℕ) → d < 10 → escape_byte (digit0 + d) ≡ (digit0 + d) ∷ []
unfolding escape_byte
digit_plain d h = rw (ne_eqb (digit0 + d) tab (λ e. omega arith), ne_eqb (digit0 + d) line_feed (λ e. omega arith), ne_eqb (digit0 + d) backslash (λ e. omega arith))

escape_append : (s t : Bytes) → escape (s ++ t) ≡ escape s ++ escape t
unfolding escape
escape_append [] t = refl
escape_append (b ∷ s) t = ap (λ (u : Bytes). escape_byte b ++ u) (escape_append s t) ∙ sym (append_assoc (escape_byte b) (escape s) (escape t))

digit_escape : (d : ℕ) → d < 10 → escape ((digit0 + d) ∷ []) ≡ (digit0 + d) ∷ []
unfolding escape
digit_escape d h = rw (digit_plain d h)

more_escape : (s : Bytes) (n : ℕ) → escape s ≡ s → (t : Bool) → ltb n 10 ≡ t → escape (cond t ((digit0 + n) ∷ []) (s ++ ((digit0 + n % 10) ∷ []))) ≡ cond t ((digit0 + n) ∷ []) (s ++ ((digit0 + n % 10) ∷ []))
more_escape s n h true e = digit_escape n (ltb-true n 10 e)
more_escape s n h false e = escape_append s ((digit0 + n % 10) ∷ []) ∙ rw (h, digit_escape (n % 10) (omega arith))

digits_escape : (k n : ℕ) → escape (digits k n) ≡ digits k n
unfolding digits escape
digits_escape zero n = refl
digits_escape (suc k) n = more_escape (digits k (n / 10)) n (digits_escape k (n / 10)) (ltb n 10) refl

-- ── names ──

named_is : (t name : Bytes) → escape t ≡ name → spell_rec (named_rec t) ≡ named_text Keyword.Item name []
unfolding keyword plan_keyword word bytes bytes_from spell_fields spell
named_is t name e = named_rec_law (named_rec t) Keyword.Item name [] refl (rw e)

id_escape : (id : ℕ) → escape (bytes "_v" ++ decimal id) ≡ bytes "_v" ++ decimal id
unfolding escape escape_byte bytes bytes_from decimal
id_escape id = rw (digits_escape max_digits id)

no_escape : escape (bytes "_") ≡ bytes "_"
unfolding escape escape_byte bytes bytes_from
no_escape = refl

same_none : (h : Same) → (same_number h ≡ prop_kind → ⊥) → (f : Fields (same_forms h)) → same_alias h f ≡ bytes "_"
unfolding same_alias same_number
same_none Same.Null z f = refl
same_none Same.Bool z f = refl
same_none Same.Int z f = refl
same_none Same.Float z f = refl
same_none Same.String z f = refl
same_none Same.Param z f = refl
same_none Same.Prop z f = absurd (z refl)
same_none Same.Index z f = refl
same_none Same.Slice z f = refl
same_none Same.List z f = refl
same_none Same.BinOp z f = refl
same_none Same.UnaryOp z f = refl
same_none Same.Case z f = refl
same_none Same.IsNull z f = refl
same_none Same.InList z f = refl

-- the kinds that have a name, as a `match` leaves them behind its arms
abbrev pub named : List ℕ
named = fn_kind ∷ var_kind ∷ prop_kind ∷ []

kind_none : (k : Expr) → Others (expr_number k) named → (f : Fields (expr_forms k)) → expr_alias k f ≡ bytes "_"
unfolding expr_number
kind_none (Expr.Over h) z f = same_none h z.0.0.1 f
kind_none Expr.Var z f = absurd (z.0.1 refl)
kind_none Expr.Map z f = refl
kind_none Expr.Call z f = absurd (z.1 refl)
kind_none Expr.PatternPredicate z f = refl
kind_none Expr.ListPredicate z f = refl
kind_none Expr.Unresolved z f = refl
kind_none Expr.Undesugared z f = refl

-- ── an item without an alias ──

module _ {sheet : Bytes} {a b : List ℕ} {i : ℕ} (room : Roomy a b) (h : ExprAt sheet a b i) where
  prop_place : cell a b i kind_at ≡ prop_kind → PlaceAt text sheet (cell a b i name_at) (cell a b i (name_at + 1))
  unfolding kind_of first_kind nth kinds sames
  prop_place e = at_kind (Expr.Over Same.Prop) h.kind (λ k f. RecordAt sheet a b i expr k f → PlaceAt text sheet (cell a b i name_at) (cell a b i (name_at + 1))) (kind_is room h prop_kind (Expr.Over Same.Prop) e refl) (λ f at. (texts_at room at).0) h.fields h.at

  prop_in : cell a b i kind_at ≡ prop_kind → TextAsked sheet a b i name_at
  prop_in e = let p = prop_place e in record { from = p.from; to = p.to }

  prop_named : cell a b i kind_at ≡ prop_kind → spell_rec (named_rec (expr_alias h.kind h.fields)) ≡ named_text Keyword.Item (text_at sheet a b i name_at) []
  unfolding kind_of first_kind nth kinds sames same_alias fields_of field_of
  prop_named e = named_is _ _ (at_kind (Expr.Over Same.Prop) h.kind (λ k f. RecordAt sheet a b i expr k f → escape (expr_alias k f) ≡ text_at sheet a b i name_at) (kind_is room h prop_kind (Expr.Over Same.Prop) e refl) (λ f at. rw (shown room at).fields (place_escape (prop_place e))) h.fields h.at)

  call_named : cell a b i kind_at ≡ fn_kind → spell_rec (named_rec (expr_alias h.kind h.fields)) ≡ named_text Keyword.Item (text_at sheet a b i name_at) []
  unfolding kind_of first_kind nth kinds sames fields_of field_of
  call_named e = named_is _ _ (at_kind Expr.Call h.kind (λ k f. RecordAt sheet a b i expr k f → escape (expr_alias k f) ≡ text_at sheet a b i name_at) (kind_is room h fn_kind Expr.Call e refl) (λ f at. rw (shown room at).fields (place_escape (call_place room 0 h e))) h.fields h.at)

  -- a property or a function, either of which has its name there
  pub own_in : (cell a b i kind_at ≡ prop_kind) ⊎ (cell a b i kind_at ≡ fn_kind) → TextAsked sheet a b i name_at
  own_in e = elim e [ inl p ↦ prop_in p | inr q ↦ call_in room 0 h q ]

  pub own_named : (cell a b i kind_at ≡ prop_kind) ⊎ (cell a b i kind_at ≡ fn_kind) → spell_rec (named_rec (expr_alias h.kind h.fields)) ≡ named_text Keyword.Item (text_at sheet a b i name_at) []
  own_named e = elim e [ inl p ↦ prop_named p | inr q ↦ call_named q ]

  pub id_named : cell a b i kind_at ≡ var_kind → spell_rec (named_rec (expr_alias h.kind h.fields)) ≡ named_text Keyword.Item (bytes "_v" ++ decimal (cell a b i var_id_at)) []
  unfolding kind_of first_kind nth kinds sames fields_of field_of
  id_named e = named_is _ _ (at_kind Expr.Var h.kind (λ k f. RecordAt sheet a b i expr k f → escape (expr_alias k f) ≡ bytes "_v" ++ decimal (cell a b i var_id_at)) (kind_is room h var_kind Expr.Var e refl) (λ f at. rw (shown room at).fields (id_escape (cell a b i var_id_at))) h.fields h.at)

  pub none_named : (kind : ℕ) → kind ≡ cell a b i kind_at → Others kind named → spell_rec (named_rec (expr_alias h.kind h.fields)) ≡ named_text Keyword.Item (bytes "_") []
  none_named kind e z = named_is _ _ (rw (kind_none h.kind (rw (e ∙ number_is room h) at z) h.fields) no_escape)

-- ── an item ──

alias_some : (sheet : Bytes) (x y : ℕ) → (x ≡ 0 → ⊥) → alias_of sheet x y ≡ Some (unescape (slice x y sheet))
unfolding alias_of
alias_some sheet zero y z = absurd (z refl)
alias_some sheet (suc x) y z = refl

alias_none : (sheet : Bytes) (x y : ℕ) → x ≡ 0 → alias_of sheet x y ≡ None
unfolding alias_of
alias_none sheet x y e = rw e

module _ {sheet : Bytes} {a b : List ℕ} {i : ℕ} (room : Roomy a b) (h : ItemAt sheet a b i) where
  alias_is : h.fields.0 ≡ alias_of sheet (cell a b i item_alias_at) (cell a b i (item_alias_at + 1))
  unfolding fields_of field_of
  alias_is = ap (λ (f : Fields (forms projection tt)). f.0) (shown room h.at).fields

  alias_place : (cell a b i item_alias_at ≡ 0 → ⊥) → PlaceAt text sheet (cell a b i item_alias_at) (cell a b i (item_alias_at + 1))
  alias_place z = (texts_at room h.at).0 (omega arith)

  pub alias_in_law : (cell a b i item_alias_at ≡ 0 → ⊥) → TextAsked sheet a b i item_alias_at
  alias_in_law z = let p = alias_place z in record { from = p.from; to = p.to }

  pub alias_named : (cell a b i item_alias_at ≡ 0 → ⊥) → spell_rec (named_rec (item_name h)) ≡ named_text Keyword.Item (text_at sheet a b i item_alias_at) []
  unfolding alias_or
  alias_named z = named_is _ _ (rw (alias_is, alias_some sheet (cell a b i item_alias_at) (cell a b i (item_alias_at + 1)) z) (place_escape (alias_place z)))

  pub plain_named : cell a b i item_alias_at ≡ 0 → item_name h ≡ expr_alias h.expr.kind h.expr.fields
  unfolding alias_or
  plain_named z = rw (alias_is, alias_none sheet (cell a b i item_alias_at) (cell a b i (item_alias_at + 1)) z)
