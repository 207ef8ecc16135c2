-- How many bytes the first line of an expression has, by its kind, and lines that are only counted. Assumes nothing: every law is proved.
use mathlib.Core.Path.{◌≡◌, refl, ◌∙◌}
use Prim.Native.Nat.{ℕ, ◌+◌, ◌≤◌}
use native.Mathlib.Omega.{arith}
use mathlib.Core.List.{List, [], ◌∷◌}
use lib.ListN.{length}
use Rattle.model.specs.Text.{Bytes, bytes, bytes_from}
use Rattle.model.specs.Kind.{expr}
use Rattle.model.specs.Record.{rec, spell_rec}
use Rattle.model.specs.Lower.{expr_head}
use Rattle.output.specs.declared.Page.{Page}
use Rattle.output.specs.Page.{Puts}
use Rattle.words.specs.Words.{Roomy, cell}
use Rattle.words.specs.Numbers.{Others}
use Rattle.words.specs.Places.{kind_at, var_kind, fn_kind, pat_kind, list_predicate_kind, unres_kind, undes_kind, name_at, fn_args_at, list_predicate_kind_at, list_predicate_pred_at}
use Rattle.plan_line.specs.Keywords.{word}
use Rattle.plan_line.specs.declared.keyword.Keyword.{Keyword}
use Rattle.plan_line.specs.Copy.{Copied, LineBytes, TextBytes}
use Rattle.plan_line.specs.Row.{NumberBytes}
use Rattle.plan_line.proofs.RowLaws.{row_long, named_long}
use Rattle.plan_sheet.specs.Due.{ExprAt}
use Rattle.plan_line.specs.Copy.{text_at}
use Rattle.plan_sheet.specs.Measure.{var_line, fn_line, list_predicate_line, exists_line, null_line, AnyBytes, CallBytes, HeadBytes}
use Rattle.plan_sheet.proofs.HeadLaws.{renamed, copied_kind, number_is, var_head, exists_head, null_head, any_head, call_in, call_head}

module _ {a b : List ℕ} {i : ℕ} where
  pub any_bytes : {n x z dx dn dz r : ℕ} → x ≡ cell a b i list_predicate_kind_at → z ≡ cell a b i list_predicate_pred_at → NumberBytes x dx → NumberBytes n dn → NumberBytes z dz → r ≡ list_predicate_line + dx + dn + dz → AnyBytes a b i n r
  unfolding word bytes bytes_from
  any_bytes {n} ex ez x d z e =
      record { long = rw (← ex, ← ez, row_long Keyword.ListPredicate (_ ∷ n ∷ _ ∷ [])) (omega (arith, e, x.long, d.long, z.long)) }

  pub call_bytes : {args n d r : ℕ} → TextBytes a b i name_at n → args ≡ cell a b i fn_args_at → NumberBytes args d → r ≡ fn_line + n + d → CallBytes a b i r
  unfolding word bytes bytes_from
  call_bytes {args} t ea d is =
      record { long = λ sheet asked. rw (← ea, named_long Keyword.Fn (text_at sheet a b i name_at) (args ∷ [])) (omega (arith, is, t.long sheet asked, d.long)) }

-- ── by the kind ──

module _ {a b : List ℕ} {i : ℕ} (room : Roomy a b) (n : ℕ) where
  pub var_long : {d r : ℕ} → cell a b i kind_at ≡ var_kind → NumberBytes n d → r ≡ var_line + d → HeadBytes a b i n r
  unfolding word bytes bytes_from
  var_long e d is = record { long = λ sheet h. rw (var_head room n h e, row_long Keyword.Var (n ∷ [])) (omega (arith, is, d.long)) }

  pub exists_long : cell a b i kind_at ≡ pat_kind → HeadBytes a b i n exists_line
  unfolding word bytes bytes_from
  exists_long e = record { long = λ sheet h. rw (exists_head room n h e, row_long Keyword.Exists []) refl }

  pub null_long : unres_kind ≤ cell a b i kind_at → cell a b i kind_at ≤ undes_kind → HeadBytes a b i n null_line
  unfolding word bytes bytes_from
  null_long l m = record { long = λ sheet h. rw (null_head room n h l m, row_long Keyword.Null []) refl }

  pub any_long : {r : ℕ} → cell a b i kind_at ≡ list_predicate_kind → AnyBytes a b i n r → HeadBytes a b i n r
  any_long e w = record { long = λ sheet h. rw (any_head room n h e) w.long }

  pub call_long : {r : ℕ} → cell a b i kind_at ≡ fn_kind → CallBytes a b i r → HeadBytes a b i n r
  call_long e w = record { long = λ sheet h. rw (call_head room n h e) (w.long sheet (call_in room n h e)) }

  pub copied_long : {kind r : ℕ} → kind ≡ cell a b i kind_at → Others kind renamed → LineBytes a b i r → HeadBytes a b i n r
  copied_long {kind} e z w =
      record { long = λ sheet h. rw (← copied_kind kind n h.kind h.fields (e ∙ number_is room h) z) (w.long sheet expr h.kind h.fields h.at) }

-- ── only counted ──

-- so many bytes of any text take p to q
abbrev pub Counts : ℕ → Page → Page → Type 0
Counts n p q = (t : Bytes) → n ≡ length t → Puts t p q

module _ {a b : List ℕ} {i n : ℕ} {p q : Page} where
  -- a line that is the same in both sheets
  pub counted_line : {sheet : Bytes} → LineBytes a b i n → Counts n p q → Copied sheet a b i p q
  counted_line {sheet} w c = record { line = λ s k f h. c (spell_rec (rec s k f)) (w.long sheet s k f h) }

  -- the first line of an expression
  pub counted_head : {sheet : Bytes} {number : ℕ} → HeadBytes a b i number n → Counts n p q → (h : ExprAt sheet a b i) → Puts (spell_rec (expr_head number h.kind h.fields)) p q
  counted_head {sheet} {number} w c h = c (spell_rec (expr_head number h.kind h.fields)) (w.long sheet h)
