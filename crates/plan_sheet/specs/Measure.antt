-- How many bytes lines have that are only counted. Assumes nothing: these are definitions.
use Rattle.std.specs.Prelude.{◌≡◌, ℕ, List, [], ◌∷◌, length}
use Rattle.model.specs.Text.{Bytes}
use Rattle.model.specs.Record.{spell_rec}
use Rattle.model.specs.Lower.{expr_head}
use Rattle.words.specs.Words.{cell}
use Rattle.words.specs.Places.{name_at, fn_args_at, list_predicate_kind_at, list_predicate_pred_at}
use Rattle.plan_line.specs.declared.keyword.Keyword.{Keyword}
use Rattle.plan_line.specs.Copy.{TextAsked, text_at}
use Rattle.plan_line.specs.Row.{row_text, named_text}
use Rattle.plan_sheet.specs.Due.{ExprAt}

-- a keyword and the line feed; of `fn` the tab before its name too
abbrev pub var_line : ℕ
var_line = 4

abbrev pub fn_line : ℕ
fn_line = 4

abbrev pub list_predicate_line : ℕ
list_predicate_line = 6

abbrev pub exists_line : ℕ
exists_line = 7

abbrev pub null_line : ℕ
null_line = 5

-- the line of a function at record i, whatever sheet its name stands in
pub record CallBytes (a b : List ℕ) (i r : ℕ) : Type 0 where
  pub long : (sheet : Bytes) → TextAsked sheet a b i name_at → r ≡ length (named_text Keyword.Fn (text_at sheet a b i name_at) (cell a b i fn_args_at ∷ []))

-- the line of a list predicate at record i, whose variable has the number n
pub record AnyBytes (a b : List ℕ) (i n r : ℕ) : Type 0 where
  pub long : r ≡ length (row_text Keyword.ListPredicate (cell a b i list_predicate_kind_at ∷ n ∷ cell a b i list_predicate_pred_at ∷ []))

-- the first line of an expression at record i, at which the number n is noted
pub record HeadBytes (a b : List ℕ) (i n r : ℕ) : Type 0 where
  pub long : (sheet : Bytes) (h : ExprAt sheet a b i) → r ≡ length (spell_rec (expr_head n h.kind h.fields))
