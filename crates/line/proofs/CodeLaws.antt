-- The field of a form, form by form. Assumes nothing.
use mathlib.Core.Path.{◌≡◌, refl, ◌∙◌}
use Prim.Native.Nat.{ℕ}
use mathlib.Core.List.{List}
use lib.Seq.{slice}
use Rattle.model.specs.Text.{Bytes}
use Rattle.model.specs.Field.{u32, num, flag, var, var_or_absent, int, float, text, alias, span, width}
use Rattle.model.specs.Field
use Rattle.record.specs.AnswerLaws.{var_is}
use Rattle.words.specs.Words.{field_of}
use Rattle.words.specs.Forms.{form_is}
use Rattle.words.specs.declared.form.Form.{Form}
use Rattle.words.specs.declared.form.Form.TheVariants.{Flag, Var, VarOrAbsent, Int, Float, Text, Alias, Number}
use Rattle.std.specs.Prelude.{Option, None, Some}
use Rattle.record.specs.declared.piece.Piece.{Piece}
use Rattle.record.specs.InPlace.{value_in}
use Rattle.line.specs.FieldRead.{WordsOf, WordsAt, FieldHere}
use Rattle.line.specs.declared.field.Words.{Words}
use Rattle.line.proofs.WordLaws.{flag_words}
use Rattle.line.proofs.FormLaws.{one_here}

-- an id is a number of 32 bits
var_words_law : (sheet : Bytes) (ps : List Bytes) (w : Option Words) → WordsOf (num u32) sheet ps w → WordsOf var sheet ps w
unfolding field_of
var_words_law sheet ps (Some w) k = record { is = var_is ps ∙ k.is; fit = (tt, tt) }
var_words_law sheet ps None k = record { is = var_is ps ∙ k.is; fit = tt }

-- ── the arms ──

-- a form of one piece
one : {sheet : Bytes} {p : ℕ} {w : Option (Piece Words)} (f : Field.Form) → width f ≡ 1 → WordsAt f sheet p w → FieldHere f sheet p w
one {sheet} {p} {w} f e k = one_here f e sheet p w k

module _ {sheet : Bytes} {p : ℕ} {w : Option (Piece Words)} {f : Form} where
  pub arm_flag : f ≡ Flag → WordsAt (num 1) sheet p w → FieldHere (form_is f) sheet p w
  unfolding width
  arm_flag e k = rw e (one flag refl (record { is = λ q h. flag_words sheet (slice p q sheet) (value_in w) (k.is q h); ends = k.ends }))

  pub arm_var : f ≡ Var → WordsAt (num u32) sheet p w → FieldHere (form_is f) sheet p w
  unfolding width
  arm_var e k = rw e (one var refl (record { is = λ q h. var_words_law sheet _ (value_in w) (k.is q h); ends = k.ends }))

  pub arm_var_or_absent : f ≡ VarOrAbsent → WordsAt var_or_absent sheet p w → FieldHere (form_is f) sheet p w
  unfolding width
  arm_var_or_absent e k = rw e (one var_or_absent refl k)

  pub arm_int : f ≡ Int → WordsAt int sheet p w → FieldHere (form_is f) sheet p w
  unfolding width
  arm_int e k = rw e (one int refl k)

  pub arm_float : f ≡ Float → WordsAt float sheet p w → FieldHere (form_is f) sheet p w
  unfolding width
  arm_float e k = rw e (one float refl k)

  pub arm_text : f ≡ Text → WordsAt text sheet p w → FieldHere (form_is f) sheet p w
  unfolding width
  arm_text e k = rw e (one text refl k)

  pub arm_alias : f ≡ Alias → WordsAt alias sheet p w → FieldHere (form_is f) sheet p w
  unfolding width
  arm_alias e k = rw e (one alias refl k)

  pub arm_number : {m : ℕ} → f ≡ Number m → WordsAt (num m) sheet p w → FieldHere (form_is f) sheet p w
  unfolding width
  arm_number {m} e k = rw e (one (num m) refl k)
