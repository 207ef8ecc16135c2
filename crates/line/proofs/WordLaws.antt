-- The words of a field that has one piece, from what its leaf reader answers. Assumes nothing.
use mathlib.Core.Path.{◌≡◌, refl, sym, ap, ◌∙◌}
use Prim.Native.Nat.{ℕ, ◌+◌, ◌*◌, ◌/◌, ◌%◌, ◌<◌, ◌≤◌}
use mathlib.Core.Bool.{Bool, true, false}
use mathlib.Core.List.{[], ◌∷◌}
use Rattle.std.specs.Prelude.{Option, None, Some}
use native.Mathlib.Nat.{div-add-mod'}
use lib.Seq.{slice}
use native.Mathlib.Omega.{arith}
use borrow.Author.Tests.{leb-true}
use Rattle.model.specs.Text.{Bytes}
use Rattle.model.specs.Field.{num, u32, flag, var_or_absent, num_or_absent, float, read, fits, fits_option}
use Rattle.laws.specs.FieldLaws.{read_spell}
use Rattle.record.specs.Answer.{flag_of}
use Rattle.record.specs.AnswerLaws.{var_or_absent_is}
use Rattle.record.specs.InPlace.{NumberAt, OptNumberAt}
use Rattle.record.proofs.FlagLaws.{flag_number}
use Rattle.record.specs.declared.piece.Piece.{Piece}
use Rattle.words.specs.Words.{field_of, option_of, two32}
use Rattle.line.specs.FieldRead.{WordsOf, WordsFit, words_value, WordsAt}
use Rattle.line.specs.declared.field.Words.{Words}

-- ── a number ──

module _ (limit : ℕ) (s : Bytes) (n : ℕ) (d : Some n ≡ read (num limit) (s ∷ [])) where
  number_is : (sheet : Bytes) → WordsOf (num limit) sheet (s ∷ []) (Some (record { first = n; second = 0 }))
  unfolding field_of
  number_is sheet = record { is = sym d; fit = (tt, tt) }

-- ── a number or a dash ──

module _ (s : Bytes) (n : ℕ) (d : Some (Some n) ≡ read (num_or_absent u32) (s ∷ [])) where
  variable_is : (sheet : Bytes) → WordsOf var_or_absent sheet (s ∷ []) (Some (record { first = 1; second = n }))
  unfolding field_of option_of
  variable_is sheet = record { is = var_or_absent_is (s ∷ []) ∙ sym d; fit = (omega arith, tt) }

variable_absent : (s : Bytes) → Some None ≡ read (num_or_absent u32) (s ∷ []) → (sheet : Bytes) → WordsOf var_or_absent sheet (s ∷ []) (Some (record { first = 0; second = 0 }))
unfolding field_of option_of
variable_absent s d sheet = record { is = var_or_absent_is (s ∷ []) ∙ sym d; fit = (omega arith, tt) }

-- ── a flag ──

-- a flag is a number of at most 1
module _ (sheet : Bytes) (s : Bytes) where
  flag_value : (o : Option ℕ) (f : Option Bool) → flag_of f ≡ o → (r : Option Words) → o ≡ words_value (num 1) sheet r → f ≡ words_value flag sheet r
  unfolding field_of
  flag_value o None e None h = refl
  flag_value o None e (Some w) h = let z : None ≡ Some w.first = e ∙ h in cc
  flag_value o (Some true) e None h = let z : ◌≡◌ {A = Option ℕ} (Some 1) None = e ∙ h in cc
  flag_value o (Some false) e None h = let z : ◌≡◌ {A = Option ℕ} (Some 0) None = e ∙ h in cc
  flag_value o (Some true) e (Some w) h = let z : Some 1 ≡ Some w.first = e ∙ h in let n : 1 ≡ w.first = cc in rw (← n)
  flag_value o (Some false) e (Some w) h = let z : Some 0 ≡ Some w.first = e ∙ h in let n : 0 ≡ w.first = cc in rw (← n)

  flag_low : (r : Option Words) → read (num 1) (s ∷ []) ≡ words_value (num 1) sheet r → WordsFit flag sheet r
  unfolding field_of fits
  flag_low (Some w) h = (leb-true w.first 1 (read_spell (num 1) (s ∷ []) w.first h).1, tt)
  flag_low None h = tt

  pub flag_words : (r : Option Words) → WordsOf (num 1) sheet (s ∷ []) r → WordsOf flag sheet (s ∷ []) r
  flag_words r k = record { is = flag_value (read (num 1) (s ∷ [])) (read flag (s ∷ [])) (flag_number s) r k.is; fit = flag_low r k.is }

-- ── a float ──

pub float_is : (s : Bytes) (n : ℕ) → Some n ≡ read float (s ∷ []) → (r : Words) → r ≡ record { first = n % two32; second = n / two32 + 0 } → (sheet : Bytes) → WordsOf float sheet (s ∷ []) (Some r)
unfolding field_of
float_is s n d r k sheet =
    let whole : (n / two32 + 0) * two32 + n % two32 ≡ n = omega (arith, div-add-mod' n two32) in
    rw k (record { is = rw whole (sym d); fit = (tt, tt) })

-- ── in place ──

module _ (limit : ℕ) (sheet : Bytes) (p : ℕ) where
  pub number_at : (n : Piece ℕ) → NumberAt limit sheet p (Some n) → WordsAt (num limit) sheet p (Some (record { value = record { first = n.value; second = 0 }; end = n.end }))
  number_at n d = record { is = λ q h. number_is limit (slice p q sheet) n.value (d.is q h) sheet; ends = d.ends }

module _ (sheet : Bytes) (p : ℕ) where
  module _ (v : Piece (Option ℕ)) (d : OptNumberAt u32 sheet p (Some v)) where
    module _ (n : ℕ) (e : v.value ≡ Some n) where
      pub variable_at : WordsAt var_or_absent sheet p (Some (record { value = record { first = 1; second = n }; end = v.end }))
      variable_at = record { is = λ q h. variable_is (slice p q sheet) n (ap Some (sym e) ∙ d.is q h) sheet; ends = d.ends }

    pub variable_at_absent : v.value ≡ None → WordsAt var_or_absent sheet p (Some (record { value = record { first = 0; second = 0 }; end = v.end }))
    variable_at_absent e = record { is = λ q h. variable_absent (slice p q sheet) (ap Some (sym e) ∙ d.is q h) sheet; ends = d.ends }

  pub variable_at_none : OptNumberAt u32 sheet p None → WordsAt var_or_absent sheet p None
  variable_at_none d = record { is = λ q h. record { is = var_or_absent_is (slice p q sheet ∷ []) ∙ sym (d.is q h); fit = tt }; ends = tt }
