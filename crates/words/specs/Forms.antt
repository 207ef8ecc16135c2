-- The forms of fields as the code has them, by their codes in the table, and the forms of the definitions that they are. Assumes nothing.
use Rattle.std.specs.Prelude.{◌≡◌, refl, ℕ, zero, suc, ◌<◌, [], ◌∷◌, get_or, Option, None, Some}
use Rattle.std.proofs.Common.{arith}
use Rattle.model.specs.Field
use Rattle.model.specs.Field.{u32}
use Rattle.words.specs.declared.form.Form.{Form}
use Rattle.words.specs.declared.form.Form.TheVariants.{Flag, Var, VarOrAbsent, Int, Float, Text, Alias, Span, Length, Number}
use Rattle.words.specs.Places.{form_count}
use Rattle.words.specs.Numbers.{Others, other_than}
use Rattle.words.specs.Table.{code_at, form_of, other_forms, last_binary}

-- the definitions' form that it is
abbrev pub form_is : Form → Field.Form
form_is Flag = Field.flag
form_is Var = Field.var
form_is VarOrAbsent = Field.var_or_absent
form_is Int = Field.int
form_is Float = Field.float
form_is Text = Field.text
form_is Alias = Field.alias
form_is Span = Field.span
form_is Length = Field.length
form_is (Number limit) = Field.num limit

-- the form of a code; code 0 is that of none, and stands behind the last field of a record
unfoldable pub form_coded : ℕ → Option Form
form_coded c =
    get_or
    (None ∷ Some Flag ∷ Some Var ∷ Some VarOrAbsent ∷ Some Int ∷ Some Float ∷ Some Text ∷ Some Alias ∷ Some Span ∷ Some Length ∷ Some (Number u32) ∷ Some (Number 1) ∷ Some (Number 2) ∷ Some (Number 3) ∷ Some (Number last_binary) ∷ [])
    c
    None

-- the form of field g of kind n
abbrev pub form_at : ℕ → ℕ → Option Form
form_at n g = form_coded (code_at n g)

-- what a code says by the definitions, if it has a form
abbrev pub Coded : ℕ → Option Form → Type 0
Coded c (Some f) = (0 < c) × (form_is f ≡ form_of c)
Coded c None = c < form_count → c ≡ 0

pub coded : (c : ℕ) → Coded c (form_coded c)
unfolding form_coded form_of other_forms
coded zero = λ h. refl
coded (suc zero) = (omega arith, refl)
coded (suc (suc zero)) = (omega arith, refl)
coded (suc (suc (suc zero))) = (omega arith, refl)
coded (suc (suc (suc (suc zero)))) = (omega arith, refl)
coded (suc (suc (suc (suc (suc zero))))) = (omega arith, refl)
coded (suc (suc (suc (suc (suc (suc zero)))))) = (omega arith, refl)
coded (suc (suc (suc (suc (suc (suc (suc zero))))))) = (omega arith, refl)
coded (suc (suc (suc (suc (suc (suc (suc (suc zero)))))))) = (omega arith, refl)
coded (suc (suc (suc (suc (suc (suc (suc (suc (suc zero))))))))) = (omega arith, refl)
coded (suc (suc (suc (suc (suc (suc (suc (suc (suc (suc zero)))))))))) = (omega arith, refl)
coded (suc (suc (suc (suc (suc (suc (suc (suc (suc (suc (suc zero))))))))))) = (omega arith, refl)
coded (suc (suc (suc (suc (suc (suc (suc (suc (suc (suc (suc (suc zero)))))))))))) = (omega arith, refl)
coded (suc (suc (suc (suc (suc (suc (suc (suc (suc (suc (suc (suc (suc zero))))))))))))) = (omega arith, refl)
coded (suc (suc (suc (suc (suc (suc (suc (suc (suc (suc (suc (suc (suc (suc zero)))))))))))))) = (omega arith, refl)
coded (suc (suc (suc (suc (suc (suc (suc (suc (suc (suc (suc (suc (suc (suc (suc c))))))))))))))) = λ h. absurd (omega arith)

-- no form, as a `match` leaves it behind its arms
pub none_coded : (c : ℕ) → Others c (14 ∷ 13 ∷ 12 ∷ 11 ∷ 10 ∷ 9 ∷ 8 ∷ 7 ∷ 6 ∷ 5 ∷ 4 ∷ 3 ∷ 2 ∷ 1 ∷ []) → None ≡ form_coded c
unfolding form_coded
none_coded zero h = refl
none_coded (suc zero) h = absurd (other_than 1 1 (14 ∷ 13 ∷ 12 ∷ 11 ∷ 10 ∷ 9 ∷ 8 ∷ 7 ∷ 6 ∷ 5 ∷ 4 ∷ 3 ∷ 2 ∷ 1 ∷ []) h refl refl)
none_coded (suc (suc zero)) h = absurd (other_than 2 2 (14 ∷ 13 ∷ 12 ∷ 11 ∷ 10 ∷ 9 ∷ 8 ∷ 7 ∷ 6 ∷ 5 ∷ 4 ∷ 3 ∷ 2 ∷ 1 ∷ []) h refl refl)
none_coded (suc (suc (suc zero))) h = absurd (other_than 3 3 (14 ∷ 13 ∷ 12 ∷ 11 ∷ 10 ∷ 9 ∷ 8 ∷ 7 ∷ 6 ∷ 5 ∷ 4 ∷ 3 ∷ 2 ∷ 1 ∷ []) h refl refl)
none_coded (suc (suc (suc (suc zero)))) h = absurd (other_than 4 4 (14 ∷ 13 ∷ 12 ∷ 11 ∷ 10 ∷ 9 ∷ 8 ∷ 7 ∷ 6 ∷ 5 ∷ 4 ∷ 3 ∷ 2 ∷ 1 ∷ []) h refl refl)
none_coded (suc (suc (suc (suc (suc zero))))) h = absurd (other_than 5 5 (14 ∷ 13 ∷ 12 ∷ 11 ∷ 10 ∷ 9 ∷ 8 ∷ 7 ∷ 6 ∷ 5 ∷ 4 ∷ 3 ∷ 2 ∷ 1 ∷ []) h refl refl)
none_coded (suc (suc (suc (suc (suc (suc zero)))))) h = absurd (other_than 6 6 (14 ∷ 13 ∷ 12 ∷ 11 ∷ 10 ∷ 9 ∷ 8 ∷ 7 ∷ 6 ∷ 5 ∷ 4 ∷ 3 ∷ 2 ∷ 1 ∷ []) h refl refl)
none_coded (suc (suc (suc (suc (suc (suc (suc zero))))))) h = absurd (other_than 7 7 (14 ∷ 13 ∷ 12 ∷ 11 ∷ 10 ∷ 9 ∷ 8 ∷ 7 ∷ 6 ∷ 5 ∷ 4 ∷ 3 ∷ 2 ∷ 1 ∷ []) h refl refl)
none_coded (suc (suc (suc (suc (suc (suc (suc (suc zero)))))))) h = absurd (other_than 8 8 (14 ∷ 13 ∷ 12 ∷ 11 ∷ 10 ∷ 9 ∷ 8 ∷ 7 ∷ 6 ∷ 5 ∷ 4 ∷ 3 ∷ 2 ∷ 1 ∷ []) h refl refl)
none_coded (suc (suc (suc (suc (suc (suc (suc (suc (suc zero))))))))) h = absurd (other_than 9 9 (14 ∷ 13 ∷ 12 ∷ 11 ∷ 10 ∷ 9 ∷ 8 ∷ 7 ∷ 6 ∷ 5 ∷ 4 ∷ 3 ∷ 2 ∷ 1 ∷ []) h refl refl)
none_coded (suc (suc (suc (suc (suc (suc (suc (suc (suc (suc zero)))))))))) h = absurd (other_than 10 10 (14 ∷ 13 ∷ 12 ∷ 11 ∷ 10 ∷ 9 ∷ 8 ∷ 7 ∷ 6 ∷ 5 ∷ 4 ∷ 3 ∷ 2 ∷ 1 ∷ []) h refl refl)
none_coded (suc (suc (suc (suc (suc (suc (suc (suc (suc (suc (suc zero))))))))))) h = absurd (other_than 11 11 (14 ∷ 13 ∷ 12 ∷ 11 ∷ 10 ∷ 9 ∷ 8 ∷ 7 ∷ 6 ∷ 5 ∷ 4 ∷ 3 ∷ 2 ∷ 1 ∷ []) h refl refl)
none_coded (suc (suc (suc (suc (suc (suc (suc (suc (suc (suc (suc (suc zero)))))))))))) h = absurd (other_than 12 12 (14 ∷ 13 ∷ 12 ∷ 11 ∷ 10 ∷ 9 ∷ 8 ∷ 7 ∷ 6 ∷ 5 ∷ 4 ∷ 3 ∷ 2 ∷ 1 ∷ []) h refl refl)
none_coded (suc (suc (suc (suc (suc (suc (suc (suc (suc (suc (suc (suc (suc zero))))))))))))) h = absurd (other_than 13 13 (14 ∷ 13 ∷ 12 ∷ 11 ∷ 10 ∷ 9 ∷ 8 ∷ 7 ∷ 6 ∷ 5 ∷ 4 ∷ 3 ∷ 2 ∷ 1 ∷ []) h refl refl)
none_coded (suc (suc (suc (suc (suc (suc (suc (suc (suc (suc (suc (suc (suc (suc zero)))))))))))))) h = absurd (other_than 14 14 (14 ∷ 13 ∷ 12 ∷ 11 ∷ 10 ∷ 9 ∷ 8 ∷ 7 ∷ 6 ∷ 5 ∷ 4 ∷ 3 ∷ 2 ∷ 1 ∷ []) h refl refl)
none_coded (suc (suc (suc (suc (suc (suc (suc (suc (suc (suc (suc (suc (suc (suc (suc c))))))))))))))) h = refl
