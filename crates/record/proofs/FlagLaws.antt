-- A flag is read as a number of at most 1 is. Assumes nothing.
use mathlib.Core.Path.{◌≡◌, refl, sym, ap, ◌∙◌}
use mathlib.Core.Bool.{Bool, true, false, cond, and-false}
use mathlib.Core.List.{[], ◌∷◌}
use Rattle.std.specs.Prelude.{None, Some}
use Prim.Native.Nat.{ℕ, zero, suc, ◌-◌, ◌≤◌}
use native.Mathlib.Omega.{arith}
use borrow.Author.Tests.{eqb-true, eqb-false, ne_eqb, ltb-true, ltb-false, leb-true}
use lib.Dec.{eqb, ltb}
use lib.ListN.{length}
use Rattle.model.specs.Text.{Bytes, same, same_by, digits, decimal, value_on, digit0, digit1, digit9}
use Rattle.model.specs.Field.{num, flag, read, meaning, piece, spell, spell_flag, fits}
use Rattle.record.specs.Answer.{flag_of}
use Rattle.record.specs.Number.{all_digits, digits_on}
use Rattle.record.proofs.ReadLaws.{refused, piece_is}
use Rattle.record.proofs.GatherLaws.{value_below, value_above, value_of, byte_none, byte_over}
use Rattle.record.proofs.DecimalLaws.{none_of, one_of}

-- ── a byte ──

flag_one : (b : ℕ) → flag_of (read flag ((b ∷ []) ∷ [])) ≡ cond (eqb b digit0) (Some 0) (cond (eqb b digit1) (Some 1) None)
unfolding read meaning piece fits spell spell_flag same same_by
flag_one b = go (eqb b digit0) refl (eqb b digit1) refl
  where
    go : (t : Bool) → eqb b digit0 ≡ t → (u : Bool) → eqb b digit1 ≡ u
        → flag_of (read flag ((b ∷ []) ∷ [])) ≡ cond (eqb b digit0) (Some 0) (cond (eqb b digit1) (Some 1) None)
    go true e u f = rw (eqb-true b digit0 e)
    go false e true f = rw (eqb-true b digit1 f)
    go false e false f = rw (e, f, ne_eqb digit0 b (λ q. eqb-false b digit0 e (sym q)))

number_one : (b : ℕ) → digits_on 1 0 (b ∷ []) ≡ cond (eqb b digit0) (Some 0) (cond (eqb b digit1) (Some 1) None)
unfolding digits_on all_digits value_on
number_one b = go (eqb b digit0) refl (eqb b digit1) refl
  where
    other : (b ≡ digit0 → ⊥) → (b ≡ digit1 → ⊥) → (t : Bool) → ltb b digit0 ≡ t → (u : Bool) → ltb digit9 b ≡ u → digits_on 1 0 (b ∷ []) ≡ None
    other h k true e u f = byte_none 1 0 b [] (value_below b (ltb-true b digit0 e))
    other h k false e true f = byte_none 1 0 b [] (value_above b (ltb-true digit9 b f))
    other h k false e false f = byte_over 1 0 b [] (b - digit0) (value_of b (ltb-false b digit0 e) (ltb-false digit9 b f)) (omega (arith, ltb-false b digit0 e, h, k))

    go : (t : Bool) → eqb b digit0 ≡ t → (u : Bool) → eqb b digit1 ≡ u → digits_on 1 0 (b ∷ []) ≡ cond t (Some 0) (cond u (Some 1) None)
    go true e u f = rw (eqb-true b digit0 e)
    go false e true f = rw (eqb-true b digit1 f)
    go false e false f = other (eqb-false b digit0 e) (eqb-false b digit1 f) (ltb b digit0) refl (ltb digit9 b) refl

-- ── two bytes and more ──

flag_long : (b c : ℕ) (s : Bytes) → flag_of (read flag ((b ∷ c ∷ s) ∷ [])) ≡ None
unfolding read meaning piece fits spell spell_flag same same_by
flag_long b c s = rw (and-false (eqb b digit1), and-false (eqb digit0 b))

number_long : (b c : ℕ) (s : Bytes) → read (num 1) ((b ∷ c ∷ s) ∷ []) ≡ None
unfolding spell fits decimal digits
number_long b c s = refused (num 1) ((b ∷ c ∷ s) ∷ []) (λ n e h. go n (piece_is e) (leb-true n 1 h))
  where
    go : (n : ℕ) → decimal n ≡ b ∷ c ∷ s → n ≤ 1 → ⊥
    go zero e h = omega (arith, ap length e)
    go (suc zero) e h = omega (arith, ap length e)
    go (suc (suc n)) e h = omega arith

pub flag_number : (s : Bytes) → flag_of (read flag (s ∷ [])) ≡ read (num 1) (s ∷ [])
unfolding read meaning piece fits spell spell_flag same same_by
flag_number [] = none_of 1 (omega arith) [] refl
flag_number (b ∷ []) = flag_one b ∙ sym (number_one b) ∙ one_of 1 (omega arith) (b ∷ []) (digits_on 1 0 (b ∷ [])) refl refl
flag_number (b ∷ c ∷ s) = flag_long b c s ∙ sym (number_long b c s)
