-- The two words of a signed number, from the test and the arithmetic that the code makes on its 64 bits. Assumes nothing.
use mathlib.Core.Path.{◌≡◌, sym, ap, ◌∙◌}
use mathlib.Core.Bool.{true, false}
use Rattle.std.specs.Prelude.{Some}
use Prim.Native.Nat.{ℕ, suc, ◌+◌, ◌*◌, ◌-◌, ◌/◌, ◌%◌, ◌<◌, ◌≤◌}
use native.Mathlib.Nat.{div-add-mod'}
use native.Mathlib.Omega.{arith}
use borrow.Author.Tests.{lt-ltb, le-ltb}
use lib.IntN.{ℤ, pos, negsuc, nat_abs}
use lib.Signed.{lt_z, mag}
use mir.Syntax.{w64}
use mir.Val.{SFits}
use mir.Facts.{to_z-of_z}
use Rattle.model.specs.Text.{Bytes}
use Rattle.model.specs.Field.{int}
use Rattle.laws.specs.SignedLaws.{held, down, not_below, below, above}
use Rattle.record.specs.Number.{most_below}
use Rattle.words.specs.Words.{int_of, field_of, two31, two32}
use Rattle.line.specs.FieldRead.{words_value}
use Rattle.line.specs.declared.field.Words.{Words}

-- ── halves ──

joined : (n : ℕ) → n / two32 * two32 + n % two32 ≡ n
joined n = div-add-mod' n two32

high_low : (n : ℕ) → n < most_below → n / two32 < two31
high_low n h = omega (arith, joined n)

positive : (n : ℕ) → n < most_below → int_of (n % two32) (n / two32 + 0) ≡ pos n
unfolding int_of
positive n h =
    let low : n / two32 + 0 < two31 = omega (arith, high_low n h) in
    let whole : (n / two32 + 0) * two32 + n % two32 ≡ n = omega (arith, joined n) in
    rw (lt-ltb _ _ low, whole)

negative : (n : ℕ) → int_of (n % two32) (n / two32 + two31) ≡ negsuc n
unfolding int_of
negative n =
    let high : two31 ≤ n / two32 + two31 = omega arith in
    let whole : (n / two32 + two31 - two31) * two32 + n % two32 ≡ n = omega (arith, joined n) in
    rw (le-ltb _ _ high, whole)

-- ── the sign ──

module _ (z : ℤ) (f : SFits w64 z) (n : ℕ) (q : n ≡ nat_abs (held z)) where
  abs : n ≡ nat_abs z
  abs = q ∙ ap nat_abs (to_z-of_z f)

  module _ (h : lt_z (held z) (pos 0) ≡ true) where
    one_above : n - 1 ≡ mag z
    one_above = let e : n ≡ suc (mag z) = abs ∙ sym (ap nat_abs (down z (below z f h)).1) in omega arith

    pub below_words : (r : Words) → r ≡ record { first = (n - 1) % two32; second = (n - 1) / two32 + two31 } → (sheet : Bytes) → words_value int sheet (Some r) ≡ Some z
    unfolding field_of
    below_words r e sheet = rw (e, one_above) (ap Some (negative (mag z) ∙ (down z (below z f h)).1))

  module _ (h : lt_z (held z) (pos 0) ≡ false) where
    size : n ≡ mag z
    size = abs ∙ (not_below z (above z f h)).1

    pub above_words : (r : Words) → r ≡ record { first = n % two32; second = n / two32 + 0 } → (sheet : Bytes) → words_value int sheet (Some r) ≡ Some z
    unfolding field_of
    above_words r e sheet = rw (e, size) (ap Some (positive (mag z) f.sfits ∙ (not_below z (above z f h)).2))

-- ── what is read ──
