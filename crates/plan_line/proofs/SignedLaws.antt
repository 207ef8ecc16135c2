-- The signed number of two words, from the arithmetic that the code makes on 64 bits. Assumes nothing: every law is proved.
use mathlib.Core.Path.{◌≡◌, ◌∙◌}
use Prim.Native.Nat.{ℕ, suc, ◌+◌, ◌*◌, ◌-◌, ◌<◌, ◌≤◌}
use native.Mathlib.Omega.{arith}
use borrow.Author.Tests.{lt-ltb, le-ltb}
use lib.IntN.{ℤ, pos}
use lib.Signed.{mag}
use mir.Syntax.{w64}
use mir.Val.{SFits, to_z, of_z}
use mir.Facts.{to_z-of_z, to_z_pos, to_z-neg}
use Rattle.model.specs.Text.{signed}
use Rattle.output.specs.declared.Page.{Page}
use Rattle.output.specs.Page.{Puts}
use Rattle.words.specs.Words.{int_of, two31, two32}

-- a signed number of 64 bits is smaller
abbrev two63 : ℕ
two63 = 9223372036854775808

-- the code's number: 64 bits, read again
pub put_held : (z v : ℤ) {g g' : Page} → mag z < two63 → z ≡ v → Puts (signed (to_z w64 (of_z w64 z))) g g' → Puts (signed v) g g'
put_held z v f e h = let k : SFits w64 z = record { sfits = f } in rw (to_z-of_z k, e) at h

-- the number by the words that were read
pub read_from : {z : ℤ} {low high x y : ℕ} → z ≡ int_of low high → low ≡ x → high ≡ y → z ≡ int_of x y
read_from e p q = rw (← p, ← q) e

module _ (low high n : ℕ) (l : low < two32) where
  -- the high word's top bit is not set
  module _ (h : high < two31) (e : n ≡ high * two32 + low) where
    small : n < two63
    small = omega arith

    pub plain_fits : SFits w64 (pos n)
    plain_fits = record { sfits = small }

    pub plain_is : to_z w64 n ≡ int_of low high
    unfolding int_of
    plain_is = to_z_pos w64 {n = n} small ∙ rw (lt-ltb high two31 h, e)

  -- it is set
  module _ (h : two31 ≤ high) (k : high < two32) (e : n ≡ (high - two31) * two32 + low) where
    less : n < two63
    less = omega arith

    pub rest_fits : SFits w64 (pos n)
    rest_fits = record { sfits = less }

    -- what is one less than the size, with each bit turned round
    pub below_is : to_z w64 (18446744073709551615 - n) ≡ int_of low high
    unfolding int_of
    below_is =
        let turned : 18446744073709551615 - n ≡ 18446744073709551616 - suc n = omega arith in
        rw (turned, to_z-neg w64 n less, le-ltb high two31 h, e)
