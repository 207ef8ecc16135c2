-- A signed number's sign and magnitude, from the test that the code makes on its 64 bits. Assumes nothing: every law is proved.
use Rattle.std.specs.Prelude.{ℤ, pos, negsuc, nat_abs}
use Rattle.std.specs.Int.Signed.{lt_z}
use Rattle.std.specs.Int.{w64}
use Rattle.std.proofs.Common.{◌≡◌, refl, true, false, ◌++◌, ℕ, ◌<◌, arith, ltb-true, SFits, to_z-of_z}
use Rattle.model.specs.Text.{dash, decimal, signed}
use Rattle.laws.specs.SignedLaws.{held, below, above}
use Rattle.output.specs.declared.Page.{Page}
use Rattle.output.specs.Page.{Puts}
use Rattle.output.specs.Writes.{◌⨾◌}

-- ── of the number itself ──

minus : (z : ℤ) → lt_z z (pos 0) ≡ true → signed z ≡ dash ++ decimal (nat_abs z)
unfolding signed
minus (pos n) h = let z : n < 0 = ltb-true n 0 h in absurd (omega arith)
minus (negsuc n) h = refl

plain : (z : ℤ) → lt_z z (pos 0) ≡ false → signed z ≡ decimal (nat_abs z)
unfolding signed
plain (pos n) h = refl
plain (negsuc n) h = let e : ◌≡◌ {A = ℕ} 0 1 = cc in absurd (omega arith)

-- ── of the code's number ──

module _ (z : ℤ) (f : SFits w64 z) where
  pub put_minus : lt_z (held z) (pos 0) ≡ true → {m : ℕ} {g g' g'' : Page} → m ≡ nat_abs (held z) → Puts dash g g' → Puts (decimal m) g' g'' → Puts (signed z) g g''
  put_minus h e a b = rw (minus z (below z f h)) (a ⨾ rw (e, to_z-of_z f) at b)

  pub put_plain : lt_z (held z) (pos 0) ≡ false → {m : ℕ} {g g' : Page} → m ≡ nat_abs (held z) → Puts (decimal m) g g' → Puts (signed z) g g'
  put_plain h e a = rw (plain z (above z f h)) (rw (e, to_z-of_z f) at a)
