-- A signed number's sign and magnitude, from the test and the arithmetic that code makes on its 64 bits. Assumes nothing.
use Rattle.std.specs.Prelude.{◌≡◌, refl, true, false, ℕ, suc, ◌-◌, ◌<◌, T, ℤ, pos, negsuc, nat_abs, ◌-ℤ◌}
use Rattle.std.proofs.Common.{◌∙◌, arith, ltb-true, le-ltb, Fits, SFits, to_z, of_z, to_z-of_z}
use Rattle.std.specs.Int.Signed.{lt_z, mag, non_neg}
use Rattle.std.specs.Int.{w64}

-- the code's number: the 64 bits of z, read again
abbrev pub held : ℤ → ℤ
held z = to_z w64 (of_z w64 z)

-- ── of the number itself ──

-- less than 0: how far below -1
pub down : (z : ℤ) → lt_z z (pos 0) ≡ true → (negsuc 0 -ℤ z ≡ pos (mag z)) × (negsuc (mag z) ≡ z)
down (pos n) h = let z : n < 0 = ltb-true n 0 h in absurd (omega arith)
down (negsuc n) h = let e : suc n - 1 ≡ n = omega arith in (rw (le-ltb (suc n) 1 (omega arith), e), refl)

-- at least 0
pub not_below : (z : ℤ) → lt_z z (pos 0) ≡ false → (T (non_neg z)) × (nat_abs z ≡ mag z) × (pos (mag z) ≡ z)
not_below (pos n) h = (tt, refl, refl)
not_below (negsuc n) h = let e : ◌≡◌ {A = ℕ} 0 1 = cc in absurd (omega arith)

-- ── of the code's number ──

module _ (z : ℤ) (f : SFits w64 z) where
  module _ (h : lt_z (held z) (pos 0) ≡ true) where
    pub below : lt_z z (pos 0) ≡ true
    below = rw (to_z-of_z f) at h

    -- -1 - z is a signed number of 64 bits, also at the least z
    distance : negsuc 0 -ℤ held z ≡ pos (mag z)
    distance = rw (to_z-of_z f) (down z below).0

    pub distance_fits : SFits w64 (negsuc 0 -ℤ held z)
    distance_fits = rw distance (record { sfits = f.sfits })

    pub held_distance : held (negsuc 0 -ℤ held z) ≡ pos (mag z)
    held_distance = to_z-of_z distance_fits ∙ distance

    pub distance_cast : (T (non_neg (held (negsuc 0 -ℤ held z)))) × Fits w64 (nat_abs (held (negsuc 0 -ℤ held z)))
    distance_cast = rw held_distance (tt, record { fits = omega (arith, f.sfits) })

  module _ (h : lt_z (held z) (pos 0) ≡ false) where
    pub above : lt_z z (pos 0) ≡ false
    above = rw (to_z-of_z f) at h

    pub plain_cast : (T (non_neg (held z))) × Fits w64 (nat_abs (held z))
    plain_cast = rw (to_z-of_z f) ((not_below z above).0, record { fits = omega (arith, f.sfits, (not_below z above).1) })
