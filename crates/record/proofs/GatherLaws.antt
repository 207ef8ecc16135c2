-- Gathering digits one by one, along a text or along a piece in place: what each byte does to the answer. Assumes nothing.
use mathlib.Core.Path.{◌≡◌, refl, sym, ◌∙◌}
use mathlib.Core.Bool.{Bool, true, false, cond, and-false}
use mathlib.Core.List.{[], ◌∷◌}
use Rattle.std.specs.Prelude.{Option, None, Some}
use Prim.Native.Nat.{ℕ, ◌+◌, ◌*◌, ◌-◌, ◌≤◌, ◌<◌}
use native.Mathlib.Numerals.{add-one}
use native.Mathlib.Omega.{arith}
use borrow.Author.Tests.{le-leb, lt-leb, leb-true}
use lib.Dec.{leb}
use lib.ListN.{length, drop, get_or, drop_of_length-le}
use lib.Seq.{slice, drop-cons}
use Rattle.laws.specs.TextLaws.{and_left, and_right}
use Rattle.model.specs.Text.{Bytes, value_on, digit0, digit9}
use Rattle.record.specs.Number.{digit, digit_value, all_digits, digits_on}
use Rattle.record.specs.Place.{Fed, separates, Ends}
use Rattle.record.specs.InPlace.{DigitsAt}
use Rattle.record.proofs.PlaceLaws.{separates_other, no_feed, fed_on, Along, along_start, along_on, along_back, along_ends, ends_here, ends_cons, ends_none}

pub value_grows : (v : ℕ) (s : Bytes) → v ≤ value_on v s
unfolding value_on
value_grows v [] = omega arith
value_grows v (b ∷ s) = omega (arith, value_grows (v * 10 + (b - digit0)) s)

pub too_big : (limit v : ℕ) (s : Bytes) → limit < v → digits_on limit v s ≡ None
unfolding digits_on
too_big limit v s h = rw (lt-leb (value_on v s) limit (omega (arith, value_grows v s)), and-false (all_digits s))

-- ── a digit ──

-- a byte that is a digit
pub digit_bounds : (b : ℕ) → digit b ≡ true → (digit0 ≤ b) × (b ≤ digit9)
digit_bounds b e = (leb-true digit0 b (and_left _ _ e), leb-true b digit9 (and_right (leb digit0 b) _ e))

pub is_digit : (b : ℕ) → digit0 ≤ b → b ≤ digit9 → digit b ≡ true
is_digit b h k = rw (le-leb digit0 b h, le-leb b digit9 k)

pub value_none : (b : ℕ) → digit_value b ≡ None → digit b ≡ false
unfolding digit_value
value_none b e = go (digit b) e
  where
    go : (t : Bool) → cond t (Some (b - digit0)) None ≡ None → t ≡ false
    go true e = cc
    go false e = refl

pub value_is : (b d : ℕ) → digit_value b ≡ Some d → (digit b ≡ true) × (d ≡ b - digit0)
unfolding digit_value
value_is b d e = go (digit b) e
  where
    go : (t : Bool) → cond t (Some (b - digit0)) None ≡ Some d → (t ≡ true) × (d ≡ b - digit0)
    go true e = (refl, cc)
    go false e = cc

-- what a digit's value says of its byte
pub value_byte : (b d : ℕ) → digit_value b ≡ Some d → (b ≡ digit0 + d) × (d ≤ 9)
value_byte b d e = let h = value_is b d e in let k = digit_bounds b h.0 in (omega (arith, h.1, k.0), omega (arith, h.1, k.1))

pub value_of : (b : ℕ) → digit0 ≤ b → b ≤ digit9 → digit_value b ≡ Some (b - digit0)
unfolding digit_value
value_of b h k = rw (is_digit b h k)

pub value_below : (b : ℕ) → b < digit0 → digit_value b ≡ None
unfolding digit_value
value_below b k = rw (lt-leb digit0 b k)

pub value_above : (b : ℕ) → digit9 < b → digit_value b ≡ None
unfolding digit_value
value_above b k = rw (lt-leb b digit9 k, and-false (leb digit0 b))

-- ── the next byte ──

module _ (limit v b : ℕ) (t : Bytes) where
  pub byte_none : digit_value b ≡ None → digits_on limit v (b ∷ t) ≡ None
  unfolding digits_on all_digits
  byte_none e = rw (value_none b e)

  module _ (d : ℕ) (e : digit_value b ≡ Some d) where
    pub byte_on : digits_on limit v (b ∷ t) ≡ digits_on limit (v * 10 + d) t
    unfolding digits_on all_digits value_on
    byte_on = let h = value_is b d e in rw (h.0, h.1)

    pub byte_over : limit < v * 10 + d → digits_on limit v (b ∷ t) ≡ None
    byte_over k = byte_on ∙ too_big limit (v * 10 + d) t k

-- ── along a text ──

module _ (limit v : ℕ) (s : Bytes) (i : ℕ) (g : Option ℕ) (inv : digits_on limit v (drop i s) ≡ g) where
  pub gathered : length s ≤ i → v ≤ limit → Some v ≡ g
  unfolding digits_on all_digits value_on
  gathered h l = rw (drop_of_length-le s h, le-leb v limit l) at inv

  module _ (h : i < length s) where
    headed : digits_on limit v (get_or s i 0 ∷ drop (i + 1) s) ≡ g
    headed = rw add-one (rw (drop-cons s i 0 h) at inv)

    pub stuck : digit_value (get_or s i 0) ≡ None → None ≡ g
    stuck e = sym (byte_none limit v (get_or s i 0) (drop (i + 1) s) e) ∙ headed

    module _ (d : ℕ) (e : digit_value (get_or s i 0) ≡ Some d) where
      pub on : digits_on limit (v * 10 + d) (drop (i + 1) s) ≡ g
      on = sym (byte_on limit v (get_or s i 0) (drop (i + 1) s) d e) ∙ headed

      pub over : limit < v * 10 + d → None ≡ g
      over k = sym (byte_over limit v (get_or s i 0) (drop (i + 1) s) d e k) ∙ headed

-- ── along a piece in place ──

-- the bytes passed from p on are digits, which follow the number v₀ and make it v
pub record Digits (limit : ℕ) (s : Bytes) (p v₀ v i : ℕ) : Type 0 where
  pub fed : Fed s i
  pub along : Along s p i
  pub low : v ≤ limit
  pub same : (q : ℕ) → Ends s i q → digits_on limit v (slice i q s) ≡ digits_on limit v₀ (slice p q s)

module _ (limit : ℕ) (s : Bytes) (p v₀ : ℕ) where
  module _ (v i : ℕ) (d : Digits limit s p v₀ v i) where
    -- none, if the byte at i lets no digits end there
    none_by : ((t : Bytes) → digits_on limit v (get_or s i 0 ∷ t) ≡ None) → separates (get_or s i 0) ≡ false → DigitsAt limit v₀ s p None
    none_by stuck k =
        record {
          is = λ q h.
              let g = along_ends s p i d.along q h in
              rw (ends_cons s i q g k, stuck (slice (i + 1) q s)) at (d.same q g);
          ends = tt;
        }

    pub digits_other : digit_value (get_or s i 0) ≡ None → (t : Bool) → t ≡ separates (get_or s i 0) → t ≡ false → DigitsAt limit v₀ s p None
    digits_other k t e z = none_by (λ t. byte_none limit v (get_or s i 0) t k) (sym e ∙ z)

    pub digits_end : (t : Bool) → t ≡ separates (get_or s i 0) → t ≡ true → DigitsAt limit v₀ s p (Some (record { value = v; end = i }))
    unfolding digits_on all_digits value_on
    digits_end t e z =
        let stop : separates (get_or s i 0) ≡ true = sym e ∙ z in
        record {
          is = λ q h. let g = along_ends s p i d.along q h in rw (ends_none s i q g stop, le-leb v limit d.low) at (d.same q g);
          ends = along_back s p i d.along i (ends_here s i d.fed stop);
        }

    module _ (n : ℕ) (e : digit_value (get_or s i 0) ≡ Some n) where
      past : separates (get_or s i 0) ≡ false
      past = separates_other (get_or s i 0) (omega (arith, value_byte (get_or s i 0) n e))

      pub digits_over : limit < v * 10 + n → DigitsAt limit v₀ s p None
      digits_over k = none_by (λ t. byte_over limit v (get_or s i 0) t n e k) past

      pub digits_fed : Fed s (i + 1)
      digits_fed = fed_on s i d.fed (no_feed (get_or s i 0) past)

      pub digits_more : v * 10 + n ≤ limit → Digits limit s p v₀ (v * 10 + n) (i + 1)
      digits_more k =
          record {
            fed = digits_fed;
            along = along_on s p i d.along past;
            low = k;
            same = λ q h.
                let g = along_back s i (i + 1) (along_on s i i (along_start s i) past) q h in
                sym (byte_on limit v (get_or s i 0) (slice (i + 1) q s) n e) ∙ rw (ends_cons s i q g past) at (d.same q g);
          }

-- the same where the place is told from p on
pub digits_next : (limit : ℕ) (s : Bytes) (p v₀ v k : ℕ) → Digits limit s p v₀ v (p + k) → (n : ℕ) → digit_value (get_or s (p + k) 0) ≡ Some n → v * 10 + n ≤ limit → Digits limit s p v₀ (v * 10 + n) (p + (k + 1))
digits_next limit s p v₀ v k d n e l =
    let q : p + (k + 1) ≡ p + k + 1 = omega arith in
    rw q (digits_more limit s p v₀ v (p + k) d n e l)
