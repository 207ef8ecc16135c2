-- A text is a float of the sheet exactly if it is sixteen hexadecimal digits. Assumes nothing.
use mathlib.Core.Path.{◌≡◌, refl, sym, ap, ◌∙◌}
use mathlib.Core.Bool.{Bool, true, false, cond, ◌&&◌, and-false, false≢true}
use mathlib.Core.List.{[], ◌∷◌, ◌++◌, append_assoc, append-nil}
use Rattle.std.specs.Prelude.{Option, None, Some}
use Prim.Native.Nat.{ℕ, zero, suc, ◌+◌, ◌*◌, ◌-◌, ◌/◌, ◌%◌, ◌^◌, ◌≤◌, ◌<◌}
use native.Mathlib.Nat.{pow-suc, pow-le-pow_right, add-zero}
use native.Mathlib.Numerals.{add-one}
use native.Mathlib.Omega.{arith}
use borrow.Author.Tests.{lt-leb, le-leb, leb-true, lt-ltb, le-ltb, ltb-true, ltb-false}
use lib.Dec.{ltb, leb}
use lib.ListN.{length, drop, get_or, drop_of_length-le, length-append}
use lib.Seq.{drop-cons}
use Rattle.model.specs.Text.{Bytes, hex_digit, hex_digits, hex_digit_value, hex_value_on, digit0, digit9, letter_base}
use Rattle.model.specs.Field.{float, float_digits, u64, read, spell, fits}
use Rattle.laws.specs.TextLaws.{and_left, and_right}
use Rattle.laws.specs.FieldLaws.{limited}
use Rattle.record.specs.Answer.{is_read}
use Rattle.record.specs.Hex.{letter_a, letter_f, digit, all_hex, hex_on}
use Rattle.record.proofs.ReadLaws.{accepted, refused, piece_is}

-- ── one digit ──

-- the value of a digit is below this
abbrev pub hex_base : ℕ
hex_base = 16

-- the ranges of a byte
data Range (b : ℕ) : Type 0 where
  number : digit0 ≤ b → b ≤ digit9 → digit b ≡ Some (b - digit0) → Range b
  letter : letter_a ≤ b → b ≤ letter_f → digit b ≡ Some (b - letter_base) → Range b
  other : digit b ≡ None → Range b

between : (l b u : ℕ) → (leb l b && leb b u) ≡ true → (l ≤ b) × (b ≤ u)
between l b u e = (leb-true l b (and_left (leb l b) (leb b u) e), leb-true b u (and_right (leb l b) (leb b u) e))

within : (l b u : ℕ) → l ≤ b → b ≤ u → (leb l b && leb b u) ≡ true
within l b u h k = rw (le-leb l b h, le-leb b u k)

-- the code's ranges
module _ (b : ℕ) where
  pub number_of : digit0 ≤ b → b ≤ digit9 → Some (b - digit0) ≡ digit b
  unfolding digit
  number_of h k = rw (within digit0 b digit9 h k)

  pub letter_of : letter_a ≤ b → b ≤ letter_f → Some (b - letter_base) ≡ digit b
  unfolding digit
  letter_of h k = rw (lt-leb b digit9 (omega arith), and-false (leb digit0 b), within letter_a b letter_f h k)

  pub other_of : (digit0 ≤ b → b ≤ digit9 → ⊥) → (letter_a ≤ b → b ≤ letter_f → ⊥) → None ≡ digit b
  unfolding digit
  other_of h k = go (leb digit0 b && leb b digit9) refl (leb letter_a b && leb b letter_f) refl
    where
      go : (t : Bool) → (leb digit0 b && leb b digit9) ≡ t → (u : Bool) → (leb letter_a b && leb b letter_f) ≡ u → None ≡ cond t (Some (b - digit0)) (cond u (Some (b - letter_base)) None)
      go true e u f = let w = between digit0 b digit9 e in absurd (h w.0 w.1)
      go false e true f = let w = between letter_a b letter_f f in absurd (k w.0 w.1)
      go false e false f = refl

range : (b : ℕ) → Range b
unfolding digit
range b = go (leb digit0 b && leb b digit9) refl (leb letter_a b && leb b letter_f) refl
  where
    go : (t : Bool) → (leb digit0 b && leb b digit9) ≡ t → (u : Bool) → (leb letter_a b && leb b letter_f) ≡ u → Range b
    go true e u f = let h = between digit0 b digit9 e in number h.0 h.1 (rw e)
    go false e true f = let h = between letter_a b letter_f f in letter h.0 h.1 (rw (e, f))
    go false e false f = other (rw (e, f))

-- a digit's value is the definition's, is below 16, and spells it
pub record Digit (b d : ℕ) : Type 0 where
  pub low : d < hex_base
  pub value : hex_digit_value b ≡ d
  pub spells : hex_digit d ≡ b

pub digit_is : (b d : ℕ) → digit b ≡ Some d → Digit b d
unfolding hex_digit_value hex_digit
digit_is b d h = go (range b)
  where
    go : Range b → Digit b d
    go (number l u e) =
        let z : d ≡ b - digit0 = cc in
        rw z (record { low = omega arith; value = rw (le-leb b digit9 u); spells = rw (lt-ltb (b - digit0) 10 (omega arith)) (omega arith) })
    go (letter l u e) =
        let z : d ≡ b - letter_base = cc in
        rw z (record { low = omega arith; value = rw (lt-leb b digit9 (omega arith)); spells = rw (le-ltb (b - letter_base) 10 (omega arith)) (omega arith) })
    go (other e) = let z : None ≡ Some d = sym e ∙ h in cc

read_value : (b : ℕ) → is_read (digit b) ≡ true → digit b ≡ Some (hex_digit_value b)
read_value b e = go (digit b) refl e
  where
    go : (o : Option ℕ) → digit b ≡ o → is_read o ≡ true → o ≡ Some (hex_digit_value b)
    go None q e = absurd (false≢true e)
    go (Some d) q e = ap Some (sym (digit_is b d q).value)

digit_of : (d : ℕ) → d < hex_base → is_read (digit (hex_digit d)) ≡ true
unfolding hex_digit digit
digit_of d h = go (ltb d 10) refl
  where
    go : (t : Bool) → ltb d 10 ≡ t → is_read (digit (hex_digit d)) ≡ true
    go true e =
        let k = ltb-true d 10 e in
        rw e (rw (le-leb digit0 (digit0 + d) (omega arith), le-leb (digit0 + d) digit9 (omega arith)) refl)
    go false e =
        let k = ltb-false d 10 e in
        rw e (rw (lt-leb (letter_base + d) digit9 (omega arith), and-false (leb digit0 (letter_base + d)), le-leb letter_a (letter_base + d) (omega arith), le-leb (letter_base + d) letter_f (omega arith)) refl)

-- ── many ──

all_head : (b : ℕ) (s : Bytes) → all_hex (b ∷ s) ≡ true → digit b ≡ Some (hex_digit_value b)
unfolding all_hex
all_head b s e = read_value b (and_left (is_read (digit b)) (all_hex s) e)

all_tail : (b : ℕ) (s : Bytes) → all_hex (b ∷ s) ≡ true → all_hex s ≡ true
unfolding all_hex
all_tail b s e = and_right (is_read (digit b)) (all_hex s) e

all_snoc : (s : Bytes) (b : ℕ) → all_hex s ≡ true → is_read (digit b) ≡ true → all_hex (s ++ (b ∷ [])) ≡ true
unfolding all_hex
all_snoc [] b e h = rw h
all_snoc (a ∷ s) b e h = rw (all_head a s e, all_snoc s b (all_tail a s e) h)

-- one digit more
step : (j v b : ℕ) → digit b ≡ Some (hex_digit_value b) → hex_digits (suc j) (v * 16 + hex_digit_value b) ≡ hex_digits j v ++ (b ∷ [])
unfolding hex_digits
step j v b h =
    let k = digit_is b (hex_digit_value b) h in
    let q : (v * 16 + hex_digit_value b) / 16 ≡ v = omega (arith, k.low) in
    let r : (v * 16 + hex_digit_value b) % 16 ≡ hex_digit_value b = omega (arith, k.low) in
    rw (q, r, k.spells)

-- digits behind a number are spelled behind it
hex_on_law : (j v : ℕ) (s : Bytes) → all_hex s ≡ true → hex_digits (j + length s) (hex_value_on v s) ≡ hex_digits j v ++ s
unfolding hex_value_on
hex_on_law j v [] e = rw (add-zero j) (sym (append-nil (hex_digits j v)))
hex_on_law j v (b ∷ s) e =
    let n : j + suc (length s) ≡ suc j + length s = omega arith in
    rw n
    (hex_on_law (suc j) (v * 16 + hex_digit_value b) s (all_tail b s e)
    ∙ ap (λ t. t ++ s) (step j v b (all_head b s e))
    ∙ append_assoc (hex_digits j v) (b ∷ []) s)

hex_bound : (j v : ℕ) (s : Bytes) → all_hex s ≡ true → v < 16 ^ j → hex_value_on v s < 16 ^ (j + length s)
unfolding hex_value_on
hex_bound j v [] e h = rw (add-zero j) h
hex_bound j v (b ∷ s) e h =
    let n : j + suc (length s) ≡ suc j + length s = omega arith in
    rw n (hex_bound (suc j) (v * 16 + hex_digit_value b) s (all_tail b s e) (omega (arith, pow-suc 16 j, (digit_is b (hex_digit_value b) (all_head b s e)).low)))

spelled_length : (k n : ℕ) → length (hex_digits k n) ≡ k
unfolding hex_digits
spelled_length zero n = refl
spelled_length (suc k) n = rw (length-append (hex_digits k (n / 16)) (hex_digit (n % 16) ∷ []), spelled_length k (n / 16)) (add-one k)

spelled_hex : (k n : ℕ) → all_hex (hex_digits k n) ≡ true
unfolding hex_digits all_hex
spelled_hex zero n = refl
spelled_hex (suc k) n = all_snoc (hex_digits k (n / 16)) (hex_digit (n % 16)) (spelled_hex k (n / 16)) (digit_of (n % 16) (omega arith))

no_digits : (n : ℕ) → hex_digits 0 n ≡ []
unfolding hex_digits
no_digits n = refl

spelled : (s : Bytes) → length s ≡ float_digits → all_hex s ≡ true → hex_digits float_digits (hex_value_on 0 s) ≡ s
spelled s h e = rw (h, no_digits 0) at (hex_on_law 0 0 s e)

hex_on_cons : (v b d : ℕ) (s : Bytes) → digit b ≡ Some d → hex_on v (b ∷ s) ≡ hex_on (v * 16 + d) s
unfolding hex_on all_hex hex_value_on
hex_on_cons v b d s h = rw (h, (digit_is b d h).value)

-- ── what is read ──

module _ (s : Bytes) where
  float_none : (length s ≡ float_digits → ⊥) → read float (s ∷ []) ≡ None
  unfolding spell
  float_none h = refused float (s ∷ []) (λ n t f. h (sym (ap length (piece_is t)) ∙ spelled_length float_digits n))

  float_bad : all_hex s ≡ false → read float (s ∷ []) ≡ None
  unfolding spell
  float_bad e = refused float (s ∷ []) (λ n t f. false≢true (sym e ∙ (rw (piece_is t) at (spelled_hex float_digits n))))

  float_read : length s ≡ float_digits → all_hex s ≡ true → read float (s ∷ []) ≡ Some (hex_value_on 0 s)
  unfolding spell fits limited
  float_read h e =
      let b : hex_value_on 0 s < 16 ^ (0 + length s) = hex_bound 0 0 s e (omega arith) in
      accepted float (s ∷ []) refl (hex_value_on 0 s) (ap (λ t. t ∷ []) (spelled s h e)) (le-leb (hex_value_on 0 s) u64 (omega (arith, rw h at b)))

  float_answer : length s ≡ float_digits → hex_on 0 s ≡ read float (s ∷ [])
  unfolding hex_on
  float_answer h = go (all_hex s) refl
    where
      go : (t : Bool) → all_hex s ≡ t → hex_on 0 s ≡ read float (s ∷ [])
      go true e = rw (e, float_read h e)
      go false e = rw (e, float_bad e)

  -- ── the code ──

  pub hex_not : (length s ≡ float_digits → ⊥) → None ≡ read float (s ∷ [])
  hex_not h = rw (float_none h)

  module _ (n : length s ≡ float_digits) (i v : ℕ) (inv : hex_on v (drop i s) ≡ hex_on 0 s) where
    pub hex_of : length s ≤ i → Some v ≡ read float (s ∷ [])
    unfolding hex_on all_hex hex_value_on
    hex_of h = (rw (drop_of_length-le s h) at inv) ∙ float_answer n

    module _ (h : i < length s) where
      pub hex_bad : digit (get_or s i 0) ≡ None → None ≡ read float (s ∷ [])
      unfolding hex_on all_hex
      hex_bad k = (rw (drop-cons s i 0 h, k) at inv) ∙ float_answer n

      pub hex_more : (d : ℕ) → digit (get_or s i 0) ≡ Some d → hex_on (v * 16 + d) (drop (i + 1) s) ≡ hex_on 0 s
      hex_more d k = rw (add-one i) (sym (hex_on_cons v (get_or s i 0) d (drop (suc i) s) k) ∙ (rw (drop-cons s i 0 h) at inv))

pub digit_low : (b d : ℕ) → digit b ≡ Some d → d < hex_base
digit_low b d e = (digit_is b d e).low

-- the number fits as long as there are digits to come
pub room : (i v : ℕ) → i < float_digits → v < 16 ^ i → v < 16 ^ (float_digits - 1)
room i v h k = omega (arith, pow-le-pow_right {n = 16} (omega arith) {i = i} {j = float_digits - 1} (omega arith))

pub grown : (i v d : ℕ) → v < 16 ^ i → d < hex_base → v * 16 + d < 16 ^ (i + 1)
grown i v d h k = rw (add-one i) (omega (arith, pow-suc 16 i))
