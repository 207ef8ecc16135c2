-- A text is a decimal number of the sheet exactly if it is digits with no spare zero. Assumes nothing.
use mathlib.Core.Path.{◌≡◌, refl, sym, ap, ◌∙◌}
use mathlib.Core.Bool.{Bool, true, false, cond, not, ◌&&◌, and-true, false≢true}
use mathlib.Core.List.{[], ◌∷◌, ◌++◌, append_assoc, append-nil}
use Rattle.std.specs.Prelude.{Option, None, Some}
use Prim.Native.Nat.{ℕ, zero, suc, ◌+◌, ◌*◌, ◌-◌, ◌/◌, ◌%◌, ◌^◌, ◌≤◌, ◌<◌}
use native.Mathlib.Nat.{pow-suc, zero-add}
use native.Mathlib.Omega.{arith}
use borrow.Author.Tests.{le-leb, leb-true, leb-false, lt-ltb, le-ltb, ltb-true, ltb-false, eqb-true, eqb-false, eq-eqb, ne_eqb, not-true}
use lib.Dec.{eqb, leb, ltb}
use lib.ListN.{length, get_or}
use lib.Seq.{slice}
use Rattle.model.specs.Text.{Bytes, value_on, value, digits, max_digits, decimal, line_feed, digit0, digit9}
use Rattle.model.specs.Field.{num, u32, u64, read, spell, fits}
use Rattle.laws.specs.TextLaws.{and_left, and_right}
use Rattle.laws.specs.NumberLaws.{decimal_value}
use Rattle.laws.specs.FieldLaws.{limited}
use Rattle.record.specs.declared.piece.Piece.{Piece}
use Rattle.record.specs.Number.{digit, digit_value, all_digits, digits_on}
use Rattle.record.specs.Place.{Fed, separates, Ends, EndsAt}
use Rattle.record.specs.InPlace.{value_in, end_in, DigitsAt, NumberAt}
use Rattle.record.proofs.PlaceLaws.{separates_other, byte_fed, byte_alone, along_start, along_on, along_back, ends_next, ends_cons, ends_none}
use Rattle.record.proofs.GatherLaws.{too_big, digit_bounds, is_digit, value_none, value_byte, byte_none, byte_on}
use Rattle.record.proofs.ReadLaws.{accepted, refused, piece_is}

-- digits with no spare zero in front
pub plain : Bytes → Bool
plain [] = false
plain (b ∷ []) = digit b
plain (b ∷ c ∷ s) = not (eqb b digit0) && all_digits (b ∷ c ∷ s)

-- ── digits with no spare zero are spelled by their value ──

-- more room changes nothing where there is enough
digits_enough : (k m n : ℕ) → n < 10 ^ suc k → n < 10 ^ suc m → digits (suc k) n ≡ digits (suc m) n
unfolding digits
digits_enough zero zero n h j = refl
digits_enough zero (suc m) n h j = rw (lt-ltb n 10 (omega arith))
digits_enough (suc k) zero n h j = rw (lt-ltb n 10 (omega arith))
digits_enough (suc k) (suc m) n h j =
    ap (λ t. cond (ltb n 10) ((digit0 + n) ∷ []) (t ++ ((digit0 + n % 10) ∷ [])))
    (digits_enough k m (n / 10) (omega (arith, rw pow-suc at h)) (omega (arith, rw pow-suc at j)))

-- one digit more
digits_snoc : (j v b : ℕ) → 0 < v → digit0 ≤ b → b ≤ digit9 → digits (suc (suc j)) (v * 10 + (b - digit0)) ≡ digits (suc j) v ++ (b ∷ [])
unfolding digits
digits_snoc j v b h l u =
    let q : (v * 10 + (b - digit0)) / 10 ≡ v = omega arith in
    let r : digit0 + (v * 10 + (b - digit0)) % 10 ≡ b = omega arith in
    rw (le-ltb (v * 10 + (b - digit0)) 10 (omega arith), q, r)

-- digits behind a number are spelled behind it
digits_on_law : (k j v : ℕ) (s : Bytes) → 0 < v → v < 10 ^ suc j → value_on v s < 10 ^ suc k → all_digits s ≡ true → digits (suc k) (value_on v s) ≡ digits (suc j) v ++ s
unfolding all_digits value_on
digits_on_law k j v [] h l m e = digits_enough k j v m l ∙ sym (append-nil (digits (suc j) v))
digits_on_law k j v (b ∷ s) h l m e =
    let d = digit_bounds b (and_left (digit b) (all_digits s) e) in
    let w : v * 10 + (b - digit0) < 10 ^ suc (suc j) = omega (arith, pow-suc 10 (suc j)) in
    digits_on_law k (suc j) (v * 10 + (b - digit0)) s (omega arith) w m (and_right (digit b) (all_digits s) e)
    ∙ ap (λ t. t ++ s) (digits_snoc j v b h d.0 d.1)
    ∙ append_assoc (digits (suc j) v) (b ∷ []) s

one_digit : (b : ℕ) → digit0 ≤ b → b ≤ digit9 → (k : ℕ) → digits (suc k) (b - digit0) ≡ b ∷ []
unfolding digits
one_digit b h u k = let e : digit0 + (b - digit0) ≡ b = omega arith in rw (lt-ltb (b - digit0) 10 (omega arith), e)

value_cons : (b : ℕ) (s : Bytes) → value (b ∷ s) ≡ value_on (b - digit0) s
unfolding value value_on
value_cons b s = ap (λ v. value_on v s) (zero-add (b - digit0))

pub spelled : (s : Bytes) → plain s ≡ true → value s ≤ u64 → decimal (value s) ≡ s
unfolding plain decimal
spelled [] e h = absurd (false≢true e)
spelled (b ∷ []) e h =
    let d = digit_bounds b e in
    let v : value (b ∷ []) ≡ b - digit0 = unfold value_on in value_cons b [] in
    ap (λ n. digits max_digits n) v ∙ one_digit b d.0 d.1 (max_digits - 1)
spelled (b ∷ c ∷ s) e h =
    let z = eqb-false b digit0 (not-true (eqb b digit0) (and_left (not (eqb b digit0)) (all_digits (b ∷ c ∷ s)) e)) in
    let a : (digit b && all_digits (c ∷ s)) ≡ true = unfold all_digits in and_right (not (eqb b digit0)) (digit b && all_digits (c ∷ s)) e in
    let d = digit_bounds b (and_left (digit b) (all_digits (c ∷ s)) a) in
    ap (λ n. digits max_digits n) (value_cons b (c ∷ s))
    ∙ digits_on_law (max_digits - 1) 0 (b - digit0) (c ∷ s) (omega arith) (omega arith) (omega (arith, value_cons b (c ∷ s))) (and_right (digit b) (all_digits (c ∷ s)) a)
    ∙ ap (λ t. t ++ (c ∷ s)) (one_digit b d.0 d.1 0)

-- ── what is spelled is digits with no spare zero ──

-- digits that begin with no zero
lead : Bytes → Bool
lead [] = false
lead (b ∷ s) = not (eqb b digit0) && all_digits (b ∷ s)

all_snoc : (s : Bytes) (b : ℕ) → all_digits s ≡ true → digit b ≡ true → all_digits (s ++ (b ∷ [])) ≡ true
unfolding all_digits
all_snoc [] b e h = rw h
all_snoc (a ∷ s) b e h = rw (and_left (digit a) (all_digits s) e, all_snoc s b (and_right (digit a) (all_digits s) e) h)

lead_snoc : (s : Bytes) (b : ℕ) → lead s ≡ true → digit b ≡ true → lead (s ++ (b ∷ [])) ≡ true
unfolding lead
lead_snoc [] b e h = absurd (false≢true e)
lead_snoc (a ∷ s) b e h = rw (and_left (not (eqb a digit0)) (all_digits (a ∷ s)) e) (all_snoc (a ∷ s) b (and_right (not (eqb a digit0)) (all_digits (a ∷ s)) e) h)

digits_lead : (k n : ℕ) → 0 < n → n < 10 ^ suc k → lead (digits (suc k) n) ≡ true
unfolding digits
digits_lead zero n h l = rw (lt-ltb n 10 (omega arith)) (unfold lead all_digits in rw (ne_eqb (digit0 + n) digit0 (omega arith), is_digit (digit0 + n) (omega arith) (omega arith)))
digits_lead (suc k) n h l = go (ltb n 10) refl (digits_lead k (n / 10))
  where
    go : (t : Bool) → ltb n 10 ≡ t → (0 < n / 10 → n / 10 < 10 ^ suc k → lead (digits (suc k) (n / 10)) ≡ true) → lead (digits (suc (suc k)) n) ≡ true
    go true e ih =
        let b = ltb-true n 10 e in
        rw e (unfold lead all_digits in rw (ne_eqb (digit0 + n) digit0 (omega arith), is_digit (digit0 + n) (omega arith) (omega arith)))
    go false e ih =
        let b = ltb-false n 10 e in
        rw e (lead_snoc (digits (suc k) (n / 10)) (digit0 + n % 10) (ih (omega arith) (omega (arith, rw pow-suc at l))) (is_digit (digit0 + n % 10) (omega arith) (omega arith)))

lead_plain : (s : Bytes) → lead s ≡ true → plain s ≡ true
unfolding lead plain all_digits
lead_plain [] e = e
lead_plain (b ∷ []) e = and_left (digit b) true (and_right (not (eqb b digit0)) (digit b && true) e)
lead_plain (b ∷ c ∷ s) e = e

pub decimal_plain : (n : ℕ) → n ≤ u64 → plain (decimal n) ≡ true
unfolding decimal
decimal_plain n h = go (eqb n 0) refl
  where
    go : (t : Bool) → eqb n 0 ≡ t → plain (digits max_digits n) ≡ true
    go true e = rw (eqb-true n 0 e) (unfold plain digits in refl)
    go false e = let z = eqb-false n 0 e in lead_plain (digits max_digits n) (digits_lead (max_digits - 1) n (omega arith) (omega arith))

-- ── what is read ──

pub number_read : (limit : ℕ) → limit ≤ u64 → (s : Bytes) → read (num limit) (s ∷ []) ≡ cond (plain s && leb (value s) limit) (Some (value s)) None
unfolding spell fits limited
number_read limit l s = go (plain s) refl (leb (value s) limit) refl
  where
    go : (p : Bool) → plain s ≡ p → (q : Bool) → leb (value s) limit ≡ q → read (num limit) (s ∷ []) ≡ cond (plain s && leb (value s) limit) (Some (value s)) None
    go true e true h = rw (e, h) (accepted (num limit) (s ∷ []) (le-leb limit u64 l) (value s) (ap (λ t. t ∷ []) (spelled s e (omega (arith, leb-true (value s) limit h)))) h)
    go true e false h = rw (e, h) (refused (num limit) (s ∷ []) (λ n t f.
        let k = leb-true n limit f in
        let v : value s ≡ n = rw (piece_is t) at (decimal_value n (omega arith)) in
        omega (arith, leb-false (value s) limit h)))
    go false e q h = rw e (refused (num limit) (s ∷ []) (λ n t f.
        let k = leb-true n limit f in
        false≢true (sym e ∙ (rw (piece_is t) at (decimal_plain n (omega arith))))))

-- ── the cases of the code ──

plain_none : (s : Bytes) → length s ≡ 0 → plain s ≡ false
unfolding plain
plain_none [] h = refl
plain_none (b ∷ s) h = absurd (omega arith)

plain_one : (s : Bytes) → length s ≡ 1 → plain s ≡ all_digits s
unfolding plain all_digits
plain_one [] h = absurd (omega arith)
plain_one (b ∷ []) h = sym (and-true (digit b))
plain_one (b ∷ c ∷ s) h = absurd (omega arith)

plain_many : (s : Bytes) → (length s ≡ 0 → ⊥) → (length s ≡ 1 → ⊥) → plain s ≡ (not (eqb (get_or s 0 0) digit0) && all_digits s)
unfolding plain
plain_many [] h k = absurd (h refl)
plain_many (b ∷ []) h k = absurd (k refl)
plain_many (b ∷ c ∷ s) h k = refl

module _ (limit : ℕ) (l : limit < suc u64) (s : Bytes) where
  pub none_of : length s ≡ 0 → None ≡ read (num limit) (s ∷ [])
  none_of h = rw (number_read limit (omega arith) s, plain_none s h)

  module _ (r : Option ℕ) (e : r ≡ digits_on limit 0 s) where
    pub one_of : length s ≡ 1 → r ≡ read (num limit) (s ∷ [])
    unfolding digits_on value
    one_of h = e ∙ rw (number_read limit (omega arith) s, plain_one s h)

    pub many_of_law : (length s ≡ 0 → ⊥) → (length s ≡ 1 → ⊥) → (get_or s 0 0 ≡ digit0 → ⊥) → r ≡ read (num limit) (s ∷ [])
    unfolding digits_on value
    many_of_law h k z = e ∙ rw (number_read limit (omega arith) s, plain_many s h k, ne_eqb (get_or s 0 0) digit0 z)

  pub spare_of : (length s ≡ 0 → ⊥) → (length s ≡ 1 → ⊥) → get_or s 0 0 ≡ digit0 → None ≡ read (num limit) (s ∷ [])
  spare_of h k z = rw (number_read limit (omega arith) s, plain_many s h k, eq-eqb (get_or s 0 0) digit0 z)

  -- with no zero in front the digits are the number
  unspared : (length s ≡ 0 → ⊥) → (get_or s 0 0 ≡ digit0 → ⊥) → digits_on limit 0 s ≡ read (num limit) (s ∷ [])
  unspared h z = go (eqb (length s) 1) refl
    where
      go : (t : Bool) → eqb (length s) 1 ≡ t → digits_on limit 0 s ≡ read (num limit) (s ∷ [])
      go true e = one_of (digits_on limit 0 s) refl (eqb-true (length s) 1 e)
      go false e = many_of_law (digits_on limit 0 s) refl h (eqb-false (length s) 1 e) z

-- ── in place ──

module _ (limit : ℕ) (l : limit ≤ u32) (s : Bytes) (p : ℕ) (f : Fed s p) where
  small : limit < suc u64
  small = omega arith

  -- a piece whose first byte makes the answer
  by_first : (a : Option (Piece ℕ)) → EndsAt s p (end_in a) → line_feed < get_or s p 0
      → ((q : ℕ) → Ends s (p + 1) q → value_in a ≡ read (num limit) ((get_or s p 0 ∷ slice (p + 1) q s) ∷ [])) → NumberAt limit s p a
  by_first a ends k so =
      let past : separates (get_or s p 0) ≡ false = separates_other (get_or s p 0) k in
      record { is = λ q h. rw (ends_cons s p q h past) (so q (ends_next s p q h past)); ends = ends }

  -- the number that the first digit begins
  begun : (t : Bytes) → (get_or s p 0 ≡ digit0 → ⊥) → digits_on limit 0 (get_or s p 0 ∷ t) ≡ read (num limit) ((get_or s p 0 ∷ t) ∷ [])
  begun t z = unspared limit small (get_or s p 0 ∷ t) (λ h. omega arith) z

  pub decimal_none : digit_value (get_or s p 0) ≡ None → NumberAt limit s p None
  decimal_none e = record { is = λ q h. go q h (separates (get_or s p 0)) refl; ends = tt }
    where
      other : get_or s p 0 ≡ digit0 → ⊥
      other z = false≢true (sym (value_none (get_or s p 0) e) ∙ is_digit (get_or s p 0) (omega arith) (omega arith))

      go : (q : ℕ) → Ends s p q → (t : Bool) → separates (get_or s p 0) ≡ t → None ≡ read (num limit) (slice p q s ∷ [])
      go q h true z = rw (ends_none s p q h z) (none_of limit small [] refl)
      go q h false z = rw (ends_cons s p q h z) (sym (byte_none limit 0 (get_or s p 0) (slice (p + 1) q s) e) ∙ begun (slice (p + 1) q s) other)

  module _ (d : ℕ) (e : digit_value (get_or s p 0) ≡ Some d) where
    high : line_feed < get_or s p 0
    high = omega (arith, value_byte (get_or s p 0) d e)

    pub first_fed : Fed s (p + 1)
    first_fed = byte_fed s p f high

    module _ (z : d ≡ 0) where
      here : get_or s p 0 ≡ digit0
      here = omega (arith, value_byte (get_or s p 0) d e)

      pub decimal_zero : (t : Bool) → t ≡ separates (get_or s (p + 1) 0) → t ≡ true → NumberAt limit s p (Some (record { value = 0; end = p + 1 }))
      unfolding digits_on all_digits value_on
      decimal_zero t g o =
          let stop : separates (get_or s (p + 1) 0) ≡ true = sym g ∙ o in
          by_first (Some (record { value = 0; end = p + 1 })) (byte_alone s p f high stop) high
          (λ q h. rw (ends_none s (p + 1) q h stop, here) (one_of limit small (digit0 ∷ []) (Some 0) (rw (le-leb 0 limit (omega arith))) refl))

      pub decimal_spare : (t : Bool) → t ≡ separates (get_or s (p + 1) 0) → t ≡ false → NumberAt limit s p None
      decimal_spare t g o =
          by_first None tt high
          (λ q h. rw (ends_cons s (p + 1) q h (sym g ∙ o)) (spare_of limit small _ (λ k. omega arith) (λ k. omega arith) here))

    module _ (z : d ≡ 0 → ⊥) where
      on_first : (t : Bytes) → digits_on limit d t ≡ read (num limit) ((get_or s p 0 ∷ t) ∷ [])
      on_first t = ap (λ v. digits_on limit v t) (sym (zero-add d)) ∙ sym (byte_on limit 0 (get_or s p 0) t d e) ∙ begun t (λ h. z (omega (arith, value_byte (get_or s p 0) d e)))

      pub decimal_over : limit < d → NumberAt limit s p None
      decimal_over h = by_first None tt high (λ q g. sym (too_big limit d (slice (p + 1) q s) h) ∙ on_first (slice (p + 1) q s))

      pub decimal_on : (a : Option (Piece ℕ)) → DigitsAt limit d s (p + 1) a → NumberAt limit s p a
      decimal_on a g = by_first a (go (end_in a) g.ends) high (λ q h. g.is q h ∙ on_first (slice (p + 1) q s))
        where
          go : (o : Option ℕ) → EndsAt s (p + 1) o → EndsAt s p o
          go None h = tt
          go (Some r) h = along_back s p (p + 1) (along_on s p p (along_start s p) (separates_other (get_or s p 0) high)) r h
