-- Numbers in so many digits, and how many a decimal number has. Assumes nothing: every law is proved.
use Rattle.std.specs.Prelude.{◌≡◌, refl, Bool, true, false, [], ◌∷◌, ◌++◌, ℕ, zero, suc, ◌+◌, ◌-◌, ◌*◌, ◌/◌, ◌%◌, ◌<◌, ◌≤◌, ltb, length}
use Rattle.std.proofs.Common.{arith, length-append, lt-ltb, le-ltb, ltb-true, ltb-false}
use Rattle.model.specs.Text.{Bytes, digit0, digits, max_digits, decimal}
use Rattle.output.specs.Page.{most}

-- the last k decimal digits of n
unfoldable pub tens : ℕ → ℕ → Bytes
tens zero n = []
tens (suc k) n = tens k (n / 10) ++ ((digit0 + n % 10) ∷ [])

pub length_tens : (k n : ℕ) → k ≡ length (tens k n)
unfolding tens
length_tens zero n = refl
length_tens (suc k) n = let e = length_tens k (n / 10) in let l = length-append (tens k (n / 10)) ((digit0 + n % 10) ∷ []) in omega arith

-- b to the power k
abbrev pub power : ℕ → ℕ → ℕ
power b zero = 1
power b (suc k) = b * power b k

-- the least number that has k + 1 digits
abbrev pub least : ℕ → ℕ
least zero = 0
least (suc k) = power 10 (suc k)

power_some : (k : ℕ) → 0 < power 10 k
power_some zero = omega arith
power_some (suc k) = let h = power_some k in omega arith

least_power : (k : ℕ) → least k ≤ power 10 k
least_power zero = omega arith
least_power (suc k) = omega arith

digits_tens : (k d n : ℕ) → d < k → least d ≤ n → n < power 10 (suc d) → digits k n ≡ tens (suc d) n
unfolding digits tens
digits_tens zero d n few low high = absurd (omega arith)
digits_tens (suc k) zero n few low high = let e : n % 10 ≡ n = omega arith in rw (lt-ltb n 10 (omega arith), e)
digits_tens (suc k) (suc d) n few low high =
    let some = power_some d in
    let below = least_power d in
    let ten : 10 ≤ n = omega arith in
    rw (le-ltb n 10 ten, digits_tens k d (n / 10) (omega arith) (omega arith) (omega arith))

-- n has r digits, `before` of them before its last
pub record Counted (n r : ℕ) : Type 0 where
  pub before : ℕ
  pub is : r ≡ suc before
  pub few : before < max_digits
  pub low : least before ≤ n
  pub high : n < power 10 (suc before)

-- so many digits are the number's spelling
pub spelled : {n r : ℕ} → Counted n r → decimal n ≡ tens r n
unfolding decimal
spelled {n} c = rw c.is (digits_tens max_digits c.before n c.few c.low c.high)

-- a number of one digit
pub one_digit : (n : ℕ) → n < 10 → decimal n ≡ (digit0 + n) ∷ []
unfolding tens
one_digit n few =
    let short : Counted n 1 = record { before = 0; is = refl; few = omega arith; low = omega arith; high = omega arith } in
    let rest : n % 10 ≡ n = omega arith in
    rw (spelled short, rest)

-- as many as its spelling has
pub counted_long : {n r : ℕ} → Counted n r → r ≡ length (decimal n)
counted_long {n} {r} c = rw (spelled c) (length_tens r n)

power_grows : (k d : ℕ) → k ≤ d → power 10 k ≤ power 10 d
power_grows zero d h = let some = power_some d in omega arith
power_grows (suc k) zero h = absurd (omega arith)
power_grows (suc k) (suc d) h = let g = power_grows k d (omega arith) in omega arith

power_below : (k d : ℕ) → power 10 d < power 10 k → d < k
power_below k d h = go (ltb d k) refl
  where
    go : (t : Bool) → ltb d k ≡ t → d < k
    go true e = ltb-true d k e
    go false e = let g = power_grows k d (ltb-false d k e) in absurd (omega arith)

-- so many digits are counted at a time
abbrev pub step : ℕ
step = 4

-- the first digits of a number of 64 bits, and `step` behind them
pub counted_more : {n r : ℕ} → least step ≤ n → n ≤ most → Counted (n / least step) r → Counted n (r + step)
counted_more {n} {r} l m c = go c.before c.is c.few c.low c.high
  where
    go : (d : ℕ) → r ≡ suc d → d < max_digits → least d ≤ n / least step → n / least step < power 10 (suc d) → Counted n (r + step)
    go zero e few low high = record { before = step; is = omega arith; few = omega arith; low = l; high = omega arith }
    go (suc d) e few low high =
        record {
          before = suc (suc (suc (suc (suc d))));
          is = omega arith;
          few = let f = power_below (max_digits - step) (suc d) (omega arith) in omega arith;
          low = omega arith;
          high = omega arith;
        }
