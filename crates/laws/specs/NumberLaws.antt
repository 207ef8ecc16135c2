-- Laws of spelled numbers and names: each is read back, and none holds a separator. Assumes nothing: each law is proved.
use Rattle.std.specs.Prelude.{◌≡◌, refl, Bool, true, false, [], ◌∷◌, ◌++◌, ℕ, zero, suc, ◌+◌, ◌*◌, ◌-◌, ◌/◌, ◌%◌, ◌^◌, ◌<◌, ◌≤◌, eqb, ltb, ℤ, pos, negsuc}
use Rattle.std.proofs.Common.{sym, ◌∙◌, ap, pow-suc, arith, eqb-true, ne_eqb, ltb-true, leb-true, le-leb}
use Rattle.std.proofs.lemmas.Bool.{lt-leb}
use Rattle.model.specs.Text.{Bytes, tab, line_feed, backslash, letter_t, letter_n, minus, digit0, digit9, letter_base, digits, max_digits, decimal, value_on, value, signed, negative, signed_value, hex_digit, hex_digits, hex_digit_value, hex_value_on, hex_value, escape_byte, escape, unescape_byte, meant, unescape_on, unescape}
use Rattle.model.specs.Field.{u64, i64, float_digits, fits_int}
use Rattle.laws.specs.TextLaws.{each[], ◌each∷◌, each_append, every, Free, above_free, Separator, between_fields, between_lines, separator_low}

-- ── decimal ──

value_on_append : (v : ℕ) (s t : Bytes) → value_on v (s ++ t) ≡ value_on (value_on v s) t
unfolding value_on
value_on_append v [] t = refl
value_on_append v (b ∷ s) t = value_on_append (v * 10 + (b - digit0)) s t

-- k digits are enough below 10 ^ k
digits_value : (k n : ℕ) → n < 10 ^ k → value_on 0 (digits k n) ≡ n
unfolding digits value_on
digits_value zero n h = omega arith
digits_value (suc k) n h = go (ltb n 10) refl (digits_value k (n / 10))
  where
    go : (t : Bool) → ltb n 10 ≡ t → (n / 10 < 10 ^ k → value_on 0 (digits k (n / 10)) ≡ n / 10) → value_on 0 (digits (suc k) n) ≡ n
    go true e ih = rw e (omega arith)
    go false e ih = rw (e, value_on_append 0 (digits k (n / 10)) ((digit0 + n % 10) ∷ []), ih (omega (arith, rw pow-suc at h))) (omega arith)

pub decimal_value : (n : ℕ) → n ≤ u64 → value (decimal n) ≡ n
unfolding value decimal
decimal_value n h = digits_value max_digits n (omega arith)

-- digits begin at digit0
digits_free : (sep : ℕ) → sep < digit0 → (k n : ℕ) → Free sep (digits k n)
unfolding digits
digits_free sep h zero n = each[]
digits_free sep h (suc k) n = go (ltb n 10) refl (digits_free sep h k (n / 10))
  where
    go : (t : Bool) → ltb n 10 ≡ t → Free sep (digits k (n / 10)) → Free sep (digits (suc k) n)
    go true e ih = rw e (ne_eqb (digit0 + n) sep (omega arith) each∷ each[])
    go false e ih = rw e (each_append ih (ne_eqb (digit0 + n % 10) sep (omega arith) each∷ each[]))

pub decimal_free : (sep : ℕ) → sep < digit0 → (n : ℕ) → Free sep (decimal n)
unfolding decimal
decimal_free sep h n = digits_free sep h max_digits n

-- ── signed ──

-- without a minus sign
unsigned : (s : Bytes) → Free minus s → signed_value s ≡ pos (value s)
unfolding signed_value value value_on
unsigned [] h = refl
unsigned (b ∷ s) (p each∷ ps) = rw p

pub signed_value_law : (z : ℤ) → fits_int z ≡ true → signed_value (signed z) ≡ z
unfolding signed_value signed negative fits_int
signed_value_law (pos n) h = unsigned (decimal n) (decimal_free minus (omega arith) n) ∙ ap (λ m. pos m) (decimal_value n (omega (arith, leb-true n i64 h)))
signed_value_law (negsuc n) h = rw (decimal_value (suc n) (omega (arith, leb-true n i64 h)))

pub signed_free : (sep : ℕ) → sep < minus → (z : ℤ) → Free sep (signed z)
unfolding signed
signed_free sep h (pos n) = decimal_free sep (omega arith) n
signed_free sep h (negsuc n) = ne_eqb minus sep (omega arith) each∷ decimal_free sep (omega arith) (suc n)

-- ── hexadecimal ──

digit_value : (d : ℕ) → d < 16 → hex_digit_value (hex_digit d) ≡ d
unfolding hex_digit hex_digit_value
digit_value d h = go (ltb d 10) refl
  where
    go : (t : Bool) → ltb d 10 ≡ t → hex_digit_value (hex_digit d) ≡ d
    go true e = rw (e, le-leb (digit0 + d) digit9 (omega (arith, ltb-true d 10 e))) (omega arith)
    go false e = rw (e, lt-leb (letter_base + d) digit9 (omega arith)) (omega arith)

hex_value_on_append : (v : ℕ) (s t : Bytes) → hex_value_on v (s ++ t) ≡ hex_value_on (hex_value_on v s) t
unfolding hex_value_on
hex_value_on_append v [] t = refl
hex_value_on_append v (b ∷ s) t = hex_value_on_append (v * 16 + hex_digit_value b) s t

hex_digits_value : (k n : ℕ) → n < 16 ^ k → hex_value_on 0 (hex_digits k n) ≡ n
unfolding hex_digits hex_value_on
hex_digits_value zero n h = omega arith
hex_digits_value (suc k) n h = rw (hex_value_on_append 0 (hex_digits k (n / 16)) (hex_digit (n % 16) ∷ []), hex_digits_value k (n / 16) (omega (arith, rw pow-suc at h)), digit_value (n % 16) (omega arith)) (omega arith)

pub hex_value_law : (n : ℕ) → n ≤ u64 → hex_value (hex_digits float_digits n) ≡ n
unfolding hex_value
hex_value_law n h = hex_digits_value float_digits n (omega arith)

hex_digit_free : (sep : ℕ) → sep < digit0 → (d : ℕ) → eqb (hex_digit d) sep ≡ false
unfolding hex_digit
hex_digit_free sep h d = go (ltb d 10) refl
  where
    go : (t : Bool) → ltb d 10 ≡ t → eqb (hex_digit d) sep ≡ false
    go true e = rw e (ne_eqb (digit0 + d) sep (omega arith))
    go false e = rw e (ne_eqb (letter_base + d) sep (omega arith))

pub hex_free : (sep : ℕ) → sep < digit0 → (k n : ℕ) → Free sep (hex_digits k n)
unfolding hex_digits
hex_free sep h zero n = each[]
hex_free sep h (suc k) n = each_append (hex_free sep h k (n / 16)) (hex_digit_free sep h (n % 16) each∷ each[])

-- ── names ──

-- the four ways of a byte in a name
data Escaped (b : ℕ) : Bytes → Type 0 where
  as_tab : b ≡ tab → Escaped b (backslash ∷ letter_t ∷ [])
  as_feed : b ≡ line_feed → Escaped b (backslash ∷ letter_n ∷ [])
  as_backslash : b ≡ backslash → Escaped b (backslash ∷ backslash ∷ [])
  plain : eqb b tab ≡ false → eqb b line_feed ≡ false → eqb b backslash ≡ false → Escaped b (b ∷ [])

escaped : (b : ℕ) → Escaped b (escape_byte b)
unfolding escape_byte
escaped b = go (eqb b tab) refl (eqb b line_feed) refl (eqb b backslash) refl
  where
    go : (t : Bool) → eqb b tab ≡ t → (u : Bool) → eqb b line_feed ≡ u → (w : Bool) → eqb b backslash ≡ w → Escaped b (escape_byte b)
    go true e u f w g = rw e (as_tab (eqb-true b tab e))
    go false e true f w g = rw (e, f) (as_feed (eqb-true b line_feed f))
    go false e false f true g = rw (e, f, g) (as_backslash (eqb-true b backslash g))
    go false e false f false g = rw (e, f, g) (plain e f g)

unescape_step : (b : ℕ) (s t : Bytes) → Escaped b s → unescape_on false (s ++ t) ≡ b ∷ unescape_on false t
unfolding unescape_on meant unescape_byte
unescape_step b _ t (as_tab e) = ap (λ x. x ∷ unescape_on false t) (sym e)
unescape_step b _ t (as_feed e) = ap (λ x. x ∷ unescape_on false t) (sym e)
unescape_step b _ t (as_backslash e) = ap (λ x. x ∷ unescape_on false t) (sym e)
unescape_step b _ t (plain e f g) = rw g

pub unescape_escape : (t : Bytes) → unescape (escape t) ≡ t
unfolding unescape escape unescape_on
unescape_escape [] = refl
unescape_escape (b ∷ t) = unescape_step b (escape_byte b) (escape t) (escaped b) ∙ ap (λ x. b ∷ x) (unescape_escape t)

plain_free : {sep : ℕ} → Separator sep → (b : ℕ) → eqb b tab ≡ false → eqb b line_feed ≡ false → eqb b sep ≡ false
plain_free between_fields b e f = e
plain_free between_lines b e f = f

escaped_free : {sep : ℕ} → Separator sep → (b : ℕ) (s : Bytes) → Escaped b s → Free sep s
unfolding every
escaped_free {sep} q b _ (as_tab e) = above_free minus sep (separator_low q) (backslash ∷ letter_t ∷ []) refl
escaped_free {sep} q b _ (as_feed e) = above_free minus sep (separator_low q) (backslash ∷ letter_n ∷ []) refl
escaped_free {sep} q b _ (as_backslash e) = above_free minus sep (separator_low q) (backslash ∷ backslash ∷ []) refl
escaped_free q b _ (plain e f g) = plain_free q b e f each∷ each[]

pub escape_free : {sep : ℕ} → Separator sep → (t : Bytes) → Free sep (escape t)
unfolding escape
escape_free q [] = each[]
escape_free q (b ∷ t) = each_append (escaped_free q b (escape_byte b) (escaped b)) (escape_free q t)
