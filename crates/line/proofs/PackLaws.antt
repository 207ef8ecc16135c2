-- Short texts and the numbers that they are packed into: one tells the other, and the packing loop gathers it byte by byte. Assumes nothing.
use mathlib.Core.Path.{◌≡◌, refl, sym, ap, ◌∙◌}
use Prim.Native.Nat.{ℕ, zero, suc, ◌+◌, ◌*◌, ◌-◌, ◌/◌, ◌%◌, ◌^◌, ◌<◌, ◌≤◌}
use mathlib.Core.Bool.{Bool, true, false, cond}
use mathlib.Core.List.{[], ◌∷◌, ◌++◌, append-nil}
use native.Mathlib.Nat.{add-zero, mul-add-div_right, mul-add-mod_self_right, mod-eq_of_lt, div-eq_of_lt, pow-le-pow_right, pow-suc}
use native.Mathlib.Omega.{arith}
use borrow.Author.Tests.{lt-ltb, le-ltb, ltb-true, leb-true, le-leb, eqb-true, eqb-false, ne_eqb}
use lib.Dec.{ltb, leb, eqb}
use lib.ListN.{length, get_or}
use lib.Seq.{slice, slice_empty, length-slice}
use Rattle.std.specs.Prelude.{Option, Some}
use Rattle.std.specs.Bool.{then_some}
use Rattle.model.specs.Text.{Bytes, same}
use Rattle.laws.specs.TextLaws.{and_left, and_right, same_sound, same_refl}
use Rattle.words.specs.Table.{byte_values, max_keyword, pack_on, packed}
use Rattle.words.specs.TableLaws.{each_below, short}
use Rattle.record.specs.Place.{Fed, separates, Ends}
use Rattle.record.proofs.PlaceLaws.{fed_in, along_back, Passing, pass_start, pass_on, pass_done, slice_snoc}
use Rattle.line.specs.Kinds.{Packed, KeywordAt}

-- ── unpacking ──

-- the bytes of a number, up to k of them, before others
unpack_on : ℕ → ℕ → Bytes → Bytes
unpack_on zero n t = t
unpack_on (suc k) n t = cond (ltb n byte_values) t (unpack_on k (n / byte_values) (n % byte_values ∷ t))

unpack_step : (j v b : ℕ) (t : Bytes) → 0 < v → b < byte_values → unpack_on (suc j) (v * byte_values + b) t ≡ unpack_on j v (b ∷ t)
unfolding unpack_on
unpack_step j v b t p h =
    let up : byte_values ≤ v * byte_values + b = omega arith in
    let over : (v * byte_values + b) / byte_values ≡ v = mul-add-div_right (omega arith) v b ∙ rw (div-eq_of_lt h) (add-zero v) in
    let low : (v * byte_values + b) % byte_values ≡ b = mul-add-mod_self_right v byte_values b ∙ mod-eq_of_lt h in
    rw (le-ltb _ _ up, over, low)

unpack_pack : (s t : Bytes) (v j : ℕ) → 0 < v → each_below byte_values s ≡ true → unpack_on (length s + j) (pack_on v s) t ≡ unpack_on j v (s ++ t)
unfolding pack_on each_below
unpack_pack [] t v j p h = rw zero_plus
  where
    zero_plus : 0 + j ≡ j
    zero_plus = omega arith
unpack_pack (b ∷ s) t v j p h =
    let low : b < byte_values = ltb-true b byte_values (and_left (ltb b byte_values) (each_below byte_values s) h) in
    let count : suc (length s) + j ≡ length s + suc j = omega arith in
    rw count (unpack_pack s t (v * byte_values + b) (suc j) (omega arith) (and_right (ltb b byte_values) (each_below byte_values s) h) ∙ unpack_step j v b (s ++ t) p low)

unpack_one : (j : ℕ) (t : Bytes) → unpack_on j 1 t ≡ t
unfolding unpack_on
unpack_one zero t = refl
unpack_one (suc j) t = refl

unpack : (s : Bytes) → short s ≡ true → unpack_on max_keyword (packed s) [] ≡ s
unfolding packed short
unpack s h =
    let few : length s ≤ max_keyword = leb-true (length s) max_keyword (and_left (leb (length s) max_keyword) (each_below byte_values s) h) in
    let sum : length s + (max_keyword - length s) ≡ max_keyword = omega arith in
    rw (← sum) (unpack_pack s [] 1 (max_keyword - length s) (omega arith) (and_right (leb (length s) max_keyword) (each_below byte_values s) h) ∙ unpack_one (max_keyword - length s) (s ++ []) ∙ append-nil s)

short_few : (s : Bytes) → short s ≡ true → length s ≤ max_keyword
unfolding short
short_few s h = leb-true (length s) max_keyword (and_left (leb (length s) max_keyword) (each_below byte_values s) h)

pack_on_up : (s : Bytes) (v : ℕ) → 0 < v → 0 < pack_on v s
unfolding pack_on
pack_on_up [] v h = h
pack_on_up (b ∷ s) v h = pack_on_up s (v * byte_values + b) (omega arith)

pub packed_up : (s : Bytes) → 0 < packed s
unfolding packed
packed_up s = pack_on_up s 1 (omega arith)

-- ── one tells the other ──

same_not : (s w : Bytes) → (s ≡ w → ⊥) → same s w ≡ false
same_not s w h = go (same s w) refl
  where
    go : (t : Bool) → same s w ≡ t → t ≡ false
    go true e = absurd (h (same_sound s w e))
    go false e = refl

packed_same : (s w : Bytes) → short s ≡ true → short w ≡ true → (t : Bool) → eqb (packed s) (packed w) ≡ t → t ≡ same s w
packed_same s w h k true e =
    let q : s ≡ w = sym (unpack s h) ∙ rw (eqb-true (packed s) (packed w) e) (unpack w k) in
    rw q (sym (same_refl w))
packed_same s w h k false e = sym (same_not s w (λ q. eqb-false _ _ e (ap packed q)))

pub packed_tells : (s : Bytes) → short s ≡ true → Packed s (packed s)
packed_tells s h = record { tells = λ w k. packed_same s w h k (eqb (packed s) (packed w)) refl }

pub long_tells : (s : Bytes) → max_keyword < length s → Packed s 0
long_tells s h =
    record {
      tells = λ w k.
          rw (ne_eqb 0 (packed w) (λ e. absurd (omega (arith, packed_up w, e))))
          (sym (same_not s w (λ q. let few : length w ≤ max_keyword = short_few w k in absurd (omega (arith, ap length q)))));
    }

-- ── the loop ──

pack_on_append : (v : ℕ) (s t : Bytes) → pack_on v (s ++ t) ≡ pack_on (pack_on v s) t
unfolding pack_on
pack_on_append v [] t = refl
pack_on_append v (b ∷ s) t = pack_on_append (v * byte_values + b) s t

bytes_append : (s t : Bytes) → each_below byte_values s ≡ true → each_below byte_values t ≡ true → each_below byte_values (s ++ t) ≡ true
unfolding each_below
bytes_append [] t p q = q
bytes_append (b ∷ s) t p q = rw (and_left (ltb b byte_values) (each_below byte_values s) p) (bytes_append s t (and_right (ltb b byte_values) (each_below byte_values s) p) q)

-- the bytes passed from p on, packed
pub record Packing (s : Bytes) (p v i : ℕ) : Type 0 where
  pub pass : Passing s p i
  pub few : i ≤ p + max_keyword
  pub is : v ≡ pack_on 1 (slice p i s)
  pub bytes : each_below byte_values (slice p i s) ≡ true
  pub low : v < 2 * byte_values ^ (i - p)

pub pack_none : (s : Bytes) (p : ℕ) → Fed s p → Packing s p 1 p
unfolding pack_on each_below
pack_none s p f =
    let none : p - p ≡ 0 = omega arith in
    record { pass = pass_start s p f; few = omega arith; is = rw (slice_empty p s); bytes = rw (slice_empty p s); low = rw none (omega arith) }

module _ (s : Bytes) (p v i : ℕ) (g : Packing s p v i) (t : Bool) (e : t ≡ separates (get_or s i 0)) where
  from : p ≤ i
  from = g.pass.along.from

  inside : i < length s
  inside = fed_in s i g.pass.fed

  counted : length (slice p i s) ≡ i - p
  counted = length-slice p i s (omega (arith, inside))

  -- ── the piece ends ──

  pub pack_done : t ≡ true → KeywordAt s p (record { word = Some v; end = i })
  unfolding short packed
  pack_done z =
      let plain : short (slice p i s) ≡ true = rw (le-leb (length (slice p i s)) max_keyword (omega (arith, counted, g.few))) g.bytes in
      record { ends = pass_done s p i g.pass t e z; packed = rw g.is (packed_tells (slice p i s) plain) }

  -- ── it goes on ──

  module _ (z : t ≡ false) where
    module _ (n : i ≡ p + max_keyword → ⊥) where
      pub pack_room : v < 2 * byte_values ^ (max_keyword - 1)
      pack_room =
          let six : i - p ≤ max_keyword - 1 = omega (arith, g.few, n) in
          let up : byte_values ^ (i - p) ≤ byte_values ^ (max_keyword - 1) = pow-le-pow_right (omega arith) six in
          omega (arith, g.low)

      pub pack_more : (b : ℕ) → b ≡ get_or s i 0 → b < byte_values → Packing s p (v * byte_values + b) (i + 1)
      unfolding pack_on each_below
      pack_more b q l =
          let one : slice p (i + 1) s ≡ slice p i s ++ (get_or s i 0 ∷ []) = slice_snoc p i s 0 from inside in
          let sum : i + 1 - p ≡ suc (i - p) = omega (arith, from) in
          record {
            pass = pass_on s p i g.pass t e z;
            few = omega (arith, g.few, n);
            is = rw (one, pack_on_append, ← g.is, q);
            bytes = rw one (bytes_append (slice p i s) _ g.bytes (rw (← q, lt-ltb _ _ l)));
            low = rw (sum, pow-suc) (omega (arith, g.low, q));
          }

-- behind seven bytes: the piece ends there, or it is longer than every keyword
pub pack_behind : (s : Bytes) (p v i : ℕ) → Packing s p v i → i ≡ p + max_keyword → (r : ℕ) → Ends s (p + max_keyword) r → (w : Option ℕ) → w ≡ then_some (eqb r (p + max_keyword)) v → KeywordAt s p (record { word = w; end = r })
pack_behind s p v i g q r h w z = rw z (go (eqb r (p + max_keyword)) refl)
  where
    go : (t : Bool) → eqb r (p + max_keyword) ≡ t → KeywordAt s p (record { word = then_some t v; end = r })
    go true e =
        let at : r ≡ i = eqb-true r (p + max_keyword) e ∙ sym q in
        rw at (pack_done s p v i g true (rw (← at) (sym h.stop)) refl)
    go false e =
        let other = eqb-false r (p + max_keyword) e in
        let here : Ends s i r = rw q h in
        record { ends = along_back s p i g.pass.along r here; packed = long_tells (slice p r s) (omega (arith, length-slice p r s (omega (arith, h.to)), h.from, other)) }
