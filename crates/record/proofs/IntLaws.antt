-- Signed numbers: what the definition reads, in the terms of the code, and the two steps to a signed word. Assumes nothing.
use mathlib.Core.Path.{◌≡◌, refl, sym, ap, ◌∙◌}
use mathlib.Core.Bool.{Bool, true, false}
use mathlib.Core.List.{[], ◌∷◌}
use Rattle.std.specs.Prelude.{Option, None, Some, Result, Ok, Err, FitsSigned, SomeIff, OkIff}
use Rattle.std.specs.Result.{result_ok}
use Prim.Native.Nat.{ℕ, zero, suc, ◌≤◌, ◌<◌}
use native.Mathlib.Omega.{arith}
use borrow.Author.Tests.{le-leb, leb-true, leb-false, eqb-false}
use lib.Dec.{leb}
use lib.IntN.{ℤ, pos, negsuc, ◌-ℤ◌}
use lib.ListN.{length, get_or}
use mir.Syntax.{w64}
use Rattle.model.specs.Text.{Bytes, same, same_by, digits, decimal, value, signed, signed_value, minus}
use Rattle.model.specs.Field.{num, int, u64, i64, read, meaning, piece, spell, fits, fits_int}
use Rattle.laws.specs.TextLaws.{each_head}
use Rattle.laws.specs.NumberLaws.{decimal_value, decimal_free}
use Rattle.laws.specs.FieldLaws.{limited, read_spell}
use Rattle.record.specs.Number.{most_below}
use Rattle.record.proofs.ReadLaws.{accepted, refused, piece_is}

-- ── a signed word ──

-- zero less a number that is not zero
below_zero : (k : ℕ) → (pos 0 -ℤ pos (suc k)) ≡ negsuc k
below_zero k = rw (le-leb 1 (suc k) (omega arith)) (ap negsuc (omega arith))

word_fits : (k : ℕ) → k < most_below → FitsSigned w64 (pos 0 -ℤ pos (suc k))
word_fits k h = rw (below_zero k) (record { sfits = h })

-- ── a number that was read ──

module _ (limit : ℕ) (s : Bytes) (d : Option ℕ) (p : d ≡ read (num limit) (s ∷ [])) where
  pub number_bound : (n : ℕ) → d ≡ Some n → n ≤ limit
  unfolding fits
  number_bound n e = leb-true n limit (read_spell (num limit) (s ∷ []) n (sym p ∙ e)).1

  number_spelled : (n : ℕ) → d ≡ Some n → decimal n ≡ s
  unfolding spell
  number_spelled n e = piece_is (read_spell (num limit) (s ∷ []) n (sym p ∙ e)).0

  number_not : limit ≤ u64 → d ≡ None → (n : ℕ) → n ≤ limit → decimal n ≡ s → ⊥
  unfolding spell fits limited
  number_not l e n h q =
      let r : None ≡ Some n = sym (sym p ∙ e) ∙ accepted (num limit) (s ∷ []) (le-leb limit u64 l) n (ap (λ t. t ∷ []) q) (le-leb n limit h) in
      let z : ◌≡◌ {A = ℕ} 0 1 = cc in
      omega arith

-- two numbers that are spelled alike are one
same_number : (n m : ℕ) → n ≤ u64 → m ≤ u64 → decimal n ≡ decimal m → n ≡ m
same_number n m h k e = sym (decimal_value n h) ∙ ap value e ∙ decimal_value m k

-- a number begins with no minus sign
no_minus : (n : ℕ) (s : Bytes) → decimal n ≡ minus ∷ s → ⊥
no_minus n s e = eqb-false minus minus (each_head (rw e at (decimal_free minus (omega arith) n))) refl

-- ── with a minus sign ──

behind_minus : {s t : Bytes} → ◌≡◌ {A = Bytes} (minus ∷ s) (minus ∷ t) → s ≡ t
behind_minus e = cc

module _ (s : Bytes) where
  minus_read : (k : ℕ) → k ≤ i64 → decimal (suc k) ≡ s → read int ((minus ∷ s) ∷ []) ≡ Some (negsuc k)
  unfolding spell signed fits fits_int limited
  minus_read k h e = accepted int ((minus ∷ s) ∷ []) refl (negsuc k) (ap (λ t. (minus ∷ t) ∷ []) e) (le-leb k i64 h)

  minus_none : ((k : ℕ) → k ≤ i64 → decimal (suc k) ≡ s → ⊥) → read int ((minus ∷ s) ∷ []) ≡ None
  unfolding spell signed fits fits_int
  minus_none g = refused int ((minus ∷ s) ∷ []) go
    where
      go : (z : ℤ) → spell int z ≡ (minus ∷ s) ∷ [] → fits int z ≡ true → ⊥
      go (pos n) t f = no_minus n s (piece_is t)
      go (negsuc k) t f = g k (leb-true k i64 f) (behind_minus (piece_is t))

  module _ (d : Option ℕ) (p : d ≡ read (num u64) (s ∷ [])) where
    pub minus_of : (n : ℕ) → d ≡ Some n → (n ≡ 0 → ⊥) → (o : Option ℤ) → SomeIff o (FitsSigned w64 (pos 0 -ℤ pos n)) (pos 0 -ℤ pos n) → o ≡ read int ((minus ∷ s) ∷ [])
    minus_of zero e h o q = absurd (h refl)
    minus_of (suc k) e h o q = go (leb k i64) refl o q
      where
        b : suc k ≤ u64
        b = number_bound u64 s d p (suc k) e

        r : decimal (suc k) ≡ s
        r = number_spelled u64 s d p (suc k) e

        go : (t : Bool) → leb k i64 ≡ t → (o : Option ℤ) → SomeIff o (FitsSigned w64 (pos 0 -ℤ pos (suc k))) (pos 0 -ℤ pos (suc k)) → o ≡ read int ((minus ∷ s) ∷ [])
        go true l None q = absurd (q (word_fits k (omega (arith, leb-true k i64 l))))
        go true l (Some z) q = ap Some (q.1 ∙ below_zero k) ∙ sym (minus_read k (leb-true k i64 l) r)
        go false l None q = rw (minus_none (λ j m t. absurd (omega (arith, leb-false k i64 l, same_number (suc j) (suc k) (omega arith) b (t ∙ sym r)))))
        go false l (Some z) q = absurd (omega (arith, leb-false k i64 l, (rw (below_zero k) at q.0).sfits))

    pub minus_zero : (n : ℕ) → d ≡ Some n → n ≡ 0 → None ≡ read int ((minus ∷ s) ∷ [])
    minus_zero n e h =
        let b = number_bound u64 s d p n e in
        let r = number_spelled u64 s d p n e in
        rw (minus_none (λ k l t. absurd (omega (arith, same_number n (suc k) b (omega arith) (r ∙ sym t)))))

    pub minus_not : d ≡ None → None ≡ read int ((minus ∷ s) ∷ [])
    minus_not e = rw (minus_none (λ k l t. number_not u64 s d p (omega arith) e (suc k) (omega arith) t))

-- ── without ──

pub signed_empty : (s : Bytes) → length s < 1 → None ≡ read int (s ∷ [])
unfolding read meaning piece signed_value spell signed decimal digits fits fits_int same same_by
signed_empty [] h = refl
signed_empty (b ∷ s) h = absurd (omega arith)

module _ (s : Bytes) where
  module _ (h : get_or s 0 0 ≡ minus → ⊥) where
    plus_none : ((n : ℕ) → n ≤ i64 → decimal n ≡ s → ⊥) → read int (s ∷ []) ≡ None
    unfolding spell signed fits fits_int
    plus_none g = refused int (s ∷ []) go
      where
        go : (z : ℤ) → spell int z ≡ s ∷ [] → fits int z ≡ true → ⊥
        go (pos n) t f = g n (leb-true n i64 f) (piece_is t)
        go (negsuc k) t f = h (sym (ap (λ x. get_or x 0 0) (piece_is t)))

    module _ (d : Option ℕ) (p : d ≡ read (num u64) (s ∷ [])) where
      pub signed_of_law : {E : Type 0} (n : ℕ) → d ≡ Some n → (x : Result ℤ E) → OkIff x (FitsSigned w64 (pos n)) (pos n) → (o : Option ℤ) → o ≡ result_ok x → o ≡ read int (s ∷ [])
      unfolding spell signed fits fits_int limited
      signed_of_law {E} n e x q o h = h ∙ go (leb n i64) refl x q
        where
          b : n ≤ u64
          b = number_bound u64 s d p n e

          r : decimal n ≡ s
          r = number_spelled u64 s d p n e

          go : (t : Bool) → leb n i64 ≡ t → (x : Result ℤ E) → OkIff x (FitsSigned w64 (pos n)) (pos n) → result_ok x ≡ read int (s ∷ [])
          go true l (Err z) q = absurd (q (record { sfits = omega (arith, leb-true n i64 l) }))
          go true l (Ok z) q = rw (accepted int (s ∷ []) refl (pos n) (ap (λ t. t ∷ []) r) l) (ap Some q.1)
          go false l (Err z) q = rw (plus_none (λ m k t. absurd (omega (arith, leb-false n i64 l, same_number m n (omega arith) b (t ∙ sym r)))))
          go false l (Ok z) q = absurd (omega (arith, leb-false n i64 l, q.0.sfits))

      pub signed_not : d ≡ None → None ≡ read int (s ∷ [])
      signed_not e = rw (plus_none (λ n l t. number_not u64 s d p (omega arith) e n (omega arith) t))
