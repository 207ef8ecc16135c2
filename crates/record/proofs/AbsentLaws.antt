-- A dash, and a number or a dash: what the definition reads, in the terms of the code. Assumes nothing.
use mathlib.Core.Path.{◌≡◌, refl, sym, ap, ◌∙◌}
use mathlib.Core.Bool.{Bool, true, false, cond, ◌&&◌, and-false}
use mathlib.Core.List.{[], ◌∷◌}
use Rattle.std.specs.Prelude.{Option, None, Some}
use Prim.Native.Nat.{ℕ, ◌+◌, ◌<◌, ◌≤◌}
use native.Mathlib.Omega.{arith}
use borrow.Author.Tests.{ne_eqb}
use lib.Dec.{eqb, leb}
use lib.ListN.{length, get_or}
use lib.Seq.{slice}
use Rattle.model.specs.Text.{Bytes, line_feed, same, same_by, decimal, value, dash, minus}
use Rattle.model.specs.Field.{num, u32, num_or_absent, read, meaning, piece, spell, spell_option, fits, fits_option, option_value}
use Rattle.laws.specs.TextLaws.{same_sound}
use Rattle.record.specs.declared.piece.Piece.{Piece}
use Rattle.record.specs.Place.{Fed, separates, Ends}
use Rattle.record.specs.InPlace.{NumberAt, OptNumberAt}
use Rattle.record.proofs.PlaceLaws.{byte_past, byte_alone, ends_next, ends_cons, ends_none}
use Rattle.record.proofs.GatherLaws.{value_below}
use Rattle.record.proofs.DecimalLaws.{decimal_none}

-- ── a dash ──

pub dash_not : (s : Bytes) → (length s ≡ 1 → ⊥) → false ≡ same s dash
unfolding same same_by
dash_not [] h = refl
dash_not (b ∷ []) h = absurd (h refl)
dash_not (b ∷ c ∷ s) h = sym (and-false (eqb b minus))

pub dash_first : (b : ℕ) (s : Bytes) → (b ≡ minus → ⊥) → false ≡ same (b ∷ s) dash
unfolding same same_by
dash_first b s h = rw (ne_eqb b minus h)

-- ── a number, or a dash ──

lift : Option ℕ → Option (Option ℕ)
lift (Some n) = Some (Some n)
lift None = None

-- what is no dash is read as a number
option_number : (limit : ℕ) (s : Bytes) → same s dash ≡ false → read (num_or_absent limit) (s ∷ []) ≡ lift (read (num limit) (s ∷ []))
unfolding read meaning piece option_value fits fits_option spell spell_option lift
option_number limit s e = rw e (go (leb (value s) limit && same_by (λ s t. same s t) (decimal (value s) ∷ []) (s ∷ [])))
  where
    go : (t : Bool) → cond t (Some (Some (value s))) None ≡ lift (cond t (Some (value s)) None)
    go true = refl
    go false = refl

module _ (limit : ℕ) (s : Bytes) (a : Bool) (p : a ≡ same s dash) where
  pub absent_of : a ≡ true → Some None ≡ read (num_or_absent limit) (s ∷ [])
  unfolding read meaning piece option_value fits fits_option spell spell_option same same_by
  absent_of e = rw (same_sound s dash (sym p ∙ e))

  module _ (e : a ≡ false) (d : Option ℕ) (q : d ≡ read (num limit) (s ∷ [])) where
    pub present_of : (n : ℕ) → d ≡ Some n → Some (Some n) ≡ read (num_or_absent limit) (s ∷ [])
    unfolding lift
    present_of n k = sym (option_number limit s (sym p ∙ e) ∙ ap lift (sym q ∙ k))

    pub neither_of : d ≡ None → None ≡ read (num_or_absent limit) (s ∷ [])
    unfolding lift
    neither_of k = sym (option_number limit s (sym p ∙ e) ∙ ap lift (sym q ∙ k))

-- ── in place ──

dash_is : true ≡ same dash dash
unfolding same same_by
dash_is = refl

-- a dash, and the place behind it
module _ (s : Bytes) (p : ℕ) (f : Fed s p) (e : get_or s p 0 ≡ minus) where
  dash_high : line_feed < get_or s p 0
  dash_high = omega arith

  pub dash_past : separates (get_or s p 0) ≡ false
  dash_past = byte_past s p f dash_high

  pub dash_alone : separates (get_or s (p + 1) 0) ≡ true → Ends s p (p + 1)
  dash_alone z = byte_alone s p f dash_high z

module _ (limit : ℕ) (l : limit ≤ u32) (s : Bytes) (p : ℕ) (f : Fed s p) where
  module _ (e : get_or s p 0 ≡ minus) where
    past : separates (get_or s p 0) ≡ false
    past = dash_past s p f e

    pub absent_at : (t : Bool) → t ≡ separates (get_or s (p + 1) 0) → t ≡ true → OptNumberAt limit s p (Some (record { value = None; end = p + 1 }))
    absent_at t g o =
        record {
          is = λ q h. rw (ends_cons s p q h past, ends_none s (p + 1) q (ends_next s p q h past) (sym g ∙ o), e) (absent_of limit dash true dash_is refl);
          ends = dash_alone s p f e (sym g ∙ o);
        }

    pub dash_spare : (t : Bool) → t ≡ separates (get_or s (p + 1) 0) → t ≡ false → OptNumberAt limit s p None
    dash_spare t g o =
        record {
          is = λ q h.
              rw (ends_cons s p q h past, ends_cons s (p + 1) q (ends_next s p q h past) (sym g ∙ o))
              (neither_of limit _ false (dash_not _ (λ z. omega arith)) refl None
              (rw (ends_cons s p q h past, ends_cons s (p + 1) q (ends_next s p q h past) (sym g ∙ o)) at ((decimal_none limit l s p f (value_below (get_or s p 0) (omega arith))).is q h)) refl);
          ends = tt;
        }

  module _ (e : get_or s p 0 ≡ minus → ⊥) (a : Option (Piece ℕ)) (d : NumberAt limit s p a) where
    no_dash : (q : ℕ) → Ends s p q → false ≡ same (slice p q s) dash
    no_dash q h = go (separates (get_or s p 0)) refl
      where
        go : (t : Bool) → separates (get_or s p 0) ≡ t → false ≡ same (slice p q s) dash
        go true z = rw (ends_none s p q h z) (dash_not [] (λ k. omega arith))
        go false z = rw (ends_cons s p q h z) (dash_first (get_or s p 0) (slice (p + 1) q s) e)

    pub present_at : (n : Piece ℕ) → a ≡ Some n → OptNumberAt limit s p (Some (record { value = Some n.value; end = n.end }))
    present_at n z = let g = rw z at d in record { is = λ q h. present_of limit (slice p q s) false (no_dash q h) refl (Some n.value) (g.is q h) n.value refl; ends = g.ends }

    pub neither_at : a ≡ None → OptNumberAt limit s p None
    neither_at z = let g = rw z at d in record { is = λ q h. neither_of limit (slice p q s) false (no_dash q h) refl None (g.is q h) refl; ends = tt }
