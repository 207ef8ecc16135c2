-- No byte of the names is escaped, so that a name of the sheet is one of them exactly if what it spells is. Assumes nothing: every law is proved.
use mathlib.Core.Path.{◌≡◌, refl, sym, ap, ◌∙◌}
use Prim.Native.Nat.{ℕ, ◌≤◌}
use native.Mathlib.Omega.{arith}
use mathlib.Core.Bool.{Bool, true, false, ◌&&◌}
use mathlib.Core.List.{List, [], ◌∷◌, tail, append-nil}
use lib.Dec.{eqb, ltb}
use lib.Seq.{slice}
use borrow.Author.Tests.{eqb-true, ne_eqb, ltb-true}
use Rattle.model.specs.Text.{Bytes, bytes, bytes_from, same, same_by, join, behind, tab, line_feed, backslash, escape, escape_byte, unescape}
use Rattle.model.specs.Field.{text, spell}
use Rattle.model.specs.Lower.{lowercase, among, aggregates, is_aggregate_func}
use Rattle.laws.specs.TextLaws.{and_left, and_right, every, join_split}
use Rattle.words.specs.Words.{field_of, pieces_of}
use Rattle.words.specs.Held.{PlaceAt}
use Rattle.aggregate.proofs.NameLaws.{lowered}

-- every byte is above the backslash
abbrev high : Bytes → Bool
high u = every (λ c. ltb backslash c) u

low_other : (b c : ℕ) → b ≤ backslash → ltb backslash c ≡ true → eqb b c ≡ false
low_other b c h e = ne_eqb b c (omega (arith, ltb-true backslash c e))

module _ (b : ℕ) (v : Bytes) where
  same_escape_byte : (c : ℕ) (u : Bytes) → ltb backslash c ≡ true → same (lowered (escape v)) u ≡ same (lowered v) u → same (lowered (escape (b ∷ v))) (c ∷ u) ≡ same (lowered (b ∷ v)) (c ∷ u)
  unfolding same same_by escape escape_byte lowercase
  same_escape_byte c u t h = go (eqb b tab) refl (eqb b line_feed) refl (eqb b backslash) refl
    where
      go : (p : Bool) → eqb b tab ≡ p → (q : Bool) → eqb b line_feed ≡ q → (r : Bool) → eqb b backslash ≡ r → same (lowered (escape (b ∷ v))) (c ∷ u) ≡ same (lowered (b ∷ v)) (c ∷ u)
      go true e q f r g = rw (eqb-true b tab e, low_other backslash c (omega arith) t, low_other tab c (omega arith) t)
      go false e true f r g = rw (eqb-true b line_feed f, low_other backslash c (omega arith) t, low_other line_feed c (omega arith) t)
      go false e false f true g = rw (eqb-true b backslash g, low_other backslash c (omega arith) t)
      go false e false f false g = rw (e, f, g) (ap (λ x. eqb (lowercase b) c && x) h)

  same_escape_none : same (lowered (escape (b ∷ v))) [] ≡ false
  unfolding same same_by escape escape_byte
  same_escape_none = go (eqb b tab) refl (eqb b line_feed) refl (eqb b backslash) refl
    where
      go : (p : Bool) → eqb b tab ≡ p → (q : Bool) → eqb b line_feed ≡ q → (r : Bool) → eqb b backslash ≡ r → same (lowered (escape (b ∷ v))) [] ≡ false
      go true e q f r g = rw e
      go false e true f r g = rw (e, f)
      go false e false f true g = rw (e, f, g)
      go false e false f false g = rw (e, f, g)

same_escape : (v u : Bytes) → high u ≡ true → same (lowered (escape v)) u ≡ same (lowered v) u
unfolding same same_by escape every
same_escape [] u h = refl
same_escape (b ∷ v) [] h = same_escape_none b v
same_escape (b ∷ v) (c ∷ u) h = same_escape_byte b v c u (and_left _ _ h) (same_escape v u (and_right (ltb backslash c) _ h))

among_escape : (v : Bytes) (us : List Bytes) → every (λ u. high u) us ≡ true → among (lowered (escape v)) us ≡ among (lowered v) us
unfolding among every
among_escape v [] h = refl
among_escape v (u ∷ us) h = rw (same_escape v u (and_left _ _ h), among_escape v us (and_right (high u) _ h))

names_high : every (λ u. high u) aggregates ≡ true
unfolding every aggregates bytes bytes_from
names_high = refl

-- a name of the sheet is spelled as the sheet has it
place_escape : {sheet : Bytes} {x y : ℕ} → PlaceAt text sheet x y → escape (unescape (slice x y sheet)) ≡ slice x y sheet
unfolding spell field_of pieces_of join behind
place_escape {sheet} {x} {y} h = sym (append-nil (escape (unescape (slice x y sheet)))) ∙ ap (λ l. tail (behind tab l)) h.spelled ∙ join_split tab (slice x y sheet)

pub by_place : (sheet : Bytes) (x y : ℕ) → PlaceAt text sheet x y → among (lowered (slice x y sheet)) aggregates ≡ is_aggregate_func (field_of text sheet x y)
unfolding is_aggregate_func field_of
by_place sheet x y h = ap (λ s. among (lowered s) aggregates) (sym (place_escape h)) ∙ among_escape (unescape (slice x y sheet)) aggregates names_high
