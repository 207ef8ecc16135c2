-- Places in a sheet: where a line ends, where a piece of it ends, and what is read of the piece at a place. Assumes nothing: these are definitions, and the proof that a line has its line feed in one way.
use Rattle.std.specs.Prelude.{◌≡◌, Bool, true, false, cond, ℕ, ◌≤◌, ◌<◌, eqb, ltb, length, get_or, Option, None, Some, refl, MatchOption}
use Rattle.std.specs.Coded.{le_prop}
use Rattle.std.proofs.Common.{arith}
use borrow.Author.Tests.{ltb-true, ltb-false}
use native.Mathlib.Nat.{ℕ_set}
use mathlib.Core.HLevel.{is_prop→PathP, ⊥_prop}
use Rattle.std.proofs.Math.Seq.{slice}
use Rattle.model.specs.Text.{Bytes, tab, line_feed}

-- the line that place p is in ends at e: the first line feed from p on stands there
pub record LineEnd (s : Bytes) (p e : ℕ) : Type 0 where
  pub from : p ≤ e
  pub to : e < length s
  pub feed : get_or s e 0 ≡ line_feed
  pub free : (i : ℕ) → p ≤ i → i < e → get_or s i 0 ≡ line_feed → ⊥

-- place p is in a line that has its line feed
pub record Fed (s : Bytes) (p : ℕ) : Type 0 where
  pub end : ℕ
  pub line : LineEnd s p end

-- a line ends at one place, so that there is one way to have its line feed
pub end_alike : (s : Bytes) (p e f : ℕ) → LineEnd s p e → LineEnd s p f → e ≡ f
end_alike s p e f x y = go (ltb e f) refl (ltb f e) refl
  where
    go : (t : Bool) → ltb e f ≡ t → (u : Bool) → ltb f e ≡ u → e ≡ f
    go true a u b = absurd (y.free e x.from (ltb-true e f a) x.feed)
    go false a true b = absurd (x.free f y.from (ltb-true f e b) y.feed)
    go false a false b = let up = ltb-false e f a in let down = ltb-false f e b in omega arith

pub LineEnd-prop : (s : Bytes) (p e : ℕ) → IsProp (LineEnd s p e)
LineEnd-prop s p e a b = λ i. record {
  from = le_prop a.from b.from i;
  to = le_prop a.to b.to i;
  feed = ℕ_set _ _ a.feed b.feed i;
  free = λ j x y z. ⊥_prop (a.free j x y z) (b.free j x y z) i;
}

pub Fed-prop : (s : Bytes) (p : ℕ) → IsProp (Fed s p)
Fed-prop s p a b =
    let e = end_alike s p a.end b.end a.line b.line in
    λ i. record { end = e i; line = is_prop→PathP (λ j. LineEnd s p (e j)) (λ j. LineEnd-prop s p (e j)) a.line b.line i }

-- a piece ends at a tab or at a line feed
unfoldable pub separates : ℕ → Bool
separates b = cond (eqb b tab) true (eqb b line_feed)

-- the piece that begins at p ends at r
pub record Ends (s : Bytes) (p r : ℕ) : Type 0 where
  pub from : p ≤ r
  pub to : r < length s
  pub free : (i : ℕ) → p ≤ i → i < r → separates (get_or s i 0) ≡ false
  pub stop : separates (get_or s r 0) ≡ true

abbrev pub EndsAt : Bytes → ℕ → Option ℕ → Type 0
EndsAt s p None = Unit {0}
EndsAt s p (Some r) = Ends s p r

-- the first separator of a text stands at r
abbrev pub FirstSeparator : Bytes → Option ℕ → Type 0
FirstSeparator s r = MatchOption r ((i : ℕ) → i < length s → separates (get_or s i 0) ≡ false) (λ z. (z < length s) × (separates (get_or s z 0) ≡ true) × ((i : ℕ) → i < z → separates (get_or s i 0) ≡ false))

-- what is said of the piece at p is what is read of it; and where it ends, if that is told
pub record ReadAt {A : Type 0} (s : Bytes) (p : ℕ) (reads : Bytes → A) (said : A) (place : Option ℕ) : Type 0 where
  pub is : (r : ℕ) → Ends s p r → said ≡ reads (slice p r s)
  pub ends : EndsAt s p place
