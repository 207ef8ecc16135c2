-- Going along a piece byte by byte: where it ends, and what of it is left. Assumes nothing.
use mathlib.Core.Path.{◌≡◌, refl, sym, ap, ◌∙◌}
use mathlib.Core.Bool.{Bool, true, false, cond, false≢true}
use mathlib.Core.List.{List, [], ◌∷◌, ◌++◌}
use Rattle.std.specs.Prelude.{Some, None}
use Prim.Native.Nat.{ℕ, zero, suc, ◌+◌, ◌-◌, ◌≤◌, ◌<◌}
use native.Mathlib.Numerals.{add-one}
use native.Mathlib.Omega.{arith}
use borrow.Author.Tests.{eq-eqb, ne_eqb, eqb-true, eqb-false, ltb-true, ltb-false}
use lib.Dec.{eqb, ltb}
use lib.ListN.{length, take, drop, get_or}
use Rattle.std.proofs.lemmas.List.{get_or-drop, get_or-take, take_all}
use Rattle.std.proofs.Common.{length-drop}
use lib.Seq.{slice, slice-cons, slice_empty, take-suc, drop-append-le, length-take-le}
use Rattle.model.specs.Text.{Bytes, tab, line_feed}
use Rattle.record.specs.Place.{LineEnd, Fed, FirstSeparator, separates, Ends}

-- ── a byte ──

pub separates_feed : (b : ℕ) → b ≡ line_feed → separates b ≡ true
unfolding separates
separates_feed b e = rw e

pub separates_other : (b : ℕ) → line_feed < b → separates b ≡ false
unfolding separates
separates_other b h = rw (ne_eqb b tab (omega arith), ne_eqb b line_feed (omega arith))

-- the code's tests
pub separates_in : (b : ℕ) → tab ≤ b → b ≤ line_feed → true ≡ separates b
unfolding separates
separates_in b h k = go (eqb b tab) refl
  where
    go : (t : Bool) → eqb b tab ≡ t → true ≡ cond t true (eqb b line_feed)
    go true e = refl
    go false e = let z = eqb-false b tab e in sym (eq-eqb b line_feed (omega arith))

pub separates_low : (b : ℕ) → b < tab → false ≡ separates b
unfolding separates
separates_low b h = rw (ne_eqb b tab (omega arith), ne_eqb b line_feed (omega arith))

pub no_feed : (b : ℕ) → separates b ≡ false → b ≡ line_feed → ⊥
no_feed b e q = false≢true (sym e ∙ separates_feed b q)

-- what separates is a tab, if it is no line feed
pub separates_is : (b : ℕ) → separates b ≡ true → (b ≡ line_feed → ⊥) → b ≡ tab
unfolding separates
separates_is b e h = go (eqb b tab) refl e
  where
    go : (t : Bool) → eqb b tab ≡ t → cond t true (eqb b line_feed) ≡ true → b ≡ tab
    go true q k = eqb-true b tab q
    go false q k = absurd (h (eqb-true b line_feed k))

-- ── a line ──

pub line_on : (s : Bytes) (p e : ℕ) → LineEnd s p e → (get_or s p 0 ≡ line_feed → ⊥) → LineEnd s (p + 1) e
line_on s p e f h =
    let other : p ≡ e → ⊥ = λ q. h (rw (← q) at f.feed) in
    record { from = omega (arith, f.from, other); to = f.to; feed = f.feed; free = λ i a b. f.free i (omega arith) b }

module _ (s : Bytes) (p : ℕ) (f : Fed s p) where
  pub fed_in : p < length s
  fed_in = omega (arith, f.line.from, f.line.to)

  pub fed_on : (get_or s p 0 ≡ line_feed → ⊥) → Fed s (p + 1)
  fed_on h = record { end = f.end; line = line_on s p f.end f.line h }

-- byte k of what is behind place p
pub behind_at : {A : Type 0} (f : ℕ → A) (s : Bytes) (p k : ℕ) → Fed s (p + k) → f (get_or s (p + k) 0) ≡ f (get_or (take (length s - p) (drop p s)) k 0)
behind_at f s p k h =
    let l = fed_in s (p + k) h in
    ap f (sym (get_or-take (length s - p) (drop p s) k 0 (omega arith) ∙ get_or-drop p s k 0))

-- ── a dash that is all of its piece ──

pub dash_some : {t : Bool} {p e : ℕ} → cond t (Some p) None ≡ Some e → (t ≡ true) × (e ≡ p)
dash_some {t} h = go t h
  where
    go : (t : Bool) {p e : ℕ} → cond t (Some p) None ≡ Some e → (t ≡ true) × (e ≡ p)
    go true h = (refl, cc)
    go false h = cc

pub dash_none : {t : Bool} (p : ℕ) → cond t (Some p) None ≡ None → t ≡ false
dash_none {t} p h = go t h
  where
    go : (t : Bool) → cond t (Some p) None ≡ None → t ≡ false
    go true h = cc
    go false h = refl

-- ── a piece ──

-- no separator from p up to i
pub record Along (s : Bytes) (p i : ℕ) : Type 0 where
  pub from : p ≤ i
  pub free : (j : ℕ) → p ≤ j → j < i → separates (get_or s j 0) ≡ false

module _ (s : Bytes) (p : ℕ) where
  pub along_start : Along s p p
  along_start = record { from = omega arith; free = λ j a b. absurd (omega arith) }

  module _ (i : ℕ) (l : Along s p i) where
    pub along_on : separates (get_or s i 0) ≡ false → Along s p (i + 1)
    along_on h = record { from = omega (arith, l.from); free = λ j a b. go j a b (ltb j i) refl }
      where
        go : (j : ℕ) → p ≤ j → j < i + 1 → (t : Bool) → ltb j i ≡ t → separates (get_or s j 0) ≡ false
        go j a b true q = l.free j a (ltb-true j i q)
        go j a b false q = let up = ltb-false j i q in let e : j ≡ i = omega arith in rw e h

    -- a piece that ends from i on ends so from p on
    pub along_back : (r : ℕ) → Ends s i r → Ends s p r
    along_back r h = record { from = omega (arith, l.from, h.from); to = h.to; free = λ j a b. go j a b (ltb j i) refl; stop = h.stop }
      where
        go : (j : ℕ) → p ≤ j → j < r → (t : Bool) → ltb j i ≡ t → separates (get_or s j 0) ≡ false
        go j a b true q = l.free j a (ltb-true j i q)
        go j a b false q = h.free j (ltb-false j i q) b

    pub along_ends : (r : ℕ) → Ends s p r → Ends s i r
    along_ends r h = record { from = go (ltb r i) refl; to = h.to; free = λ j a b. h.free j (omega (arith, l.from)) b; stop = h.stop }
      where
        go : (t : Bool) → ltb r i ≡ t → i ≤ r
        go true q = absurd (false≢true (sym (l.free r h.from (ltb-true r i q)) ∙ h.stop))
        go false q = ltb-false r i q

pub ends_here : (s : Bytes) (i : ℕ) → Fed s i → separates (get_or s i 0) ≡ true → Ends s i i
ends_here s i f h = record { from = omega arith; to = fed_in s i f; free = λ j a b. absurd (omega arith); stop = h }

-- a byte that no piece ends at, and the place behind it
module _ (s : Bytes) (p : ℕ) (f : Fed s p) (h : line_feed < get_or s p 0) where
  pub byte_past : separates (get_or s p 0) ≡ false
  byte_past = separates_other (get_or s p 0) h

  pub byte_fed : Fed s (p + 1)
  byte_fed = fed_on s p f (no_feed (get_or s p 0) byte_past)

  pub byte_alone : separates (get_or s (p + 1) 0) ≡ true → Ends s p (p + 1)
  byte_alone z = along_back s p (p + 1) (along_on s p p (along_start s p) byte_past) (p + 1) (ends_here s (p + 1) byte_fed z)

module _ (s : Bytes) (i q : ℕ) (e : Ends s i q) where
  -- at a separator the piece ends
  pub ends_same : separates (get_or s i 0) ≡ true → q ≡ i
  ends_same h = go (ltb i q) refl
    where
      go : (t : Bool) → ltb i q ≡ t → q ≡ i
      go true l = absurd (false≢true (sym (e.free i (omega arith) (ltb-true i q l)) ∙ h))
      go false l = let up = ltb-false i q l in omega (arith, e.from)

  module _ (h : separates (get_or s i 0) ≡ false) where
    pub ends_later : i < q
    ends_later =
        let other : q ≡ i → ⊥ = λ k. false≢true (sym h ∙ rw k at e.stop) in
        omega (arith, e.from, other)

    pub ends_next : Ends s (i + 1) q
    ends_next = along_ends s i (i + 1) (along_on s i i (along_start s i) h) q e

    pub ends_cons : slice i q s ≡ get_or s i 0 ∷ slice (i + 1) q s
    ends_cons = rw (add-one i) (slice-cons i q s 0 ends_later (omega (arith, e.to)))

  pub ends_none : separates (get_or s i 0) ≡ true → slice i q s ≡ []
  ends_none h = rw (ends_same h) (slice_empty i s)

-- a piece has one end
pub ends_alike : (s : Bytes) (p q r : ℕ) → Ends s p q → Ends s p r → q ≡ r
ends_alike s p q r g h = go (ltb q r) refl (ltb r q) refl
  where
    go : (t : Bool) → ltb q r ≡ t → (u : Bool) → ltb r q ≡ u → q ≡ r
    go true a u b = absurd (false≢true (sym (h.free q g.from (ltb-true q r a)) ∙ g.stop))
    go false a true b = absurd (false≢true (sym (g.free r h.from (ltb-true r q b)) ∙ h.stop))
    go false a false b = let x = ltb-false q r a in let y = ltb-false r q b in omega arith

-- every piece of a line ends
pub there : (s : Bytes) (p e : ℕ) → LineEnd s p e → (r : ℕ) × Ends s p r
there s p e f = go (e - p) p f (omega arith)
  where
    here : (p : ℕ) → LineEnd s p e → separates (get_or s p 0) ≡ true → (r : ℕ) × Ends s p r
    here p f k = (p, ends_here s p (record { end = e; line = f }) k)

    step : (p : ℕ) → LineEnd s p e → (t : Bool) → separates (get_or s p 0) ≡ t → (LineEnd s (p + 1) e → (r : ℕ) × Ends s (p + 1) r) → (r : ℕ) × Ends s p r
    step p f true k ih = here p f k
    step p f false k ih = let r = ih (line_on s p e f (no_feed (get_or s p 0) k)) in (r.0, along_back s p (p + 1) (along_on s p p (along_start s p) k) r.0 r.1)

    go : (n p : ℕ) → LineEnd s p e → e - p ≤ n → (r : ℕ) × Ends s p r
    go zero p f h = let q : p ≡ e = omega (arith, f.from) in here p f (rw q (separates_feed (get_or s e 0) f.feed))
    go (suc n) p f h = step p f (separates (get_or s p 0)) refl (λ g. go n (p + 1) g (omega (arith, g.from)))

-- one byte more
pub slice_snoc : {A : Type 0} (f i : ℕ) (l : List A) (d : A) → f ≤ i → i < length l → slice f (i + 1) l ≡ slice f i l ++ (get_or l i d ∷ [])
slice_snoc f i l d h k =
    rw (add-one i, take-suc l i d k) (drop-append-le f (take i l) (get_or l i d ∷ []) (rw (length-take-le i l (omega arith)) h))

-- ── the search for a piece's end ──

module _ (s : Bytes) (p : ℕ) (f : Fed s p) where
  abbrev rest : Bytes
  rest = take (length s - p) (drop p s)

  rest_all : rest ≡ drop p s
  rest_all = take_all (length s - p) (drop p s) (omega (arith, length-drop p s))

  byte_in : (k : ℕ) → separates (get_or s (p + k) 0) ≡ separates (get_or (drop p s) k 0)
  byte_in k = ap separates (sym (get_or-drop p s k 0))

  -- the first separator of what is behind a place ends the piece there
  pub first_ends : {z : ℕ} → FirstSeparator rest (Some z) → Ends s p (p + z)
  first_ends {z} h =
      let g : FirstSeparator (drop p s) (Some z) = rw rest_all at h in
      record {
        from = omega arith;
        to = omega (arith, g.0, length-drop p s);
        free = λ j a b.
            let e : p + (j - p) ≡ j = omega arith in
            rw e at (byte_in (j - p) ∙ g.2 (j - p) (omega arith));
        stop = byte_in z ∙ g.1;
      }

  pub first_none : FirstSeparator rest None → ⊥
  first_none h =
      let g : FirstSeparator (drop p s) None = rw rest_all at h in
      let e : p + (f.end - p) ≡ f.end = omega (arith, f.line.from) in
      let n : separates (get_or s f.end 0) ≡ false = rw e at (byte_in (f.end - p) ∙ g (f.end - p) (omega (arith, f.line.from, f.line.to, length-drop p s))) in
      false≢true (sym n ∙ separates_feed (get_or s f.end 0) f.line.feed)

-- ── going on byte by byte until a piece's end ──

pub record Passing (s : Bytes) (p i : ℕ) : Type 0 where
  pub fed : Fed s i
  pub along : Along s p i

pub pass_start : (s : Bytes) (p : ℕ) → Fed s p → Passing s p p
pass_start s p f = record { fed = f; along = along_start s p }

module _ (s : Bytes) (p i : ℕ) (g : Passing s p i) (t : Bool) (e : t ≡ separates (get_or s i 0)) where
  pub pass_on : t ≡ false → Passing s p (i + 1)
  pass_on z = record { fed = fed_on s i g.fed (no_feed (get_or s i 0) (sym e ∙ z)); along = along_on s p i g.along (sym e ∙ z) }

  pub pass_done : t ≡ true → Ends s p i
  pass_done z = along_back s p i g.along i (ends_here s i g.fed (sym e ∙ z))
