-- The end of a piece, and the pieces from a place on: the first of them, and those behind it. Assumes nothing.
use mathlib.Core.Path.{◌≡◌, refl, sym, ap, ◌∙◌}
use Prim.Native.Nat.{ℕ, zero, suc, ◌+◌, ◌-◌, ◌<◌, ◌≤◌}
use mathlib.Core.Bool.{Bool, true, false, cond}
use mathlib.Core.List.{[], ◌∷◌, ◌++◌, append-nil}
use native.Mathlib.Nat.{add-zero}
use native.Mathlib.Numerals.{add-one}
use native.Mathlib.Omega.{arith}
use borrow.Author.Tests.{lt-ltb, le-ltb, ltb-true, ltb-false}
use lib.Dec.{eqb, ltb}
use lib.ListN.{length, take, drop, get_or, take-append-drop}
use lib.Seq.{slice, length-take-le, take-take, drop-append-le, slice-cons, slice_empty}
use Rattle.model.specs.Text.{Bytes, tab, line_feed, split}
use Rattle.laws.specs.TextLaws.{Free, each[], ◌each∷◌, split_append, split_line}
use Rattle.record.specs.Place.{LineEnd, Fed, Ends, separates}
use Rattle.record.proofs.PlaceLaws.{no_feed, separates_is}
use Rattle.words.specs.Words.{pieces_of}
use Rattle.line.specs.Place.{pieces_at, PieceAt}

-- a part in two
pub slice_two : (p r e : ℕ) (s : Bytes) → p ≤ r → r ≤ e → e ≤ length s → slice p e s ≡ slice p r s ++ slice r e s
slice_two p r e s h k l =
    let cut : take e s ≡ take r s ++ slice r e s = sym (take-append-drop r (take e s)) ∙ ap (λ t. t ++ slice r e s) (take-take r e s k) in
    let long : p ≤ length (take r s) = omega (arith, length-take-le r s (omega arith)) in
    ap (drop p) cut ∙ drop-append-le p (take r s) (slice r e s) long

-- ── the end of a piece ──

-- bytes that are no separator, as a text
pub free_of : (sep : ℕ) (s : Bytes) (n p : ℕ) → p + n ≤ length s → ((i : ℕ) → p ≤ i → i < p + n → eqb (get_or s i 0) sep ≡ false) → Free sep (slice p (p + n) s)
free_of sep s zero p h k = rw (add-zero p, slice_empty p s) each[]
free_of sep s (suc n) p h k =
    let sum : p + suc n ≡ suc p + n = omega arith in
    let behind : Free sep (slice (suc p) (p + suc n) s) = rw sum (free_of sep s n (suc p) (omega arith) (λ i a b. k i (omega arith) (omega arith))) in
    let whole : Free sep (get_or s p 0 ∷ slice (suc p) (p + suc n) s) = k p (omega arith) (omega arith) each∷ behind in
    rw (slice-cons p (p + suc n) s 0 (omega arith) h) whole

no_tab : (b : ℕ) → separates b ≡ false → eqb b tab ≡ false
unfolding separates
no_tab b h = go (eqb b tab) h
  where
    go : (t : Bool) → cond t true (eqb b line_feed) ≡ false → t ≡ false
    go true h = h
    go false h = refl

module _ (sheet : Bytes) (p e : ℕ) (l : LineEnd sheet p e) where
  module _ (r : ℕ) (h : Ends sheet p r) where
    r_low : r ≤ e
    r_low = go (ltb e r) refl
      where
        go : (t : Bool) → ltb e r ≡ t → r ≤ e
        go true q = absurd (no_feed (get_or sheet e 0) (h.free e l.from (ltb-true e r q)) l.feed)
        go false q = ltb-false e r q

    tab_at : r < e → get_or sheet r 0 ≡ tab
    tab_at k = separates_is (get_or sheet r 0) h.stop (λ z. l.free r h.from k z)

    pub piece_at : PieceAt sheet p e r
    piece_at =
        let sum : p + (r - p) ≡ r = omega (arith, h.from) in
        record {
          from = h.from;
          to = r_low;
          free = rw sum at (free_of tab sheet (r - p) p (omega (arith, h.from, h.to)) (λ i a b. no_tab (get_or sheet i 0) (h.free i a (omega (arith, h.from)))));
          stop = tab_at;
        }

    pub line_at : LineEnd sheet r e
    line_at = record { from = r_low; to = l.to; feed = l.feed; free = λ i a b. l.free i (omega (arith, h.from)) b }

    -- behind a tab the line goes on
    pub line_behind : get_or sheet r 0 ≡ tab → LineEnd sheet (r + 1) e
    line_behind z =
        let other : r ≡ e → ⊥ = λ q. omega (arith, z, rw (← q) at l.feed) in
        record { from = omega (arith, r_low, other); to = l.to; feed = l.feed; free = λ i a b. l.free i (omega (arith, h.from)) b }

    -- a piece that ends at no tab ends the line
    pub line_done : (get_or sheet r 0 ≡ tab → ⊥) → r ≡ e
    line_done z = go (ltb r e) refl
      where
        go : (t : Bool) → ltb r e ≡ t → r ≡ e
        go true q = absurd (z (tab_at (ltb-true r e q)))
        go false q = let up = ltb-false r e q in omega (arith, r_low)

pub fed_at : (sheet : Bytes) (p r : ℕ) → Fed sheet p → Ends sheet p r → Fed sheet r
fed_at sheet p r f h = record { end = f.end; line = line_at sheet p f.end f.line r h }

pub fed_behind : (sheet : Bytes) (p r : ℕ) → Fed sheet p → Ends sheet p r → get_or sheet r 0 ≡ tab → Fed sheet (r + 1)
fed_behind sheet p r f h z = record { end = f.end; line = line_behind sheet p f.end f.line r h z }

-- ── the pieces from a place on ──

pub none_left : (sheet : Bytes) (p e : ℕ) → e < p → pieces_at sheet p e ≡ []
unfolding pieces_at
none_left sheet p e h = rw (lt-ltb e p h)

-- a piece free of tabs, up to a tab
tab_behind : (s : Bytes) (r d : ℕ) → r < d → d ≤ length s → get_or s r 0 ≡ tab → slice r d s ≡ tab ∷ slice (r + 1) d s
tab_behind s r d h k e = rw (add-one r) (rw e at (slice-cons r d s 0 h k))

pieces_split : (s t : Bytes) → Free tab s → pieces_of (s ++ (tab ∷ t)) ≡ s ∷ pieces_of t
unfolding pieces_of
pieces_split s t h = rw (split_line tab s t h)

pub pieces_last : (s : Bytes) → Free tab s → pieces_of s ≡ s ∷ []
unfolding pieces_of split
pieces_last s h = rw (append-nil s) at (ap (λ p. p.first ∷ p.more) (split_append tab s [] h))

pub some_left : (sheet : Bytes) (p e : ℕ) → p ≤ e → pieces_at sheet p e ≡ pieces_of (slice p e sheet)
unfolding pieces_at
some_left sheet p e h = rw (le-ltb e p h)

module _ (sheet : Bytes) (p e r : ℕ) (h : e ≤ length sheet) (f : PieceAt sheet p e r) where
  -- a piece and those behind it, in the line or in a part of it
  pub pieces_from : (d : ℕ) → r ≤ d → d ≤ e → pieces_at sheet p d ≡ slice p r sheet ∷ pieces_at sheet (r + 1) d
  pieces_from d k l = go (ltb r d) refl
    where
      go : (t : Bool) → ltb r d ≡ t → pieces_at sheet p d ≡ slice p r sheet ∷ pieces_at sheet (r + 1) d
      go true q =
          let low : r < d = ltb-true r d q in
          let behind : slice r d sheet ≡ tab ∷ slice (r + 1) d sheet = tab_behind sheet r d low (omega arith) (f.stop (omega arith)) in
          let two : slice p d sheet ≡ slice p r sheet ++ (tab ∷ slice (r + 1) d sheet) = slice_two p r d sheet f.from k (omega arith) ∙ ap (λ t. slice p r sheet ++ t) behind in
          some_left sheet p d (omega (arith, f.from)) ∙ ap pieces_of two ∙ pieces_split (slice p r sheet) (slice (r + 1) d sheet) f.free
          ∙ ap (λ t. slice p r sheet ∷ t) (sym (some_left sheet (r + 1) d (omega arith)))
      go false q =
          let high : d ≤ r = ltb-false r d q in
          let same : d ≡ r = omega arith in
          some_left sheet p d (omega (arith, f.from)) ∙ ap (λ n. pieces_of (slice p n sheet)) same ∙ pieces_last (slice p r sheet) f.free
          ∙ ap (λ t. slice p r sheet ∷ t) (sym (none_left sheet (r + 1) d (omega arith)))
