-- Looking for a keyword among the kinds of a sort, from the first on. Assumes nothing.
use mathlib.Core.Path.{◌≡◌, refl, sym, ◌∙◌}
use Prim.Native.Nat.{ℕ, zero, suc, ◌+◌, ◌-◌, ◌<◌, ◌≤◌}
use mathlib.Core.Bool.{Bool, true, false, cond}
use Rattle.std.specs.Prelude.{Option, None, Some}
use native.Mathlib.Omega.{arith}
use native.Mathlib.Nat.{add-zero}
use borrow.Author.Tests.{eq-eqb, ne_eqb, eqb-true, eqb-false, le-ltb}
use lib.Dec.{eqb}
use lib.ListN.{length, get_or, drop, drop_of_length-le}
use Rattle.model.specs.Text.{Bytes, same}
use Rattle.model.specs.Record.{kinds, keyword, kind_named}
use Rattle.words.specs.Words.{first_kind, kind_of}
use Rattle.words.specs.Places.{sort_count}
use Rattle.words.specs.Table.{sort_of, first, keys}
use Rattle.words.specs.TableLaws.{Row, Nth, nth_row, tabled}
use Rattle.line.specs.Kinds.{Packed, Named, keyed, keyed_from}
use Rattle.line.proofs.PackLaws.{packed_up}

-- the kinds before number k do not have the keyword w
record Looking (n : ℕ) (w : Bytes) (x end k : ℕ) : Type 0 where
  pub known : n < sort_count
  pub tells : Packed w x
  pub low : first_kind (sort_of n) ≤ k
  pub high : k ≤ end
  pub ends : end ≡ first_kind (sort_of n) + length (kinds (sort_of n))
  pub remains : kind_named (sort_of n) w (drop (k - first_kind (sort_of n)) (kinds (sort_of n))) ≡ kind_named (sort_of n) w (kinds (sort_of n))

module _ (n : ℕ) (w : Bytes) (x end k : ℕ) where
  look_first : n < sort_count → Packed w x → end ≡ get_or first (n + 1) 0 → k ≡ get_or first n 0 → Looking n w x end k
  look_first h t e f =
      let from : k ≡ first_kind (sort_of n) = f ∙ (tabled n h).from in
      let to : end ≡ first_kind (sort_of n) + length (kinds (sort_of n)) = e ∙ (tabled n h).to in
      let none_yet : k - first_kind (sort_of n) ≡ 0 = omega arith in
      record { known = h; tells = t; low = omega arith; high = omega arith; ends = to; remains = rw none_yet }

  module _ (l : Looking n w x end k) where
    at : k < end → Nth (sort_of n) (λ m j. Row (sort_of n) m j) (first_kind (sort_of n)) (kinds (sort_of n)) (k - first_kind (sort_of n))
    at h = nth_row (tabled n l.known).rows (k - first_kind (sort_of n)) (omega (arith, l.ends, l.low))

    here : (h : k < end) → Row (sort_of n) k (at h).kind
    here h =
        let sum : first_kind (sort_of n) + (k - first_kind (sort_of n)) ≡ k = omega (arith, l.low) in
        rw sum at (at h).row

    number : (h : k < end) → kind_of (sort_of n) k ≡ Some (at h).kind
    unfolding kind_of
    number h = rw (le-ltb k (first_kind (sort_of n)) l.low) (at h).is

    test : (h : k < end) → eqb x (get_or keys k 0) ≡ same w (keyword (sort_of n) (at h).kind)
    test h = rw (here h).key (l.tells.tells (keyword (sort_of n) (at h).kind) (here h).plain)

    step : (h : k < end) → cond (same w (keyword (sort_of n) (at h).kind)) (Some (at h).kind) (kind_named (sort_of n) w (drop (suc (k - first_kind (sort_of n))) (kinds (sort_of n)))) ≡ kind_named (sort_of n) w (kinds (sort_of n))
    unfolding kind_named
    step h = rw (at h).onward at l.remains

    look_here : k < end → get_or keys k 0 ≡ x → Named (sort_of n) w (Some k)
    look_here h e =
        let found : same w (keyword (sort_of n) (at h).kind) ≡ true = sym (test h) ∙ eq-eqb x _ (sym e) in
        record { is = sym (rw found at (step h)) ∙ sym (number h); known = ((at h).kind, number h) }

    look_past : k < end → (get_or keys k 0 ≡ x → ⊥) → Looking n w x end (k + 1)
    look_past h e =
        let other : same w (keyword (sort_of n) (at h).kind) ≡ false = sym (test h) ∙ ne_eqb x _ (λ q. e (sym q)) in
        let later : k + 1 - first_kind (sort_of n) ≡ suc (k - first_kind (sort_of n)) = omega (arith, l.low) in
        record { known = l.known; tells = l.tells; low = omega (arith, l.low); high = omega arith; ends = l.ends; remains = rw later (rw other at (step h)) }

    look_none : end ≤ k → Named (sort_of n) w None
    unfolding kind_named
    look_none h =
        let past : length (kinds (sort_of n)) ≤ k - first_kind (sort_of n) = omega (arith, l.ends) in
        record { is = sym (rw (drop_of_length-le (kinds (sort_of n)) past) at l.remains); known = tt }

-- ── by the number of a keyword ──

looked : (n : ℕ) (w : Bytes) (x end d k : ℕ) → k + d ≡ end → Looking n w x end k → Named (sort_of n) w (keyed_from x k d)
unfolding keyed_from
looked n w x end zero k e l = look_none n w x end k l (omega arith)
looked n w x end (suc d) k e l = go (λ m. looked n w x end d (k + 1) (omega arith) m) (eqb (get_or keys k 0) x) refl
  where
    go : (Looking n w x end (k + 1) → Named (sort_of n) w (keyed_from x (k + 1) d)) → (t : Bool) → eqb (get_or keys k 0) x ≡ t → Named (sort_of n) w (cond t (Some k) (keyed_from x (k + 1) d))
    go more true q = look_here n w x end k l (omega arith) (eqb-true (get_or keys k 0) x q)
    go more false q = more (look_past n w x end k l (omega arith) (eqb-false (get_or keys k 0) x q))

-- the kind that is found by the number is the one that the keyword names
pub keyed_named : {n x : ℕ} {w : Bytes} {r : Option ℕ} (m : ℕ) → n ≡ m → m < sort_count → Packed w x → r ≡ keyed m x → Named (sort_of n) w r
unfolding keyed
keyed_named {n} {x} {w} {r} m e low p q =
    let begin = look_first m w x (get_or first (m + 1) 0) (get_or first m 0) low p refl refl in
    rw (e, q) (looked m w x (get_or first (m + 1) 0) (get_or first (m + 1) 0 - get_or first m 0) (get_or first m 0) (omega (arith, begin.high)) begin)

-- no keyword has the number 0
untold_from : (n : ℕ) (w : Bytes) (end d k : ℕ) → k + d ≡ end → Looking n w 0 end k → Named (sort_of n) w None
untold_from n w end zero k e l = look_none n w 0 end k l (omega arith)
untold_from n w end (suc d) k e l = untold_from n w end d (k + 1) (omega arith) (look_past n w 0 end k l (omega arith) (λ q. omega (arith, q, (here n w 0 end k l (omega arith)).key, packed_up (keyword (sort_of n) (at n w 0 end k l (omega arith)).kind))))

pub untold : (n : ℕ) (w : Bytes) → n < sort_count → Packed w 0 → Named (sort_of n) w None
untold n w low p =
    let begin = look_first n w 0 (get_or first (n + 1) 0) (get_or first n 0) low p refl refl in
    untold_from n w (get_or first (n + 1) 0) (get_or first (n + 1) 0 - get_or first n 0) (get_or first n 0) (omega (arith, begin.high)) begin

-- none of the keywords of n kinds from kind k on, as a `match` leaves it behind its arms
abbrev pub NoKey : (x k n : ℕ) → Type 0
NoKey x k zero = Unit {0}
NoKey x k (suc n) = NoKey x k n × (x ≡ get_or keys (k + n) 0 → ⊥)

no_key_at : (x k n : ℕ) → NoKey x k n → (j : ℕ) → j < n → x ≡ get_or keys (k + j) 0 → ⊥
no_key_at x k zero h j l q = omega arith
no_key_at x k (suc n) h j l q = go (λ m. no_key_at x k n h.0 j m q) (eqb j n) refl
  where
    go : (j < n → ⊥) → (t : Bool) → eqb j n ≡ t → ⊥
    go before true e = h.1 (rw (eqb-true j n e) at q)
    go before false e = before (omega (arith, eqb-false j n e))

none_from : (x n k : ℕ) → ((j : ℕ) → j < n → x ≡ get_or keys (k + j) 0 → ⊥) → None ≡ keyed_from x k n
unfolding keyed_from
none_from x zero k h = refl
none_from x (suc n) k h =
    let other : eqb (get_or keys k 0) x ≡ false = ne_eqb (get_or keys k 0) x (λ q. h 0 (omega arith) (rw (add-zero k) (sym q))) in
    rw other (none_from x n (k + 1) (λ j l q. h (suc j) (omega arith) (rw (behind j) q)))
  where
    behind : (j : ℕ) → k + suc j ≡ k + 1 + j
    behind j = omega arith

pub none_keyed : (x k n : ℕ) → NoKey x k n → None ≡ keyed_from x k n
none_keyed x k n h = none_from x n k (no_key_at x k n h)
