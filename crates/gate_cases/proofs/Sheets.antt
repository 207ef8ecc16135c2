-- What a text is cut into, and what the writes of a sheet's head, parts and tail join to. Assumes nothing.
use Rattle.std.specs.Prelude.{◌≡◌, refl, not, get_or, ℕ, ◌+◌, ◌-◌, ◌≤◌, ◌<◌, ◌==◌, [], ◌∷◌, ◌++◌, take, drop, length, cond, ltb, true, false, Bool, Option, None, Some, MatchOption}
use Rattle.std.specs.List.{position_or_len}
use Rattle.std.proofs.Common.{arith, sym, ◌∙◌, ap, subst, le_refl, zero-add, lt-ltb, le-ltb, ltb-true, ltb-false, le_antisymm, eqb-true, append_assoc, length-append, length-drop, length-take-le, drop_at}
use Rattle.std.proofs.lemmas.List.{take_all, take_at, drop-drop, take-append-drop}
use Rattle.std.proofs.lemmas.List.Sums.{prefix_len-le-length, prefix_len_stops, split_at_first}
use Rattle.std.proofs.lemmas.Bool.{not-false}
use native.Mathlib.Numerals.{add-one}
use Rattle.model.specs.Field.{Form, read}
use Rattle.model.specs.Call.{max_bytes}
use Rattle.model.specs.Text.{Bytes}
use Rattle.output.specs.declared.Page.{Page}
use Rattle.output.specs.Page.{Puts}
use Rattle.output.specs.Writes.{◌⨾◌, stay}
use Rattle.gate_cases.specs.Text.{again, place, star, between, repeated, parted, sheet_of, Cut, Uncut, line_feed, WholeLines}

-- two line feeds end a sheet's last line and are an empty line
ends_line : (before : Bytes) → WholeLines (before ++ (line_feed ∷ []))
ends_line [] = ([], refl)
ends_line (b ∷ t) = (b ∷ t, refl)

pub first_lines : (t : Bytes) (n : ℕ) → n + 2 ≤ length t → take 2 (drop n t) ≡ line_feed ∷ line_feed ∷ [] → (t ≡ take (n + 1) t ++ (line_feed ∷ take (length t - (n + 2)) (drop (n + 2) t))) × WholeLines (take (n + 1) t)
first_lines t n h w =
    let before = take n t in
    let behind = drop (n + 2) t in
    let two : drop n t ≡ (line_feed ∷ line_feed ∷ []) ++ behind = sym (take-append-drop 2 (drop n t)) ∙ cc (w, drop-drop 2 n t) in
    let whole : t ≡ (before ++ (line_feed ∷ [])) ++ (line_feed ∷ behind) = sym (take-append-drop n t) ∙ ap (λ r. before ++ r) two ∙ sym (append_assoc before (line_feed ∷ []) (line_feed ∷ behind)) in
    let head : take (n + 1) t ≡ before ++ (line_feed ∷ []) = ap (take (n + 1)) whole ∙ take_at (before ++ (line_feed ∷ [])) (line_feed ∷ behind) (n + 1) (length-append before (line_feed ∷ []) ∙ ap (λ k. k + 1) (length-take-le n t (omega arith))) in
    let tail : take (length t - (n + 2)) behind ≡ behind = take_all (length t - (n + 2)) behind (omega (arith, length-drop (n + 2) t)) in
    (whole ∙ cc (head, tail), subst WholeLines (sym head) (ends_line before))

-- what an answer that is none promises
pub none_given : {A P : Type 0} (Q : A → Type 0) (r : Option A) → r ≡ None → P → MatchOption r P Q
none_given {A} {P} Q r e p = subst (λ x. MatchOption x P Q) (sym e) p

module _ (t : Bytes) where
  pub again_none : {g : Page} → Puts (again 0 t) g g
  unfolding again
  again_none = stay

  pub again_more : (i : ℕ) {g g' g'' : Page} → Puts (again i t) g g' → Puts t g' g'' → Puts (again (i + 1) t) g g''
  unfolding again
  again_more i a b = rw add-one (a ⨾ b)

-- a place that is found, and one that is not
found : (p n k : ℕ) → cond (ltb p n) (Some p) None ≡ Some k → (k ≡ p) × (p < n)
found p n k e = go (ltb p n) refl e
  where
    go : (b : Bool) → ltb p n ≡ b → cond b (Some p) None ≡ Some k → (k ≡ p) × (p < n)
    go true l e = (cc, ltb-true p n l)
    go false l e = cc

lost : (p n : ℕ) → cond (ltb p n) (Some p) None ≡ None → n ≤ p
lost p n e = go (ltb p n) refl e
  where
    go : (b : Bool) → ltb p n ≡ b → cond b (Some p) None ≡ None → n ≤ p
    go true k e = cc
    go false k e = ltb-false p n k

-- where a byte stands: from the start, from a place on, and behind the text
place_first : (b : ℕ) (t : Bytes) → place b 0 t ≡ position_or_len (λ x. x == b) t
unfolding place
place_first b t = rw (le-ltb (length t) 0 (omega arith), zero-add (position_or_len (λ x. x == b) t)) refl

place_within : (b at : ℕ) (t : Bytes) → at ≤ length t → place b at t ≡ at + position_or_len (λ x. x == b) (drop at t)
unfolding place
place_within b at t h = rw (le-ltb (length t) at h) refl

place_on : (b at : ℕ) (t : Bytes) → at ≤ length t → place b at t ≡ at + place b 0 (drop at t)
place_on b at t h = place_within b at t h ∙ ap (λ n. at + n) (sym (place_first b (drop at t)))

place_past : (b at : ℕ) (t : Bytes) → length t < at → place b at t ≡ at
unfolding place
place_past b at t h = rw (lt-ltb (length t) at h) refl

-- a text is cut where the byte is found, and is not where none is
module _ (b : ℕ) (t : Bytes) (r : Option ℕ) (p : r ≡ cond (ltb (position_or_len (λ x. x == b) t) (length t)) (Some (position_or_len (λ x. x == b) t)) None) where
  pub not_cut : r ≡ None → Uncut b t
  not_cut e = place_first b t ∙ le_antisymm (prefix_len-le-length (λ x. not (x == b)) t) (lost (position_or_len (λ x. x == b) t) (length t) (sym p ∙ e))

  pub cut_at : (n : ℕ) → r ≡ Some n → Cut b t (take n t) (take (length t - (n + 1)) (drop (n + 1) t))
  cut_at n e =
      let (i, k) = found (position_or_len (λ x. x == b) t) (length t) n (sym p ∙ e) in
      let p = position_or_len (λ x. x == b) t in
      let stands : get_or t p 0 ≡ b = eqb-true (get_or t p 0) b (not-false (get_or t p 0 == b) (prefix_len_stops (λ x. not (x == b)) t 0 k)) in
      let tail : take (length t - (p + 1)) (drop (p + 1) t) ≡ drop (p + 1) t = take_all (length t - (p + 1)) (drop (p + 1) t) (omega (arith, length-drop (p + 1) t)) in
      (split_at_first (λ x. x == b) t 0 k ∙ cc (stands, tail, i), length-take-le n t (omega (arith, i)) ∙ i ∙ sym (place_first b t))

-- what stands from a place on is cut: where the byte stands in the whole text, what stands before it, and behind it
record Step (b at : ℕ) (t before behind : Bytes) (end : ℕ) : Type 0 where
  there : place b at t ≡ end
  part : between at end t ≡ before
  rest : drop (end + 1) t ≡ behind
  long : (end + 1) + length behind ≡ length t

take_before : (before rest : Bytes) (n : ℕ) → n ≡ length before → take n (before ++ rest) ≡ before
take_before before rest n e = take_at before rest n (sym e)

drop_behind : (b : ℕ) (before behind : Bytes) → drop (length before + 1) (before ++ (b ∷ behind)) ≡ behind
drop_behind b before behind = sym (drop-drop 1 (length before) (before ++ (b ∷ behind))) ∙ ap (drop 1) (drop_at before (b ∷ behind) (length before) refl)

step : (b at : ℕ) (t r before behind : Bytes) → drop at t ≡ r → at + length r ≡ length t → Cut b r before behind → Step b at t before behind (at + length before)
step b at t r before behind d n (e, p) = record {
  there = place_on b at t (omega (arith, n)) ∙ ap (λ r. at + place b 0 r) d ∙ ap (λ n. at + n) (sym p);
  part = ap (take ((at + length before) - at)) (d ∙ e) ∙ take_before before (b ∷ behind) ((at + length before) - at) (omega arith);
  rest = ap (λ k. drop k t) (omega arith) ∙ sym (drop-drop (length before + 1) at t) ∙ ap (drop (length before + 1)) (d ∙ e) ∙ drop_behind b before behind;
  long = omega (arith, n, ap length e ∙ length-append before (b ∷ behind));
}

uncut : (b at : ℕ) (t r : Bytes) → drop at t ≡ r → at + length r ≡ length t → Uncut b r → place b at t ≡ length t
uncut b at t r d n u = place_on b at t (omega (arith, n)) ∙ ap (λ r. at + place b 0 r) d ∙ ap (λ n. at + n) u ∙ n

-- a text whose stars stand at these three places
module _ (t : Bytes) (head number part : ℕ) (h : place star 0 t ≡ head) (n : place star (head + 1) t ≡ number) (p : place star (number + 1) t ≡ part) where
  sheet_parted : sheet_of t ≡ parted head number part t
  unfolding sheet_of
  sheet_parted = cc (h, n, p)

  whole : length t ≤ part → sheet_of t ≡ t
  unfolding parted
  whole k = rw (sheet_parted, le-ltb part (length t) k) refl

  module _ (k : part < length t) (r : Option ℕ) (d : read (Form.num max_bytes) (between (head + 1) number t ∷ []) ≡ r) where
    unread : r ≡ None → sheet_of t ≡ t
    unfolding parted repeated
    unread e = rw (sheet_parted, lt-ltb part (length t) k, d, e) refl

    filled : (times : ℕ) → r ≡ Some times → sheet_of t ≡ (between 0 head t ++ again times (between (number + 1) part t)) ++ between (part + 1) (length t) t
    unfolding parted repeated
    filled times e = rw (sheet_parted, lt-ltb part (length t) k, d, e) refl

pub no_star : (t : Bytes) → Uncut star t → sheet_of t ≡ t
no_star t u = whole t _ _ _ u (place_past star _ t (omega arith)) (place_past star _ t (omega arith)) (omega arith)

-- the first star is there
module _ (t before rest : Bytes) (c : Cut star t before rest) where
  first : Step star 0 t before rest (0 + length before)
  first = step star 0 t t before rest refl (zero-add (length t)) c

  pub one_star : Uncut star rest → sheet_of t ≡ t
  one_star u =
      let n = uncut star _ t rest first.rest first.long u in
      whole t _ _ _ first.there n (place_past star _ t (omega arith)) (omega arith)

  -- and the second
  module _ (number behind : Bytes) (c' : Cut star rest number behind) where
    second : Step star ((0 + length before) + 1) t number behind (((0 + length before) + 1) + length number)
    second = step star _ t rest number behind first.rest first.long c'

    pub two_stars : Uncut star behind → sheet_of t ≡ t
    two_stars u = whole t _ _ _ first.there second.there (uncut star _ t behind second.rest second.long u) (le_refl _)

    -- and the third
    module _ (part tail : Bytes) (c'' : Cut star behind part tail) where
      abbrev end : ℕ
      end = ((((0 + length before) + 1) + length number) + 1) + length part

      third : Step star ((((0 + length before) + 1) + length number) + 1) t part tail end
      third = step star _ t behind part tail second.rest second.long c''

      module _ (r : Option ℕ) (d : r ≡ read (Form.num max_bytes) (number ∷ [])) where
        read_between : read (Form.num max_bytes) (between ((0 + length before) + 1) (((0 + length before) + 1) + length number) t ∷ []) ≡ r
        read_between = ap (λ n. read (Form.num max_bytes) (n ∷ [])) second.part ∙ sym d

        pub no_number : r ≡ None → sheet_of t ≡ t
        no_number e = unread t _ _ _ first.there second.there third.there (omega (arith, third.long)) r read_between e

        pub three_stars : (times : ℕ) → r ≡ Some times → sheet_of t ≡ (before ++ again times part) ++ tail
        three_stars times e = filled t _ _ _ first.there second.there third.there (omega (arith, third.long)) r read_between times e ∙ joined
          where
            last : between (end + 1) (length t) t ≡ tail
            last = ap (take (length t - (end + 1))) third.rest ∙ take_all (length t - (end + 1)) tail (omega (arith, third.long))

            joined : (between 0 (0 + length before) t ++ again times (between ((((0 + length before) + 1) + length number) + 1) end t)) ++ between (end + 1) (length t) t ≡ (before ++ again times part) ++ tail
            joined = cc (first.part, third.part, last)
