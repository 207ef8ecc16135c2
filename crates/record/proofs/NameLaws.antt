-- A name is read exactly if its bytes pass one by one. Assumes nothing.
use mathlib.Core.Path.{◌≡◌, refl, sym, ap, ◌∙◌}
use mathlib.Core.Bool.{Bool, true, false, cond, ◌&&◌, false≢true}
use mathlib.Core.List.{[], ◌∷◌}
use mathlib.Core.Logic.{◌⊎◌, inl, inr}
use Rattle.std.specs.Prelude.{Option, None, Some}
use Prim.Native.Nat.{ℕ, ◌+◌, ◌<◌}
use native.Mathlib.Omega.{arith}
use borrow.Author.Tests.{eqb-true, eq-eqb, ne_eqb}
use lib.Dec.{eqb}
use lib.ListN.{get_or}
use lib.Seq.{slice}
use Rattle.model.specs.Text.{Bytes, tab, line_feed, backslash, same, same_by, escape, escape_byte, unescape, unescape_on, unescape_byte, meant, dash, equals, letter_n, letter_t, minus}
use Rattle.model.specs.Field.{read, text, alias, meaning, piece, spell, spell_alias, alias_value, fits}
use Rattle.record.specs.Answer.{is_read, alias_of}
use Rattle.record.specs.Name.{Seen, Plain, Escape, Bad, CharAt, bare_one, escaped, broken, bare, letter, step, seen_on, is_plain}
use Rattle.record.specs.Place.{Fed, separates, Ends}
use Rattle.record.specs.InPlace.{NameAt, AliasReadAt}
use Rattle.record.proofs.PlaceLaws.{separates_other, no_feed, fed_on, byte_past, Along, along_start, along_on, along_back, along_ends, ends_here, ends_next, ends_cons, ends_none}
use Rattle.record.proofs.AbsentLaws.{dash_not, dash_first, dash_past, dash_alone}

bad_stays : (s : Bytes) → seen_on Bad s ≡ Bad
unfolding seen_on step
bad_stays [] = refl
bad_stays (b ∷ s) = bad_stays s

-- what the walk says of the bytes left, with nothing open and behind a backslash
record Walked (s : Bytes) : Type 0 where
  plain : is_plain (seen_on Plain s) ≡ same (escape (unescape_on false s)) s
  after : is_plain (seen_on Escape s) ≡ same (escape (unescape_on true s)) (backslash ∷ s)

module _ (b : ℕ) (s : Bytes) (h : Walked s) where
  plain_step : is_plain (seen_on Plain (b ∷ s)) ≡ same (escape (unescape_on false (b ∷ s))) (b ∷ s)
  unfolding seen_on step bare letter same same_by escape escape_byte unescape_on unescape_byte meant
  plain_step = go (eqb b tab) refl (eqb b line_feed) refl (eqb b backslash) refl
    where
      go : (t : Bool) → eqb b tab ≡ t → (u : Bool) → eqb b line_feed ≡ u → (w : Bool) → eqb b backslash ≡ w
          → is_plain (seen_on Plain (b ∷ s)) ≡ same (escape (unescape_on false (b ∷ s))) (b ∷ s)
      go true e u f w g = rw (eqb-true b tab e, bad_stays s)
      go false e true f w g = rw (eqb-true b line_feed f, bad_stays s)
      go false e false f true g = rw (eqb-true b backslash g) h.after
      go false e false f false g = rw (e, f, g) (rw (e, f, g, eq-eqb b b refl) h.plain)

  after_step : is_plain (seen_on Escape (b ∷ s)) ≡ same (escape (unescape_on true (b ∷ s))) (backslash ∷ b ∷ s)
  unfolding seen_on step bare letter same same_by escape escape_byte unescape_on unescape_byte meant
  after_step = go (eqb b backslash) refl (eqb b letter_n) refl (eqb b letter_t) refl
    where
      other : (t : Bool) → eqb b tab ≡ t → (u : Bool) → eqb b line_feed ≡ u → eqb b backslash ≡ false → false ≡ same (escape (b ∷ unescape_on false s)) (backslash ∷ b ∷ s)
      other true e u f g = rw (eqb-true b tab e)
      other false e true f g = rw (eqb-true b line_feed f)
      other false e false f g = rw (e, f, g) (rw g)

      go : (t : Bool) → eqb b backslash ≡ t → (u : Bool) → eqb b letter_n ≡ u → (w : Bool) → eqb b letter_t ≡ w
          → is_plain (seen_on Escape (b ∷ s)) ≡ same (escape (unescape_on true (b ∷ s))) (backslash ∷ b ∷ s)
      go true e u f w g = rw (eqb-true b backslash e) h.plain
      go false e true f w g = rw (eqb-true b letter_n f) h.plain
      go false e false f true g = rw (eqb-true b letter_t g) h.plain
      go false e false f false g = rw (e, f, g, bad_stays s) (other (eqb b tab) refl (eqb b line_feed) refl e)

walked : (s : Bytes) → Walked s
unfolding seen_on same same_by escape escape_byte unescape_on
walked [] = record { plain = refl; after = refl }
walked (b ∷ s) = record { plain = plain_step b s (walked s); after = after_step b s (walked s) }

pub name_read : (s : Bytes) → is_plain (seen_on Plain s) ≡ is_read (read text (s ∷ []))
unfolding read meaning piece fits spell same_by unescape
name_read s = (walked s).plain ∙ go (same (escape (unescape_on false s)) s)
  where
    go : (t : Bool) → t ≡ is_read (cond (t && true) (Some (unescape_on false s)) None)
    go true = refl
    go false = refl

-- ── the code ──

-- a backslash is no separator, and neither is a letter that may follow it
letter_past : (c : ℕ) → is_plain (letter c) ≡ true → line_feed < c
unfolding letter
letter_past c h = go (eqb c backslash) refl (eqb c letter_n) refl (eqb c letter_t) refl h
  where
    go : (t : Bool) → eqb c backslash ≡ t → (u : Bool) → eqb c letter_n ≡ u → (w : Bool) → eqb c letter_t ≡ w → is_plain (cond t Plain (cond u Plain (cond w Plain Bad))) ≡ true → line_feed < c
    go true e u f w g h = omega (arith, eqb-true c backslash e)
    go false e true f w g h = omega (arith, eqb-true c letter_n f)
    go false e false f true g h = omega (arith, eqb-true c letter_t g)
    go false e false f false g h = absurd (false≢true h)

plain_is : (q : Seen) → is_plain q ≡ true → q ≡ Plain
plain_is Plain h = refl
plain_is Escape h = absurd (false≢true h)
plain_is Bad h = absurd (false≢true h)

letter_bad : (c : ℕ) → is_plain (letter c) ≡ false → letter c ≡ Bad
unfolding letter
letter_bad c h = go (eqb c backslash) (eqb c letter_n) (eqb c letter_t) h
  where
    go : (t u w : Bool) → is_plain (cond t Plain (cond u Plain (cond w Plain Bad))) ≡ false → cond t Plain (cond u Plain (cond w Plain Bad)) ≡ Bad
    go true u w h = absurd (false≢true (sym h))
    go false true w h = absurd (false≢true (sym h))
    go false false true h = absurd (false≢true (sym h))
    go false false false h = refl

pub escape_is : (c : ℕ) → (c ≡ backslash) ⊎ ((c ≡ letter_n) ⊎ (c ≡ letter_t)) → true ≡ is_plain (letter c)
unfolding letter
escape_is c (inl e) = rw e
escape_is c (inr (inl e)) = rw e
escape_is c (inr (inr e)) = rw e

pub escape_other : (c : ℕ) → ((c ≡ backslash) ⊎ ((c ≡ letter_n) ⊎ (c ≡ letter_t)) → ⊥) → false ≡ is_plain (letter c)
unfolding letter
escape_other c h = rw (ne_eqb c backslash (λ e. h (inl e)), ne_eqb c letter_n (λ e. h (inr (inl e))), ne_eqb c letter_t (λ e. h (inr (inr e))))

-- how many bytes a character has
module _ (s : Bytes) (i : ℕ) where
  pub char_plain : (get_or s i 0 ≡ backslash → ⊥) → CharAt s i (Some 1)
  char_plain h = bare_one h

  module _ (e : get_or s i 0 ≡ backslash) (t : Bool) (q : t ≡ is_plain (letter (get_or s (i + 1) 0))) where
    pub char_escaped : t ≡ true → CharAt s i (Some 2)
    char_escaped z = escaped e (sym q ∙ z)

    pub char_broken : t ≡ false → CharAt s i None
    char_broken z = broken e (sym q ∙ z)

bare_plain : (b : ℕ) → separates b ≡ false → (b ≡ backslash → ⊥) → bare b ≡ Plain
unfolding bare separates
bare_plain b h k = go (eqb b tab) (eqb b line_feed) h
  where
    go : (t u : Bool) → cond t true u ≡ false → cond t Bad (cond u Bad (cond (eqb b backslash) Escape Plain)) ≡ Plain
    go true u h = absurd (false≢true (sym h))
    go false true h = absurd (false≢true (sym h))
    go false false h = rw (ne_eqb b backslash k)

seen_plain : (b : ℕ) (t : Bytes) → separates b ≡ false → (b ≡ backslash → ⊥) → seen_on Plain (b ∷ t) ≡ seen_on Plain t
unfolding seen_on step
seen_plain b t h k = rw (bare_plain b h k)

seen_escape : (b : ℕ) (t : Bytes) → b ≡ backslash → seen_on Plain (b ∷ t) ≡ seen_on Escape t
unfolding seen_on step bare
seen_escape b t e = rw e

seen_letter : (c : ℕ) (t : Bytes) → is_plain (letter c) ≡ true → seen_on Escape (c ∷ t) ≡ seen_on Plain t
unfolding seen_on step
seen_letter c t h = rw (plain_is (letter c) h)

seen_broken : (c : ℕ) (t : Bytes) → is_plain (letter c) ≡ false → seen_on Escape (c ∷ t) ≡ Bad
unfolding seen_on step
seen_broken c t h = rw (letter_bad c h) (bad_stays t)

waits : (t : Bytes) → t ≡ [] → is_plain (seen_on Escape t) ≡ false
unfolding seen_on
waits t e = rw e

-- the bytes passed from p on are characters of a name
pub record Naming (s : Bytes) (p i : ℕ) : Type 0 where
  pub fed : Fed s i
  pub along : Along s p i
  pub same : (q : ℕ) → Ends s i q → seen_on Plain (slice i q s) ≡ seen_on Plain (slice p q s)

module _ (s : Bytes) (p i : ℕ) (d : Naming s p i) where
  pub naming_done : (t : Bool) → t ≡ separates (get_or s i 0) → t ≡ true → NameAt s p (Some i)
  unfolding seen_on
  naming_done t z o =
      let k : separates (get_or s i 0) ≡ true = sym z ∙ o in
      record {
        is = λ q h. let g = along_ends s p i d.along q h in ap is_plain (rw (ends_none s i q g k) at (d.same q g)) ∙ name_read (slice p q s);
        ends = along_back s p i d.along i (ends_here s i d.fed k);
      }

  module _ (t : Bool) (z : t ≡ separates (get_or s i 0)) (o : t ≡ false) where
    k : separates (get_or s i 0) ≡ false
    k = sym z ∙ o

    on_fed : Fed s (i + 1)
    on_fed = fed_on s i d.fed (no_feed (get_or s i 0) k)

    one : Along s i (i + 1)
    one = along_on s i i (along_start s i) k

    -- a backslash with no letter of its own, or at the end of the piece
    no_char : get_or s i 0 ≡ backslash → is_plain (letter (get_or s (i + 1) 0)) ≡ false → (q : ℕ) → Ends s i q → is_plain (seen_on Plain (slice i q s)) ≡ false
    no_char e h q w = rw (ends_cons s i q w k, seen_escape (get_or s i 0) (slice (i + 1) q s) e) (go (separates (get_or s (i + 1) 0)) refl)
      where
        go : (t : Bool) → separates (get_or s (i + 1) 0) ≡ t → is_plain (seen_on Escape (slice (i + 1) q s)) ≡ false
        go true z = waits (slice (i + 1) q s) (ends_none s (i + 1) q (ends_next s i q w k) z)
        go false z = rw (ends_cons s (i + 1) q (ends_next s i q w k) z) (ap is_plain (seen_broken (get_or s (i + 1) 0) (slice (i + 1 + 1) q s) h))

    -- what is left behind a character
    Next : Option ℕ → Type 0
    Next None = Unit {0}
    Next (Some n) = Naming s p (i + n)

    pub naming_broken : (o : Option ℕ) → CharAt s i o → o ≡ None → NameAt s p None
    naming_broken _ (bare_one h) n = cc
    naming_broken _ (escaped e h) n = cc
    naming_broken _ (broken e h) n =
        record {
          is = λ q g. let w = along_ends s p i d.along q g in sym (no_char e h q w) ∙ ap is_plain (d.same q w) ∙ name_read (slice p q s);
          ends = tt;
        }

    next : (o : Option ℕ) → CharAt s i o → Next o
    unfolding Next
    next _ (bare_one h) =
        record {
          fed = on_fed;
          along = along_on s p i d.along k;
          same = λ q g.
              let w = along_back s i (i + 1) one q g in
              sym (seen_plain (get_or s i 0) (slice (i + 1) q s) k h) ∙ rw (ends_cons s i q w k) at (d.same q w);
        }
    next _ (escaped e h) =
        let past : separates (get_or s (i + 1) 0) ≡ false = separates_other (get_or s (i + 1) 0) (letter_past (get_or s (i + 1) 0) h) in
        let two : i + 1 + 1 ≡ i + 2 = omega arith in
        rw (← two)
        (record {
          fed = fed_on s (i + 1) on_fed (no_feed (get_or s (i + 1) 0) past);
          along = along_on s p (i + 1) (along_on s p i d.along k) past;
          same = λ q g.
              let v = along_back s (i + 1) (i + 1 + 1) (along_on s (i + 1) (i + 1) (along_start s (i + 1)) past) q g in
              let w = along_back s i (i + 1) one q v in
              sym (seen_escape (get_or s i 0) (get_or s (i + 1) 0 ∷ slice (i + 1 + 1) q s) e ∙ seen_letter (get_or s (i + 1) 0) (slice (i + 1 + 1) q s) h)
              ∙ rw (ends_cons s i q w k, ends_cons s (i + 1) q v past) at (d.same q w);
        })
    next _ (broken e h) = tt

    pub naming_more : (o : Option ℕ) → CharAt s i o → (n : ℕ) → o ≡ Some n → Naming s p (i + n)
    unfolding Next
    naming_more o h n e = rw e at (next o h)

-- ── an alias ──

-- behind an equals sign stands a name
alias_named : (at : ℕ) (s : Bytes) → alias_of at (read alias ((equals ∷ s) ∷ [])) ≡ cond (is_read (read text (s ∷ []))) (Some (Some at)) None
unfolding read meaning piece fits spell spell_alias alias_value same same_by
alias_named at s = go (same (escape (unescape s)) s)
  where
    go : (t : Bool) → alias_of at (cond (t && true) (Some (Some (unescape s))) None) ≡ cond (is_read (cond (t && true) (Some (unescape s)) None)) (Some (Some at)) None
    go true = refl
    go false = refl

-- what begins with neither sign is none
alias_other : (at : ℕ) (s : Bytes) → same s dash ≡ false → (get_or s 0 0 ≡ equals → ⊥) → None ≡ alias_of at (read alias (s ∷ []))
unfolding read meaning piece fits spell spell_alias alias_value same same_by
alias_other at [] e h = refl
alias_other at (b ∷ s) e h = rw (e, ne_eqb equals b (λ q. h (sym q)))

absent_is : (at : ℕ) → Some None ≡ alias_of at (read alias (dash ∷ []))
unfolding read meaning piece fits spell spell_alias alias_value same same_by
absent_is at = refl

module _ (s : Bytes) (p : ℕ) (f : Fed s p) where
  module _ (e : get_or s p 0 ≡ minus) where
    past : separates (get_or s p 0) ≡ false
    past = dash_past s p f e

    pub alias_absent : (t : Bool) → t ≡ separates (get_or s (p + 1) 0) → t ≡ true → AliasReadAt s p (Some (record { value = None; end = p + 1 }))
    alias_absent t g o =
        record {
          is = λ q h. rw (ends_cons s p q h past, ends_none s (p + 1) q (ends_next s p q h past) (sym g ∙ o), e) (absent_is (p + 1));
          ends = dash_alone s p f e (sym g ∙ o);
        }

    pub alias_spare : (t : Bool) → t ≡ separates (get_or s (p + 1) 0) → t ≡ false → AliasReadAt s p None
    alias_spare t g o =
        record {
          is = λ q h. rw (ends_cons s p q h past, ends_cons s (p + 1) q (ends_next s p q h past) (sym g ∙ o)) (alias_other (p + 1) _ (sym (dash_not _ (λ z. omega arith))) (λ z. omega (arith, z)));
          ends = tt;
        }

  pub alias_neither : (get_or s p 0 ≡ minus → ⊥) → (get_or s p 0 ≡ equals → ⊥) → AliasReadAt s p None
  alias_neither m n = record { is = λ q h. go q h (separates (get_or s p 0)) refl; ends = tt }
    where
      go : (q : ℕ) → Ends s p q → (t : Bool) → separates (get_or s p 0) ≡ t → None ≡ alias_of (p + 1) (read alias (slice p q s ∷ []))
      go q h true z = rw (ends_none s p q h z) (alias_other (p + 1) [] (sym (dash_not [] (λ k. omega arith))) (λ k. omega arith))
      go q h false z = rw (ends_cons s p q h z) (alias_other (p + 1) _ (sym (dash_first (get_or s p 0) (slice (p + 1) q s) m)) n)

  module _ (e : get_or s p 0 ≡ equals) where
    name_past : separates (get_or s p 0) ≡ false
    name_past = byte_past s p f (omega arith)

    module _ (a : Option ℕ) (d : NameAt s (p + 1) a) where
      named : (q : ℕ) → Ends s p q → alias_of (p + 1) (read alias (slice p q s ∷ [])) ≡ cond (is_read a) (Some (Some (p + 1))) None
      named q h =
          rw (ends_cons s p q h name_past, e) (alias_named (p + 1) (slice (p + 1) q s))
          ∙ ap (λ t. cond t (Some (Some (p + 1))) None) (sym (d.is q (ends_next s p q h name_past)))

      pub alias_name : (r : ℕ) → a ≡ Some r → AliasReadAt s p (Some (record { value = Some (p + 1); end = r }))
      alias_name r z =
          record {
            is = λ q h. sym (rw z at (named q h));
            ends = along_back s p (p + 1) (along_on s p p (along_start s p) name_past) r (rw z at d.ends);
          }

      pub alias_bad : a ≡ None → AliasReadAt s p None
      alias_bad z = record { is = λ q h. sym (rw z at (named q h)); ends = tt }
