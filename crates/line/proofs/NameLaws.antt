-- The words of a name and of an alias: their places, which the sheet spells. Assumes nothing.
use mathlib.Core.Path.{◌≡◌, refl, sym, ap, ◌∙◌}
use Prim.Native.Nat.{ℕ, suc, ◌+◌, ◌<◌, ◌≤◌}
use mathlib.Core.List.{[], ◌∷◌, tail}
use Rattle.std.specs.Prelude.{Option, None, Some}
use native.Mathlib.Numerals.{add-one}
use native.Mathlib.Omega.{arith}
use lib.ListN.{length}
use lib.Seq.{slice, slice-cons, length-slice}
use Rattle.model.specs.Text.{Bytes, unescape, escape, equals}
use Rattle.model.specs.Field.{text, alias, read, spell, spell_alias}
use Rattle.laws.specs.TextLaws.{between_fields}
use Rattle.laws.specs.NumberLaws.{escape_free}
use Rattle.laws.specs.FieldLaws.{read_spell}
use Rattle.record.specs.Answer.{alias_of}
use Rattle.record.specs.AnswerLaws.{text_value, alias_value_law}
use Rattle.record.specs.declared.piece.Piece.{Piece}
use Rattle.record.specs.InPlace.{NameAt, AliasReadAt}
use Rattle.record.proofs.PlaceLaws.{ends_alike}
use Rattle.words.specs.Words.{field_of, two32}
use Rattle.words.specs.Words
use Rattle.words.specs.Held.{PlaceAt}
use Rattle.line.specs.FieldRead.{WordsOf, WordsAt}
use Rattle.line.proofs.PlaceLaws.{pieces_last}

-- a name that the sheet spells
name_at_law : (sheet : Bytes) (x y : ℕ) → x ≤ y → y ≤ length sheet → escape (unescape (slice x y sheet)) ≡ slice x y sheet → PlaceAt text sheet x y
unfolding field_of spell
name_at_law sheet x y h l e =
    record {
      from = h;
      to = l;
      spelled = ap (λ t. t ∷ []) e ∙ sym (pieces_last (slice x y sheet) (rw e at (escape_free between_fields (unescape (slice x y sheet)))));
    }

-- ── a name ──

module _ (sheet : Bytes) (p : ℕ) where
  pub text_is : (r : ℕ) → NameAt sheet p (Some r) → WordsAt text sheet p (Some (record { value = record { first = p; second = r }; end = r }))
  unfolding field_of spell
  text_is r d =
      let is = text_value (slice p r sheet) (sym (d.is r d.ends)) in
      let spelled : escape (unescape (slice p r sheet)) ≡ slice p r sheet = cc (read_spell text (slice p r sheet ∷ []) _ is).0 in
      let here : WordsOf text sheet (slice p r sheet ∷ []) (Some (record { first = p; second = r })) = record { is = is; fit = (tt, name_at_law sheet p r d.ends.from (omega (arith, d.ends.to)) spelled) } in
      record { is = λ q h. rw (ends_alike sheet p q r h d.ends) here; ends = d.ends }

-- ── an alias ──

alias_absent : (at : ℕ) (o : Option (Option Bytes)) → alias_of at o ≡ Some None → o ≡ Some None
alias_absent at None e = cc
alias_absent at (Some None) e = refl
alias_absent at (Some (Some t)) e = cc

-- an alias that is read is a name behind an equals sign
alias_spelled : (s t : Bytes) → read alias (s ∷ []) ≡ Some (Some t) → equals ∷ escape t ≡ s
unfolding spell spell_alias
alias_spelled s t e = cc (read_spell alias (s ∷ []) (Some t) e).0

module _ (sheet : Bytes) (p : ℕ) where
  module _ (a : Piece (Option ℕ)) (d : AliasReadAt sheet p (Some a)) where
    module _ (n : ℕ) (z : a.value ≡ Some n) where
      value : (read alias (slice p a.end sheet ∷ []) ≡ Some (Some (unescape (tail (slice p a.end sheet))))) × (n ≡ p + 1)
      value = alias_value_law (p + 1) n (slice p a.end sheet) (sym (d.is a.end d.ends) ∙ ap Some z)

      whole : equals ∷ escape (unescape (tail (slice p a.end sheet))) ≡ slice p a.end sheet
      whole = alias_spelled (slice p a.end sheet) _ value.0

      alias_low : p < a.end
      alias_low = omega (arith, ap length whole, length-slice p a.end sheet (omega (arith, d.ends.to)))

      pub alias_named : WordsAt alias sheet p (Some (record { value = record { first = n; second = a.end }; end = a.end }))
      unfolding field_of Words.alias_of
      alias_named =
          let behind : tail (slice p a.end sheet) ≡ slice (suc p) a.end sheet = ap tail (slice-cons p a.end sheet 0 alias_low (omega (arith, d.ends.to))) in
          let spelled : escape (unescape (slice (suc p) a.end sheet)) ≡ slice (suc p) a.end sheet = rw behind at (ap tail whole) in
          let here : WordsOf alias sheet (slice p a.end sheet ∷ []) (Some (record { first = p + 1; second = a.end })) =
          rw (add-one p) (record { is = value.0 ∙ ap (λ x. Some (Some (unescape x))) behind; fit = (tt, λ _. name_at_law sheet (suc p) a.end alias_low (omega (arith, d.ends.to)) spelled) }) in
          rw value.1 (record { is = λ q h. rw (ends_alike sheet p q a.end h d.ends) here; ends = d.ends })

    pub alias_dash : a.value ≡ None → WordsAt alias sheet p (Some (record { value = record { first = 0; second = 0 }; end = a.end }))
    unfolding field_of Words.alias_of
    alias_dash z =
        record {
          is = λ q h. record { is = alias_absent (p + 1) (read alias (slice p q sheet ∷ [])) (sym (d.is q h) ∙ ap Some z); fit = (tt, λ z. absurd (omega arith)) };
          ends = d.ends;
        }
