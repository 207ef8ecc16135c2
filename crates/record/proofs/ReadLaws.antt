-- Two ways to say what is read: pieces that a value in range spells, and pieces that no value in range spells. Assumes nothing.
use mathlib.Core.Path.{◌≡◌, refl, ap, ◌∙◌}
use mathlib.Core.Bool.{Bool, true, ◌&&◌}
use mathlib.Core.List.{List, [], ◌∷◌}
use Rattle.std.specs.Prelude.{Option, None, Some}
use lib.Dec.{eqb}
use lib.Pointwise.{pointwise}
use Rattle.model.specs.Text.{Bytes, same, same_by}
use Rattle.model.specs.Field.{Form, Val, read, spell, fits}
use Rattle.laws.specs.FieldLaws.{limited, spell_read, read_spell}

module _ (f : Form) (ps : List Bytes) where
  pub accepted : limited f ≡ true → (v : Val f) → spell f v ≡ ps → fits f v ≡ true → read f ps ≡ Some v
  accepted l v e h = rw e at (spell_read f l v h)

  pub refused : ((v : Val f) → spell f v ≡ ps → fits f v ≡ true → ⊥) → read f ps ≡ None
  refused no_value = go (read f ps) refl
    where
      go : (o : Option (Val f)) → read f ps ≡ o → o ≡ None
      go None e = refl
      go (Some v) e = let h = read_spell f ps v e in absurd (no_value v h.0 h.1)

-- the only piece of a form that has one
pub piece_is : {s t : Bytes} → ◌≡◌ {A = List Bytes} (s ∷ []) (t ∷ []) → s ≡ t
piece_is e = cc

-- the code's test of two texts is the definition's
pub tested : (s t u : Bytes) (r : Bool) → u ≡ t → r ≡ pointwise eqb s u → r ≡ same s t
unfolding same same_by
tested s t u r e h = h ∙ ap (pointwise eqb s) e ∙ go s t
  where
    go : (s t : Bytes) → pointwise eqb s t ≡ same s t
    go [] [] = refl
    go [] (b ∷ t) = refl
    go (a ∷ s) [] = refl
    go (a ∷ s) (b ∷ t) = ap (λ q. eqb a b && q) (go s t)
