-- What an answer of this crate says of the definition's reading: for the crates above. Assumes nothing: each law is proved.
use Rattle.std.proofs.Math.Path.{◌≡◌, refl}
use Rattle.std.proofs.Common.{sym, ap, ◌∙◌, arith}
use Rattle.std.specs.Prelude.{Bool, ◌&&◌, ℕ, Option, None, Some}
use Rattle.std.proofs.Math.Bool.{true, false, cond}
use mathlib.Core.List.{List, [], ◌∷◌, tail}
use Rattle.model.specs.Text.{Bytes, same, same_by, unescape, dash}
use Rattle.model.specs.Field.{Form, Val, num, var, var_or_absent, num_or_absent, text, alias, u32, read, meaning, piece, spell, fits, alias_value}
use Rattle.record.specs.Answer.{is_read, alias_of}

-- an id is a number of 32 bits
pub var_is : (ps : List Bytes) → read var ps ≡ read (num u32) ps
unfolding read meaning spell fits
var_is ps = refl

pub var_or_absent_is : (ps : List Bytes) → read var_or_absent ps ≡ read (num_or_absent u32) ps
unfolding read meaning spell fits
var_or_absent_is ps = refl

-- ── what is read is what the pieces mean ──

module _ (f : Form) (ps : List Bytes) where
  pub read_meaning : is_read (read f ps) ≡ true → read f ps ≡ Some (meaning f ps)
  unfolding read
  read_meaning e = go (fits f (meaning f ps) && same_by (λ s t. same s t) (spell f (meaning f ps)) ps) e
    where
      go : (t : Bool) → is_read (cond t (Some (meaning f ps)) None) ≡ true → cond t (Some (meaning f ps)) None ≡ Some (meaning f ps)
      go true e = refl
      go false e = let z : ◌≡◌ {A = ℕ} 0 1 = cc in absurd (omega arith)

  pub read_none : is_read (read f ps) ≡ false → read f ps ≡ None
  read_none e = go (read f ps) e
    where
      go : (o : Option (Val f)) → is_read o ≡ false → o ≡ None
      go None e = refl
      go (Some v) e = let z : ◌≡◌ {A = ℕ} 0 1 = cc in absurd (omega arith)

pub text_value : (s : Bytes) → is_read (read text (s ∷ [])) ≡ true → read text (s ∷ []) ≡ Some (unescape s)
unfolding meaning piece
text_value s e = read_meaning text (s ∷ []) e

pub alias_value_law : (at n : ℕ) (s : Bytes) → alias_of at (read alias (s ∷ [])) ≡ Some (Some n) → (read alias (s ∷ []) ≡ Some (Some (unescape (tail s)))) × (n ≡ at)
unfolding meaning piece alias_value
alias_value_law at n s e = (go (same s dash) (read_meaning alias (s ∷ []) (named (read alias (s ∷ [])) e)), begins (read alias (s ∷ [])) e)
  where
    named : (o : Option (Option Bytes)) → alias_of at o ≡ Some (Some n) → is_read o ≡ true
    named None e = cc
    named (Some o) e = refl

    begins : (o : Option (Option Bytes)) → alias_of at o ≡ Some (Some n) → n ≡ at
    begins None e = cc
    begins (Some None) e = cc
    begins (Some (Some t)) e = cc

    go : (t : Bool) → read alias (s ∷ []) ≡ Some (cond t None (Some (unescape (tail s)))) → read alias (s ∷ []) ≡ Some (Some (unescape (tail s)))
    go true r = let z : Some None ≡ Some (Some n) = sym (ap (alias_of at) r) ∙ e in cc
    go false r = r
