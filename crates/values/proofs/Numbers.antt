-- The numbers of an answer, one after another, and an answer by its values. Assumes nothing.
use Rattle.std.specs.Prelude.{◌≡◌, ℕ, ◌+◌, ◌<◌, List, [], ◌∷◌, ◌++◌, length, take}
use Rattle.std.proofs.Common.{get_or, append-nil, add-one}
use Rattle.std.proofs.lemmas.Grind.{flat_map-append}
use Rattle.std.proofs.Math.Seq.{take-suc}
use Rattle.model.specs.Text.{Bytes, decimal}
use Rattle.model.specs.Refusal.{Answer}
use Rattle.model.specs.Call.{Outcome}
use Rattle.output.specs.declared.Page.{Page}
use Rattle.output.specs.Page.{Puts}
use Rattle.output.specs.Writes.{◌⨾◌, stay}
use Rattle.values.specs.Text.{parted, numbers_text}

module _ (separator : ℕ) (ns : List ℕ) where
  pub none_put : {g : Page} → Puts (numbers_text separator []) g g
  unfolding numbers_text
  none_put = stay

  more : (i : ℕ) → i < length ns → numbers_text separator (take (i + 1) ns) ≡ numbers_text separator (take i ns) ++ parted separator (get_or ns i 0)
  unfolding numbers_text
  more i h = rw (add-one, take-suc ns i 0 h, flat_map-append (parted separator) (take i ns) (get_or ns i 0 ∷ []), append-nil)

  pub one_more : (i : ℕ) {g g' g'' g''' : Page} → i < length ns → Puts (numbers_text separator (take i ns)) g g' → Puts (separator ∷ []) g' g'' → Puts (decimal (get_or ns i 0)) g'' g''' → Puts (numbers_text separator (take (i + 1) ns)) g g'''
  one_more i h p q r = rw (more i h) (p ⨾ (q ⨾ r))

-- an outcome with another name for its answer
pub with_values : {a b : Answer} {slice : Bytes} {o : Outcome} → a ≡ b → ◌≡◌ {A = Outcome} (record { answer = b; slice = slice }) o → ◌≡◌ {A = Outcome} (record { answer = a; slice = slice }) o
with_values e h = rw e h
