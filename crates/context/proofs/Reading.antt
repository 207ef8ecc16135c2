-- Where a variable stands. Assumes nothing: every law is proved.
use mathlib.Core.Path.{◌≡◌, ap, ◌∙◌}
use Prim.Native.Nat.{ℕ, suc, ◌+◌, ◌*◌}
use native.Mathlib.Omega.{arith}
use mathlib.Core.List.{List, ◌∷◌}
use lib.ListN.{get_or, drop}
use lib.Seq.{get_or-drop}
use Rattle.context.specs.Tables.{vars_of, vars_at, named_words, number_word}

pub variable_at : (rest : List ℕ) (k : ℕ) → vars_of (suc k) (drop vars_at rest) ≡ (get_or rest (vars_at + k * named_words) 0, get_or rest (vars_at + k * named_words + number_word) 0) ∷ vars_of k (drop vars_at rest)
unfolding vars_of
variable_at rest k =
    let number : get_or (drop vars_at rest) (k * named_words + number_word) 0 ≡ get_or rest (vars_at + k * named_words + number_word) 0 = get_or-drop vars_at rest (k * named_words + number_word) 0 ∙ ap (λ (p : ℕ). get_or rest p 0) (omega arith) in
    rw (get_or-drop vars_at rest (k * named_words) 0, number)
