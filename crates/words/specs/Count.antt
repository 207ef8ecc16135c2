-- How many children a record has, by its words; and records one after another, as many as are due. Assumes nothing: these are definitions.
use Rattle.std.specs.Prelude.{◌≡◌, ℕ, zero, suc, ◌+◌, Bool, true, false, cond, List, eqb, ltb}
use Rattle.model.specs.Text.{Bytes}
use Rattle.model.specs.Kind.{Sort}
use Rattle.model.specs.Tree.{Tree}
use Rattle.words.specs.Words.{cell}
use Rattle.words.specs.Places.{children_at, null_kind, prop_kind, var_kind}
use Rattle.words.specs.Held.{Held, size}

-- by the word that the reader keeps for it
abbrev pub count_at : (a b : List ℕ) (i : ℕ) → ℕ
count_at a b i = cell a b i children_at

-- the kinds of expressions that have none below them, whatever their fields
unfoldable pub is_leaf : ℕ → Bool
is_leaf kind = cond (eqb kind var_kind) true (cond (ltb kind null_kind) false (ltb kind prop_kind))

-- n trees stand one after another from record i on, and end at e
pub data Due (sheet : Bytes) (a b : List ℕ) (e : ℕ) : (n i : ℕ) → Type 0 where
  none_due : {i : ℕ} → i ≡ e → Due sheet a b e zero i
  one_due : {n i : ℕ} (s : Sort) (d : ℕ) (t : Tree s) → Held sheet a b t d i → Due sheet a b e n (i + size t) → Due sheet a b e (suc n) i

-- some tree is held
pub record Starts (a b : List ℕ) (i : ℕ) : Type 0 where
  pub sheet : Bytes
  pub sort : Sort
  pub depth : ℕ
  pub tree : Tree sort
  pub held : Held sheet a b tree depth i

-- the record behind any tree that is held
pub record Ends (a b : List ℕ) (i e : ℕ) : Type 0 where
  pub each : (sheet : Bytes) (s : Sort) (d : ℕ) (t : Tree s) → Held sheet a b t d i → e ≡ i + size t
