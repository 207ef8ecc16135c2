-- Trees lowered in turn, each behind the operator that the one before it left: clauses, and union arms. Assumes nothing: these are definitions.
use Rattle.std.specs.Prelude.{◌≡◌, ℕ, suc, ◌+◌, List, Option}
use Rattle.model.specs.Text.{Bytes}
use Rattle.model.specs.Kind.{Sort}
use Rattle.model.specs.Tree.{Tree, Trees, []ᵗ, ◌∷ᵗ◌}
use Rattle.model.specs.Lower.{Lowering}
use Rattle.words.specs.Held.{Held, HeldOf, size, size_of}
use Rattle.lower.specs.Side.{side}
use Rattle.lower.specs.Rep.{State, Mem, Written, Rep}
use Rattle.lower.specs.Clauses.{MovedTwice, BothBlank, Stands, Leaves}

-- the lowering of one tree behind an operator, if there is one
abbrev pub Turn : Sort → Type 0
Turn S = Tree S → Option ℕ → Lowering (Option ℕ)

unfoldable pub in_turn : {S : Sort} → Turn S → {n : ℕ} → Trees S n → Option ℕ → Lowering (Option ℕ)
in_turn turn []ᵗ o = λ s. (o, s)
in_turn turn (t ∷ᵗ ts) o = λ s. in_turn turn ts (turn t o s).0 (turn t o s).1

-- the tree at record i is lowered behind one operator and leaves another; e is the record behind it
pub record LowersTurn (S : Sort) (turn : Turn S) (sheet : Bytes) (a b : List ℕ) (d i e : ℕ) (before after : Option ℕ) (m m' : Mem) : Type 0 where
  pub moved : MovedTwice i e m m'
  pub stands : Stands after m'
  pub next : (t : Tree S) → Held sheet a b t d i → e ≡ i + size t
  pub run : {first : ℕ} (t : Tree S) → Held sheet a b t d i → (W : Written) (s : State) → Rep (side sheet a b first) W s m → BothBlank W (suc i) (suc e) → Leaves (side sheet a b first) W (λ s. turn t before s) after (suc i) (suc e) s m m'

-- so with the n trees from record i on
pub record LowersTurns (S : Sort) (turn : Turn S) (sheet : Bytes) (a b : List ℕ) (n d i e : ℕ) (before after : Option ℕ) (m m' : Mem) : Type 0 where
  pub moved : MovedTwice i e m m'
  pub stands : Stands after m'
  pub next : (ts : Trees S n) → HeldOf sheet a b ts d i → e ≡ i + size_of ts
  pub run : {first : ℕ} (ts : Trees S n) → HeldOf sheet a b ts d i → (W : Written) (s : State) → Rep (side sheet a b first) W s m → BothBlank W (suc i) (suc e) → Leaves (side sheet a b first) W (λ s. in_turn turn ts before s) after (suc i) (suc e) s m m'
