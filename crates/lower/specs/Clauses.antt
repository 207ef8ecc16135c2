-- What the lowering of a clause promises: the operator that it leaves, the notes of both passes over its records (those of the second pass over a `return` from second_pass on, those of the first, and of all else, from 0 on), and the room that it takes. Assumes nothing: these are definitions.
use Rattle.std.specs.Prelude.{◌≡◌, ℕ, suc, ◌+◌, ◌*◌, ◌≤◌, ◌<◌, List, ◌∷◌, length, Option, None, Some}
use Rattle.model.specs.Text.{Bytes}
use Rattle.model.specs.Kind.{clause}
use Rattle.model.specs.Tree.{Tree}
use Rattle.model.specs.Lower.{Lowering, lower_clause}
use Rattle.model.specs.Call.{record_operators, record_numbers}
use Rattle.words.specs.Held.{Held, size}
use Rattle.lower.specs.Side.{Side, side}
use Rattle.lower.specs.Rep.{State, Mem, Written, Blank, Rep, To, Indexes}
use Rattle.words.specs.Words.{max_records}
use Rattle.context.specs.Tables.{second_pass}

-- what the lowering of clauses from record i to e does, whatever the state
pub record MovedTwice (i e : ℕ) (m m' : Mem) : Type 0 where
  pub up : i ≤ e
  pub here : e ≤ max_records
  pub grow : m.ctx.ops ≤ m'.ctx.ops
  pub few : m'.ctx.ops + record_operators * i ≤ m.ctx.ops + record_operators * e
  pub low : m'.ctx.numbers + record_numbers * i ≤ m.ctx.numbers + record_numbers * e
  pub met : m'.ctx.mapped + record_numbers * i ≤ m.ctx.mapped + record_numbers * e
  pub in_ops : length m'.ops ≡ length m.ops
  pub in_rest : length m'.rest ≡ length m.rest
  pub index : Indexes m → Indexes m'

-- the notes from line lo to hi of both passes
abbrev pub both_passes : ℕ → ℕ → Written → Written
both_passes lo hi W = (lo, hi) ∷ (second_pass + lo, second_pass + hi) ∷ W

-- neither pass has notes there yet
pub record BothBlank (W : Written) (lo hi : ℕ) : Type 0 where
  pub first : Blank W lo hi
  pub second : Blank W (second_pass + lo) (second_pass + hi)

-- an operator that is left, if there is one
abbrev pub Stands : Option ℕ → Mem → Type 0
Stands None m = Unit {0}
Stands (Some k) m = k < m.ctx.ops

-- the lowering L leaves the operator o
pub record Leaves (S : Side) (W : Written) (L : Lowering (Option ℕ)) (o : Option ℕ) (lo hi : ℕ) (s : State) (m m' : Mem) : Type 0 where
  pub to : To S W (both_passes lo hi W) s (L s).1 m m'
  pub gives : (L s).0 ≡ o

-- the clause at record i is lowered behind one operator and leaves another; e is the record behind it
pub record LowersClause (sheet : Bytes) (a b : List ℕ) (d i e : ℕ) (before after : Option ℕ) (m m' : Mem) : Type 0 where
  pub moved : MovedTwice i e m m'
  pub stands : Stands after m'
  pub next : (t : Tree clause) → Held sheet a b t d i → e ≡ i + size t
  pub run : {first : ℕ} (t : Tree clause) → Held sheet a b t d i → (W : Written) (s : State) → Rep (side sheet a b first) W s m → BothBlank W (suc i) (suc e) → Leaves (side sheet a b first) W (λ s. lower_clause t before s) after (suc i) (suc e) s m m'
