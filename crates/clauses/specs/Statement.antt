-- What the lowering of a whole statement asks and promises, from any state on and from the empty one. Assumes nothing: these are definitions.
use Rattle.std.specs.Prelude.{◌≡◌, ℕ, suc, ◌*◌, ◌≤◌, List, [], Option}
use Rattle.model.specs.Call.{max_depth, record_operators}
use Rattle.model.specs.Text.{Bytes}
use Rattle.model.specs.Kind.{statement}
use Rattle.model.specs.Tree.{Tree}
use Rattle.model.specs.Lower.{lower, lower_statement}
use Rattle.words.specs.Words.{max_records}
use Rattle.words.specs.Held.{Held, HeldSome, size}
use Rattle.context.specs.Tables.{max_vars, deepest}
use Rattle.context.specs.declared.LowerCtx.{LowerCtx}
use Rattle.lower.specs.Side.{side}
use Rattle.lower.specs.Rep.{State, Mem, Written, Rep}
use Rattle.lower.specs.Clauses.{MovedTwice, BothBlank, Stands, Leaves}
use Rattle.projections.specs.Ready.{Ready}

-- ── no variables ──

-- the step that forgets the variables: operators and the next number stay
abbrev pub forget : State → State
forget s = record { ops = s.ops; scope = record { vars = []; next_var = s.scope.next_var } }

-- the same of the counts
abbrev pub forgetting : LowerCtx → LowerCtx
forgetting c = record { ops = c.ops; numbers = c.numbers; mapped = 0 }

-- ── from any state on ──

-- a statement is held, at most d deep, and there is room
pub record StatementAsked (sheet : Bytes) (a b : List ℕ) (d : ℕ) (m : Mem) : Type 0 where
  pub held : HeldSome sheet a b statement d 0
  pub ready : Ready 1 m
  pub depth : d ≤ deepest

-- the statement that is held is lowered from whatever state the tables stand for, and leaves an operator or none
pub record LowersFrom (sheet : Bytes) (a b : List ℕ) (d e : ℕ) (after : Option ℕ) (m m' : Mem) : Type 0 where
  pub moved : MovedTwice 1 e m m'
  pub stands : Stands after m'
  pub next : (t : Tree statement) → Held sheet a b t d 0 → e ≡ size t
  pub run : {first : ℕ} (t : Tree statement) → Held sheet a b t d 0 → (W : Written) (s : State) → Rep (side sheet a b first) W s m → BothBlank W (suc 1) (suc e) → Leaves (side sheet a b first) W (λ s. lower t s) after (suc 1) (suc e) s m m'

-- ── from the empty state ──

-- the tables stand for what the definition makes of a tree
pub record Represented (sheet : Bytes) (a b : List ℕ) (t : Tree statement) (m : Mem) : Type 0 where
  pub written : Written
  pub rep : Rep (side sheet a b 0) written (lower_statement t) m

-- the statement that is held is lowered, from nothing, and the counts stay within the tables' bounds
pub record LowersStatement (sheet : Bytes) (a b : List ℕ) (m : Mem) : Type 0 where
  pub met : m.ctx.mapped ≤ max_vars
  pub few : m.ctx.ops ≤ record_operators * max_records
  pub run : (t : Tree statement) → Held sheet a b t max_depth 0 → Represented sheet a b t m
