-- What the functions that lower clauses, arms and statements ask, by name. Assumes nothing: these are definitions.
use Rattle.std.specs.Prelude.{◌≡◌, ℕ, ◌+◌, ◌≤◌, ◌<◌, List, length, drop, Option}
use Rattle.model.specs.Call.{work_words}
use Rattle.model.specs.Text.{Bytes}
use Rattle.model.specs.Kind.{Sort, clause}
use Rattle.words.specs.Words.{cell, max_records}
use Rattle.words.specs.Places.{write_kind, kind_at}
use Rattle.words.specs.Held.{HeldSome, HeldMany}
use Rattle.context.specs.Tables.{vars_at, max_vars, max_count, Indexed, CanPush, deepest}
use Rattle.context.specs.Ops.{Under}
use Rattle.context.specs.declared.LowerCtx.{LowerCtx}
use Rattle.lower.specs.Rep.{Mem}
use Rattle.lower.specs.declared.Lowered.{Lowered}
use Rattle.projections.specs.Ready.{Ready}
use Rattle.clauses.specs.Steps.{SomeYields}

-- the clause at record i, which reads, of any kind and at most d deep
pub record ReadingAsked (sheet : Bytes) (a b : List ℕ) (d i : ℕ) (current : Option ℕ) (m : Mem) : Type 0 where
  pub held : HeldSome sheet a b clause d i
  pub reads : (cell a b i kind_at ≡ write_kind) → ⊥
  pub ready : Ready i m
  pub depth : d ≤ deepest
  pub stands : Under current m.ctx.ops

-- the `match` at record i, whose parts have their root, and an operator or none to join it with
pub record JoinAsked (root : Lowered ℕ) (current : Option ℕ) (i : ℕ) (ops : List ℕ) : Type 0 where
  pub push : CanPush root.ctx ops
  pub low : root.op < root.ctx.ops
  pub here : i < max_records

-- the tree of a sort at record i, behind an operator or none
pub record TurnAsked (s : Sort) (sheet : Bytes) (a b : List ℕ) (d i : ℕ) (current : Option ℕ) (m : Mem) : Type 0 where
  pub held : HeldSome sheet a b s d i
  pub ready : Ready i m
  pub depth : d ≤ deepest
  pub stands : Under current m.ctx.ops

-- so n trees from record i on
pub record TurnsAsked (s : Sort) (sheet : Bytes) (a b : List ℕ) (n d i : ℕ) (current : Option ℕ) (m : Mem) : Type 0 where
  pub held : HeldMany sheet a b s n d i
  pub ready : Ready i m
  pub depth : d ≤ deepest
  pub stands : Under current m.ctx.ops

-- n yields from record i on. How long the notes' table is has to be asked: it is lent alone, and what Tables says of both comes with both.
pub record YieldsAsked (a b : List ℕ) (n i : ℕ) (c : LowerCtx) (rest : List ℕ) : Type 0 where
  pub some : SomeYields a b n i
  pub fits : i + n ≤ max_records
  pub met : c.mapped + n ≤ max_vars
  pub low : c.numbers + n ≤ max_count
  pub in_rest : work_words ≤ length rest
  pub index : Indexed c.mapped (drop vars_at rest)
