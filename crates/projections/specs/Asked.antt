-- What the functions that lower a clause ask, by name. Assumes nothing: these are definitions.
use Rattle.std.specs.Prelude.{◌≡◌, ℕ, ◌+◌, ◌-◌, ◌≤◌, ◌<◌, List, Option}
use Rattle.model.specs.Text.{Bytes}
use Rattle.model.specs.Kind.{clause, projection}
use Rattle.words.specs.Words.{cell, max_records}
use Rattle.words.specs.Places.{return_kind, kind_at, items_at}
use Rattle.words.specs.Held.{HeldSome, HeldMany}
use Rattle.context.specs.Tables.{second_pass, deepest}
use Rattle.context.specs.Ops.{Under}
use Rattle.context.specs.declared.At.{At}
use Rattle.lower.specs.Rep.{Mem, RoomFor}
use Rattle.lower.specs.Pieces.{SomeTree, SomeCarried}
use Rattle.lower.specs.Patterns.{SomeTrees}
use Rattle.projections.specs.Ready.{Ready}
use Rattle.projections.specs.Promises.{SomeTail}

-- ── a clause ──

-- the clause at record i, of kind k and at most d deep, behind the operator that stands before it
pub record ClauseAsked (k : ℕ) (a b : List ℕ) (d i : ℕ) (current : Option ℕ) (m : Mem) : Type 0 where
  pub tree : SomeTree a b clause d i
  pub kind : cell a b i kind_at ≡ k
  pub ready : Ready i m
  pub depth : d ≤ deepest
  pub stands : Under current m.ctx.ops

-- a `return`, of the sheet that is passed
pub record ReturnAsked (sheet : Bytes) (a b : List ℕ) (d i : ℕ) (current : Option ℕ) (m : Mem) : Type 0 where
  pub asked : ClauseAsked return_kind a b d i current m
  pub held : HeldSome sheet a b clause d i

-- ── its items ──

-- n items or sort keys from a place on, each a record with an expression behind it
pub record ItemsAsked (a b : List ℕ) (at : At) (n : ℕ) (m : Mem) : Type 0 where
  pub items : SomeCarried a b n 1 (at.left - 1) at.i
  pub room : RoomFor at.left at.i m
  pub depth : at.left ≤ deepest
  pub pass : at.base ≤ second_pass

-- n items from a place on, of the sheet that is passed
pub record SplitAsked (sheet : Bytes) (a b : List ℕ) (at : At) (n : ℕ) (m : Mem) : Type 0 where
  pub items : HeldMany sheet a b projection n at.left at.i
  pub room : RoomFor at.left at.i m
  pub depth : at.left ≤ deepest

-- the n items of the `return` at record i, at most d deep, before their first lowering
pub record FirstAsked (sheet : Bytes) (a b : List ℕ) (n d i : ℕ) (current : Option ℕ) (m : Mem) : Type 0 where
  pub counted : n ≡ cell a b i items_at
  pub items : HeldMany sheet a b projection n d (i + 1)
  pub ready : Ready i m
  pub low : i < max_records
  pub depth : d ≤ deepest
  pub stands : Under current m.ctx.ops

-- so before their second one, over operator `input`
pub record SecondAsked (a b : List ℕ) (n d i input : ℕ) (m : Mem) : Type 0 where
  pub counted : n ≡ cell a b i items_at
  pub items : SomeTrees a b projection n d (i + 1)
  pub room : RoomFor d (i + 1) m
  pub low : i < max_records
  pub depth : d ≤ deepest

-- ── what trails it ──

-- the trailers of the clause at record i, at most d deep, from record j on
pub record TailAsked (a b : List ℕ) (d i j input : ℕ) (m : Mem) : Type 0 where
  pub low : i < max_records
  pub tail : SomeTail a b d i j
  pub ready : Ready j m
  pub depth : d ≤ deepest
  pub stands : input < m.ctx.ops
