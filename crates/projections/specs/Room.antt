-- The room that clauses have: what it allows of a call below, and how the steps of a clause add up. Assumes nothing.
use Rattle.std.specs.Prelude.{◌≡◌, refl, ℕ, ◌+◌, ◌-◌, ◌≤◌, ◌<◌, List, length, Option}
use Rattle.std.proofs.Common.{◌∙◌, le_refl, arith}
use Rattle.model.specs.Call.{work_words}
use Rattle.model.specs.Text.{Bytes}
use Rattle.model.specs.Kind.{Sort}
use Rattle.model.specs.Lower.{Lowering}
use Rattle.words.specs.Words.{max_records}
use Rattle.words.specs.Held.{HeldSome, HeldMany}
use Rattle.context.specs.Tables.{CanPush, Pushed, deepest}
use Rattle.context.specs.declared.op.Op.{Op}
use Rattle.context.specs.declared.LowerCtx.{LowerCtx}
use Rattle.lower.specs.Rep.{Mem, mem, RoomFor, Moved}
use Rattle.lower.specs.Clauses.{MovedTwice}
use Rattle.projections.specs.Ready.{Ready, max_found, max_passed}
use Rattle.lower.specs.Patterns.{SomeTrees}
use Rattle.words.specs.Fits.{trees_fits}
use Rattle.lower.specs.Pieces.{SomeTree}
pub use Rattle.lower.specs.Standing.{low, deep, fits}
use Rattle.lower.specs.Chains.{OrSource}
use Rattle.projections.specs.Asked.{ClauseAsked}

-- ── trees ──

-- so many trees are no more than the records
pub few_trees : {a b : List ℕ} {s : Sort} {n d i : ℕ} → i ≤ max_records → SomeTrees a b s n d i → i + n ≤ max_records
few_trees {a} {b} {d = d} {i = i} l x = let f = trees_fits x.sheet a b x.trees d i l x.held in omega (arith, f.0, f.1)

-- what is held of the sheet that is passed is held of some sheet
pub some_tree : {sheet : Bytes} {a b : List ℕ} {s : Sort} {d i : ℕ} → HeldSome sheet a b s d i → SomeTree a b s d i
some_tree {sheet} x = record { sheet = sheet; tree = x.tree; held = x.is }

pub some_trees : {sheet : Bytes} {a b : List ℕ} {s : Sort} {n d i : ℕ} → HeldMany sheet a b s n d i → SomeTrees a b s n d i
some_trees {sheet} x = record { sheet = sheet; trees = x.trees; held = x.are }

-- ── where a clause may begin ──

-- room for what is at most d deep, from record j on
pub ready_room : {d i j : ℕ} {m : Mem} → Ready i m → i ≤ j → j ≤ max_records → d ≤ deepest → RoomFor d j m
ready_room g l h ld = record { few = omega (arith, g.few); low = omega (arith, g.low); met = omega (arith, g.met); here = h; in_ops = g.in_ops; in_rest = g.in_rest; index = g.index }

pub ready_after : {i e : ℕ} {m m' : Mem} → MovedTwice i e m m' → Ready i m → Ready e m'
ready_after p g = record { few = omega (arith, p.few, g.few); low = omega (arith, p.low, g.low); met = omega (arith, p.met, g.met); here = p.here; in_ops = rw p.in_ops g.in_ops; in_rest = rw p.in_rest g.in_rest; index = p.index g.index }

pub ready_from : {i j : ℕ} {m : Mem} → i ≤ j → j ≤ max_records → Ready i m → Ready j m
ready_from l h g = record { few = omega (arith, g.few); low = omega (arith, g.low); met = omega (arith, g.met); here = h; in_ops = g.in_ops; in_rest = g.in_rest; index = g.index }

pub few : {i : ℕ} {m : Mem} → Ready i m → m.ctx.ops ≤ max_found
few g = omega (arith, g.few, g.here)

-- the numbers of a function that lowers a clause
pub record Bounds (d i ops : ℕ) : Type 0 where
  pub low : i < max_records
  pub deep : 1 ≤ d
  pub shallow : d ≤ deepest
  pub few : ops ≤ max_found

pub bounds_of : {a b : List ℕ} {s : Sort} {d i : ℕ} {m : Mem} → SomeTree a b s d i → Ready i m → d ≤ deepest → Bounds d i m.ctx.ops
bounds_of x g h = record { low = low x; deep = deep x; shallow = h; few = few g }

pub bounds : {a b : List ℕ} {k : ℕ} {d i : ℕ} {current : Option ℕ} {m : Mem} → ClauseAsked k a b d i current m → Bounds d i m.ctx.ops
bounds g = bounds_of g.tree g.ready g.depth

-- ── what moves ──

pub twice_refl : {i : ℕ} {m : Mem} → i ≤ max_records → MovedTwice i i m m
twice_refl h = record { up = omega arith; here = h; grow = le_refl _; few = omega arith; low = omega arith; met = omega arith; in_ops = refl; in_rest = refl; index = λ x. x }

pub twice_then : {i j e : ℕ} {m m₁ m₂ : Mem} → MovedTwice i j m m₁ → MovedTwice j e m₁ m₂ → MovedTwice i e m m₂
twice_then p q = record { up = omega (arith, p.up, q.up); here = q.here; grow = omega (arith, p.grow, q.grow); few = omega (arith, p.few, q.few); low = omega (arith, p.low, q.low); met = omega (arith, p.met, q.met); in_ops = q.in_ops ∙ p.in_ops; in_rest = q.in_rest ∙ p.in_rest; index = λ x. q.index (p.index x) }

-- at least one record, and then an operator
pub twice_pushed : {i j : ℕ} {c : LowerCtx} {os : List ℕ} {x : Op} {m m₁ : Mem} → Moved i j m m₁ → i + 1 ≤ j → Pushed m₁.ctx c m₁.ops os x → length os ≡ length m₁.ops → MovedTwice i j m (mem c os m₁.rest)
twice_pushed p l q lo = record { up = p.up; here = p.here; grow = omega (arith, p.grow, q.count); few = omega (arith, p.few, q.count); low = omega (arith, p.low, p.up, q.numbers); met = omega (arith, p.met, p.up, q.mapped); in_ops = lo ∙ p.in_ops; in_rest = p.in_rest; index = λ x. rw q.mapped (p.index x) }

-- ── behind one pass over records that are ready ──

module _ {i j e : ℕ} {m m' : Mem} (g : Ready i m) (p : Moved j e m m') (l : i ≤ j) where
  pub few_after : m'.ctx.ops ≤ max_passed
  few_after = let x = g.few in let y = p.few in let h = p.here in let u = p.up in omega arith

  pub ops_after : work_words ≤ length m'.ops
  ops_after = rw p.in_ops g.in_ops

-- ── behind the operator before, or a source of everything ──

module _ {o : ℕ} {L : Lowering ℕ} {k i : ℕ} {m m₁ : Mem} (g : Ready i m) (q : OrSource o L k m m₁) where
  pub room_source : {j : ℕ} (d : ℕ) → i + 1 ≤ j → j ≤ max_records → d ≤ deepest → RoomFor d j m₁
  room_source d l h ld = record { few = omega (arith, g.few, q.few); low = omega (arith, g.low, q.numbers); met = omega (arith, g.met, q.mapped); here = h; in_ops = rw q.in_ops g.in_ops; in_rest = rw q.rest g.in_rest; index = rw (q.mapped, q.rest) g.index }

  -- its number is small
  pub few_source : k ≤ max_found
  few_source = omega (arith, g.few, g.here, q.few, q.low)

-- behind it, at the first record below a clause
pub clause_room : {k k₀ : ℕ} {a b : List ℕ} {d i : ℕ} {current : Option ℕ} {L : Lowering ℕ} {m m₁ : Mem} → ClauseAsked k a b d i current m → OrSource m.ctx.ops L k₀ m m₁ → RoomFor (d - 1) (i + 1) m₁
clause_room {d = d} g q = let l = bounds g in room_source g.ready q (d - 1) (le_refl _) (omega (arith, l.low)) (omega (arith, l.shallow))

pub can_source : {i : ℕ} {m : Mem} → Ready i m → CanPush m.ctx m.ops
can_source r = record { few = omega (arith, r.few, r.here); long = r.in_ops }

-- ── room for an operator ──

-- behind one more operator, another
pub push_again : {d i : ℕ} {c : LowerCtx} {os : List ℕ} {x : Op} {m : Mem} → RoomFor d i m → Pushed m.ctx c m.ops os x → length os ≡ length m.ops → CanPush c os
push_again g p l = record { few = omega (arith, g.few, g.here, p.count); long = rw l g.in_ops }
