-- What the room that there is allows: the operator before a clause, and the numbers of its variables. Assumes nothing.
use Rattle.std.specs.Prelude.{Option, Some, None}
use mathlib.Core.Path.{◌≡◌, refl, ap, ◌∙◌}
use Prim.Native.Nat.{ℕ, ◌+◌, ◌≤◌}
use native.Mathlib.Omega.{arith}
use lib.ListN.{length}
use Rattle.model.specs.Lower.{Lowering}
use Rattle.words.specs.Words.{max_records}
use Rattle.context.specs.Tables.{CanNumber}
use Rattle.context.specs.Ops.{Under}
use Rattle.context.specs.OpLaws.{under_none, under_some}
use Rattle.lower.specs.Rep.{Mem, Moved}
use Rattle.lower.specs.Chains.{OrSource}
use Rattle.lower.specs.Clauses.{Stands}
use Rattle.projections.specs.Ready.{Ready, max_passed}

-- ── the operator before ──

-- an operator that is left is below the count
pub stands_under : (m : Mem) (o : Option ℕ) → Stands o m → Under o m.ctx.ops
stands_under m None h = under_none
stands_under m (Some k) h = under_some h

pub under_stands : (m : Mem) (o : Option ℕ) → Under o m.ctx.ops → Stands o m
under_stands m None h = tt
under_stands m (Some k) h = h.op k refl

-- ── behind the operator before, or a source of everything, and then one pass ──

module _ {o : ℕ} {L : Lowering ℕ} {k i j e : ℕ} {m m₁ m₂ : Mem} (g : Ready i m) (q : OrSource o L k m m₁) (p : Moved j e m₁ m₂) (l : i ≤ j) where
  pub few_sourced : m₂.ctx.ops ≤ max_passed
  few_sourced = omega (arith, g.few, q.few, p.few, p.here, p.up)

  pub can_number : {place : ℕ} → place ≡ i + 1 → i ≤ max_records → CanNumber m₂.ctx place m₂.rest
  can_number ep h = record { met = omega (arith, g.met, q.mapped, p.met, p.here, p.up); low = omega (arith, g.low, q.numbers, p.low, p.here, p.up); noted = omega arith; long = rw (p.in_rest ∙ ap length q.rest) g.in_rest; index = p.index (rw (q.mapped, q.rest) g.index) }
