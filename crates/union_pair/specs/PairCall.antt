-- The call with two sheets: what its parts ask and promise. Assumes nothing: these are definitions.
use Rattle.std.proofs.Math.Path.{◌≡◌}
use Rattle.std.specs.Prelude.{ℕ, ◌≤◌, Bool, List, [], ◌∷◌, Result}
use Rattle.std.proofs.Math.ListN.{length}
use Rattle.model.specs.Text.{Bytes}
use Rattle.model.specs.Side.{whole_call}
use Rattle.model.specs.Lower.{LowerCtx, lower_pair}
use Rattle.model.specs.Call.{test_plan, Outcome}
use Rattle.model.specs.Pair.{SideTest, then_sides, on_side, sides_outcome}
use Rattle.context.specs.Tables.{max_vars}
use Rattle.lower.specs.Rep.{State, mem}
use Rattle.clauses.specs.Pair.{TwoTables}
use Rattle.clauses.specs.declared.pair.Sides.{Sides}
use Rattle.plan_writer.specs.Pair.{SideTables}
use Rattle.sides.specs.declared.SideFault.{SideFault}
use Rattle.statement.specs.declared.Refusal.{Refusal}
use Rattle.union_pair.specs.PairAnswer.{pair_answer_of}
use Rattle.sides.specs.Sides.{read_sides}

-- the answer and the slice are those of a test of two sides
abbrev pub PairGives : Bytes → Bytes → Result ℕ (Refusal SideFault) → SideTest LowerCtx → Type 0
PairGives slice slice' x m = ◌≡◌ {A = Outcome} (record { answer = pair_answer_of x; slice = slice' }) (sides_outcome slice m)

-- the tables of two sheets stand for the state s
abbrev pub Stand : (L R : SideTables) (sides : Sides) → State → Type 0
Stand L R sides s = TwoTables L.sheet L.a L.b L.ops L.rest R.sheet R.a R.b sides.first s (mem sides.ctx R.ops R.rest)

-- tables that stand for some state, and no more variables than there is room for
pub record LoweredBoth (L R : SideTables) (sides : Sides) : Type 0 where
  pub met : sides.ctx.mapped ≤ max_vars
  pub state : State
  pub stand : Stand L R sides state

-- what test 2 leaves
abbrev pub behind_bytes : (left right : Bytes) (all : Bool) → SideTest LowerCtx
behind_bytes left right all = then_sides (read_sides left right) λ ts. on_side whole_call (test_plan (lower_pair ts.0 ts.1.0 all))

-- the lengths of eight slices, of which the first four are the left's
abbrev pub works : (la lb lc ld ra rb rc rd : List ℕ) → List ℕ
works la lb lc ld ra rb rc rd = length la ∷ length lb ∷ length lc ∷ length ld ∷ length ra ∷ length rb ∷ length rc ∷ length rd ∷ []
