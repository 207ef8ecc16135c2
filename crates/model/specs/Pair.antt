-- The call with two sheets, for all arguments: the tests on every side, each before the next, and one plan of both. Assumes nothing: these are definitions.
use Rattle.std.specs.Prelude.{ℕ, zero, suc, Bool, List}
use Rattle.model.specs.Text.{Bytes}
use Rattle.model.specs.Kind.{statement}
use Rattle.model.specs.Tree.{Tree, Many}
use Rattle.model.specs.Side.{SideRefusal, side_values, whole_call, left_side}
use Rattle.model.specs.Sheet.{read_sheet, first_write}
use Rattle.model.specs.Check.{precheck_statement}
use Rattle.model.specs.Lower.{LowerCtx, lower_pair}
use Rattle.model.specs.Plan.{plan_sheet}
use Rattle.model.specs.Call.{Test, refuse, pass, test_work, test_bytes, test_reading, test_write, test_check, test_plan, max_depth, Outcome, written}

-- ── a test on every side ──

-- a test that refuses with its side, or passes something on
pub data SideTest (A : Type 0) : Type 0 where
  refuse_side : SideRefusal → SideTest A
  pass_side : A → SideTest A

unfoldable pub then_sides : {A B : Type 0} → SideTest A → (A → SideTest B) → SideTest B
then_sides (refuse_side r) k = refuse_side r
then_sides (pass_side x) k = k x

unfoldable pub on_side : {A : Type 0} (side : ℕ) → Test A → SideTest A
on_side side (refuse r) = refuse_side (record { side = side; refusal = r })
on_side side (pass x) = pass_side x

-- n sides, of which the first has the number `side`: the test on each, in order
unfoldable pub each : {A B : Type 0} → (A → Test B) → (side n : ℕ) → Many A n → SideTest (Many B n)
each test side zero _ = pass_side tt
each test side (suc n) (x, xs) =
    then_sides (on_side side (test x)) λ y.
    then_sides (each test (suc side) n xs) λ ys.
    pass_side (y, ys)

-- tests 1 to 8: the checked trees. A sheet alone is one side, with the number of the call as a whole
unfoldable pub checked_sides : (depth : ℕ) (work : List ℕ) (side n : ℕ) → Many Bytes n → SideTest (Many (Tree statement) n)
checked_sides depth work side n sheets =
    then_sides (on_side whole_call (test_work work)) λ _.
    then_sides (each test_bytes side n sheets) λ _.
    then_sides (each (λ sheet. test_reading (read_sheet depth sheet)) side n sheets) λ ts.
    then_sides (each (λ t. test_write t (first_write t)) side n ts) λ ts.
    each (λ t. test_check t (precheck_statement t)) side n ts

-- ── the call ──

-- tests 1 to 9: the plan of both
unfoldable pub planned_pair : (depth : ℕ) (work : List ℕ) (left right : Bytes) (all : Bool) → SideTest LowerCtx
planned_pair depth work left right all =
    then_sides (checked_sides depth work left_side 2 (left, (right, tt))) λ ts.
    on_side whole_call (test_plan (lower_pair ts.0 ts.1.0 all))

unfoldable pub sides_outcome : Bytes → SideTest LowerCtx → Outcome
sides_outcome slice (refuse_side r) = record { answer = side_values r; slice = slice }
sides_outcome slice (pass_side c) = written (plan_sheet c) slice

-- `work` has the lengths of all eight work slices
unfoldable pub pair_call : (work : List ℕ) (left right : Bytes) (all : Bool) (slice : Bytes) → Outcome
pair_call work left right all slice = sides_outcome slice (planned_pair max_depth work left right all)
