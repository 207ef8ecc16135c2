-- The call with one sheet is the chain of tests over a list of one side, whose number is 0. Assumes nothing: these are laws with their proofs.
use Rattle.std.proofs.Common.{ℕ, List, ◌≡◌, refl, sym, ap, arith}
use Rattle.model.specs.Text.{Bytes}
use Rattle.model.specs.Kind.{statement}
use Rattle.model.specs.Tree.{Tree, Many}
use Rattle.model.specs.Refusal.{Refusal, tree_refusal, values_of}
use Rattle.model.specs.Side.{undesugared_expr_number, side_values, whole_call}
use Rattle.model.specs.Sheet.{read_sheet, first_write}
use Rattle.model.specs.Lower.{LowerCtx, lower_statement}
use Rattle.model.specs.Call.{Test, refuse, pass, then, test_work, test_bytes, test_reading, test_write, test_plan, max_depth, checked, planned, outcome, lower_call}
use Rattle.model.specs.Pair.{SideTest, pass_side, then_sides, on_side, each, checked_sides, sides_outcome}

-- what a test of one sheet is as a test of sides
unfoldable pub alone : {A : Type 0} → Test A → SideTest (Many A 1)
alone m = then_sides (on_side whole_call m) λ x. pass_side (x, tt)

then_alone : {A B : Type 0} (m : Test A) (k : A → Test B) (l : Many A 1 → SideTest (Many B 1)) → ((x : A) → l (x, tt) ≡ alone (k x)) → then_sides (alone m) l ≡ alone (then m k)
unfolding alone then then_sides on_side
then_alone (refuse r) k l h = refl
then_alone (pass x) k l h = h x

first_alone : {A B : Type 0} (m : Test A) (k : A → Test B) (l : A → SideTest (Many B 1)) → ((x : A) → l x ≡ alone (k x)) → then_sides (on_side whole_call m) l ≡ alone (then m k)
unfolding alone then then_sides on_side
first_alone (refuse r) k l h = refl
first_alone (pass x) k l h = h x

pub checked_alone : (depth : ℕ) (work : List ℕ) (sheet : Bytes) → checked_sides depth work whole_call 1 (sheet, tt) ≡ alone (checked depth work sheet)
unfolding checked_sides checked each alone then_sides
checked_alone depth work sheet =
    first_alone (test_work work) _ _ λ _.
    then_alone (test_bytes sheet) _ _ λ _.
    then_alone (test_reading (read_sheet depth sheet)) _ _ λ t.
    then_alone (test_write t (first_write t)) _ _ λ u.
    refl

pub values_alone : (r : Refusal) → side_values (record { side = whole_call; refusal = r }) ≡ values_of r
values_alone Refusal.ShortWork = refl
values_alone Refusal.LongSheet = refl
values_alone (Refusal.BadLine line) = refl
values_alone (Refusal.BigTree line) = refl
values_alone (Refusal.WriteClause line) = refl
values_alone (Refusal.UnresolvedName line span name) = refl
values_alone (Refusal.UndesugaredExpr line span kind) = ap (λ k. tree_refusal undesugared_expr_number line span k) (omega arith)
values_alone (Refusal.EmptyPatternPart line span) = refl
values_alone Refusal.PlanFull = refl
values_alone Refusal.NoRoom = refl

outcome_alone : (slice : Bytes) (m : Test LowerCtx) → sides_outcome slice (on_side whole_call m) ≡ outcome slice m
unfolding sides_outcome on_side outcome
outcome_alone slice (refuse r) = ap (λ a. record { answer = a; slice = slice }) (values_alone r)
outcome_alone slice (pass c) = refl

plan_alone : (m : Test (Tree statement)) → then_sides (alone m) (λ ts. on_side whole_call (test_plan (lower_statement ts.0))) ≡ on_side whole_call (then m λ t. test_plan (lower_statement t))
unfolding alone then then_sides on_side
plan_alone (refuse r) = refl
plan_alone (pass t) = refl

pub call_alone : (work : List ℕ) (sheet slice : Bytes) → lower_call work sheet slice ≡ sides_outcome slice (then_sides (checked_sides max_depth work whole_call 1 (sheet, tt)) λ ts. on_side whole_call (test_plan (lower_statement ts.0)))
unfolding lower_call planned
call_alone work sheet slice = rw (checked_alone max_depth work sheet, plan_alone (checked max_depth work sheet)) (sym (outcome_alone slice _))
