-- The order of a pair's refusals, said of each sheet tested by itself: the earlier test wins, whichever side it is on; at the same test the left. The theorem is `earlier_test_wins`, in proofs/PairOrder. Assumes nothing: these are definitions.
use Rattle.std.specs.Prelude.{ℕ, cond, ltb}
use Rattle.model.specs.Tree.{Many}
use Rattle.model.specs.Refusal.{Refusal}
use Rattle.model.specs.Side.{left_side, right_side, short_work_number, long_sheet_number, bad_line_number, write_clause_number, unresolved_name_number, plan_full_number, no_room_number}
use Rattle.model.specs.Call.{Test, refuse, pass}
use Rattle.model.specs.Pair.{SideTest, refuse_side, pass_side}

-- which test a refusal is of: 3 and 4 are one test, and 6 to 8 another
abbrev pub test_of : Refusal → ℕ
test_of Refusal.ShortWork = short_work_number
test_of Refusal.LongSheet = long_sheet_number
test_of (Refusal.BadLine line) = bad_line_number
test_of (Refusal.BigTree line) = bad_line_number
test_of (Refusal.WriteClause line) = write_clause_number
test_of (Refusal.UnresolvedName line span name) = unresolved_name_number
test_of (Refusal.UndesugaredExpr line span kind) = unresolved_name_number
test_of (Refusal.EmptyPatternPart line span) = unresolved_name_number
test_of Refusal.PlanFull = plan_full_number
test_of Refusal.NoRoom = no_room_number

-- what becomes of two sides of which each was tested by itself: the right's refusal counts where its test is earlier than that of the left's
unfoldable pub earliest : {A : Type 0} → Test A → Test A → SideTest (Many A 2)
earliest (pass a) (pass b) = pass_side (a, (b, tt))
earliest (pass a) (refuse s) = refuse_side (record { side = right_side; refusal = s })
earliest (refuse r) (pass b) = refuse_side (record { side = left_side; refusal = r })
earliest (refuse r) (refuse s) = cond (ltb (test_of s) (test_of r)) (refuse_side (record { side = right_side; refusal = s })) (refuse_side (record { side = left_side; refusal = r }))
