-- Demand 1 for the call with two sheets: whatever its arguments are, it ends accepted, with the plan written and no byte changed behind it; or with a number of the table of refusals, its place, a kind that tells the side, zeros in the other fields, and the plan slice untouched. The theorem is `demand1_pair`, in proofs/PairDemand1. Assumes nothing: these are definitions, and what they rule out.
use Rattle.std.specs.Prelude.{◌≡◌, refl, ℕ, ◌+◌, ◌*◌, ◌≤◌, Bool, ◌++◌, length, drop}
use Rattle.std.proofs.Common.{arith}
use Rattle.std.proofs.Math.Seq.{drop-append_seam}
use Rattle.model.specs.Text.{Bytes}
use Rattle.model.specs.Kind.{statement}
use Rattle.model.specs.Tree.{Tree}
use Rattle.model.specs.Check.{fine, precheck_statement}
use Rattle.model.specs.Lower.{LowerCtx, lower_pair}
use Rattle.model.specs.Refusal.{Answer}
use Rattle.model.specs.Side.{SideRefusal, side_values, left_side, right_side, side_step, short_work_number, long_sheet_number, bad_line_number, big_tree_number, write_clause_number, unresolved_name_number, undesugared_expr_number, empty_pattern_part_number, plan_full_number, no_room_number}
use Rattle.model.specs.Call.{Outcome}
use Rattle.model.specs.Pair.{SideTest, refuse_side, pass_side}
use Rattle.demands.specs.Sheets.{WellFormed, ReadOnly, answer}

-- ── the two ways ──

-- the largest kind of a form that should be gone
abbrev pub max_form : ℕ
max_form = 3

pub data IsSide : ℕ → Type 0 where
  left : IsSide left_side
  right : IsSide right_side

-- The ten rows of the table. The line and the span are of the side's own sheet; the kind is the side, in 7 ten times the side more than the form's. Where the whole call is refused it is 0.
pub data SideRow : Answer → Type 0 where
  short_work : SideRow (answer short_work_number 0 0 0 0 0)
  long_sheet : {side : ℕ} → IsSide side → SideRow (answer long_sheet_number 0 0 0 side 0)
  bad_line : {side line : ℕ} → IsSide side → 1 ≤ line → SideRow (answer bad_line_number line 0 0 side 0)
  big_tree : {side line : ℕ} → IsSide side → 1 ≤ line → SideRow (answer big_tree_number line 0 0 side 0)
  write_clause : {side line : ℕ} → IsSide side → 1 ≤ line → SideRow (answer write_clause_number line 0 0 side 0)
  unresolved : {side line from to : ℕ} → IsSide side → 1 ≤ line → SideRow (answer unresolved_name_number line from to side 0)
  undesugared : {side line from to : ℕ} (kind : ℕ) → kind ≤ max_form → IsSide side → 1 ≤ line → SideRow (answer undesugared_expr_number line from to (side_step * side + kind) 0)
  empty_part : {side line from to : ℕ} → IsSide side → 1 ≤ line → SideRow (answer empty_pattern_part_number line from to side 0)
  plan_full : SideRow (answer plan_full_number 0 0 0 0 0)
  no_room : SideRow (answer no_room_number 0 0 0 0 0)

-- how a call ends that was given the plan slice `slice`
pub data PairEnds (slice : Bytes) : Outcome → Type 0 where
  -- number 0, the length of a text, and the slice is that text and then what stood behind it
  accepts : (plan : Bytes) → length plan ≤ length slice → PairEnds slice (record { answer = answer 0 0 0 0 0 (length plan); slice = plan ++ drop (length plan) slice })
  -- a row of the table, and the slice is as it was
  refuses : {a : Answer} → SideRow a → PairEnds slice (record { answer = a; slice = slice })

pub data SideTested {A : Type 0} (P : A → Type 0) : SideTest A → Type 0 where
  stops : {r : SideRefusal} → SideRow (side_values r) → SideTested P (refuse_side r)
  goes_on : {x : A} → P x → SideTested P (pass_side x)

-- a sheet that passes the tests 2 to 8, and its tree
pub record Taken (sheet : Bytes) (t : Tree statement) : Type 0 where
  pub well_formed : WellFormed sheet t
  pub read_only : ReadOnly t
  pub checked : precheck_statement t ≡ fine

-- behind test 9: the state that a plan is written of
pub record PlannedPair (left right : Bytes) (all : Bool) (c : LowerCtx) : Type 0 where
  pub left_tree : Tree statement
  pub right_tree : Tree statement
  pub left_taken : Taken left left_tree
  pub right_taken : Taken right right_tree
  pub lowered : lower_pair left_tree right_tree all ≡ c

-- ── what that rules out ──

-- a refusal's number is not 0
pub side_row_number : {a : Answer} → SideRow a → a.number ≡ 0 → ⊥
side_row_number short_work e = omega arith
side_row_number (long_sheet i) e = omega arith
side_row_number (bad_line i l) e = omega arith
side_row_number (big_tree i l) e = omega arith
side_row_number (write_clause i l) e = omega arith
side_row_number (unresolved i l) e = omega arith
side_row_number (undesugared kind k i l) e = omega arith
side_row_number (empty_part i l) e = omega arith
side_row_number plan_full e = omega arith
side_row_number no_room e = omega arith

-- a call that refuses leaves the slice as it was
pub pair_refused_untouched : {slice : Bytes} {o : Outcome} → PairEnds slice o → (o.answer.number ≡ 0 → ⊥) → o.slice ≡ slice
pair_refused_untouched (accepts text le) n = absurd (n refl)
pair_refused_untouched (refuses row) n = refl

-- a call that accepts leaves every byte behind the length that it answers
pub pair_accepted_behind : {slice : Bytes} {o : Outcome} → PairEnds slice o → o.answer.number ≡ 0 → drop o.answer.length o.slice ≡ drop o.answer.length slice
pair_accepted_behind {slice} (accepts text le) z = drop-append_seam text (drop (length text) slice)
pair_accepted_behind (refuses row) z = absurd (side_row_number row z)

-- the kind of 7 tells the side and the form
pub seven_tells : {side side' : ℕ} (kind kind' : ℕ) → IsSide side → IsSide side' → kind ≤ max_form → kind' ≤ max_form → side_step * side + kind ≡ side_step * side' + kind' → (side ≡ side') × (kind ≡ kind')
seven_tells kind kind' left left l l' e = (refl, omega arith)
seven_tells kind kind' left right l l' e = absurd (omega arith)
seven_tells kind kind' right left l l' e = absurd (omega arith)
seven_tells kind kind' right right l l' e = (refl, omega arith)
