-- Demand 1: each lowering call, whatever its arguments are, ends in one of two ways: accepted, with the plan written and no byte changed behind it; or with a number of the table of refusals, its place, zeros in the other fields, and the plan slice untouched. The theorem is `demand1`, in proofs/Demand1. Assumes nothing: these are definitions, and what they rule out.
use Rattle.std.specs.Prelude.{◌≡◌, refl, ℕ, ◌≤◌, ◌++◌, length, drop}
use Rattle.std.proofs.Common.{arith}
use Rattle.std.proofs.Math.Seq.{drop-append_seam}
use Rattle.model.specs.Text.{Bytes}
use Rattle.model.specs.Kind.{statement}
use Rattle.model.specs.Tree.{Tree}
use Rattle.model.specs.Check.{fine, precheck_statement}
use Rattle.model.specs.Lower.{LowerCtx, lower_statement}
use Rattle.model.specs.Refusal.{Refusal, Answer, values_of}
use Rattle.model.specs.Call.{Outcome, Test, refuse, pass}
use Rattle.demands.specs.Sheets.{WellFormed, ReadOnly, answer}

-- ── the two ways ──

-- The ten rows of the table. An answer is number, line, span start, span end, kind and length; a line is counted from 1, and what a row does not name is 0.
pub data Row : Answer → Type 0 where
  short_work : Row (answer 1 0 0 0 0 0)
  long_sheet : Row (answer 2 0 0 0 0 0)
  bad_line : {line : ℕ} → 1 ≤ line → Row (answer 3 line 0 0 0 0)
  big_tree : {line : ℕ} → 1 ≤ line → Row (answer 4 line 0 0 0 0)
  write_clause : {line : ℕ} → 1 ≤ line → Row (answer 5 line 0 0 0 0)
  unresolved : {line from to : ℕ} → 1 ≤ line → Row (answer 6 line from to 0 0)
  undesugared : {line from to kind : ℕ} → 1 ≤ line → Row (answer 7 line from to kind 0)
  empty_part : {line from to : ℕ} → 1 ≤ line → Row (answer 8 line from to 0 0)
  plan_full : Row (answer 9 0 0 0 0 0)
  no_room : Row (answer 10 0 0 0 0 0)

-- how a call ends that was given the plan slice `slice`
pub data Ends (slice : Bytes) : Outcome → Type 0 where
  -- number 0, the length of a text, and the slice is that text and then what stood behind it
  accepts : (plan : Bytes) → length plan ≤ length slice → Ends slice (record { answer = answer 0 0 0 0 0 (length plan); slice = plan ++ drop (length plan) slice })
  -- a row of the table, and the slice is as it was
  refuses : {a : Answer} → Row a → Ends slice (record { answer = a; slice = slice })

-- ── the tests: each stops with a row of the table, or goes on with something that is known ──

pub data Tested {A : Type 0} (P : A → Type 0) : Test A → Type 0 where
  stops : {r : Refusal} → Row (values_of r) → Tested P (refuse r)
  goes_on : {x : A} → P x → Tested P (pass x)

-- behind test 9: the state that a plan is written of
pub record Planned (sheet : Bytes) (c : LowerCtx) : Type 0 where
  pub tree : Tree statement
  pub well_formed : WellFormed sheet tree
  pub read_only : ReadOnly tree
  pub checked : precheck_statement tree ≡ fine
  pub lowered : lower_statement tree ≡ c

-- ── what that rules out ──

-- a refusal's number is not 0
pub row_number : {a : Answer} → Row a → a.number ≡ 0 → ⊥
row_number short_work e = omega arith
row_number long_sheet e = omega arith
row_number (bad_line l) e = omega arith
row_number (big_tree l) e = omega arith
row_number (write_clause l) e = omega arith
row_number (unresolved l) e = omega arith
row_number (undesugared l) e = omega arith
row_number (empty_part l) e = omega arith
row_number plan_full e = omega arith
row_number no_room e = omega arith

-- a call that refuses leaves the slice as it was
pub refused_untouched : {slice : Bytes} {o : Outcome} → Ends slice o → (o.answer.number ≡ 0 → ⊥) → o.slice ≡ slice
refused_untouched (accepts text le) n = absurd (n refl)
refused_untouched (refuses row) n = refl

-- a call that accepts leaves every byte behind the length that it answers
pub accepted_behind : {slice : Bytes} {o : Outcome} → Ends slice o → o.answer.number ≡ 0 → drop o.answer.length o.slice ≡ drop o.answer.length slice
accepted_behind {slice} (accepts text le) z = drop-append_seam text (drop (length text) slice)
accepted_behind (refuses row) z = absurd (row_number row z)

-- only refusal 7 has a kind, and no refusal a length
pub kind_of_seven : {a : Answer} → Row a → (a.number ≡ 7 → ⊥) → (a.kind ≡ 0) × (a.length ≡ 0)
kind_of_seven short_work n = (refl, refl)
kind_of_seven long_sheet n = (refl, refl)
kind_of_seven (bad_line l) n = (refl, refl)
kind_of_seven (big_tree l) n = (refl, refl)
kind_of_seven (write_clause l) n = (refl, refl)
kind_of_seven (unresolved l) n = (refl, refl)
kind_of_seven (undesugared l) n = absurd (n refl)
kind_of_seven (empty_part l) n = (refl, refl)
kind_of_seven plan_full n = (refl, refl)
kind_of_seven no_room n = (refl, refl)
