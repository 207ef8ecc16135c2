-- The calls, for all arguments: the tests in the order of the table of refusals, and the answer. Assumes nothing: these are definitions.
use Rattle.std.specs.Prelude.{ℕ, ◌*◌, ◌≤◌, Bool, false, cond, ◌||◌, List, [], ◌∷◌, ◌++◌, ltb, length, drop, Option, None, Some}
use Rattle.model.specs.Text.{Bytes}
use Rattle.model.specs.Kind.{statement}
use Rattle.model.specs.Tree.{Tree, records}
use Rattle.model.specs.Refusal.{Refusal, Answer, accepted, values_of}
use Rattle.model.specs.Sheet.{Reading, got, refused, read_sheet, first_write}
use Rattle.model.specs.Check.{Verdict, fine, violated, precheck_statement}
use Rattle.model.specs.Lower.{LowerCtx, lower_statement}
use Rattle.model.specs.Plan.{plan_sheet}

-- each work slice has at least so many words
abbrev pub work_words : ℕ
work_words = 16384

-- a sheet has at most so many bytes
abbrev pub max_bytes : ℕ
max_bytes = 32768

-- `stmt` has depth 1
abbrev pub max_depth : ℕ
max_depth = 64

-- a plan has at most so many operators, and as many variable numbers
abbrev pub max_plan : ℕ
max_plan = 2048

-- a test refuses, or passes something on
pub data Test (A : Type 0) : Type 0 where
  refuse : Refusal → Test A
  pass : A → Test A

unfoldable pub then : {A B : Type 0} → Test A → (A → Test B) → Test B
then (refuse r) k = refuse r
then (pass x) k = k x

-- 1
unfoldable pub short : List ℕ → Bool
short [] = false
short (w ∷ ws) = ltb w work_words || short ws

unfoldable pub test_work : List ℕ → Test (Unit {0})
test_work ws = cond (short ws) (refuse Refusal.ShortWork) (pass tt)

-- 2
unfoldable pub test_bytes : Bytes → Test (Unit {0})
test_bytes sheet = cond (ltb max_bytes (length sheet)) (refuse Refusal.LongSheet) (pass tt)

-- 3 and 4
unfoldable pub test_reading : Reading (Tree statement) → Test (Tree statement)
test_reading (got t p) = pass t
test_reading (refused r) = refuse r

-- 5
unfoldable pub test_write : Tree statement → Option ℕ → Test (Tree statement)
test_write t None = pass t
test_write t (Some l) = refuse (Refusal.WriteClause l)

-- 6 to 8
unfoldable pub test_check : Tree statement → Verdict → Test (Tree statement)
test_check t fine = pass t
test_check t (violated r) = refuse r

-- 9
unfoldable pub test_plan : LowerCtx → Test LowerCtx
test_plan c = cond (ltb max_plan (length c.ops) || ltb max_plan c.scope.next_var) (refuse Refusal.PlanFull) (pass c)

-- tests 1 to 8: the checked tree. `depth` is the depth that a sheet may have, `work` the lengths of the work slices
unfoldable pub checked : (depth : ℕ) (work : List ℕ) → Bytes → Test (Tree statement)
checked depth work sheet =
    then (test_work work) λ _.
    then (test_bytes sheet) λ _.
    then (test_reading (read_sheet depth sheet)) λ t.
    then (test_write t (first_write t)) λ t.
    test_check t (precheck_statement t)

-- tests 1 to 9: the plan
unfoldable pub planned : (depth : ℕ) (work : List ℕ) → Bytes → Test LowerCtx
planned depth work sheet = then (checked depth work sheet) λ t. test_plan (lower_statement t)

-- ── the lowering call ──

pub record Outcome : Type 0 where
  pub answer : Answer
  -- the plan slice afterwards
  pub slice : Bytes

-- 10, and the plan, behind which nothing changes
unfoldable pub written : Bytes → Bytes → Outcome
written text slice =
    cond (ltb (length slice) (length text))
    (record { answer = values_of Refusal.NoRoom; slice = slice })
    (record { answer = accepted (length text); slice = text ++ drop (length text) slice })

unfoldable pub outcome : Bytes → Test LowerCtx → Outcome
outcome slice (refuse r) = record { answer = values_of r; slice = slice }
outcome slice (pass c) = written (plan_sheet c) slice

unfoldable pub lower_call : (work : List ℕ) (sheet slice : Bytes) → Outcome
lower_call work sheet slice = outcome slice (planned max_depth work sheet)

-- ── the sizing call ──

-- how many records a tree has
unfoldable pub record_count : Tree statement → ℕ
record_count t = length (records t)

-- a plan has at most so many operators, and numbers of variables, for each record
abbrev pub record_operators : ℕ
record_operators = 4

abbrev pub record_numbers : ℕ
record_numbers = 2

-- the figure is left free within its bounds
pub record Figure (t : Tree statement) (n : ℕ) : Type 0 where
  pub enough : length (lower_statement t).ops ≤ n
  pub few : n ≤ record_operators * record_count t

pub data Sized : Test (Tree statement) → Answer → Type 0 where
  refusal : {r : Refusal} → Sized (refuse r) (values_of r)
  figure : {t : Tree statement} {n : ℕ} → Figure t n → Sized (pass t) (accepted n)

-- the answers that the sizing call may give
abbrev pub SizeCall : (work : List ℕ) (sheet : Bytes) → Answer → Type 0
SizeCall work sheet a = Sized (checked max_depth work sheet) a
