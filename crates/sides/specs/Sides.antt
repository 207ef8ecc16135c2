-- The tests on two sheets, each on the left and then on the right before the next: what the code finds, and what that says of the definition's tests. Assumes nothing: these are definitions.
use Rattle.std.specs.Prelude.{◌≡◌, ℕ, List, Result, Ok, Err}
use Rattle.model.specs.Text.{Bytes}
use Rattle.model.specs.Kind.{statement}
use Rattle.model.specs.Tree.{Tree, Many}
use Rattle.model.specs.Sheet.{read_sheet, first_write}
use Rattle.model.specs.Side.{left_side}
use Rattle.model.specs.Check.{precheck_statement}
use Rattle.model.specs.Call.{pass, test_reading, test_write, test_check, max_depth}
use Rattle.model.specs.Pair.{SideTest, refuse_side, pass_side, then_sides, each}
use Rattle.words.specs.Held.{Held}
use Rattle.sheet.specs.declared.reader.ReadError.{ReadError}
use Rattle.statement.specs.declared.Fault.{Fault}
use Rattle.statement.specs.Tests.{Fails}
use Rattle.sides.specs.declared.Side.{Side}
use Rattle.sides.specs.declared.SideFault.{SideFault}
use Rattle.sides.specs.Fault.{on_side_of}

-- ── what the code finds ──

-- one test of a sheet: passed, or what is wrong; and so of two sheets
abbrev pub Found : Type 0
Found = Result (Unit {0}) Fault

abbrev pub Tested : Type 0
Tested = Result (Unit {0}) SideFault

abbrev pub found_on : Side → Found → Tested
found_on side (Ok x) = Ok x
found_on side (Err f) = Err (record { side = side; fault = f })

-- the first of two tests that finds something
abbrev pub or_next : Tested → Tested → Tested
or_next (Ok x) next = next
or_next (Err f) next = Err f

-- one test on both sides
abbrev pub each_of : Found → Found → Tested
each_of left right = or_next (found_on Side.Left left) (found_on Side.Right right)

-- tests 3 and 4, and test 5, of the reader's answer
abbrev pub unread_of : Result ℕ ReadError → Found
unread_of (Ok n) = Ok tt
unread_of (Err (ReadError.BadLine l)) = Err (Fault.Unread (ReadError.BadLine l))
unread_of (Err (ReadError.BigTree l)) = Err (Fault.Unread (ReadError.BigTree l))
unread_of (Err (ReadError.WriteClause l)) = Ok tt

abbrev pub writes_of : Result ℕ ReadError → Found
writes_of (Ok n) = Ok tt
writes_of (Err (ReadError.BadLine l)) = Ok tt
writes_of (Err (ReadError.BigTree l)) = Ok tt
writes_of (Err (ReadError.WriteClause l)) = Err (Fault.Unread (ReadError.WriteClause l))

abbrev pub read_of : Result ℕ ReadError → Result ℕ ReadError → Tested
read_of left right = or_next (each_of (unread_of left) (unread_of right)) (each_of (writes_of left) (writes_of right))

-- ── what that says ──

-- a test that refuses two sheets for a fault of a side
pub record FailsOn {A : Type 0} (f : SideFault) (m : SideTest A) : Type 0 where
  pub unresolved : Bytes
  pub is : m ≡ refuse_side (on_side_of f unresolved)

-- a test of a tree
abbrev pub CheckFinds : Found → Tree statement → Type 0
CheckFinds (Ok x) t = test_check t (precheck_statement t) ≡ pass t
CheckFinds (Err f) t = Fails f (test_check t (precheck_statement t))

-- so of whatever tree the words hold
abbrev pub ChecksSheet : (a b : List ℕ) → Found → Type 0
ChecksSheet a b r = (sheet : Bytes) (t : Tree statement) → Held sheet a b t max_depth 0 → CheckFinds r t

-- tests 6 to 8 on two trees, and 3 to 8 on two sheets
unfoldable pub check_sides : Many (Tree statement) 2 → SideTest (Many (Tree statement) 2)
check_sides ts = each (λ t. test_check t (precheck_statement t)) left_side 2 ts

unfoldable pub read_sides : (left right : Bytes) → SideTest (Many (Tree statement) 2)
read_sides left right =
    then_sides (each (λ sheet. test_reading (read_sheet max_depth sheet)) left_side 2 (left, (right, tt))) λ ts.
    then_sides (each (λ t. test_write t (first_write t)) left_side 2 ts) λ ts.
    check_sides ts

-- both sheets were read, and the words hold their trees
pub record BothHeld (left : Bytes) (la lb : List ℕ) (right : Bytes) (ra rb : List ℕ) : Type 0 where
  pub tree : Tree statement
  pub tree₂ : Tree statement
  pub on_left : Held left la lb tree max_depth 0
  pub on_right : Held right ra rb tree₂ max_depth 0

-- tests 3 to 5 of both
pub record BothRead (left : Bytes) (la lb : List ℕ) (right : Bytes) (ra rb : List ℕ) : Type 0 where
  pub held : BothHeld left la lb right ra rb
  pub passes : read_sides left right ≡ check_sides (held.tree, (held.tree₂, tt))

abbrev pub ReadBoth : (left : Bytes) (la lb : List ℕ) (right : Bytes) (ra rb : List ℕ) → Tested → Type 0
ReadBoth left la lb right ra rb (Ok x) = BothRead left la lb right ra rb
ReadBoth left la lb right ra rb (Err f) = FailsOn f (read_sides left right)

-- tests 3 to 8 of both
pub record BothTested (left : Bytes) (la lb : List ℕ) (right : Bytes) (ra rb : List ℕ) : Type 0 where
  pub held : BothHeld left la lb right ra rb
  pub passes : read_sides left right ≡ pass_side (held.tree, (held.tree₂, tt))

abbrev pub TestedBoth : (left : Bytes) (la lb : List ℕ) (right : Bytes) (ra rb : List ℕ) → Tested → Type 0
TestedBoth left la lb right ra rb (Ok x) = BothTested left la lb right ra rb
TestedBoth left la lb right ra rb (Err f) = FailsOn f (read_sides left right)
