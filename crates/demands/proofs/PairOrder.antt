-- The order of a pair's refusals, said of each sheet tested by itself: the earlier test wins, whichever side it is on; at the same test the left. The theorem is `earlier_test_wins`, at the end. Assumes nothing: this is a theorem with its proof.
use Rattle.std.specs.Prelude.{[], ◌≡◌, refl, ℕ, suc, ◌≤◌, Bool, true, false, cond, List, ltb, length, Option, None, Some}
use Rattle.std.proofs.Common.{sym, subst, arith, le-ltb, lt-ltb}
use Rattle.model.specs.Text.{Bytes}
use Rattle.model.specs.Kind.{statement}
use Rattle.model.specs.Tree.{Tree, Many}
use Rattle.model.specs.Sheet.{Reading, read_sheet, first_write}
use Rattle.model.specs.Check.{Verdict, no_span, precheck_statement}
use Rattle.model.specs.Refusal.{Refusal}
use Rattle.model.specs.Side.{left_side, right_side}
use Rattle.model.specs.Call.{Test, refuse, pass, then, test_work, test_bytes, test_reading, test_write, test_check, checked, max_bytes, max_depth}
use Rattle.model.specs.Pair.{SideTest, refuse_side, pass_side, then_sides, on_side, each, checked_sides}
use Rattle.laws.specs.TreeLaws.{numbered}
use Rattle.demands.specs.Sheets.{LongWork}
use Rattle.demands.specs.Reader.{Numbered, read, three, four, sheet_numbered}
use Rattle.demands.specs.Walk.{Line, lines, Fault}
use Rattle.demands.specs.WalkLaws.{Walked, met, met_none}
use Rattle.demands.proofs.WalkLaws.{walked, first_fault_law}
use Rattle.demands.proofs.Demand1.{Got, numbers}
use Rattle.demands.specs.PairOrder.{test_of, earliest}

-- ── what the tests refuse with ──

-- refusals of one test, or something known is passed on
data At {A : Type 0} (n : ℕ) (P : A → Type 0) : Test A → Type 0 where
  passes : {x : A} → P x → At n P (pass x)
  refuses : {r : Refusal} → test_of r ≡ n → At n P (refuse r)

-- refusals of no test before this one
data From {A : Type 0} (n : ℕ) : Test A → Type 0 where
  any : {x : A} → From n (pass x)
  later : {r : Refusal} → n ≤ test_of r → From n (refuse r)

raise : {A : Type 0} {n k : ℕ} {m : Test A} → k ≤ n → From n m → From k m
raise l any = any
raise {n} {k} l (later {r = r} h) = later {r = r} (omega arith)

from_at : {A : Type 0} {n : ℕ} {P : A → Type 0} {m : Test A} → At n P m → From n m
from_at (passes p) = any
from_at (refuses {r = r} e) = later {r = r} (omega arith)

from_then : {A B : Type 0} {n : ℕ} {P : B → Type 0} {m : Test B} {k : B → Test A} → At n P m → ((x : B) → P x → From (suc n) (k x)) → From n (then m k)
unfolding then
from_then (passes {x = x} p) f = raise (omega arith) (f x p)
from_then (refuses {r = r} e) f = later {r = r} (omega arith)

-- ── two chains side by side ──

-- a test on both sides
abbrev both : {B : Type 0} → Test B → Test B → SideTest (Many B 2)
both m m' = then_sides (on_side left_side m) λ x. then_sides (then_sides (on_side right_side m') λ y. pass_side (y, tt)) λ ys. pass_side (x, ys)

left_wins : {A : Type 0} {n : ℕ} {m : Test A} (r : Refusal) → test_of r ≡ n → From n m → earliest (refuse r) m ≡ refuse_side (record { side = left_side; refusal = r })
unfolding earliest
left_wins r e any = refl
left_wins r e (later {r = s} l) = rw (le-ltb (test_of s) (test_of r) (omega arith))

right_wins : {A : Type 0} {n : ℕ} {m : Test A} (s : Refusal) → test_of s ≡ n → From (suc n) m → earliest m (refuse s) ≡ refuse_side (record { side = right_side; refusal = s })
unfolding earliest
right_wins s e any = refl
right_wins s e (later {r = r} l) = rw (lt-ltb (test_of s) (test_of r) (omega arith))

-- one test before the others
step : {A B : Type 0} (n : ℕ) {P Q : B → Type 0} {m m' : Test B} {k k' : B → Test A} (f : Many B 2 → SideTest (Many A 2)) → At n P m → At n Q m' → ((x : B) → P x → From (suc n) (k x)) → ((y : B) → Q y → From (suc n) (k' y)) →
    ((x y : B) → P x → Q y → earliest (k x) (k' y) ≡ f (x, (y, tt))) → earliest (then m k) (then m' k') ≡ then_sides (both m m') f
unfolding then then_sides on_side
step n f (passes {x = x} p) (passes {x = y} q) g g' h = h x y p q
step n f (passes {x = x} p) (refuses {r = s} e) g g' h = right_wins s e (g x p)
step n f (refuses {r = r} e) (passes {x = y} q) g g' h = left_wins r e (raise (omega arith) (g' y q))
step n f (refuses {r = r} e) (refuses {r = s} e') g g' h = left_wins r e (later {r = s} (omega arith))

-- and the last one
last : {A : Type 0} (n : ℕ) {P Q : A → Type 0} {m m' : Test A} → At n P m → At n Q m' → earliest m m' ≡ both m m'
unfolding then_sides on_side earliest
last n (passes p) (passes q) = refl
last n (passes p) (refuses e) = refl
last n (refuses e) (passes q) = refl
last n (refuses {r = r} e) (refuses {r = s} e') = rw (le-ltb (test_of s) (test_of r) (omega arith))

-- ── the tests of a sheet ──

choice_at : {A : Type 0} (b : Bool) (r : Refusal) (x : A) → At (test_of r) (λ y. Unit {0}) (cond b (refuse r) (pass x))
choice_at true r x = refuses refl
choice_at false r x = passes tt

bytes_at : (sheet : Bytes) → At 2 (λ y. Unit {0}) (test_bytes sheet)
unfolding test_bytes
bytes_at sheet = choice_at (ltb max_bytes (length sheet)) Refusal.LongSheet tt

reading_of : (sheet : Bytes) {r : Reading (Tree statement)} → read_sheet max_depth sheet ≡ r → Numbered r → At 3 (Got sheet) (test_reading r)
unfolding test_reading
reading_of sheet e (read {p = p} l) = passes (record { place = p; reads = e })
reading_of sheet e (three l) = refuses refl
reading_of sheet e (four l) = refuses refl

reading_at : (sheet : Bytes) → At 3 (Got sheet) (test_reading (read_sheet max_depth sheet))
reading_at sheet = reading_of sheet refl (sheet_numbered max_depth sheet)

write_of_law : (t : Tree statement) (o : Option ℕ) → At 5 (λ u. t ≡ u) (test_write t o)
unfolding test_write
write_of_law t None = passes refl
write_of_law t (Some line) = refuses refl

check_of_law : (t : Tree statement) {ls : List Line} {v : Verdict} → Walked 1 ls v → At 6 (λ u. Unit {0}) (test_check t v)
unfolding test_check
check_of_law t (met_none f) = passes tt
check_of_law t (met line s (Fault.UnresolvedName x) m l) = refuses refl
check_of_law t (met line s (Fault.UndesugaredExpr kind) m l) = refuses refl
check_of_law t (met line s Fault.EmptyPatternPart m l) = refuses refl

check_at : (t : Tree statement) → numbered t 1 ≡ t → At 6 (λ u. Unit {0}) (test_check t (precheck_statement t))
check_at t e = check_of_law t (subst (λ v. Walked 1 (lines [] t) v) (sym (first_fault_law t e no_span)) (walked no_span 1 (lines [] t)))

-- the same tree behind test 5
check_behind : (t u : Tree statement) → numbered t 1 ≡ t → t ≡ u → At 6 (λ u. Unit {0}) (test_check u (precheck_statement u))
check_behind t u e q = subst (λ x. At 6 (λ y. Unit {0}) (test_check x (precheck_statement x))) q (check_at t e)

tree_from : (t : Tree statement) → numbered t 1 ≡ t → From 5 (then (test_write t (first_write t)) λ u. test_check u (precheck_statement u))
tree_from t e = from_then (write_of_law t (first_write t)) λ u q. from_at (check_behind t u e q)

sheet_from : (sheet : Bytes) → From 3 (then (test_reading (read_sheet max_depth sheet)) λ t. then (test_write t (first_write t)) λ u. test_check u (precheck_statement u))
sheet_from sheet = from_then (reading_at sheet) λ t g. raise (omega arith) (tree_from t (numbers g))

-- ── the theorem ──

sides : (l r : Bytes) →
    earliest (then (test_bytes l) λ _. then (test_reading (read_sheet max_depth l)) λ t. then (test_write t (first_write t)) λ u. test_check u (precheck_statement u)) (then (test_bytes r) λ _. then (test_reading (read_sheet max_depth r)) λ t. then (test_write t (first_write t)) λ u. test_check u (precheck_statement u))
    ≡ then_sides (both (test_bytes l) (test_bytes r)) (λ _. then_sides (both (test_reading (read_sheet max_depth l)) (test_reading (read_sheet max_depth r))) λ ts. then_sides (both (test_write ts.0 (first_write ts.0)) (test_write ts.1.0 (first_write ts.1.0))) λ us. both (test_check us.0 (precheck_statement us.0)) (test_check us.1.0 (precheck_statement us.1.0)))
sides l r =
    step 2 _ (bytes_at l) (bytes_at r) (λ _ _. sheet_from l) (λ _ _. sheet_from r) λ _ _ _ _.
    step 3 _ (reading_at l) (reading_at r) (λ t g. raise (omega arith) (tree_from t (numbers g))) (λ t g. raise (omega arith) (tree_from t (numbers g))) λ t u g h.
    step 5 _ (write_of_law t (first_write t)) (write_of_law u (first_write u)) (λ v e. from_at (check_behind t v (numbers g) e)) (λ v e. from_at (check_behind u v (numbers h) e)) λ v w e q.
    last 6 (check_behind t v (numbers g) e) (check_behind u w (numbers h) q)

-- Of work slices that are long enough. (A short one is refused with no side.)
pub earlier_test_wins : (work : List ℕ) (l r : Bytes) → LongWork work → checked_sides max_depth work left_side 2 (l, (r, tt)) ≡ earliest (checked max_depth work l) (checked max_depth work r)
unfolding checked_sides checked test_work each on_side then then_sides
earlier_test_wins work l r w = rw w (sym (sides l r))
