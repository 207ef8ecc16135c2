-- Demand 1: each lowering call, whatever its arguments are, ends in one of two ways: accepted, with the plan written and no byte changed behind it; or with a number of the table of refusals, its place, zeros in the other fields, and the plan slice untouched. The theorem is `demand1`, at the end. Assumes nothing: this is a theorem with its proof.
use Rattle.std.specs.Prelude.{◌≡◌, refl, ℕ, ◌≤◌, Bool, true, false, cond, ◌||◌, List, [], ◌++◌, ltb, length, drop, Option, None}
use Rattle.std.proofs.Common.{sym, subst, ltb-false}
use Rattle.model.specs.Text.{Bytes}
use Rattle.model.specs.Field.{Span}
use Rattle.model.specs.Kind.{statement}
use Rattle.model.specs.Tree.{Tree}
use Rattle.model.specs.Sheet.{Place, Reading, got, read_sheet, first_write}
use Rattle.model.specs.Check.{Verdict, fine, no_span, precheck_statement}
use Rattle.model.specs.Lower.{LowerCtx, lower_statement}
use Rattle.model.specs.Plan.{plan_sheet}
use Rattle.model.specs.Refusal.{Refusal, values_of}
use Rattle.model.specs.Call.{Test, refuse, pass, then, short, test_work, test_bytes, test_reading, test_write, test_check, test_plan, checked, planned, written, outcome, lower_call, max_bytes, max_depth, max_plan}
use Rattle.laws.specs.TreeLaws.{numbered}
use Rattle.laws.specs.SheetLaws.{sheet_sound}
use Rattle.demands.specs.Sheets.{WellFormed, answer}
use Rattle.demands.specs.Reader.{Numbered, read, three, four, sheet_numbered, AtLeast, nowhere, at_line, write_least}
use Rattle.demands.specs.Walk.{Line, lines, Fault, refusal_at}
use Rattle.demands.specs.WalkLaws.{Walked, met, met_none}
use Rattle.demands.proofs.WalkLaws.{walked, first_fault_law}
use Rattle.demands.specs.Demand1.{Row, short_work, long_sheet, bad_line, big_tree, write_clause, unresolved, undesugared, empty_part, plan_full, no_room, Ends, accepts, refuses, Tested, stops, goes_on, Planned}

-- ── the tests: each stops with a row of the table, or goes on with something that is known ──

then_tested : {A B : Type 0} {P : A → Type 0} {Q : B → Type 0} {m : Test A} {k : A → Test B} → Tested P m → ((x : A) → P x → Tested Q (k x)) → Tested Q (then m k)
unfolding then
then_tested (stops r) f = stops r
then_tested (goes_on {x = x} p) f = f x p

choice_tested : {A : Type 0} (b : Bool) (r : Refusal) (x : A) → Row (values_of r) → Tested (λ y. (b ≡ false) × (x ≡ y)) (cond b (refuse r) (pass x))
choice_tested true r x row = stops row
choice_tested false r x row = goes_on (refl, refl)

-- behind test 4: the tree that was read
pub record Got (sheet : Bytes) (t : Tree statement) : Type 0 where
  pub place : Place
  pub reads : read_sheet max_depth sheet ≡ got t place

pub numbers : {sheet : Bytes} {t : Tree statement} → Got sheet t → numbered t 1 ≡ t
numbers {sheet} {t} g = (sheet_sound max_depth sheet t g.place g.reads).0.numbers

reading_tested : (sheet : Bytes) {r : Reading (Tree statement)} → read_sheet max_depth sheet ≡ r → Numbered r → Tested (Got sheet) (test_reading r)
unfolding test_reading
reading_tested sheet e (read {a = t} {p = p} l) = goes_on (record { place = p; reads = e })
reading_tested sheet e (three l) = stops (bad_line l)
reading_tested sheet e (four l) = stops (big_tree l)

write_tested : (t : Tree statement) {o : Option ℕ} → first_write t ≡ o → AtLeast 1 o → Tested (λ u. (first_write t ≡ None) × (t ≡ u)) (test_write t o)
unfolding test_write
write_tested t e nowhere = goes_on (e, refl)
write_tested t e (at_line l) = stops (write_clause l)

fault_row : (line : ℕ) (s : Span) (x : Fault) → 1 ≤ line → Row (values_of (refusal_at line s x))
fault_row line s (Fault.UnresolvedName x) l = unresolved l
fault_row line s (Fault.UndesugaredExpr kind) l = undesugared l
fault_row line s Fault.EmptyPatternPart l = empty_part l

check_tested : (t : Tree statement) {ls : List Line} {v : Verdict} → precheck_statement t ≡ v → Walked 1 ls v → Tested (λ u. (precheck_statement t ≡ fine) × (t ≡ u)) (test_check t v)
unfolding test_check
check_tested t e (met_none f) = goes_on (e, refl)
check_tested t e (met line s x m l) = stops (fault_row line s x l)

check_all : (t : Tree statement) → numbered t 1 ≡ t → Tested (λ u. (precheck_statement t ≡ fine) × (t ≡ u)) (test_check t (precheck_statement t))
check_all t e = check_tested t refl (subst (λ v. Walked 1 (lines [] t) v) (sym (first_fault_law t e no_span)) (walked no_span 1 (lines [] t)))

tree_tested : (t : Tree statement) → numbered t 1 ≡ t → Tested (λ u. (first_write t ≡ None) × ((precheck_statement t ≡ fine) × (t ≡ u))) (then (test_write t (first_write t)) λ u. test_check u (precheck_statement u))
tree_tested t e =
    then_tested (write_tested t refl (subst (λ u. AtLeast 1 (first_write u)) e (write_least t 1))) λ u p.
    subst (λ x. Tested (λ y. (first_write t ≡ None) × ((precheck_statement t ≡ fine) × (t ≡ y))) (test_check x (precheck_statement x))) p.1 (with_read p.0 (check_all t e))
  where
    with_read : {m : Test (Tree statement)} → first_write t ≡ None → Tested (λ u. (precheck_statement t ≡ fine) × (t ≡ u)) m → Tested (λ u. (first_write t ≡ None) × ((precheck_statement t ≡ fine) × (t ≡ u))) m
    with_read r (stops x) = stops x
    with_read r (goes_on q) = goes_on (r, q)

pub planned_tested : (work : List ℕ) (sheet : Bytes) → Tested (Planned sheet) (planned max_depth work sheet)
unfolding planned checked test_work test_bytes test_plan
planned_tested work sheet =
    then_tested (then_tested (choice_tested (short work) Refusal.ShortWork tt short_work) λ _ _.
    then_tested (choice_tested (ltb max_bytes (length sheet)) Refusal.LongSheet tt long_sheet) λ _ b.
    then_tested (reading_tested sheet refl (sheet_numbered max_depth sheet)) λ t g.
    known (ltb-false max_bytes (length sheet) b.0) g (tree_tested t (numbers g))) λ t k.
    over_limits t k (ltb max_plan (length (lower_statement t).ops) || ltb max_plan (lower_statement t).scope.next_var)
  where
    Known : Tree statement → Type 0
    Known t = WellFormed sheet t × ((first_write t ≡ None) × (precheck_statement t ≡ fine))

    known : {t : Tree statement} {m : Test (Tree statement)} → length sheet ≤ max_bytes → Got sheet t → Tested (λ u. (first_write t ≡ None) × ((precheck_statement t ≡ fine) × (t ≡ u))) m → Tested Known m
    known l g (stops r) = stops r
    known l g (goes_on q) = goes_on (subst Known q.1.1 (record { bytes = l; behind = g.place; reads = g.reads }, (q.0, q.1.0)))

    over_limits : (t : Tree statement) → Known t → (b : Bool) → Tested (Planned sheet) (cond b (refuse Refusal.PlanFull) (pass (lower_statement t)))
    over_limits t k true = stops plan_full
    over_limits t k false = goes_on (record { tree = t; well_formed = k.0; read_only = k.1.0; checked = k.1.1; lowered = refl })

-- ── the demand ──

written_ends : (plan slice : Bytes) (b : Bool) → ltb (length slice) (length plan) ≡ b → Ends slice (cond b (record { answer = answer 10 0 0 0 0 0; slice = slice }) (record { answer = answer 0 0 0 0 0 (length plan); slice = plan ++ drop (length plan) slice }))
written_ends plan slice true e = refuses no_room
written_ends plan slice false e = accepts plan (ltb-false (length slice) (length plan) e)

outcome_ends : (slice : Bytes) {P : LowerCtx → Type 0} {m : Test LowerCtx} → Tested P m → Ends slice (outcome slice m)
unfolding outcome written
outcome_ends slice (stops r) = refuses r
outcome_ends slice (goes_on {x = c} _) = written_ends (plan_sheet c) slice _ refl

pub demand1 : (work : List ℕ) (sheet slice : Bytes) → Ends slice (lower_call work sheet slice)
unfolding lower_call
demand1 work sheet slice = outcome_ends slice (planned_tested work sheet)
