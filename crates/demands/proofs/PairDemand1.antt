-- Demand 1 for the call with two sheets: each test stops with a row of the table, or goes on with something that is known. The theorem is `demand1_pair`, at the end. Assumes nothing: this is a theorem with its proof.
use Rattle.std.specs.Prelude.{[], ◌≡◌, refl, ℕ, ◌≤◌, Bool, true, false, cond, ◌||◌, List, ◌++◌, ltb, length, drop, Option, None}
use Rattle.std.proofs.Common.{sym, subst}
use Rattle.std.proofs.Common.{ltb-false}
use Rattle.model.specs.Text.{Bytes}
use Rattle.model.specs.Field.{Span}
use Rattle.model.specs.Kind.{statement}
use Rattle.model.specs.Tree.{Tree, Many}
use Rattle.model.specs.Sheet.{Reading, read_sheet, first_write}
use Rattle.model.specs.Check.{Verdict, fine, violated, no_span, precheck_statement}
use Rattle.model.specs.Lower.{LowerCtx, lower_pair}
use Rattle.model.specs.Plan.{plan_sheet}
use Rattle.model.specs.Refusal.{Refusal}
use Rattle.model.specs.Side.{side_values, left_side, right_side}
use Rattle.model.specs.Call.{Test, refuse, pass, short, test_work, test_bytes, test_reading, test_write, test_check, test_plan, written, max_bytes, max_depth, max_plan}
use Rattle.model.specs.Pair.{SideTest, then_sides, on_side, each, checked_sides, planned_pair, sides_outcome, pair_call}
use Rattle.laws.specs.SheetLaws.{sheet_sound}
use Rattle.demands.specs.Sheets.{answer}
use Rattle.demands.specs.Reader.{Numbered, read, three, four, sheet_numbered, AtLeast, nowhere, at_line, write_least}
use Rattle.demands.specs.Walk.{Line, lines, Fault, refusal_at}
use Rattle.demands.specs.WalkLaws.{Walked, met, met_none}
use Rattle.demands.proofs.WalkLaws.{walked, first_fault_law}
use Rattle.demands.proofs.FormKinds.{Small, form_small, small_verdict}
use Rattle.demands.proofs.Demand1.{Got, numbers}
use Rattle.demands.specs.PairDemand1.{IsSide, left, right, SideRow, short_work, long_sheet, bad_line, big_tree, write_clause, unresolved, undesugared, empty_part, plan_full, no_room, PairEnds, accepts, refuses, SideTested, stops, goes_on, Taken, PlannedPair}

-- ── the tests: each stops with a row of the table, or goes on with something that is known ──

then_tested : {A B : Type 0} {P : A → Type 0} {Q : B → Type 0} {m : SideTest A} {k : A → SideTest B} → SideTested P m → ((x : A) → P x → SideTested Q (k x)) → SideTested Q (then_sides m k)
unfolding then_sides
then_tested (stops r) f = stops r
then_tested (goes_on {x = x} p) f = f x p

known : {A : Type 0} {P Q : A → Type 0} {m : SideTest A} → ((x : A) → P x → Q x) → SideTested P m → SideTested Q m
known f (stops r) = stops r
known f (goes_on {x = x} p) = goes_on (f x p)

-- a test on one side, and on both
one_tested : {A B : Type 0} (f : A → Test B) (side : ℕ) (x : A) {P : B → Type 0} → SideTested P (on_side side (f x)) → SideTested (λ ys. P ys.0) (each f side 1 (x, tt))
unfolding each then_sides
one_tested f side x {P} p = then_tested {Q = λ ys. P ys.0} p λ y h. goes_on h

two_tested : {A B : Type 0} (f : A → Test B) (xs : Many A 2) {P Q : B → Type 0} → SideTested P (on_side left_side (f xs.0)) → SideTested Q (on_side right_side (f xs.1.0)) → SideTested (λ ys. P ys.0 × Q ys.1.0) (each f 1 2 xs)
unfolding each
two_tested f (x, (y, _)) {P} {Q} p q = then_tested {Q = λ ys. P ys.0 × Q ys.1.0} p λ a h. then_tested {Q = λ ys. P ys.0 × Q ys.1.0} (one_tested f 2 y q) λ b k. goes_on (h, k)

choice_tested : {A : Type 0} (side : ℕ) (b : Bool) (r : Refusal) (x : A) → SideRow (side_values (record { side = side; refusal = r })) → SideTested (λ y. (b ≡ false) × (x ≡ y)) (on_side side (cond b (refuse r) (pass x)))
unfolding on_side
choice_tested side true r x row = stops row
choice_tested side false r x row = goes_on (refl, refl)

module _ {side : ℕ} (i : IsSide side) where
  bytes_tested : (sheet : Bytes) → SideTested (λ _. length sheet ≤ max_bytes) (on_side side (test_bytes sheet))
  unfolding test_bytes
  bytes_tested sheet = known (λ _ p. ltb-false max_bytes (length sheet) p.0) (choice_tested side (ltb max_bytes (length sheet)) Refusal.LongSheet tt (long_sheet i))

  reading_tested : (sheet : Bytes) {r : Reading (Tree statement)} → read_sheet max_depth sheet ≡ r → Numbered r → SideTested (Got sheet) (on_side side (test_reading r))
  unfolding test_reading on_side
  reading_tested sheet e (read {a = t} {p = p} l) = goes_on (record { place = p; reads = e })
  reading_tested sheet e (three l) = stops (bad_line i l)
  reading_tested sheet e (four l) = stops (big_tree i l)

  write_tested : (t : Tree statement) {o : Option ℕ} → first_write t ≡ o → AtLeast 1 o → SideTested (λ u. (first_write t ≡ None) × (t ≡ u)) (on_side side (test_write t o))
  unfolding test_write on_side
  write_tested t e nowhere = goes_on (e, refl)
  write_tested t e (at_line l) = stops (write_clause i l)

  fault_row : (line : ℕ) (s : Span) (x : Fault) → Small (violated (refusal_at line s x)) → 1 ≤ line → SideRow (side_values (record { side = side; refusal = refusal_at line s x }))
  fault_row line s (Fault.UnresolvedName x) h l = unresolved i l
  fault_row line s (Fault.UndesugaredExpr kind) h l = undesugared kind (form_small h) i l
  fault_row line s Fault.EmptyPatternPart h l = empty_part i l

  check_tested : (t : Tree statement) {ls : List Line} {v : Verdict} → precheck_statement t ≡ v → Small v → Walked 1 ls v → SideTested (λ u. (precheck_statement t ≡ fine) × (t ≡ u)) (on_side side (test_check t v))
  unfolding test_check on_side
  check_tested t e h (met_none f) = goes_on (e, refl)
  check_tested t e h (met line s x m l) = stops (fault_row line s x h l)

  -- with what is known of the tree
  reads : (sheet : Bytes) → SideTested (Got sheet) (on_side side (test_reading (read_sheet max_depth sheet)))
  reads sheet = reading_tested sheet refl (sheet_numbered max_depth sheet)

  no_write : (sheet : Bytes) (t : Tree statement) → Got sheet t → SideTested (λ u. Got sheet u × (first_write u ≡ None)) (on_side side (test_write t (first_write t)))
  no_write sheet t g = known (λ u p. subst (λ v. Got sheet v × (first_write v ≡ None)) p.1 (g, p.0)) (write_tested t refl (subst (λ u. AtLeast 1 (first_write u)) (numbers g) (write_least t 1)))

  no_fault : (sheet : Bytes) (t : Tree statement) → Got sheet t × (first_write t ≡ None) → SideTested (λ u. (Got sheet u × (first_write u ≡ None)) × (precheck_statement u ≡ fine)) (on_side side (test_check t (precheck_statement t)))
  no_fault sheet t (g, r) = known (λ u p. subst (λ v. (Got sheet v × (first_write v ≡ None)) × (precheck_statement v ≡ fine)) p.1 ((g, r), p.0)) (check_tested t refl (small_verdict t (sheet_sound max_depth sheet t g.place g.reads).0.fit) (subst (λ v. Walked 1 (lines [] t) v) (sym (first_fault_law t (numbers g) no_span)) (walked no_span 1 (lines [] t))))

taken : {sheet : Bytes} {t : Tree statement} → length sheet ≤ max_bytes → (Got sheet t × (first_write t ≡ None)) × (precheck_statement t ≡ fine) → Taken sheet t
taken l ((g, r), f) = record { well_formed = record { bytes = l; behind = g.place; reads = g.reads }; read_only = r; checked = f }

pub checked_sides_tested : (work : List ℕ) (l r : Bytes) → SideTested (λ ts. Taken l ts.0 × Taken r ts.1.0) (checked_sides max_depth work left_side 2 (l, (r, tt)))
unfolding checked_sides test_work
checked_sides_tested work l r =
    then_tested (choice_tested 0 (short work) Refusal.ShortWork tt short_work) λ _ _.
    then_tested (two_tested test_bytes (l, (r, tt)) (bytes_tested left l) (bytes_tested right r)) λ _ b.
    then_tested (two_tested (λ sheet. test_reading (read_sheet max_depth sheet)) (l, (r, tt)) (reads left l) (reads right r)) λ ts g.
    then_tested (two_tested (λ t. test_write t (first_write t)) ts (no_write left l ts.0 g.0) (no_write right r ts.1.0 g.1)) λ us h.
    known (λ vs k. (taken b.0 k.0, taken b.1 k.1)) (two_tested (λ t. test_check t (precheck_statement t)) us (no_fault left l us.0 h.0) (no_fault right r us.1.0 h.1))

pub planned_pair_tested : (work : List ℕ) (l r : Bytes) (all : Bool) → SideTested (PlannedPair l r all) (planned_pair max_depth work l r all)
unfolding planned_pair test_plan
planned_pair_tested work l r all =
    then_tested (checked_sides_tested work l r) λ ts h.
    let c = lower_pair ts.0 ts.1.0 all in
    known (λ d p. record { left_tree = ts.0; right_tree = ts.1.0; left_taken = h.0; right_taken = h.1; lowered = p.1 }) (choice_tested 0 (ltb max_plan (length c.ops) || ltb max_plan c.scope.next_var) Refusal.PlanFull c plan_full)

-- ── the demand ──

written_ends : (plan slice : Bytes) (b : Bool) → ltb (length slice) (length plan) ≡ b → PairEnds slice (cond b (record { answer = answer 10 0 0 0 0 0; slice = slice }) (record { answer = answer 0 0 0 0 0 (length plan); slice = plan ++ drop (length plan) slice }))
written_ends plan slice true e = refuses no_room
written_ends plan slice false e = accepts plan (ltb-false (length slice) (length plan) e)

outcome_ends : (slice : Bytes) {P : LowerCtx → Type 0} {m : SideTest LowerCtx} → SideTested P m → PairEnds slice (sides_outcome slice m)
unfolding sides_outcome written
outcome_ends slice (stops r) = refuses r
outcome_ends slice (goes_on {x = c} _) = written_ends (plan_sheet c) slice _ refl

pub demand1_pair : (work : List ℕ) (l r : Bytes) (all : Bool) (slice : Bytes) → PairEnds slice (pair_call work l r all slice)
unfolding pair_call
demand1_pair work l r all slice = outcome_ends slice (planned_pair_tested work l r all)
