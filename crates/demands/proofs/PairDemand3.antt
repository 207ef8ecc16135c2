-- Demand 3 for the call with two sheets: pairs that are alike on each side but for spans and a one-to-one renumbering of that side's variables are refused alike or give the same plan with paired maps; and in a plan that was written every input, in copies too, is an earlier operator, and the last operator is the pair's `union`.
-- The two renumberings need not agree. The theorem is `demand3_pair`. Assumes nothing: this is a theorem with its proof.
use Rattle.std.specs.Prelude.{◌≡◌, refl, ℕ, ◌≤◌, Bool, List, ◌∷◌, ◌++◌, length, drop}
use Rattle.std.proofs.Common.{sym, ◌∙◌, ap₂, subst, le-ltb}
use Rattle.std.proofs.Math.Path.{ap}
use Rattle.std.proofs.Math.Seq.{take-append_seam}
use Rattle.model.specs.Text.{Bytes}
use Rattle.model.specs.Kind.{statement, in_plan, plan}
use Rattle.model.specs.Record.{rec, spell_recs}
use Rattle.model.specs.Tree.{Tree, records}
use Rattle.model.specs.Sheet.{read_sheet}
use Rattle.model.specs.Lower.{LowerCtx, lower_pair}
use Rattle.model.specs.Plan.{mapped_recs, first_rec, plan_sheet}
use Rattle.demands.proofs.Operators.{by_number_length, plan_by_number}
use Rattle.model.specs.Call.{written, max_depth}
use Rattle.model.specs.Pair.{SideTest, pass_side, planned_pair, sides_outcome, pair_call}
use Rattle.laws.specs.ReadingLaws.{got_value}
use Rattle.alike.specs.Statement.{Named, ids, PairLongEnough}
use Rattle.alike.specs.Action.{Ctx~}
use Rattle.alike.proofs.Relating.{standing_one}
use Rattle.alike.specs.Pairs.{first, second, tree_first, tree_of}
use Rattle.alike.proofs.PairAlike.{lower_pair~, Test~, refused~, passed~, Side~, read_both, behind_reading~, sides_refused}
use Rattle.bounds.proofs.Pair.{pair_earlier, pair_ends}
use Rattle.demands.specs.Sheets.{WellFormed}
use Rattle.demands.specs.Operators.{by_number, operator_lines}
use Rattle.demands.specs.Demand3.{SheetsAlike, met_s, met_t, met_alike}
use Rattle.demands.proofs.Demand3.{Standing, earlier_from, newest_last, mapped_length, same_ops, vars_paired, vars_many, trees_alike, room}
use Rattle.demands.specs.PairDemand1.{SideTested, stops, goes_on, PlannedPair, side_row_number}
use Rattle.demands.proofs.PairDemand1.{planned_pair_tested}
use Rattle.demands.specs.PairDemand3.{WrotePair, PairDemand3, refused_alike_law, written_alike, PairAccepted}

-- ── a call whose plan finds room ──

-- the bytes of any state's plan sheet
plan_bytes_of : (c : LowerCtx) → plan_sheet c ≡ spell_recs (rec (in_plan plan) tt (length (by_number c.ops), (length (mapped_recs c.scope.vars), tt)) ∷ (operator_lines (by_number c.ops) ++ mapped_recs c.scope.vars))
unfolding first_rec
plan_bytes_of c =
    plan_by_number c
    ∙ ap₂ (λ n m. spell_recs (rec (in_plan plan) tt (n, (m, tt)) ∷ (operator_lines (by_number c.ops) ++ mapped_recs c.scope.vars))) (sym (by_number_length c.ops)) (sym (mapped_length c.scope.vars))

wrote_pair : (left right : Tree statement) (all : Bool) (slice : Bytes) → length (plan_sheet (lower_pair left right all)) ≤ length slice → WrotePair left right all (written (plan_sheet (lower_pair left right all)) slice)
unfolding written by_number
wrote_pair left right all slice l = rw (le-ltb (length slice) (length (plan_sheet (lower_pair left right all))) l) (record {
  accepted = refl;
  bytes = take-append_seam (plan_sheet (lower_pair left right all)) (drop (length (plan_sheet (lower_pair left right all))) slice) ∙ plan_bytes_of (lower_pair left right all);
  inputs_earlier = earlier_from (pair_earlier left right all) 0 (length (lower_pair left right all).ops);
  ends_on_union = newest_last (pair_ends left right all);
})

-- of a state that is the lowering's
wrote_state : (left right : Tree statement) (all : Bool) (slice : Bytes) {c : LowerCtx} → lower_pair left right all ≡ c → length (plan_sheet c) ≤ length slice → WrotePair left right all (written (plan_sheet c) slice)
wrote_state left right all slice e l = subst (λ c. WrotePair left right all (written (plan_sheet c) slice)) e (wrote_pair left right all slice (subst (λ c. length (plan_sheet c) ≤ length slice) (sym e) l))

-- ── two calls ──

passed_is : {P : LowerCtx → Type 0} {c : LowerCtx} → SideTested P (pass_side c) → P c
passed_is (goes_on p) = p

-- a plan that passes test 9 is that of the trees that are read
lowers : (work : List ℕ) (left right : Bytes) (all : Bool) (l r : Tree statement) → WellFormed left l → WellFormed right r → (c : LowerCtx) → planned_pair max_depth work left right all ≡ pass_side c → lower_pair l r all ≡ c
lowers work left right all l r h k c e =
    let p = passed_is (subst (λ m. SideTested (PlannedPair left right all) m) e (planned_pair_tested work left right all)) in
    let f : l ≡ p.left_tree = got_value (sym h.reads ∙ p.left_taken.well_formed.reads) in
    let g : r ≡ p.right_tree = got_value (sym k.reads ∙ p.right_taken.well_formed.reads) in
    ap₂ (λ x y. lower_pair x y all) f g ∙ p.lowered

-- what a test passes on is the plan of these trees, and finds room
abbrev Fine : (left right : Tree statement) (all : Bool) (slice : Bytes) → SideTest LowerCtx → Type 0
Fine left right all slice m = (c : LowerCtx) → m ≡ pass_side c → (lower_pair left right all ≡ c) × (length (plan_sheet c) ≤ length slice)

module _ (t t₂ u u₂ : Tree statement) (all : Bool) (slice slice' : Bytes) where
  tests_alike : {m n : SideTest LowerCtx} → Test~ (λ c d. Ctx~ (λ a b. Standing t₂ u₂ a b) c d) m n → Ctx~ (λ a b. Standing t₂ u₂ a b) (lower_pair t t₂ all) (lower_pair u u₂ all) → Fine t t₂ all slice m → Fine u u₂ all slice' n → PairDemand3 t t₂ u u₂ all (sides_outcome slice m) (sides_outcome slice' n)
  unfolding sides_outcome
  tests_alike (refused~ r) h x y = refused_alike_law (sides_refused r)
  tests_alike (passed~ {a = c} {b = d} w) h x y = written_alike (record {
    wrote_s = wrote_state t t₂ all slice (x c refl).0 (x c refl).1;
    wrote_t = wrote_state u u₂ all slice' (y d refl).0 (y d refl).1;
    same_count = vars_many _ _ h;
    same_operators = ap by_number (same_ops _ h);
    paired = vars_paired _ _ h;
  })

-- S and T are the left sheets of the two calls, S₂ and T₂ the right ones. Each is well-formed by the tests 2 to 4; those of a side are alike; the slices of both calls are long enough
pub demand3_pair : (S T S₂ T₂ : Bytes) (t u t₂ u₂ : Tree statement) → WellFormed S t → WellFormed T u → SheetsAlike t u → WellFormed S₂ t₂ → WellFormed T₂ u₂ → SheetsAlike t₂ u₂ → (all : Bool) (work work' : List ℕ) (slice slice' : Bytes) →
    PairLongEnough work S S₂ all slice → PairLongEnough work' T T₂ all slice' → PairDemand3 t t₂ u u₂ all (pair_call work S S₂ all slice) (pair_call work' T T₂ all slice')
unfolding pair_call
demand3_pair S T S₂ T₂ t u t₂ u₂ h h' a h₂ h₂' a₂ all work work' slice slice' l l' =
    let L : ℕ → ℕ → Type 0 = λ a b. Standing t u a b in
    let R : ℕ → ℕ → Type 0 = λ a b. Standing t₂ u₂ a b in
    let one_l = standing_one (ids (records t)) (ids (records u)) a.one_to_one in
    let one_r = standing_one (ids (records t₂)) (ids (records u₂)) a₂.one_to_one in
    let p : Side~ L t u = record { named = a.named; alike = trees_alike S T t u h h' a } in
    let q : Side~ R t₂ u₂ = record { named = a₂.named; alike = trees_alike S₂ T₂ t₂ u₂ h₂ h₂' a₂ } in
    let e = read_both work S S₂ all t t₂ h.behind h₂.behind l.words h.bytes h₂.bytes h.reads h₂.reads in
    let e' = read_both work' T T₂ all u u₂ h'.behind h₂'.behind l'.words h'.bytes h₂'.bytes h'.reads h₂'.reads in
    tests_alike t t₂ u u₂ all slice slice'
    (rw (e, e') (behind_reading~ L R one_l one_r p q all))
    (lower_pair~ L R one_l one_r p.named p.alike q.named q.alike all)
    (λ c z. (lowers work S S₂ all t t₂ h h₂ c z, l.room c z))
    (λ d z. (lowers work' T T₂ all u u₂ h' h₂' d z, l'.room d z))

-- ── the second sentence, of every call that accepts ──

tested_accepted : (left right : Bytes) (all : Bool) (slice : Bytes) {m : SideTest LowerCtx} → SideTested (PlannedPair left right all) m → (sides_outcome slice m).answer.number ≡ 0 → PairAccepted left right all (sides_outcome slice m)
unfolding sides_outcome
tested_accepted left right all slice (stops r) z = absurd (side_row_number r z)
tested_accepted left right all slice (goes_on p) z = record { left_tree = p.left_tree; right_tree = p.right_tree; left_taken = p.left_taken; right_taken = p.right_taken; wrote_plan = wrote_state p.left_tree p.right_tree all slice p.lowered (room _ slice z) }

pub accepted_wrote_pair : (work : List ℕ) (left right : Bytes) (all : Bool) (slice : Bytes) → (pair_call work left right all slice).answer.number ≡ 0 → PairAccepted left right all (pair_call work left right all slice)
unfolding pair_call
accepted_wrote_pair work left right all slice z = tested_accepted left right all slice (planned_pair_tested work left right all) z

-- ── two pairs that meet the premises: M1 on both sides, and M1 with another id and other spans on the left alone. So the two renumberings do not agree: that of the left moves an id which that of the right leaves ──

-- a sheet is alike itself
pub itself_alike : (t : Tree statement) → Named t → SheetsAlike t t
itself_alike t named = record { same = refl; one_to_one = λ i j l m. ((λ e. e), (λ e. e)); named = named }

pub met_pairs : (all : Bool) (work work' : List ℕ) (slice slice' : Bytes) → PairLongEnough work first first all slice → PairLongEnough work' second first all slice' →
    PairDemand3 tree_first tree_first (tree_of (read_sheet max_depth second)) tree_first all (pair_call work first first all slice) (pair_call work' second first all slice')
met_pairs = demand3_pair first second first first tree_first (tree_of (read_sheet max_depth second)) tree_first tree_first met_s met_t met_alike met_s met_s (itself_alike tree_first met_alike.named)
