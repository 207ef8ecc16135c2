-- Demand 3: sheets alike but for spans and a one-to-one renumbering of variables are refused alike or give the same plan with paired maps; and in a plan that was written every input, in copies too, is an earlier operator, and the last operator is the one that the lowering ends on.
-- Both sentences are said of one pair of calls. The theorem is `demand3`. Assumes nothing: this is a theorem with its proof.
use Rattle.std.specs.Prelude.{◌≡◌, refl, ℕ, zero, suc, ◌≤◌, true, false, ◌||◌, List, [], ◌∷◌, ◌++◌, ltb, length, drop, Option, None, Some}
use Rattle.std.proofs.Common.{sym, ◌∙◌, ap, ap₂, subst, arith, true≢false, length-append, le-ltb, ltb-false}
use Rattle.std.proofs.Math.Bool.{Bool, cond}
use Rattle.std.proofs.Math.Seq.{take-append_seam}
use Rattle.model.specs.Text.{Bytes}
use Rattle.model.specs.Kind.{statement, in_plan, plan, mapped}
use Rattle.model.specs.Record.{rec, spell_recs}
use Rattle.model.specs.Tree.{Tree, records}
use Rattle.model.specs.Sheet.{read_sheet, first_write}
use Rattle.model.specs.Check.{Verdict}
use Rattle.model.specs.Lower.{Recs, LowerCtx, op, lower_statement}
use Rattle.model.specs.Plan.{mapped_recs, first_rec, plan_sheet}
use Rattle.model.specs.Refusal.{Refusal, values_of}
use Rattle.model.specs.Call.{Outcome, Test, refuse, pass, then, test_write, test_check, test_plan, checked, planned, written, outcome, lower_call, max_depth, max_plan}
use Rattle.laws.specs.ReadingLaws.{got_value}
use Rattle.laws.specs.SheetLaws.{sheet_sound}
use Rattle.alike.specs.Statement.{ids, Stands, LongEnough, Paired}
use Rattle.alike.specs.Relation.{Tree~}
use Rattle.alike.specs.Action.{Ctx~, ctx~}
use Rattle.alike.proofs.Lowering.{lower_statement~}
use Rattle.alike.specs.Checking.{Verdict~, fine~, violated~, precheck_statement~, first_write~}
use Rattle.alike.proofs.Relating.{records~, standing, standing_one}
use Rattle.alike.specs.Reading.{Read, alike_read}
use Rattle.alike.proofs.Alike.{same_but_spans, mapped_paired, mapped_long, same_path}
use Rattle.bounds.specs.Earlier.{All, ◌∷ᵃ◌, at_low}
use Rattle.bounds.specs.Earlier as Bounds
use Rattle.bounds.proofs.Inputs.{earlier}
use Rattle.bounds.specs.Ends.{Ending}
use Rattle.bounds.specs.Root.{Newest, newest}
use Rattle.bounds.specs.Ended.{Ended, nowhere, on}
use Rattle.bounds.proofs.Ended.{ends}
use Rattle.demands.specs.Sheets.{WellFormed, answer, checked_from, checked_is}
use Rattle.demands.specs.Demand1.{no_room, row_number, Tested, stops, goes_on, Planned}
use Rattle.demands.proofs.Demand1.{planned_tested}
use Rattle.demands.specs.Operators.{from, by_number, operator_lines}
use Rattle.demands.proofs.Operators.{by_number_newest, by_number_length, plan_by_number}
use Rattle.demands.specs.Demand3.{SheetsAlike, operators, variables, InputsBelow, Earlier, no_more, operator, LastIs, none_at_all, last, Wrote, Demand3, refused_alike_law, written_alike, Accepted}

-- ── inputs and the last operator ──

pub earlier_from : {ops : List Recs} → Bounds.Earlier ops → (k n : ℕ) → Earlier k (from ops k n)
unfolding from InputsBelow
earlier_from e k zero = no_more
earlier_from e k (suc n) = operator (at_low e k) (earlier_from e (suc k) n)

inputs_by_number : (t : Tree statement) → Earlier 0 (operators t)
unfolding by_number
inputs_by_number t = earlier_from (earlier t) 0 (length (lower_statement t).ops)

pub newest_last : {e : Ending} {n : ℕ} {ops : List Recs} → Newest e n ops → LastIs (Some e) (Some n) (by_number ops)
newest_last (newest {k = k} {f = f} {rs = rs} {ops = ops}) = rw (by_number_newest (op k f ∷ rs) ops, ← by_number_length ops) (last (by_number ops) k f rs)

ended_last : {e : Option Ending} {r : Option ℕ} {ops : List Recs} → Ended e r ops → LastIs e r (by_number ops)
unfolding by_number from
ended_last nowhere = none_at_all
ended_last (on h) = newest_last h

-- ── a call whose plan finds room ──

pub mapped_length : (vs : List (ℕ × ℕ)) → length (mapped_recs vs) ≡ length vs
unfolding mapped_recs
mapped_length [] = refl
mapped_length (v ∷ vs) = omega (arith, length-append (mapped_recs vs) (rec (in_plan mapped) tt (v.1, (v.0, tt)) ∷ []), mapped_length vs)

plan_bytes : (t : Tree statement) → plan_sheet (lower_statement t) ≡ spell_recs (rec (in_plan plan) tt (length (operators t), (length (variables t), tt)) ∷ (operator_lines (operators t) ++ variables t))
unfolding first_rec
plan_bytes t =
    plan_by_number (lower_statement t)
    ∙ ap₂ (λ n m. spell_recs (rec (in_plan plan) tt (n, (m, tt)) ∷ (operator_lines (operators t) ++ variables t))) (sym (by_number_length (lower_statement t).ops)) (sym (mapped_length (lower_statement t).scope.vars))

wrote : (t : Tree statement) (slice : Bytes) → first_write t ≡ None → length (plan_sheet (lower_statement t)) ≤ length slice → Wrote t (written (plan_sheet (lower_statement t)) slice)
unfolding written
wrote t slice r l = rw (le-ltb (length slice) (length (plan_sheet (lower_statement t))) l) (record {
  accepted = refl;
  bytes = take-append_seam (plan_sheet (lower_statement t)) (drop (length (plan_sheet (lower_statement t))) slice) ∙ plan_bytes t;
  inputs_earlier = inputs_by_number t;
  ends_on_last = ended_last (ends t r);
})

-- ── the pair ──

abbrev pub Standing : (t u : Tree statement) → ℕ → ℕ → Type 0
Standing t u a b = Stands (ids (records t)) (ids (records u)) a b

abbrev Lowered~ : (t u : Tree statement) → Type 0
Lowered~ t u = Ctx~ (λ a b. Standing t u a b) (lower_statement t) (lower_statement u)

-- a plan that passes a test finds room in the slice
abbrev FindsRoom : Test LowerCtx → Bytes → Type 0
FindsRoom m slice = (c : LowerCtx) → m ≡ pass c → length (plan_sheet c) ≤ length slice

-- what is left of a call behind a verdict
abbrev after_check : Tree statement → Verdict → Test LowerCtx
after_check t v = then (test_check t v) λ u. test_plan (lower_statement u)

-- of states alike
module _ (R : ℕ → ℕ → Type 0) where
  pub same_ops : {c d : LowerCtx} → Ctx~ R c d → c.ops ≡ d.ops
  same_ops (ctx~ h) = refl

  same_numbers : {c d : LowerCtx} → Ctx~ R c d → c.scope.next_var ≡ d.scope.next_var
  same_numbers (ctx~ h) = refl

module _ (s t : List ℕ) where
  pub vars_paired : {c d : LowerCtx} → Ctx~ (λ a b. Stands s t a b) c d → Paired s t (mapped_recs c.scope.vars) (mapped_recs d.scope.vars)
  vars_paired (ctx~ h) = mapped_paired s t h

  pub vars_many : {c d : LowerCtx} → Ctx~ (λ a b. Stands s t a b) c d → length (mapped_recs c.scope.vars) ≡ length (mapped_recs d.scope.vars)
  vars_many (ctx~ {vs = vs} {ws = ws} h) = omega (arith, (mapped_long s t h).1, mapped_length ws)

module _ (t u : Tree statement) (slice slice' : Bytes) where
  -- test 9 refuses both or neither, and there is room
  full_or_not : first_write t ≡ None → first_write u ≡ None → Lowered~ t u → FindsRoom (test_plan (lower_statement t)) slice → FindsRoom (test_plan (lower_statement u)) slice' → Demand3 t u (outcome slice (test_plan (lower_statement t))) (outcome slice' (test_plan (lower_statement u)))
  unfolding test_plan outcome
  full_or_not r r' c l l' = go (over (lower_statement t)) (over (lower_statement u)) same l l'
    where
      nine : Bool → Tree statement → Test LowerCtx
      nine b x = cond b (refuse Refusal.PlanFull) (pass (lower_statement x))

      over : LowerCtx → Bool
      over d = ltb max_plan (length d.ops) || ltb max_plan d.scope.next_var

      same : over (lower_statement t) ≡ over (lower_statement u)
      same = rw (same_ops _ c, same_numbers _ c)

      go : (a b : Bool) → a ≡ b → FindsRoom (nine a t) slice → FindsRoom (nine b u) slice' → Demand3 t u (outcome slice (nine a t)) (outcome slice' (nine b u))
      go true true e x y = refused_alike_law (record { refused = λ z. omega arith; number = refl; line = refl; kind = refl })
      go true false e x y = absurd (true≢false e)
      go false true e x y = absurd (true≢false (sym e))
      go false false e x y = written_alike (record { wrote_s = wrote t slice r (x (lower_statement t) refl); wrote_t = wrote u slice' r' (y (lower_statement u) refl); same_count = vars_many _ _ c; same_operators = ap by_number (same_ops _ c); paired = vars_paired _ _ c })

  verdicts_alike : {v w : Verdict} → Verdict~ v w → first_write t ≡ None → first_write u ≡ None → Lowered~ t u → FindsRoom (after_check t v) slice → FindsRoom (after_check u w) slice' →
      Demand3 t u (outcome slice (after_check t v)) (outcome slice' (after_check u w))
  unfolding then test_check outcome
  verdicts_alike fine~ r r' c l l' = full_or_not r r' c l l'
  verdicts_alike (violated~ x) r r' c l l' = refused_alike_law (same_but_spans x)

-- the trees are alike
pub trees_alike : (S T : Bytes) (t u : Tree statement) → WellFormed S t → WellFormed T u → SheetsAlike t u → Tree~ (λ a b. Standing t u a b) statement t u
trees_alike S T t u h h' a =
    let R : ℕ → ℕ → Type 0 = λ a b. Standing t u a b in
    let s = (sheet_sound max_depth S t h.behind h.reads).0 in
    let w = (sheet_sound max_depth T u h'.behind h'.reads).0 in
    let r : Read R max_depth (spell_recs (records u)) t = alike_read R max_depth S t (records u) s (records~ R (records t) (records u) a.same (standing (ids (records t)) (ids (records u)))) w.fit in
    subst (λ x. Tree~ R statement t x) (got_value (sym r.reads ∙ ap (λ b. read_sheet max_depth b) (sym w.spelled) ∙ h'.reads)) r.alike

refused_write : (t u : Tree statement) (slice slice' : Bytes) (line : ℕ) → Demand3 t u (outcome slice (then (refuse (Refusal.WriteClause line)) λ z. test_plan (lower_statement z))) (outcome slice' (then (refuse (Refusal.WriteClause line)) λ z. test_plan (lower_statement z)))
unfolding then outcome
refused_write t u slice slice' line = refused_alike_law (record { refused = λ e. omega arith; number = refl; line = refl; kind = refl })

-- both have the `write` on the same line, or neither has one
writes_alike : (S T : Bytes) (t u : Tree statement) (work work' : List ℕ) (slice slice' : Bytes) → WellFormed S t → WellFormed T u → SheetsAlike t u → LongEnough work S slice → LongEnough work' T slice' → (o : Option ℕ) → first_write t ≡ o → first_write u ≡ o → Demand3 t u (lower_call work S slice) (lower_call work' T slice')
unfolding lower_call planned then test_write
writes_alike S T t u work work' slice slice' h h' a l l' (Some line) r r' =
    let e : checked max_depth work S ≡ refuse (Refusal.WriteClause line) = checked_from work l.words h ∙ rw r in
    let e' : checked max_depth work' T ≡ refuse (Refusal.WriteClause line) = checked_from work' l'.words h' ∙ rw r' in
    rw (e, e') (refused_write t u slice slice' line)
writes_alike S T t u work work' slice slice' h h' a l l' None r r' =
    let R : ℕ → ℕ → Type 0 = λ a b. Standing t u a b in
    let trees = trees_alike S T t u h h' a in
    let e = checked_is work l.words h r in
    let e' = checked_is work' l'.words h' r' in
    rw (e, e') (verdicts_alike t u slice slice' (precheck_statement~ R trees) r r' (lower_statement~ R (standing_one (ids (records t)) (ids (records u)) a.one_to_one) a.named trees) (rw e at l.room) (rw e' at l'.room))

-- S and T are well-formed, each by the tests 2 to 4, and alike; the slices of both calls are long enough
pub demand3 : (S T : Bytes) (t u : Tree statement) → WellFormed S t → WellFormed T u → SheetsAlike t u → (work work' : List ℕ) (slice slice' : Bytes) → LongEnough work S slice → LongEnough work' T slice' → Demand3 t u (lower_call work S slice) (lower_call work' T slice')
demand3 S T t u h h' a work work' slice slice' l l' = writes_alike S T t u work work' slice slice' h h' a l l' (first_write t) refl (sym (same_path (first_write~ _ (trees_alike S T t u h h' a))))

-- ── the second sentence, of every call that accepts ──

pub room : (text slice : Bytes) → (written text slice).answer.number ≡ 0 → length text ≤ length slice
unfolding written
room text slice z = go (ltb (length slice) (length text)) refl z
  where
    go : (b : Bool) → ltb (length slice) (length text) ≡ b → (cond {A = Outcome} b (record { answer = values_of Refusal.NoRoom; slice = slice }) (record { answer = answer 0 0 0 0 0 (length text); slice = text ++ drop (length text) slice })).answer.number ≡ 0 → length text ≤ length slice
    go true e z = absurd (row_number no_room z)
    go false e z = ltb-false (length slice) (length text) e

tested_accepted : (sheet slice : Bytes) {m : Test LowerCtx} → Tested (Planned sheet) m → (outcome slice m).answer.number ≡ 0 → Accepted sheet (outcome slice m)
unfolding outcome
tested_accepted sheet slice (stops r) z = absurd (row_number r z)
tested_accepted sheet slice (goes_on p) z = record {
  tree = p.tree;
  well_formed = p.well_formed;
  read_only = p.read_only;
  checked_tree = p.checked;
  wrote_plan = subst (λ c. Wrote p.tree (written (plan_sheet c) slice)) p.lowered (wrote p.tree slice p.read_only (subst (λ c. length (plan_sheet c) ≤ length slice) (sym p.lowered) (room _ slice z)));
}

pub accepted_wrote : (work : List ℕ) (sheet slice : Bytes) → (lower_call work sheet slice).answer.number ≡ 0 → Accepted sheet (lower_call work sheet slice)
unfolding lower_call
accepted_wrote work sheet slice z = tested_accepted sheet slice (planned_tested work sheet) z
