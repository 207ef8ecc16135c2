-- Demand 3: of two sheets alike, the lowering call refuses both alike, or gives plans alike. Assumes nothing: the premises are the theorem's own.
use Rattle.std.specs.Prelude.{◌≡◌, refl, ℕ, ◌≤◌, Bool, true, false, cond, ◌||◌, List, [], ◌∷◌, ◌++◌, take, drop, None}
use Rattle.std.proofs.Common.{sym, ◌∙◌, arith, le-ltb}
use Rattle.std.proofs.Math.Path.{ap}
use Rattle.std.proofs.Math.Dec.{ltb}
use Rattle.std.proofs.Math.ListN.{length, length-append}
use Rattle.std.proofs.Math.Seq.{take-append_seam}
use Rattle.model.specs.Text.{Bytes}
use Rattle.model.specs.Kind.{statement, in_plan, plan, mapped}
use Rattle.model.specs.Record.{Rec, rec, spell_recs}
use Rattle.model.specs.Tree.{Tree, records}
use Rattle.model.specs.Sheet.{Place, got, read_sheet, first_write}
use Rattle.model.specs.Check.{Verdict, precheck_statement}
use Rattle.model.specs.Lower.{LowerCtx, lower_statement}
use Rattle.model.specs.Plan.{operator_recs, mapped_recs, first_rec, plan_recs, plan_sheet}
use Rattle.model.specs.Call.{Outcome, refuse, pass, then, short, max_bytes, max_depth, max_plan, test_work, test_bytes, test_reading, test_write, test_check, test_plan, checked, planned, written, outcome, lower_call}
use Rattle.model.specs.Refusal.{Refusal, values_of}
use Rattle.laws.specs.SheetLaws.{sheet_sound}
use Rattle.alike.specs.Statement.{ids, Stands, TwoSheets, LongEnough, Paired, unpaired, pair, RefusedAlike, AcceptedAlike, AlikeOutcomes, refused_alike, accepted_alike}
use Rattle.alike.specs.Relation.{Equal, equal, List~, []~, ◌∷~◌}
use Rattle.alike.specs.Action.{Var~, var~, Ctx~, ctx~}
use Rattle.alike.proofs.Lowering.{lower_statement~}
use Rattle.alike.specs.Checking.{Refusal~, unresolved~, undesugared~, empty_part~, Verdict~, fine~, violated~, precheck_statement~, first_write~}
use Rattle.alike.proofs.Relating.{records~, standing, standing_one}
use Rattle.alike.specs.Reading.{Read, alike_read}

-- ── one call ──

-- what the tests 1 to 5 leave
checked_is : (work : List ℕ) (sheet : Bytes) (t : Tree statement) (p : Place) → short work ≡ false → length sheet ≤ max_bytes → read_sheet max_depth sheet ≡ got t p → first_write t ≡ None → checked max_depth work sheet ≡ test_check t (precheck_statement t)
unfolding checked then test_work test_bytes test_reading test_write
checked_is work sheet t p w l r f = rw (w, le-ltb max_bytes (length sheet) l, r, f)

-- a plan that finds room
pub record Holds (o : Outcome) (text : Bytes) : Type 0 where
  pub number : o.answer.number ≡ 0
  pub text_is : take o.answer.length o.slice ≡ text

pub written_holds : (text slice : Bytes) → length text ≤ length slice → Holds (written text slice) text
unfolding written
written_holds text slice l = rw (le-ltb (length slice) (length text) l) (record { number = refl; text_is = take-append_seam text (drop (length text) slice) })

-- what differs in its spans alone is refused alike
pub same_but_spans : {x y : Refusal} {slice slice' : Bytes} → Refusal~ x y → RefusedAlike (record { answer = values_of x; slice = slice }) (record { answer = values_of y; slice = slice' })
same_but_spans unresolved~ = record { refused = λ e. omega arith; number = refl; line = refl; kind = refl }
same_but_spans undesugared~ = record { refused = λ e. omega arith; number = refl; line = refl; kind = refl }
same_but_spans empty_part~ = record { refused = λ e. omega arith; number = refl; line = refl; kind = refl }

-- ── the maps ──

module _ (s t : List ℕ) where
  snoc : (number : ℕ) {a b : ℕ} {vs ws : List Rec} → Paired s t vs ws → Stands s t a b → Paired s t (vs ++ (rec (in_plan mapped) tt (number, (a, tt)) ∷ [])) (ws ++ (rec (in_plan mapped) tt (number, (b, tt)) ∷ []))
  snoc number unpaired h = pair h unpaired
  snoc number (pair g p) h = pair g (snoc number p h)

  pub mapped_paired : {vs ws : List (ℕ × ℕ)} → List~ (λ v w. Var~ (λ a b. Stands s t a b) v w) vs ws → Paired s t (mapped_recs vs) (mapped_recs ws)
  unfolding mapped_recs
  mapped_paired []~ = unpaired
  mapped_paired (var~ {n = n} h ∷~ vs) = snoc n (mapped_paired vs) h

  pub mapped_long : {vs ws : List (ℕ × ℕ)} → List~ (λ v w. Var~ (λ a b. Stands s t a b) v w) vs ws → (length vs ≡ length (mapped_recs vs)) × (length ws ≡ length (mapped_recs vs))
  unfolding mapped_recs
  mapped_long []~ = (refl, refl)
  mapped_long (◌∷~◌ {a = v} {s = vs} h ps) =
      let e = mapped_long ps in
      let l = length-append (mapped_recs vs) (rec (in_plan mapped) tt (v.1, (v.0, tt)) ∷ []) in
      (omega (arith, l, e.0), omega (arith, l, e.1))

  -- ── two plans ──

  pub plans_alike : {c d : LowerCtx} {o p : Outcome} → Ctx~ (λ a b. Stands s t a b) c d → Holds o (plan_sheet c) → Holds p (plan_sheet d) → AcceptedAlike s t o p
  unfolding plan_sheet plan_recs first_rec
  plans_alike (ctx~ {ops = ops} {vs = vs} {ws = ws} h) x y =
      let e = mapped_long h in
      record {
        accepted_s = x.number;
        accepted_t = y.number;
        operator_count = length ops;
        operators = operator_recs ops;
        vs = mapped_recs vs;
        ws = mapped_recs ws;
        plan_s = x.text_is ∙ ap (λ n. spell_recs (rec (in_plan plan) tt (length ops, (n, tt)) ∷ (operator_recs ops ++ mapped_recs vs))) e.0;
        plan_t = y.text_is ∙ ap (λ n. spell_recs (rec (in_plan plan) tt (length ops, (n, tt)) ∷ (operator_recs ops ++ mapped_recs ws))) e.1;
        paired = mapped_paired h;
      }

  -- behind the check: the same answer to test 9, and room for the plan
  module _ (slice slice' : Bytes) where
    full_or_not : {c d : LowerCtx} → Ctx~ (λ a b. Stands s t a b) c d → ((e : LowerCtx) → test_plan c ≡ pass e → length (plan_sheet e) ≤ length slice) → ((e : LowerCtx) → test_plan d ≡ pass e → length (plan_sheet e) ≤ length slice') → AlikeOutcomes s t (outcome slice (test_plan c)) (outcome slice' (test_plan d))
    unfolding outcome test_plan
    full_or_not (ctx~ {ops = ops} {vs = vs} {ws = ws} {number = number} h) r r' = go (ltb max_plan (length ops) || ltb max_plan number) r r'
      where
        c : LowerCtx
        c = record { ops = ops; scope = record { vars = vs; next_var = number } }

        d : LowerCtx
        d = record { ops = ops; scope = record { vars = ws; next_var = number } }

        go : (b : Bool) → ((e : LowerCtx) → cond b (refuse Refusal.PlanFull) (pass c) ≡ pass e → length (plan_sheet e) ≤ length slice) → ((e : LowerCtx) → cond b (refuse Refusal.PlanFull) (pass d) ≡ pass e → length (plan_sheet e) ≤ length slice') → AlikeOutcomes s t (outcome slice (cond b (refuse Refusal.PlanFull) (pass c))) (outcome slice' (cond b (refuse Refusal.PlanFull) (pass d)))
        go true x y = refused_alike (record { refused = λ e. omega arith; number = refl; line = refl; kind = refl })
        go false x y = accepted_alike (plans_alike (ctx~ h) (written_holds (plan_sheet c) slice (x c refl)) (written_holds (plan_sheet d) slice' (y d refl)))

    verdicts_alike : (x y : Tree statement) {v w : Verdict} → Verdict~ v w → Ctx~ (λ a b. Stands s t a b) (lower_statement x) (lower_statement y) → ((e : LowerCtx) → then (test_check x v) (λ z. test_plan (lower_statement z)) ≡ pass e → length (plan_sheet e) ≤ length slice) → ((e : LowerCtx) → then (test_check y w) (λ z. test_plan (lower_statement z)) ≡ pass e → length (plan_sheet e) ≤ length slice') →
        AlikeOutcomes s t (outcome slice (then (test_check x v) (λ z. test_plan (lower_statement z)))) (outcome slice' (then (test_check y w) (λ z. test_plan (lower_statement z))))
    unfolding then test_check outcome
    verdicts_alike x y fine~ c r r' = full_or_not c r r'
    verdicts_alike x y (violated~ h) c r r' = refused_alike (same_but_spans h)

-- ── demand 3 ──

pub same_path : {A : Type 0} {a b : A} → Equal a b → a ≡ b
same_path equal = refl

-- T is read as a tree alike
pub alike_tree : (S T : Bytes) (t : Tree statement) (rt : List Rec) → TwoSheets S T t rt → Read (λ a b. Stands (ids (records t)) (ids rt) a b) max_depth T t
alike_tree S T t rt h = rw h.spelled (alike_read (λ a b. Stands (ids (records t)) (ids rt) a b) max_depth S t rt (sheet_sound max_depth S t h.behind h.reads).0 (records~ (λ a b. Stands (ids (records t)) (ids rt) a b) (records t) rt h.same (standing (ids (records t)) (ids rt))) h.fit)

alike_calls : (S T : Bytes) (t : Tree statement) (rt : List Rec) → TwoSheets S T t rt → Read (λ a b. Stands (ids (records t)) (ids rt) a b) max_depth T t → (work work' : List ℕ) (slice slice' : Bytes) → LongEnough work S slice → LongEnough work' T slice' → AlikeOutcomes (ids (records t)) (ids rt) (lower_call work S slice) (lower_call work' T slice')
unfolding lower_call planned
alike_calls S T t rt h u work work' slice slice' l l' =
    let R : ℕ → ℕ → Type 0 = λ a b. Stands (ids (records t)) (ids rt) a b in
    let e = checked_is work S t h.behind l.words h.short_s h.reads h.read_only in
    let e' = checked_is work' T u.tree u.behind l'.words h.short_t u.reads (sym (same_path (first_write~ R u.alike)) ∙ h.read_only) in
    rw (e, e') (verdicts_alike (ids (records t)) (ids rt) slice slice' t u.tree (precheck_statement~ R u.alike) (lower_statement~ R (standing_one (ids (records t)) (ids rt) h.one_to_one) h.named u.alike) (rw e at l.room) (rw e' at l'.room))

pub alike : (S T : Bytes) (t : Tree statement) (rt : List Rec) → TwoSheets S T t rt → (work work' : List ℕ) (slice slice' : Bytes) → LongEnough work S slice → LongEnough work' T slice' → AlikeOutcomes (ids (records t)) (ids rt) (lower_call work S slice) (lower_call work' T slice')
alike S T t rt h = alike_calls S T t rt h (alike_tree S T t rt h)
