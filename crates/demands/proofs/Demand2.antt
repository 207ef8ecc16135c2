-- Demand 2: a well-formed read-only sheet is refused for its tree exactly if the check's walk meets an unresolved name, an undesugared form or a part that is empty or starts with a relationship, and the first met is reported; otherwise, within the limits, the plan is the defined one.
-- What the walk meets is said in Walk, on the sheet's lines. The theorem is `demand2`, at the end. Assumes nothing: this is a theorem with its proof.
use Rattle.std.specs.Prelude.{◌≡◌, ◌↔◌, ℕ, Bool, cond, ◌||◌, List, [], length}
use Rattle.std.proofs.Math.Path.{refl}
use Rattle.std.proofs.Common.{sym, ◌∙◌, ap, subst, arith}
use Rattle.std.proofs.Math.Bool.{true, false}
use Rattle.std.proofs.Math.Dec.{ltb}
use borrow.Author.Tests.{le-ltb}
use Rattle.model.specs.Text.{Bytes}
use Rattle.model.specs.Field.{Span}
use Rattle.model.specs.Kind.{statement}
use Rattle.model.specs.Tree.{Tree}
use Rattle.model.specs.Check.{Verdict, fine, violated, no_span, precheck_statement}
use Rattle.model.specs.Lower.{lower_statement}
use Rattle.model.specs.Plan.{plan_sheet}
use Rattle.model.specs.Refusal.{Refusal, values_of}
use Rattle.model.specs.Call.{Outcome, refuse, pass, then, test_check, test_plan, planned, written, outcome, lower_call, max_depth, max_plan}
use Rattle.laws.specs.SheetLaws.{sheet_sound}
use Rattle.demands.specs.Sheets.{WellFormed, ReadOnly, LongWork, answer, checked_is}
use Rattle.demands.specs.Walk.{Line, lines, Fault, refusal_at, Meets, first_fault}
use Rattle.demands.specs.WalkLaws.{Walked, met, met_none}
use Rattle.demands.proofs.WalkLaws.{lines_records, walked, first_fault_law}
use Rattle.demands.specs.Demand2.{ForTree, WithinLimits, plan_in, Demand2, behind_check}

-- ── the calls ──

call_is : (work : List ℕ) (sheet slice : Bytes) (t : Tree statement) → LongWork work → WellFormed sheet t → ReadOnly t → lower_call work sheet slice ≡ behind_check t slice (precheck_statement t)
unfolding lower_call planned behind_check
call_is work sheet slice t w h r = rw (checked_is work w h r)

module _ (t : Tree statement) (slice : Bytes) where
  fine_written : (b : Bool) → ForTree (cond {A = Outcome} b (record { answer = answer 10 0 0 0 0 0; slice = slice }) (plan_in t slice)).answer → ⊥
  fine_written true h = omega (arith, h.high)
  fine_written false h = omega (arith, h.low)

  fine_planned : (b : Bool) → ForTree (outcome slice (cond b (refuse Refusal.PlanFull) (pass (lower_statement t)))).answer → ⊥
  unfolding outcome written
  fine_planned true h = omega (arith, h.high)
  fine_planned false h = fine_written (ltb (length slice) (length (plan_sheet (lower_statement t)))) h

  fine_not : ForTree (behind_check t slice fine).answer → ⊥
  unfolding behind_check then test_check test_plan
  fine_not h = fine_planned (ltb max_plan (length (lower_statement t).ops) || ltb max_plan (lower_statement t).scope.next_var) h

  fault_for_tree : (line : ℕ) (s : Span) (x : Fault) → ForTree (values_of (refusal_at line s x))
  fault_for_tree line s (Fault.UnresolvedName x) = record { low = omega arith; high = omega arith }
  fault_for_tree line s (Fault.UndesugaredExpr kind) = record { low = omega arith; high = omega arith }
  fault_for_tree line s Fault.EmptyPatternPart = record { low = omega arith; high = omega arith }

  met_exactly : {ls : List Line} {v : Verdict} → Walked 1 ls v → ForTree (behind_check t slice v).answer ↔ Meets ls
  unfolding behind_check then test_check outcome
  met_exactly (met_none f) = (λ h. absurd (fine_not h), λ m. absurd (f m))
  met_exactly (met line s x m le) = (λ h. m, λ _. fault_for_tree line s x)

  met_first : (r : Refusal) → behind_check t slice (violated r) ≡ record { answer = values_of r; slice = slice }
  unfolding behind_check then test_check outcome
  met_first r = refl

  fine_plan : WithinLimits (lower_statement t) slice → behind_check t slice fine ≡ plan_in t slice
  unfolding behind_check then test_check test_plan outcome written
  fine_plan h = rw (le-ltb max_plan (length (lower_statement t).ops) h.operators, le-ltb max_plan (lower_statement t).scope.next_var h.numbers, le-ltb (length slice) (length (plan_sheet (lower_statement t))) h.room)

  met_otherwise : {ls : List Line} {v : Verdict} → Walked 1 ls v → (Meets ls → ⊥) → WithinLimits (lower_statement t) slice → behind_check t slice v ≡ plan_in t slice
  met_otherwise (met_none f) g h = fine_plan h
  met_otherwise (met line s x m le) g h = absurd (g m)

pub demand2 : (work : List ℕ) (sheet slice : Bytes) (t : Tree statement) → LongWork work → WellFormed sheet t → ReadOnly t → Demand2 t slice (lower_call work sheet slice)
demand2 work sheet slice t w h r =
    let verdict : (outside : Span) → precheck_statement t ≡ first_fault outside 1 (lines [] t) = first_fault_law t (sheet_sound max_depth sheet t h.behind h.reads).0.numbers in
    let call : (outside : Span) → lower_call work sheet slice ≡ behind_check t slice (first_fault outside 1 (lines [] t)) = λ outside. call_is work sheet slice t w h r ∙ ap (λ v. behind_check t slice v) (verdict outside) in
    record {
      sheet_lines = lines_records [] t;
      verdict = verdict;
      exactly = subst (λ o. ForTree o.answer ↔ Meets (lines [] t)) (sym (call no_span)) (met_exactly t slice (walked no_span 1 (lines [] t)));
      first_met = λ outside {r} e. call outside ∙ ap (λ v. behind_check t slice v) e ∙ met_first t slice r;
      otherwise = λ f limits. call no_span ∙ met_otherwise t slice (walked no_span 1 (lines [] t)) f limits;
    }
