-- The lowering call's tests in order, from what the reader, the check, the lowering and the writer answer. Assumes nothing.
use Rattle.std.specs.Prelude.{◌≡◌, ◌≤◌, length, refl, ℕ, true, false, List, Result, Ok, Err}
use Rattle.std.specs.Result.{IfOk}
use Rattle.std.proofs.Common.{sym, ap}
use Rattle.model.specs.Text.{Bytes}
use Rattle.model.specs.Kind.{statement}
use Rattle.model.specs.Tree.{Tree}
use Rattle.model.specs.Refusal.{Answer as Values}
use Rattle.model.specs.Check.{precheck_statement}
use Rattle.model.specs.Lower.{LowerCtx, lower_statement}
use Rattle.model.specs.Call.{Test, pass, then, short, test_check, test_plan, planned, Outcome, outcome, lower_call}
use Rattle.precheck.specs.Answer.{Says}
use Rattle.precheck.specs.declared.PlanLowerError.{PlanLowerError}
use Rattle.statement.specs.declared.Refusal.{Refusal}
use Rattle.statement.specs.declared.Fault.{Fault}
use Rattle.statement.specs.Answer.{answer_of}
use Rattle.statement.specs.Fits.{answer_fits}
use Rattle.statement.specs.Tests.{sheet_tests, Fails, tree_fails, tree_passes, nameless}
use Rattle.statement.specs.Sizing.{short_first, tests_second}

-- the answer and the slice are those of a test
abbrev pub Gives : Bytes → Bytes → Result ℕ (Refusal Fault) → Test LowerCtx → Type 0
Gives slice slice' x t = ◌≡◌ {A = Outcome} (record { answer = answer_of x; slice = slice' }) (outcome slice t)

-- what is behind test 1
abbrev pub behind_work : Bytes → Test LowerCtx
behind_work sheet = then (sheet_tests sheet) λ t. test_plan (lower_statement t)

-- what is behind the reader: the check of a tree, and test 9 of its plan
abbrev pub behind : Tree statement → Test LowerCtx
behind t = then (test_check t (precheck_statement t)) λ u. test_plan (lower_statement u)

-- ── the check, of any tree ──

pub tree_refused : (slice : Bytes) (t : Tree statement) (x : PlanLowerError) → Says (Err x) (precheck_statement t) → Gives slice slice (Err (Refusal.OfSheet (Fault.Refused x))) (behind t)
unfolding then outcome
tree_refused slice t x s =
    let f = tree_fails t x s in
    rw f.is (ap (λ (a : Values). record { answer = a; slice = slice }) (sym (nameless (Fault.Refused x) f.unresolved)))

pub tree_fine : (slice slice' : Bytes) (t : Tree statement) (x : Result ℕ (Refusal Fault)) → Says (Ok tt) (precheck_statement t) → Gives slice slice' x (test_plan (lower_statement t)) → Gives slice slice' x (behind t)
unfolding then
tree_fine slice slice' t x s g = rw (tree_passes t s) g

-- ── tests 2 to 8 ──

module _ (sheet slice : Bytes) where
  pub lower_failed : (f : Fault) → Fails f (sheet_tests sheet) → Gives slice slice (Err (Refusal.OfSheet f)) (behind_work sheet)
  unfolding then outcome
  lower_failed f h = rw h.is (ap (λ (a : Values). record { answer = a; slice = slice }) (sym (nameless f h.unresolved)))

  pub lower_passed : (slice' : Bytes) {t : Tree statement} → sheet_tests sheet ≡ pass t → (x : Result ℕ (Refusal Fault)) → Gives slice slice' x (test_plan (lower_statement t)) → Gives slice slice' x (behind_work sheet)
  unfolding then
  lower_passed slice' q x g = rw q g

-- ── test 1 ──

module _ (work : List ℕ) (sheet slice : Bytes) where
  -- the call's answer and slice
  abbrev pub Answers : Result ℕ (Refusal Fault) → Bytes → Type 0
  Answers x slice' = ◌≡◌ {A = Outcome} (record { answer = answer_of x; slice = slice' }) (lower_call work sheet slice)

  pub lower_short : short work ≡ true → Answers (Err Refusal.ShortWork) slice
  unfolding lower_call planned then outcome
  lower_short e = rw (short_first work sheet e) refl

  pub called : (slice' : Bytes) (x : Result ℕ (Refusal Fault)) → short work ≡ false → Gives slice slice' x (behind_work sheet) → Answers x slice'
  unfolding lower_call planned
  called slice' x e g = rw (tests_second work sheet e) g

  -- the length of an accepted plan lies within the slice
  pub length_bound : (slice' : Bytes) (x : Result ℕ (Refusal Fault)) → Answers x slice' → IfOk x (λ n. n ≤ length slice')
  length_bound slice' (Ok n) e = answer_fits work sheet slice slice' _ e
  length_bound slice' (Err r) e = tt
