-- Test 9, and what is answered behind it, of one sheet or of two. Assumes nothing.
use Rattle.std.specs.Prelude.{◌≡◌, refl, ℕ, ◌≤◌, Bool, true, false, cond, ◌||◌, ltb, length, Option, None, Some, ok_or, Result, Ok, Err}
use Rattle.std.proofs.Common.{sym, ◌∙◌}
use Rattle.std.proofs.lemmas.Bool.{ltb-false}
use Rattle.model.specs.Refusal.{Refusal as Refuses, Answer as Values}
use Rattle.model.specs.Lower.{LowerCtx}
use Rattle.model.specs.Call.{refuse, pass, test_plan, max_plan}
use Rattle.plan_writer.specs.Whole
use Rattle.statement.specs.declared.Refusal.{Refusal}
use Rattle.statement.specs.Answer.{call_answer}

-- test 9 by its counts
abbrev pub full_of : {F : Type 0} (ops numbers : ℕ) → Result (Unit {0}) (Refusal F)
full_of ops numbers = cond (ltb max_plan ops || ltb max_plan numbers) (Err Refusal.PlanFull) (Ok tt)

-- its outcome as the code has it
abbrev Found : Type 0 → Type 0
Found F = Result (Unit {0}) (Refusal F)

-- the test of a state that has so many
module _ {F : Type 0} (s : LowerCtx) {ops numbers : ℕ} (o : ops ≡ length s.ops) (n : numbers ≡ s.scope.next_var) where
  full_here : {r : Found F} → r ≡ full_of ops numbers → r ≡ full_of (length s.ops) s.scope.next_var
  full_here e = rw (o, n) at e

  pub plan_full : {r : Found F} {x : Refusal F} → r ≡ full_of ops numbers → r ≡ Err x → (x ≡ Refusal.PlanFull) × (test_plan s ≡ refuse Refuses.PlanFull)
  unfolding test_plan
  plan_full e z = go (ltb max_plan (length s.ops) || ltb max_plan s.scope.next_var) (sym (full_here e) ∙ z)
    where
      go : (b : Bool) {x : Refusal F} → cond {A = Found F} b (Err Refusal.PlanFull) (Ok tt) ≡ Err x → (x ≡ Refusal.PlanFull) × (cond b (refuse Refuses.PlanFull) (pass s) ≡ refuse Refuses.PlanFull)
      go true z = (cc, refl)
      go false z = cc

  pub plan_fits : {r : Found F} {x : Unit {0}} → r ≡ full_of ops numbers → r ≡ Ok x → (ops ≤ max_plan) × (test_plan s ≡ pass s)
  unfolding test_plan
  plan_fits e z = rw o (go (ltb max_plan (length s.ops)) (ltb max_plan s.scope.next_var) refl (sym (full_here e) ∙ z))
    where
      go : (b d : Bool) {x : Unit {0}} → ltb max_plan (length s.ops) ≡ b → cond {A = Found F} (b || d) (Err Refusal.PlanFull) (Ok tt) ≡ Ok x → (length s.ops ≤ max_plan) × (cond (b || d) (refuse Refuses.PlanFull) (pass s) ≡ pass s)
      go true d k z = cc
      go false true k z = cc
      go false false k z = (ltb-false max_plan (length s.ops) k, refl)

-- the writer's answer
pub as_written : {F : Type 0} (of_sheet : F → Values) (p : Option ℕ) → call_answer of_sheet (ok_or p Refusal.NoRoom) ≡ Whole.answer_of p
unfolding Whole.answer_of
as_written of_sheet None = refl
as_written of_sheet (Some n) = refl
