-- The laws of runs of stages, and of one stage after another: what a loop over them keeps, and what each step gives. Assumes nothing.
use mathlib.Core.Path.{◌≡◌, refl, ap, ◌∙◌}
use Prim.Native.Nat.{ℕ, ◌+◌, ◌-◌, ◌<◌, ◌≤◌}
use native.Mathlib.Numerals.{sub-one}
use Rattle.std.proofs.Math.Nat.{sub-zero}
use native.Mathlib.Omega.{arith}
use Rattle.std.specs.Prelude.{Result, Ok, Err}
use Rattle.std.specs.Result.{IsErrAnd}
use Rattle.std.proofs.lemmas.Result.{err_from_is_err_and}
use Rattle.model.specs.Check.{Verdict, fine, violated, and_then}
use Rattle.precheck.specs.Answer.{Found}
use Rattle.precheck.specs.Steps.{Stage, Exists, Ends, first_of, Walks, Then, Run, no_more, one_more}
use Rattle.precheck.specs.declared.PlanLowerError.{PlanLowerError}

-- what comes after a violation does not count
pub first_met : {x : PlanLowerError} {u v : Verdict} (w : Verdict) → v ≡ first_of u w → Found x u → Found x v
unfolding and_then
first_met w e f = record { unresolved = f.unresolved; is = e ∙ rw f.is }

pub none_after : (v : Verdict) → and_then v fine ≡ v
unfolding and_then
none_after fine = refl
none_after (violated r) = refl

-- a `?` hands on the error that it meets
pub handed_on : {A B : Type 0} {r : Result A B} {x : B} → IsErrAnd r (λ y. y ≡ x) → r ≡ Err x
handed_on {r = r} h = let p = err_from_is_err_and r h in p.1 ∙ ap Err p.2

-- so it is stopped as the walk was
pub stopped_as : {r : Result ℕ PlanLowerError} {x : PlanLowerError} {P : Stage} → IsErrAnd r (λ y. y ≡ x) → Walks (Err x) P → Walks r P
stopped_as h w = rw (handed_on h) w

-- ── one stage, then another ──

module _ {P : Stage} {Q : ℕ → Stage} where
  pub first_of_law : Exists (Then P Q) → Exists P
  first_of_law h = record { verdict = h.is.verdict; next = h.is.next; is = h.is.first }

  module _ {k : ℕ} (walks : Walks (Ok k) P) where
    -- a walk that goes on stands at the second stage, which has the verdict of both
    pub rest_of : {v : Verdict} {e : ℕ} → Then P Q v e → Q k v e
    unfolding and_then
    rest_of {v} {e} h =
        let w : Ends (Ok k) h.verdict h.next = walks.each _ _ h.first in
        let z : v ≡ h.later = h.both ∙ rw w.0 in
        rw (z, w.1) h.second

    -- the same of walks: something stands there, and another walks it
    pub after : Exists (Then P Q) → Exists (Q k)
    after h = record { verdict = h.verdict; next = h.next; is = rest_of h.is }

    pub then_walks : {q : Result ℕ PlanLowerError} → Walks q (Q k) → Walks q (Then P Q)
    then_walks w = record { each = λ v e h. w.each v e (rest_of h) }

  -- a walk that is stopped has the verdict of both
  pub then_stopped : {x : PlanLowerError} → Walks (Err x) P → Walks (Err x) (Then P Q)
  then_stopped w = record { each = λ v e h. first_met h.later h.both (w.each _ _ h.first) }

-- none of a kind are there, wherever that is
pub some_none : {P : ℕ → Stage} {i : ℕ} → Exists (Run P 0 i)
some_none {i = i} = record { verdict = fine; next = i; is = no_more }

-- other stages in their places
pub map_then : {P P' : Stage} {Q Q' : ℕ → Stage} {v : Verdict} {e : ℕ} → ((w : Verdict) (j : ℕ) → P w j → P' w j) → ((j : ℕ) (w : Verdict) → Q j w e → Q' j w e) → Then P Q v e → Then P' Q' v e
map_then f g h = record { verdict = h.verdict; next = h.next; first = f _ _ h.first; later = h.later; second = g _ _ h.second; both = h.both }

-- nothing is left
abbrev pub End : ℕ → Stage
End i v e = (v ≡ fine) × (i ≡ e)

pub last_of : {P : Stage} {v : Verdict} {e : ℕ} → Then P End v e → P v e
last_of {v = v} h =
    let z : v ≡ h.verdict = h.both ∙ rw h.second.0 (none_after h.verdict) in
    rw (z, ← h.second.1) h.first

pub just : {P : ℕ → Stage} {i : ℕ} {v : Verdict} {e : ℕ} → Run P 1 i v e → P i v e
just (one_more {u = u} p no_more b) = rw (b ∙ none_after u) p

pub run_none : {P : ℕ → Stage} {i : ℕ} {v : Verdict} {e : ℕ} → End i v e → Run P 0 i v e
run_none h = rw (h.0, ← h.1) no_more

-- none of a kind may be thought in between
pub with_none : {P : ℕ → Stage} {Q : ℕ → Stage} (j : ℕ) (v : Verdict) (e : ℕ) → Q j v e → Then (Run P 0 j) Q v e
unfolding and_then
with_none j v e h = record { verdict = fine; next = j; first = no_more; later = v; second = h; both = refl }

-- ── loops over runs ──

-- what remains when k are passed, from record at on, has the verdict of the whole, and the same record behind it
pub record Remaining (P : ℕ → Stage) (n i k at : ℕ) : Type 0 where
  pub same : (v : Verdict) (e : ℕ) → Run P n i v e → Run P (n - k) at v e

module _ {P : ℕ → Stage} where
  open_run : {m i : ℕ} {v : Verdict} {e : ℕ} → 0 < m → Run P m i v e → Then (P i) (Run P (m - 1)) v e
  open_run h no_more = absurd (omega arith)
  open_run h (one_more {n = n} {u = u} {w = w} {j = j} p ps b) = rw sub-one (record { verdict = u; next = j; first = p; later = w; second = ps; both = b })

  -- of the n - k that remain the first is one, and the n - (k + 1) others
  pub opened : {n k i : ℕ} {v : Verdict} {e : ℕ} → k < n → Run P (n - k) i v e → Then (P i) (Run P (n - (k + 1))) v e
  opened {n} {k} h r =
      let q : n - (k + 1) ≡ n - k - 1 = omega arith in
      rw q (open_run (omega arith) r)

  pub closed : {m i : ℕ} {v : Verdict} {e : ℕ} → m ≡ 0 → Run P m i v e → Ends (Ok i) v e
  closed h no_more = (refl, refl)
  closed h (one_more {n = n} p ps b) = absurd (omega arith)

pub map_run : {P Q : ℕ → Stage} → ((i : ℕ) (v : Verdict) (e : ℕ) → P i v e → Q i v e) → {n i : ℕ} {v : Verdict} {e : ℕ} → Run P n i v e → Run Q n i v e
map_run f no_more = no_more
map_run f (one_more p ps b) = one_more (f _ _ _ p) (map_run f ps) b

module _ {P : ℕ → Stage} {n i : ℕ} where
  pub whole : Remaining P n i 0 i
  whole = record { same = λ v e p. rw sub-zero p }

  module _ {k at : ℕ} (remaining : Remaining P n i k at) where
    pub child : k < n → Exists (Run P n i) → Exists (P at)
    child h s = first_of_law (record { verdict = s.verdict; next = s.next; is = opened h (remaining.same _ _ s.is) })

    pub done : n ≤ k → Walks (Ok at) (Run P n i)
    done h = record { each = λ v e p. closed (omega arith) (remaining.same v e p) }

    pub again : {next : ℕ} → k < n → Walks (Ok next) (P at) → Remaining P n i (k + 1) next
    again h w = record { same = λ v e p. rest_of w (opened h (remaining.same v e p)) }

    pub stop : {x : PlanLowerError} → k < n → Walks (Err x) (P at) → Walks (Err x) (Run P n i)
    stop h w = record { each = λ v e p. (then_stopped w).each v e (opened h (remaining.same v e p)) }
