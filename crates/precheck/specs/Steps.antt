-- Walks over records, as relations: a stage says which verdict something has that stands from a record on, and which record is behind it. Assumes nothing: these are definitions.
use Rattle.std.specs.Prelude.{◌≡◌, ℕ, zero, suc, Result, Ok, Err}
use Rattle.model.specs.Check.{Verdict, fine, and_then}
use Rattle.precheck.specs.Answer.{Found}
use Rattle.precheck.specs.declared.PlanLowerError.{PlanLowerError}

abbrev pub Stage : Type 1
Stage = Verdict → ℕ → Type 0

-- some verdict and some record behind it
pub record Exists (P : Stage) : Type 0 where
  pub verdict : Verdict
  pub next : ℕ
  pub is : P verdict next

-- a walk ends as a stage says: it goes on behind what is fine, or is stopped by the violation
abbrev pub Ends : Result ℕ PlanLowerError → Verdict → ℕ → Type 0
Ends (Ok k) v e = (v ≡ fine) × (k ≡ e)
Ends (Err x) v e = Found x v

pub record Walks (r : Result ℕ PlanLowerError) (P : Stage) : Type 0 where
  pub each : (v : Verdict) (e : ℕ) → P v e → Ends r v e

-- of two verdicts one after another the first violation counts
abbrev pub first_of : Verdict → Verdict → Verdict
first_of u w = and_then u w

-- one stage, then another from the record behind it
pub record Then (P : Stage) (Q : ℕ → Stage) (v : Verdict) (e : ℕ) : Type 0 where
  pub verdict : Verdict
  pub next : ℕ
  pub first : P verdict next
  pub later : Verdict
  pub second : Q next later e
  pub both : v ≡ first_of verdict later

-- n of a kind, one after another from record i on
pub data Run (P : ℕ → Stage) : (n i : ℕ) → Verdict → ℕ → Type 0 where
  no_more : {i : ℕ} → Run P zero i fine i
  one_more : {n i : ℕ} {u v w : Verdict} {j e : ℕ} → P i u j → Run P n j w e → v ≡ first_of u w → Run P (suc n) i v e
