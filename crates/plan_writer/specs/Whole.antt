-- The tables that the lowering leaves, the state that they stand for, and what writing the whole plan sheet comes to. Assumes nothing: these are definitions.
use Rattle.std.specs.Prelude.{◌≡◌, ℕ, zero, suc, ◌+◌, ◌-◌, ◌≤◌, List, [], ◌++◌, length, drop, Option, None, Some}
use Rattle.model.specs.Text.{Bytes}
use Rattle.model.specs.Record.{spell_recs}
use Rattle.model.specs.Lower.{Recs, LowerCtx, at}
use Rattle.model.specs.Plan.{mapped_recs, plan_sheet}
use Rattle.model.specs.Refusal.{Refusal, Answer, accepted, values_of}
use Rattle.model.specs.Call.{written}
use Rattle.output.specs.declared.Page.{Page}
use Rattle.output.specs.Page.{Puts}
use Rattle.context.specs.Tables.{vars_of, vars_at, max_vars}
use Rattle.lower.specs.Render.{Ops}
use Rattle.plan_sheet.specs.Due.{Tabled, SomePlan}

-- the tables, with n operators from 0 on and so many named variables, stand for the state s
pub record Tables (sheet : Bytes) (a b os rest : List ℕ) (n mapped : ℕ) (s : LowerCtx) : Type 0 where
  pub count : n ≡ length s.ops
  pub tabled : Tabled sheet a b os rest 0 n (λ k. at s.ops k)
  pub vars : vars_of mapped (drop vars_at rest) ≡ s.scope.vars
  pub few : mapped ≤ max_vars

pub record SomeTables (sheet : Bytes) (a b os rest : List ℕ) (n mapped : ℕ) : Type 0 where
  pub state : LowerCtx
  pub tables : Tables sheet a b os rest n mapped state

-- n operators from number `first` on, in order
unfoldable pub ops_from : (first n : ℕ) → Ops → Recs
ops_from first zero A = []
ops_from first (suc n) A = ops_from first n A ++ A (first + n)

-- document 01's answer
unfoldable pub answer_of : Option ℕ → Answer
answer_of None = values_of Refusal.NoRoom
answer_of (Some n) = accepted n

-- the operators from number `first` on and below `end` are written
abbrev pub WroteOps : (sheet : Bytes) (a b os rest : List ℕ) (first end : ℕ) → Page → Page → Type 0
WroteOps sheet a b os rest first end p q = (h : SomePlan sheet a b os rest first end) → Puts (spell_recs (ops_from first (end - first) h.ops)) p q

abbrev pub WroteVars : (rest : List ℕ) (n : ℕ) → Page → Page → Type 0
WroteVars rest n p q = Puts (spell_recs (mapped_recs (vars_of n (drop vars_at rest)))) p q

-- the answer and the slice, for every state that the tables stand for
abbrev pub WrotePlan : (sheet : Bytes) (a b os rest : List ℕ) (n mapped : ℕ) → Bytes → Bytes → Option ℕ → Type 0
WrotePlan sheet a b os rest n mapped slice slice' r = (s : LowerCtx) → Tables sheet a b os rest n mapped s → record { answer = answer_of r; slice = slice' } ≡ written (plan_sheet s) slice
