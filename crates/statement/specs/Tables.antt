-- What the lowering leaves, as the writer wants it: a state that the tables stand for. Assumes nothing.
use Rattle.std.specs.Prelude.{◌≡◌, ℕ, ◌≤◌, List, length, Option, ok_or, Result, Ok, Err, refl}
use Rattle.std.proofs.Common.{ap}
use Rattle.model.specs.Text.{Bytes}
use Rattle.model.specs.Kind.{statement}
use Rattle.model.specs.Lower.{LowerCtx, lower_statement}
use Rattle.model.specs.Call.{outcome, test_plan, max_depth, max_plan}
use Rattle.words.specs.Held.{HeldSome}
use Rattle.context.specs.Tables.{max_vars}
use Rattle.lower.specs.Side.{side}
use Rattle.lower.specs.Rep.{Mem, Written, Rep}
use Rattle.clauses.specs.Statement.{LowersStatement}
use Rattle.plan_writer.specs.Promise.{tables_of}
use Rattle.plan_writer.specs.Whole.{SomeTables, WrotePlan}
use Rattle.statement.specs.declared.Refusal.{Refusal}
use Rattle.statement.specs.declared.Fault.{Fault}
use Rattle.statement.specs.Answer.{fault_answer}
use Rattle.statement.specs.PlanTest.{full_of, plan_full, plan_fits, as_written}
use Rattle.statement.specs.Lowering.{Gives}

-- the tables stand for some state, and have no more variables than there is room for
pub record Lowered (sheet : Bytes) (a b : List ℕ) (m : Mem) : Type 0 where
  pub met : m.ctx.mapped ≤ max_vars
  pub written : Written
  pub state : LowerCtx
  pub rep : Rep (side sheet a b 0) written state m

pub lowered : {sheet : Bytes} {a b : List ℕ} {m : Mem} → HeldSome sheet a b statement max_depth 0 → LowersStatement sheet a b m → Lowered sheet a b m
lowered h l = let r = l.run h.tree h.is in record { met = l.met; written = r.written; state = lower_statement h.tree; rep = r.rep }

module _ {sheet : Bytes} {a b : List ℕ} {m : Mem} where
  pub some_tables : Lowered sheet a b m → m.ctx.ops ≤ max_plan → SomeTables sheet a b m.ops m.rest m.ctx.ops m.ctx.mapped
  some_tables l h = record { state = l.state; tables = tables_of l.rep h l.met }

  -- counts of the state, as the code has them
  module _ {W : Written} {s : LowerCtx} (r : Rep (side sheet a b 0) W s m) where
    pub ops_count : m.ctx.ops ≡ length s.ops
    ops_count = r.count

    pub numbers_count : m.ctx.numbers ≡ s.scope.next_var
    numbers_count = ap (λ (z : LowerCtx). z.scope.next_var) r.state

-- test 9 leaves not too many operators
pub few_operators : {sheet : Bytes} {a b : List ℕ} {m : Mem} {f : Result (Unit {0}) (Refusal Fault)} {u : Unit {0}} → Lowered sheet a b m → f ≡ full_of m.ctx.ops m.ctx.numbers → f ≡ Ok u → m.ctx.ops ≤ max_plan
few_operators l e z = (plan_fits l.state (ops_count l.rep) (numbers_count l.rep) e z).0

-- ── the plan, as it is answered ──

module _ {sheet : Bytes} {a b : List ℕ} {m : Mem} {W : Written} {s : LowerCtx} (r : Rep (side sheet a b 0) W s m) {f : Result (Unit {0}) (Refusal Fault)} (e : f ≡ full_of m.ctx.ops m.ctx.numbers) where
  pub full : (slice : Bytes) {x : Refusal Fault} → f ≡ Err x → Gives slice slice (Err x) (test_plan s)
  unfolding outcome
  full slice z = let p = plan_full s (ops_count r) (numbers_count r) e z in rw (p.0, p.1) refl

  pub answered : (slice slice' : Bytes) (p : Option ℕ) {u : Unit {0}} → f ≡ Ok u → m.ctx.mapped ≤ max_vars → WrotePlan sheet a b m.ops m.rest m.ctx.ops m.ctx.mapped slice slice' p → (x : Result ℕ (Refusal Fault)) → x ≡ ok_or p Refusal.NoRoom → Gives slice slice' x (test_plan s)
  unfolding outcome
  answered slice slice' p z met w x q =
      let g = plan_fits s (ops_count r) (numbers_count r) e z in
      rw (g.1, q, as_written fault_answer p) (w s (tables_of r g.0 met))
