-- What the lowering promises of its tables is what the writer wants of them. Assumes nothing: the laws are proved.
use Rattle.std.specs.Prelude.{refl, ℕ, ◌≤◌, List}
use Rattle.std.proofs.Common.{ap}
use Rattle.model.specs.Text.{Bytes}
use Rattle.model.specs.Lower.{LowerCtx, at}
use Rattle.context.specs.Tables.{max_stored, max_vars}
use Rattle.lower.specs.Side.{side}
use Rattle.lower.specs.Rep.{Mem, Written, Rep}
use Rattle.plan_sheet.specs.Due.{Tabled}
use Rattle.plan_writer.specs.PairPromise.{tabled_as}
use Rattle.plan_writer.specs.Whole.{Tables}

-- the operators that a table holds, from its first number on, of which all are stored
pub tabled_of : {sheet : Bytes} {a b : List ℕ} {first : ℕ} {W : Written} {s : LowerCtx} {m : Mem} → Rep (side sheet a b first) W s m → m.ctx.ops ≤ max_stored → Tabled sheet a b m.ops m.rest first m.ctx.ops (λ k. at s.ops k)
tabled_of {s = s} r few = tabled_as (λ k. at s.ops k) r few (λ k l. refl)

-- tables that stand for a state in the lowering's own words, from operator 0 on
pub tables_of : {sheet : Bytes} {a b : List ℕ} {W : Written} {s : LowerCtx} {m : Mem} → Rep (side sheet a b 0) W s m → m.ctx.ops ≤ max_stored → m.ctx.mapped ≤ max_vars → Tables sheet a b m.ops m.rest m.ctx.ops m.ctx.mapped s
tables_of r few mapped_few =
    record {
      count = r.count;
      tabled = tabled_of r few;
      vars = ap (λ (x : LowerCtx). x.scope.vars) r.state;
      few = mapped_few;
    }
