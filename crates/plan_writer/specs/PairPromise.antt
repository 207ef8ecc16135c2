-- What the lowering promises of the tables of two sheets is what the writer wants of each. Assumes nothing: the law is proved.
use Rattle.std.specs.Prelude.{◌≡◌, refl, ℕ, ◌≤◌, ◌<◌, List}
use Rattle.std.proofs.Common.{sym, subst, arith}
use Rattle.model.specs.Text.{Bytes}
use Rattle.model.specs.Lower.{Recs, LowerCtx, at}
use Rattle.context.specs.Tables.{op_at, max_stored}
use Rattle.lower.specs.Side.{side}
use Rattle.lower.specs.Render.{Ops}
use Rattle.lower.specs.Shows.{Stored}
use Rattle.lower.specs.Rep.{Mem, Written, Rep}
use Rattle.plan_sheet.specs.Due.{noted, Tabled}

-- the operators that a table holds, from its first number on, of which all are stored; A has them, and may have others behind them
pub tabled_as : {sheet : Bytes} {a b : List ℕ} {first : ℕ} {W : Written} {s : LowerCtx} {m : Mem} (A : Ops) → Rep (side sheet a b first) W s m → m.ctx.ops ≤ max_stored → ((k : ℕ) → k < m.ctx.ops → A k ≡ at s.ops k) → Tabled sheet a b m.ops m.rest first m.ctx.ops A
tabled_as {sheet} {a} {b} {first} {W} {s} {m} A r few same =
    record {
      few = few;
      stored = λ k f l. subst (λ (recs : Recs). Stored (side sheet a b first) (noted m.rest) A k (op_at m.ops k) recs) (sym (same k l)) (r.shows k f l (omega arith) (noted m.rest) A (record { notes = record { at = λ q h i. refl }; ops = same }));
    }
