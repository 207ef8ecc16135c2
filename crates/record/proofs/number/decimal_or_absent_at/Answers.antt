-- `record::number::decimal_or_absent_at` meets its contract. Assumes nothing.
use native.Mathlib.Omega.{arith}
use mathlib.Core.Path.{refl, sym, ◌∙◌}
use Rattle.record.proofs.PlaceLaws.{dash_some, dash_none}
use Rattle.record.proofs.AbsentLaws.{absent_at, dash_spare, present_at, neither_at}
use Rattle.record.proofs.number.decimal_or_absent_at.Goals as goal

pub returns-then-c-eq45 : goal.returns-then-c-eq45
returns-then-c-eq45 c =
    let h = dash_some (sym c.dash_end.ensures ∙ c.in_ok-end.was) in
    rw h.1 (absent_at _ (omega arith) _ _ c.args.c.fed c.if-c-eq45.true _ refl h.0)

pub returns-in_err-end : goal.returns-in_err-end
returns-in_err-end c = rw c.from_residual.ensures (dash_spare _ (omega arith) _ _ c.args.c.fed c.if-c-eq45.true _ refl (dash_none _ (sym c.dash_end.ensures ∙ c.in_err-end.was)))

pub returns-in_err-n : goal.returns-in_err-n
returns-in_err-n c = rw c.from_residual-in_err-n.ensures (neither_at _ (omega arith) _ _ c.args.c.fed c.if-c-eq45.false _ c.decimal_at.ensures c.in_err-n.was)

pub returns : goal.returns
returns c = present_at _ (omega arith) _ _ c.args.c.fed c.if-c-eq45.false _ c.decimal_at.ensures _ c.in_ok-n.was
