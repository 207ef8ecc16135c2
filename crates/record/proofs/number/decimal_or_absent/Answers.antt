-- `record::number::decimal_or_absent` meets its contract. Assumes nothing.
use Rattle.record.proofs.AbsentLaws.{absent_of, present_of, neither_of}
use Rattle.record.proofs.number.decimal_or_absent.Goals as goal

pub returns-then-is_dash : goal.returns-then-is_dash
returns-then-is_dash c = absent_of _ _ _ c.is_dash.ensures c.if-is_dash.true

pub returns-in_err-n : goal.returns-in_err-n
returns-in_err-n c = rw c.from_residual.ensures (neither_of _ _ _ c.is_dash.ensures c.if-is_dash.false _ c.decimal.ensures c.in_err-n.was)

pub returns : goal.returns
returns c = present_of _ _ _ c.is_dash.ensures c.if-is_dash.false _ c.decimal.ensures _ c.in_ok-n.was
