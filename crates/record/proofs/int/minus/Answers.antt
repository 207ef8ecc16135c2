-- `record::int::minus` meets its contract. Assumes nothing.
use Rattle.record.proofs.IntLaws.{minus_of, minus_zero, minus_not}
use Rattle.record.proofs.int.minus.Goals as goal

pub returns-in_err-n : goal.returns-in_err-n
returns-in_err-n c = rw c.from_residual.ensures (minus_not _ _ c.decimal.ensures c.in_err-n.was)

pub returns-then-n-eq0 : goal.returns-then-n-eq0
returns-then-n-eq0 c = minus_zero _ _ c.decimal.ensures _ c.in_ok-n.was c.if-n-eq0.true

pub returns : goal.returns
returns c = minus_of _ _ c.decimal.ensures _ c.in_ok-n.was c.if-n-eq0.false _ c.checked_sub_unsigned.ensures
