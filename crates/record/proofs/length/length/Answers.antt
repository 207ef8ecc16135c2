-- `record::length::length` meets its contract: the two words, each with its two pieces. Assumes nothing.
use Rattle.record.proofs.ReadLaws.{tested}
use Rattle.record.proofs.LengthLaws.{one_of, one_not, var_of, var_low, var_not}
use Rattle.record.proofs.length.length.Goals as goal

pub returns-then-is_dash : goal.returns-then-is_dash
returns-then-is_dash c = one_of _ _ _ _ (tested _ _ _ _ c.as_slice.ensures c.eq.ensures) c.if-eq.true _ c.is_dash.ensures c.if-is_dash.true _ c.is_dash-then-is_dash.ensures

pub returns-else-is_dash : goal.returns-else-is_dash
returns-else-is_dash c = rw c.if-is_dash.false (one_not _ _ _ _ (tested _ _ _ _ c.as_slice.ensures c.eq.ensures) c.if-eq.true _ c.is_dash.ensures c.if-is_dash.false)

pub returns-then-bound : goal.returns-then-bound
returns-then-bound c =
    var_of _ _ _ _ (tested _ _ _ _ c.as_slice.ensures c.eq.ensures) c.if-eq.false _ (tested _ _ _ _ c.as_slice-2.ensures c.eq-2.ensures) c.if-eq-2.true
    _ c.bound.ensures c.if-bound.true _ c.bound-then-bound.ensures

pub returns-else-bound : goal.returns-else-bound
returns-else-bound c =
    rw c.if-bound.false
    (var_low _ _ _ _ (tested _ _ _ _ c.as_slice.ensures c.eq.ensures) c.if-eq.false _ (tested _ _ _ _ c.as_slice-2.ensures c.eq-2.ensures) c.if-eq-2.true
    _ c.bound.ensures c.if-bound.false)

pub returns : goal.returns
returns c = var_not _ _ _ _ (tested _ _ _ _ c.as_slice.ensures c.eq.ensures) c.if-eq.false _ (tested _ _ _ _ c.as_slice-2.ensures c.eq-2.ensures) c.if-eq-2.false
