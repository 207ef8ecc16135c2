-- `record::number::is_dash` meets its contract. Assumes nothing.
use Rattle.record.proofs.ReadLaws.{tested}
use Rattle.record.proofs.number.is_dash.Goals as goal

pub returns : goal.returns
returns c = tested _ _ _ _ c.as_slice.ensures c.eq.ensures
