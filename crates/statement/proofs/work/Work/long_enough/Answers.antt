-- `Work::long_enough` meets its contract: it asks of its four slices. Assumes nothing.
use Rattle.statement.specs.Sizing.{long_tells}
use Rattle.statement.proofs.work.Work.long_enough.Goals as goal

pub returns : goal.returns
returns c = long_tells _ _ _ _ _ c.long_enough.ensures
