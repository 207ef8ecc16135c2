-- `clauses::lower` meets its contract.
use Rattle.std.proofs.Common.{arith}
use Rattle.clauses.proofs.Whole
use Rattle.clauses.proofs.lower.Goals as goal

pub lower_from-requires : goal.lower_from-requires
lower_from-requires c = Whole.asked Whole.start _ _ c.requires (omega arith) (omega arith) c.args.tables.now.long

pub returns-clause-lowered : goal.returns-clause-lowered
returns-clause-lowered c = Whole.whole_law c.lower_from.ensures.lowered
