-- `clauses::pair::lower_union_pair` meets its contract.
use Rattle.std.proofs.Common.{refl, arith}
use Rattle.clauses.proofs.Whole
use Rattle.clauses.proofs.Pairing
use Rattle.clauses.proofs.pair.lower_union_pair.Goals as goal

pub lower_from-l-requires : goal.lower_from-l-requires
lower_from-l-requires c = Whole.asked Whole.start _ _ c.requires.on_left (omega arith) (omega arith) c.args.left.now.tables.long

pub lower_from-r-requires : goal.lower_from-r-requires
lower_from-r-requires c = Pairing.right_asked c.requires c.lower_from-l.ensures.lowered c.args.right.now.tables.long

pub returns-clause-lowered : goal.returns-clause-lowered
returns-clause-lowered c = Pairing.pair_law c.requires c.lower_from-l.ensures.lowered c.lower_from-r.ensures.lowered _ (c.unite-z.ensures _)

pub returns-clause-same_left : goal.returns-clause-same_left
returns-clause-same_left c = record { sheet = refl; records = refl; tables = c.lower_from-l.ensures.same }
