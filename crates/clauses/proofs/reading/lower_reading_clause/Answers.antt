-- `clauses::reading::lower_reading_clause` meets its contract.
use Rattle.std.proofs.Common.{arith, rules}
use Rattle.projections.specs.Room
use Rattle.clauses.proofs.Clausing
use Rattle.clauses.proofs.reading.lower_reading_clause.Goals as goal

pub word-kind-requires : goal.word-kind-requires
word-kind-requires c = (Room.low (Room.some_tree c.requires.held), omega arith)

pub lower_call-requires : goal.lower_call-requires
lower_call-requires c = Clausing.asked c.requires (Clausing.a_call_left c.args.r.now.roomy c.requires c.word-kind.ensures (search rules))

pub returns-in-2-clause-lowered : goal.returns-in-2-clause-lowered
returns-in-2-clause-lowered c = c.lower_match.ensures.lowered _

pub returns-in-3-clause-lowered : goal.returns-in-3-clause-lowered
returns-in-3-clause-lowered c = c.lower_where.ensures.lowered _

pub returns-in-4-clause-lowered : goal.returns-in-4-clause-lowered
returns-in-4-clause-lowered c = c.lower_with.ensures.lowered _

pub returns-in-6-clause-lowered : goal.returns-in-6-clause-lowered
returns-in-6-clause-lowered c = c.lower_unwind.ensures.lowered _

pub returns-in_default-clause-lowered : goal.returns-in_default-clause-lowered
returns-in_default-clause-lowered c = c.lower_call.ensures.lowered _
