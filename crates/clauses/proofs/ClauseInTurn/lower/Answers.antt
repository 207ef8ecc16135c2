-- `clauses::ClauseInTurn::lower` meets its contract.
use Rattle.std.proofs.Common.{sym, ◌∙◌, arith}
use Rattle.projections.specs.Room
use Rattle.clauses.proofs.Room as Inputs
use Rattle.clauses.proofs.Clausing
use Rattle.clauses.proofs.Turning
use Rattle.clauses.proofs.ClauseInTurn.lower.Goals as goal

pub word-kind-requires : goal.word-kind-requires
word-kind-requires c = (Room.low (Room.some_tree c.requires.held), omega arith)

pub returns-then-kind-eq-WRITE-clause-lowered : goal.returns-then-kind-eq-WRITE-clause-lowered
returns-then-kind-eq-WRITE-clause-lowered c = Turning.clause_turn_law (Clausing.write_law _ _ _ _ _ c.args.r.now.roomy (sym c.word-kind.ensures ∙ c.if-kind-eq-WRITE.true) (Room.low (Room.some_tree c.requires.held)) (Inputs.under_stands _ _ c.requires.stands))

pub returns-clause-lowered : goal.returns-clause-lowered
returns-clause-lowered c = Turning.clause_turn_law c.lower_reading_clause-s.ensures.lowered
