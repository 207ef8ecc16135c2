-- `record_taken` meets its contract: a part has to begin with a node, and every other record is told by its kind. Assumes nothing.
use native.Mathlib.Omega.{arith}
use borrow.Author.Tests.{ltb-true}
use Rattle.precheck.proofs.FlatLaws.{some_part, part_taken, other_taken}
use Rattle.precheck.proofs.flat.record_taken.Goals as goal

pub begins_with_node-requires : goal.begins_with_node-requires
begins_with_node-requires c = some_part c.args.r.records.now.roomy c.kind-kind.ensures c.if-kind-eq-PART.true c.requires

pub returns-then-kind-eq-PART : goal.returns-then-kind-eq-PART
returns-then-kind-eq-PART c = record { so = λ e. part_taken c.args.r.records.now.roomy c.kind-kind.ensures c.if-kind-eq-PART.true (rw e at c.begins_with_node.ensures) }

pub returns : goal.returns
returns c = record { so = λ e. other_taken c.args.r.records.now.roomy c.kind-kind.ensures c.if-kind-eq-PART.false (omega (arith, ltb-true _ _ e)) }
