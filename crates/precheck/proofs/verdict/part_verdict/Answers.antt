-- `part_verdict` meets its contract: by what the part begins with. Assumes nothing.
use Rattle.precheck.proofs.Checks.{own_empty, own_begins}
use Rattle.precheck.proofs.verdict.part_verdict.Goals as goal

pub returns-then-begins_with_node : goal.returns-then-begins_with_node
returns-then-begins_with_node c = own_begins c.begins_with_node.ensures c.if-begins_with_node.true

pub returns : goal.returns
returns c = own_empty c.begins_with_node.ensures c.if-begins_with_node.false
