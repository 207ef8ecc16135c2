-- `begins_with_node` meets its contract: the number of elements is tested, then the first one's kind. Assumes nothing.
use borrow.Author.Rules.{rules}
use Rattle.precheck.proofs.Patterns.{begins_not, begins_low, begins_by_kind}
use Rattle.precheck.proofs.verdict.begins_with_node.Goals as goal

pub word-requires : goal.word-requires
word-requires c = (begins_low c.args.r.records.now.roomy c.word-elements.ensures c.if-elements-ne0.true c.requires, search rules)

pub returns-then-elements-ne0 : goal.returns-then-elements-ne0
returns-then-elements-ne0 c = begins_by_kind c.args.r.records.now.roomy c.word-elements.ensures c.if-elements-ne0.true c.word.ensures

pub returns-else-elements-ne0 : goal.returns-else-elements-ne0
returns-else-elements-ne0 c =
    rw c.if-elements-ne0.false (begins_not c.args.r.records.now.roomy c.word-elements.ensures c.if-elements-ne0.false)
