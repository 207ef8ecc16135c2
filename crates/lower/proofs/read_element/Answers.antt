-- `read_element` meets its contract: a node, or else a rel. Assumes nothing.
use Rattle.lower.proofs.Reading.{read_node, read_rel}
use Rattle.lower.proofs.read_element.Goals as goal

pub returns-then-kind-eq-NODE : goal.returns-then-kind-eq-NODE
returns-then-kind-eq-NODE c = read_node c.kind.ensures c.if-kind-eq-NODE.true c.read_bind-bind.ensures c.below-below.ensures.names c.below-below.ensures.first c.below-below.ensures.props

pub returns : goal.returns
returns c = read_rel c.kind.ensures c.if-kind-eq-NODE.false c.read_bind-bind.ensures c.below-below.ensures.names c.below-below.ensures.first c.below-below.ensures.props
