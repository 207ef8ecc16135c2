-- `props_of` meets its contract: a node's words, or a rel's. Assumes nothing.
use Rattle.precheck.proofs.Patterns.{below_node, below_rel}
use Rattle.precheck.proofs.verdict.props_of.Goals as goal
use Rattle.precheck.proofs.verdict.props_of.Goals.{then-kind-eq-NODE, else-kind-eq-NODE}

pub returns : goal.returns
returns c =
    elim c.if-kind-eq-NODE.branch [
      | then-kind-eq-NODE w ↦ below_node c.args.r.records.now.roomy c.kind.ensures c.below-below.ensures.names c.below-below.ensures.first c.below-below.ensures.props c.span_at.ensures w.if-kind-eq-NODE.true w.at-is
      | else-kind-eq-NODE w ↦ below_rel c.args.r.records.now.roomy c.kind.ensures c.below-below.ensures.names c.below-below.ensures.first c.below-below.ensures.props c.span_at.ensures w.if-kind-eq-NODE.false w.at-is
    ]
