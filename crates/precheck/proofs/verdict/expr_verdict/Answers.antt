-- `expr_verdict` meets its contract: by the number of the kind. Assumes nothing.
use Rattle.precheck.proofs.Checks.{own_unresolved, own_undesugared, own_other}
use Rattle.precheck.proofs.verdict.expr_verdict.Goals as goal

pub returns-then-kind-lt-UNRES : goal.returns-then-kind-lt-UNRES
returns-then-kind-lt-UNRES c = own_other c.args.r.records.now.roomy c.kind-kind.ensures c.if-kind-lt-UNRES.true

pub returns-then-kind-eq-UNRES : goal.returns-then-kind-eq-UNRES
returns-then-kind-eq-UNRES c = own_unresolved c.args.r.records.now.roomy c.kind-kind.ensures c.if-kind-eq-UNRES.true

pub returns : goal.returns
returns c = own_undesugared c.args.r.records.now.roomy c.kind-kind.ensures c.word-kind.ensures c.if-kind-lt-UNRES.false c.if-kind-eq-UNRES.false
