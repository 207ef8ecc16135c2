-- `clauses::reading::lower_yields` meets its contract.
use Rattle.std.proofs.Common.{arith}
use Rattle.clauses.proofs.Yields
use Rattle.clauses.proofs.reading.lower_yields.Goals as goal

pub loop-at-init : goal.loop-at-init
loop-at-init c = Yields.begun c.requires

pub loop-at-preserved : goal.loop-at-preserved
loop-at-preserved c = Yields.again c.args.r.now.roomy c.loop-at-test.true c.loop-at.invariant (Yields.numbered c.word-id.ensures c.number.ensures) c.number.auto.rest

pub returns : goal.returns
returns c = Yields.done (c.loop-at.auto.at-end (omega arith)) c.loop-at-test.false c.loop-at.invariant
