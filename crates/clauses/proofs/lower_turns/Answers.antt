-- `clauses::lower_turns` meets its contract.
use Rattle.context.specs.LentLaws.{same_refl, same_then}
use Rattle.clauses.proofs.Room as Inputs
use Rattle.clauses.proofs.Turning
use Rattle.clauses.proofs.lower_turns.Goals as goal

pub loop-init : goal.loop-init
loop-init g c = (Turning.begun c.requires.held c.requires.ready (Inputs.under_stands _ _ c.requires.stands), same_refl)

pub lower-cur-requires : goal.lower-cur-requires
lower-cur-requires g c =
    let remaining = c.loop.invariant.0 in
    record { held = Turning.child c.loop-test.true remaining; ready = remaining.ready; depth = c.requires.depth; stands = Inputs.stands_under _ _ remaining.stands }

pub loop-preserved : goal.loop-preserved
loop-preserved g c = (Turning.again c.loop-test.true c.loop.invariant.0 c.lower-cur.ensures.lowered, same_then c.loop.invariant.1 c.lower-cur.ensures.same)

pub returns-clause-lowered : goal.returns-clause-lowered
returns-clause-lowered g c = Turning.done c.loop-test.false c.loop.invariant.0

pub returns-clause-same : goal.returns-clause-same
returns-clause-same g c = c.loop.invariant.1
