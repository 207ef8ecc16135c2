-- `descend` meets its contract. The loop's invariant: the way down has come to variable p. Assumes nothing.
use Rattle.context.proofs.Tree
use native.Mathlib.Omega.{arith}
use mathlib.Core.Path.{sym, ◌∙◌}
use Rattle.context.proofs.index.descend.Goals as goal

pub loop-p-smaller : goal.loop-p-smaller
loop-p-smaller c =
    let s = Tree.descends_on _ _ _ (Tree.all_indexed _ _ c.requires.1 c.requires.2.index) _ _ _ c.loop-p.invariant c.loop-p-test.true (sym c.in-Some.is ∙ c.child.ensures) in
    omega (arith, s.1, s.0.low)

pub loop-p-preserved : goal.loop-p-preserved
loop-p-preserved c = (Tree.descends_on _ _ _ (Tree.all_indexed _ _ c.requires.1 c.requires.2.index) _ _ _ c.loop-p.invariant c.loop-p-test.true (sym c.in-Some.is ∙ c.child.ensures)).0

pub returns-in_default : goal.returns-in_default
returns-in_default c = record { way = c.loop-p.invariant; end = λ _. Tree.linked_none _ (sym c.in_default.is ∙ c.child.ensures) }
