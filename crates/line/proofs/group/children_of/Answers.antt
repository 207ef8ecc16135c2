-- `line::group::children_of` meets its contract. Assumes nothing.
use mathlib.Core.Path.{ap, ◌∙◌}
use Prim.Native.Nat.{◌%◌}
use native.Mathlib.Omega.{arith}
use Rattle.words.specs.Words.{two32}
use Rattle.words.proofs.GroupLaws.{groups_few}
use Rattle.line.proofs.CountLaws.{add_none, add_one_group, add_all}
use Rattle.line.proofs.group.children_of.Goals as goal

pub loop-g-init : goal.loop-g-init
loop-g-init c = add_none _ _

pub count_place-place-requires : goal.count_place-place-requires
count_place-place-requires c = omega (arith, c.loop-g-test.true, c.groups_of-g-end.ensures, groups_few c.args.kind)

pub among-requires-clause-of_record : goal.among-requires-clause-of_record
among-requires-clause-of_record c = c.count_place-place.ensures.among

pub overflow_add-sum : goal.overflow_add-sum
overflow_add-sum c = omega (arith, c.among.type_inv, c.from-c.ensures, c.loop-g.invariant.few, c.loop-g.invariant.low, groups_few c.args.kind)

pub loop-g-preserved : goal.loop-g-preserved
loop-g-preserved c = add_one_group _ _ _ _ _ (omega (arith, c.loop-g-test.true, c.groups_of-g-end.ensures)) (c.from-c.ensures ∙ c.among.ensures ∙ c.count_place-place.ensures.is _, omega (arith, c.among.type_inv, c.from-c.ensures)) c.loop-g.invariant

pub returns : goal.returns
returns c = ap (λ x. x % two32) (add_all _ _ _ _ (omega (arith, c.loop-g-test.false, c.groups_of-g-end.ensures)) c.loop-g.invariant)
