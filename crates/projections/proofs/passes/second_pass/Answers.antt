-- `projections::passes::second_pass` meets its contract.
use Rattle.std.proofs.Common.{◌∙◌, arith}
use Rattle.context.specs.OpLaws.{pushed_as}
use Rattle.projections.proofs.PassLaws
use Rattle.projections.proofs.Pushing.{pushed_if_as}
use Rattle.projections.proofs.passes.second_pass.Goals as goal

pub lower_items-s-requires : goal.lower_items-s-requires
lower_items-s-requires c = record { items = PassLaws.items_some c.requires.items; room = c.requires.room; depth = c.requires.depth; pass = omega arith }

pub returns-clause-lowered : goal.returns-clause-lowered
returns-clause-lowered c =
    let pushed = pushed_as c.over.ensures c.push-z.ensures.pushed in
    let k = c.push-z.ensures.op in
    let last = pushed_if_as (rw k at c.distinct.ensures) (rw k at c.push_if.ensures.1) in
    let law = PassLaws.second_law c.requires c.lower_items-s.ensures.lowered pushed c.push-z.auto.ops last in
    let low = PassLaws.second_low c.requires c.lower_items-s.ensures.lowered pushed c.push-z.auto.ops last in
    (λ sheet. PassLaws.ends_at (c.push_if.ensures.0 ∙ c.push-z.ensures.next) (law sheet), low)
