-- `lower_no_parts` meets its contract: a number is taken, and a source that binds it pushed. Assumes nothing.
use Rattle.lower.proofs.Parts
use Rattle.context.specs.OpLaws.{pushed_as}
use Rattle.lower.proofs.lower_no_parts.Goals as goal

pub returns : goal.returns
returns c = (
  c.push.ensures.next,
  λ a b d base rest.
      rw (c.push.ensures.next, c.push.ensures.op, c.fresh-f.ensures.1) (Parts.no_law d base _ _ _ _ _ c.requires.2 c.fresh-f.ensures (pushed_as c.binding.ensures c.push.ensures.pushed) c.push.auto.ops),
)
