-- `clauses::reading::join_before` meets its contract.
use Rattle.std.proofs.Common.{refl, inl, inr}
use Rattle.context.specs.OpLaws.{pushed_as}
use Rattle.clauses.proofs.Matching.{plain_law, joined_law}
use Rattle.clauses.proofs.reading.join_before.Goals as goal

pub returns-in_default : goal.returns-in_default
returns-in_default c = (refl, λ rest. plain_law _ (inr c.in_default.is) c.requires.low)

pub returns-then-not-optional : goal.returns-then-not-optional
returns-then-not-optional c = (refl, λ rest. plain_law _ (inl c.if-not-optional.true) c.requires.low)

pub returns : goal.returns
returns c = (
  c.push.ensures.next,
  λ rest. rw c.push.ensures.op (joined_law rest c.if-not-optional.false c.in-Some.is c.requires.here c.requires.low (pushed_as c.optional_join.ensures c.push.ensures.pushed) c.push.auto.ops),
)
