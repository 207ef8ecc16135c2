-- `clauses::pair::unite` meets its contract.
use Rattle.std.proofs.Common.{[], ◌∙◌, arith}
use Rattle.context.specs.OpLaws.{pushed_as, under_more}
use Rattle.clauses.proofs.Uniting.{unite_law}
use Rattle.clauses.proofs.pair.unite.Goals as goal

pub or_source_all-s-requires : goal.or_source_all-s-requires
or_source_all-s-requires c =
    let q = c.or_source_all-q.ensures.source [] in
    (record { few = omega (arith, c.requires.few, q.few); long = rw c.or_source_all-q.auto.ops c.requires.long }, under_more q.grow c.requires.right)

pub overflow_cast-result : goal.overflow_cast-result
overflow_cast-result c =
    let q = c.or_source_all-q.ensures.source [] in
    let s = c.or_source_all-s.ensures.source [] in
    omega (arith, c.requires.few, q.few, s.few)

pub push-requires : goal.push-requires
push-requires c =
    let q = c.or_source_all-q.ensures.source [] in
    let s = c.or_source_all-s.ensures.source [] in
    record { few = omega (arith, c.requires.few, q.few, s.few); long = rw (c.or_source_all-s.auto.ops ∙ c.or_source_all-q.auto.ops) c.requires.long }

pub returns : goal.returns
returns c =
    let pushed = pushed_as (rw c.from-all.ensures at c.union-x.ensures) c.push.ensures in
    λ rest. unite_law _ _ _ c.requires.here (c.or_source_all-q.ensures.source rest) (c.or_source_all-s.ensures.source rest) pushed c.push.auto.ops
