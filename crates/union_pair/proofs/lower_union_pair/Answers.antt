-- `lower_union_pair` meets its contract: tests 1 and 2 on both sides, and then the others. Assumes nothing.
use Rattle.std.proofs.lemmas.Result.{err_from_is_err_and}
use Rattle.statement.specs.Sizing.{is_long, is_short, enough}
use Rattle.statement.specs.Work.{sizes}
use Rattle.union_pair.proofs.Laws.{one_short, other_short, none_short, refused_first, bytes_each, both_short, one_long, called}
use Rattle.union_pair.proofs.lower_union_pair.Goals as goal

pub returns-then-not-long_enough-clause-plan_after : goal.returns-then-not-long_enough-clause-plan_after
returns-then-not-long_enough-clause-plan_after c = refused_first _ _ _ _ _ (one_short (sizes _ _ _ _) (sizes _ _ _ _) (is_short _ _ c.long_enough.ensures c.if-not-long_enough.true))

pub returns-then-not-long_enough-2-clause-plan_after : goal.returns-then-not-long_enough-2-clause-plan_after
returns-then-not-long_enough-2-clause-plan_after c = refused_first _ _ _ _ _ (other_short (sizes _ _ _ _) (sizes _ _ _ _) (is_short _ _ c.long_enough-2.ensures c.if-not-long_enough-2.true))

pub returns-in_err-each-clause-plan_after : goal.returns-in_err-each-clause-plan_after
returns-in_err-each-clause-plan_after c =
    let p = err_from_is_err_and c.from_residual.result c.from_residual.ensures.1 in
    let s = none_short (sizes _ _ _ _) (sizes _ _ _ _) (is_long _ _ c.long_enough.ensures c.if-not-long_enough.false) (is_long _ _ c.long_enough-2.ensures c.if-not-long_enough-2.false) in
    rw (p.1, p.2) (one_long _ _ _ _ _ s (bytes_each _ _ c.each.ensures c.test_bytes.ensures c.test_bytes-2.ensures) c.in_err-each.was)

pub invariant_of-lower_tested : goal.invariant_of-lower_tested
invariant_of-lower_tested c =
    let e = enough _ _ _ _ (is_long _ _ c.long_enough.ensures c.if-not-long_enough.false) in
    record { roomy = record { first = e.first; second = e.second } }

pub invariant_of-lower_tested-2 : goal.invariant_of-lower_tested-2
invariant_of-lower_tested-2 c =
    let e = enough _ _ _ _ (is_long _ _ c.long_enough-2.ensures c.if-not-long_enough-2.false) in
    record { roomy = record { first = e.first; second = e.second } }

pub lower_tested-requires : goal.lower_tested-requires
lower_tested-requires c =
    let l = enough _ _ _ _ (is_long _ _ c.long_enough.ensures c.if-not-long_enough.false) in
    let r = enough _ _ _ _ (is_long _ _ c.long_enough-2.ensures c.if-not-long_enough-2.false) in
    record {
      short = both_short _ _ (bytes_each _ _ c.each.ensures c.test_bytes.ensures c.test_bytes-2.ensures) c.in_ok-each.was;
      left_long = (l.third, l.fourth);
      right_long = (r.third, r.fourth);
    }

pub returns-clause-plan_after : goal.returns-clause-plan_after
returns-clause-plan_after c =
    let s = none_short (sizes _ _ _ _) (sizes _ _ _ _) (is_long _ _ c.long_enough.ensures c.if-not-long_enough.false) (is_long _ _ c.long_enough-2.ensures c.if-not-long_enough-2.false) in
    called _ _ _ _ _ s (both_short _ _ (bytes_each _ _ c.each.ensures c.test_bytes.ensures c.test_bytes-2.ensures) c.in_ok-each.was) _ c.lower_tested.result c.lower_tested.ensures.gives
