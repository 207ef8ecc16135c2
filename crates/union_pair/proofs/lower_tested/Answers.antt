-- `lower_tested` meets its contract: the first fault of a side, or what the lowering and the writer give. Assumes nothing.
use Rattle.std.proofs.lemmas.Result.{err_from_is_err_and}
use Rattle.sides.proofs.Laws.{tested_passed, tested_failed}
use Rattle.union_pair.proofs.Laws.{tested_as, lowering_asked, stands, lowered, failed, passed}
use Rattle.union_pair.proofs.lower_tested.Goals as goal

pub returns-in_err-test_sides-clause-gives : goal.returns-in_err-test_sides-clause-gives
returns-in_err-test_sides-clause-gives c =
    let p = err_from_is_err_and c.from_residual.result c.from_residual.ensures.1 in
    rw (p.1, p.2) (failed _ _ c.args.all _ _ (tested_failed _ _ _ _ _ _ c.in_err-test_sides.was c.test_sides.ensures.tested))

pub lower_union_pair-sides-requires : goal.lower_union_pair-sides-requires
lower_union_pair-sides-requires c =
    let b = tested_as c.shared-left_words.ensures c.shared-right_words.ensures (tested_passed _ _ _ _ _ _ c.in_ok-test_sides.was c.test_sides.ensures.tested) in
    lowering_asked b

pub write_lowered-requires : goal.write_lowered-requires
write_lowered-requires c =
    let b = tested_as c.shared-left_words.ensures c.shared-right_words.ensures (tested_passed _ _ _ _ _ _ c.in_ok-test_sides.was c.test_sides.ensures.tested) in
    lowered b c.lower_union_pair-sides.ensures.lowered

pub returns-clause-gives : goal.returns-clause-gives
returns-clause-gives c =
    let b = tested_as c.shared-left_words.ensures c.shared-right_words.ensures (tested_passed _ _ _ _ _ _ c.in_ok-test_sides.was c.test_sides.ensures.tested) in
    passed _ _ c.args.all _ b c.write_lowered.result (c.write_lowered.ensures _ (stands b c.lower_union_pair-sides.ensures.lowered))
