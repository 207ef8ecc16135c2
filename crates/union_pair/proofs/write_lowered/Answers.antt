-- `write_lowered` meets its contract: test 9, and then the writer's answer. Assumes nothing.
use Rattle.precheck.proofs.Laws.{handed_on}
use Rattle.union_pair.proofs.Laws.{full, asked, answered}
use Rattle.union_pair.proofs.write_lowered.Goals as goal

pub returns-in_err-test_plan : goal.returns-in_err-test_plan
returns-in_err-test_plan c = λ s t. rw (handed_on c.from_residual.ensures.1) (full t c.test_plan.ensures _ c.in_err-test_plan.was)

pub write_pair-requires : goal.write_pair-requires
write_pair-requires c = asked c.requires c.test_plan.ensures c.in_ok-test_plan.was

pub returns : goal.returns
returns c = λ s t. answered t c.test_plan.ensures c.in_ok-test_plan.was c.requires.met _ _ _ c.write_pair.ensures _ c.ok_or.ensures.value
