-- `write_lowered` meets its contract: test 9, and then the writer's answer. Assumes nothing.
use Rattle.precheck.proofs.Laws.{handed_on}
use Rattle.statement.specs.Tables.{full, few_operators, some_tables, answered}
use Rattle.statement.proofs.lowering.write_lowered.Goals as goal

pub returns-in_err-test_plan : goal.returns-in_err-test_plan
returns-in_err-test_plan c = λ W t r. rw (handed_on c.from_residual.ensures.1) (full r c.test_plan.ensures _ c.in_err-test_plan.was)

pub write_plan-requires : goal.write_plan-requires
write_plan-requires c = some_tables c.requires (few_operators c.requires c.test_plan.ensures c.in_ok-test_plan.was)

pub returns : goal.returns
returns c = λ W t r. answered r c.test_plan.ensures _ _ _ c.in_ok-test_plan.was c.requires.met c.write_plan.ensures _ c.ok_or.ensures.value
