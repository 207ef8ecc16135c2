-- `put_tail` meets its contract. Assumes nothing.
use Rattle.std.proofs.lemmas.Bool.Decides.{nat_tests}
use native.Mathlib.Omega.{arith}
use Rattle.plan_sheet.proofs.HeadLaws.{others}
use Rattle.plan_sheet.proofs.BehindLaws
use Rattle.plan_sheet.proofs.behind.put_tail.Goals as goal

pub returns-in-2 : goal.returns-in-2
returns-in-2 c = BehindLaws.labels_wrote c.in-2.is c.count-labels.ensures.0 c.put_names.ensures

pub returns-in_default : goal.returns-in_default
returns-in_default c = BehindLaws.nothing_wrote (others c.args.w.kind BehindLaws.tails (grind (arith, nat_tests)))
