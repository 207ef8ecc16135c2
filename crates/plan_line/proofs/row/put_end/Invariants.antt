-- The numbers before this one are put.
use Rattle.std.proofs.Common.{take}
use Rattle.output.specs.Page.{Puts}
use Rattle.plan_line.specs.Row.{numbers_text}
use Rattle.plan_line.proofs.row.put_end.Given as goal

abbrev pub invariant-loop-n : goal.invariant-loop-n
invariant-loop-n g l = Puts (numbers_text (take l.n-index l.n-items)) l.initial.page l.page
