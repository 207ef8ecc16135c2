-- The numbers so far are put. Assumes nothing.
use Rattle.std.proofs.Common.{take}
use Rattle.output.specs.Page.{Puts}
use Rattle.values.specs.Text.{numbers_text}
use Rattle.values.proofs.text.put_numbers.Given as goal

abbrev pub invariant-loop-n : goal.invariant-loop-n
invariant-loop-n l = Puts (numbers_text l.separator (take l.n-index l.numbers)) l.initial.page l.page
