-- The text is put so many times as the loop has gone round. Assumes nothing.
use Rattle.gate_cases.specs.Text.{again}
use Rattle.output.specs.Page.{Puts}
use Rattle.gate_cases.proofs.text.put_times.Given as goal

abbrev pub invariant-loop-i : goal.invariant-loop-i
invariant-loop-i l = Puts (again l._i l.text) l.initial.page l.page
