-- `put_sheet` meets its contract: the text as it is, or its head, its part so many times, and its tail. Assumes nothing.
use Rattle.std.proofs.Common.{sym, subst}
use Rattle.output.specs.Page.{Puts}
use Rattle.output.specs.Writes.{◌⨾◌}
use Rattle.gate_cases.proofs.text.put_sheet.Goals as goal

pub returns : goal.returns
returns c = subst (λ t. Puts t c.args.page.now c.put_part-3.new.self) (sym c.in-Some.ensures) ((c.put_part-2.ensures ⨾ c.put_times.ensures) ⨾ c.put_part-3.ensures)
