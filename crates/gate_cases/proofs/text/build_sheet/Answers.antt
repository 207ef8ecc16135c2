-- `build_sheet` meets its contract: the page says whether the sheet fits. Assumes nothing.
use Rattle.std.proofs.Common.{rules, arith}
use Rattle.output.specs.Whole.{begins}
use Rattle.gate_cases.proofs.text.build_sheet.Goals as goal

pub returns : goal.returns
returns c = begins c.put_sheet.ensures (omega arith) (search rules) c.used.ensures
