-- `write_numbers` meets its contract: the page says whether the numbers fit. Assumes nothing.
use Rattle.std.proofs.Common.{rules, arith}
use Rattle.output.specs.Whole.{begins}
use Rattle.values.proofs.text.write_numbers.Goals as goal

pub returns : goal.returns
returns c = begins c.put_numbers.ensures (omega arith) (search rules) c.used.ensures
