-- `number_bytes` meets its contract. Assumes nothing.
use native.Mathlib.Omega.{arith}
use Rattle.output.specs.Wide.{counted_long}
use Rattle.plan_line.proofs.field.number_bytes.Goals as goal

pub returns : goal.returns
returns c =
    let digits = rw c.from.ensures at c.digit_count.ensures in
    record { long = omega (arith, counted_long digits); few = omega (arith, digits.is, digits.few) }
