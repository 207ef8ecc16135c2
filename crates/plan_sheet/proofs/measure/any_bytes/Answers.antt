-- `any_bytes` meets its contract. Assumes nothing.
use Rattle.plan_sheet.proofs.MeasureLaws
use native.Mathlib.Omega.{arith}
use Rattle.plan_sheet.proofs.measure.any_bytes.Goals as goal

pub returns : goal.returns
returns c = MeasureLaws.any_bytes c.word-x.ensures c.word-z.ensures c.number_bytes.ensures c.number_bytes-2.ensures c.number_bytes-3.ensures (omega arith)
