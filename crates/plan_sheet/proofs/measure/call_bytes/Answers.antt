-- `call_bytes` meets its contract. Assumes nothing.
use Rattle.plan_sheet.proofs.MeasureLaws
use native.Mathlib.Omega.{arith}
use Rattle.plan_sheet.proofs.measure.call_bytes.Goals as goal

pub returns : goal.returns
returns c = MeasureLaws.call_bytes c.text_bytes.ensures c.word-args.ensures c.number_bytes.ensures (omega arith)
