-- `text_bytes` meets its contract. Assumes nothing.
use Rattle.plan_line.proofs.CopyLaws.{text_long}
use native.Mathlib.Omega.{arith}
use Rattle.plan_line.proofs.copy.text_bytes.Goals as goal

pub returns : goal.returns
returns c = text_long _ _ _ _ c.word-from.ensures c.word-to.ensures (omega arith) (omega arith)
