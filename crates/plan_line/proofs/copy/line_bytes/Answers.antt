-- `line_bytes` meets its contract. Assumes nothing.
use Rattle.plan_line.proofs.CopyLaws.{line_in, line_long}
use native.Mathlib.Omega.{arith}
use Rattle.plan_line.proofs.copy.line_bytes.Goals as goal

pub overflow_sub-bytes : goal.overflow_sub-bytes
overflow_sub-bytes c =
    let inside = line_in _ _ _ c.word-start.ensures c.word-end.ensures c.requires.1 in
    omega (arith, inside.0)

pub returns : goal.returns
returns c = line_long _ _ _ c.word-start.ensures c.word-end.ensures (omega arith) (omega arith)
