-- `record::piece::separates` meets its contract. Assumes nothing.
use mathlib.Core.Path.{sym}
use native.Mathlib.Omega.{arith}
use Rattle.record.proofs.PlaceLaws.{separates_in, separates_low, separates_other}
use Rattle.record.proofs.piece.separates.Goals as goal

pub returns-in-9 : goal.returns-in-9
returns-in-9 c = separates_in c.args.b (omega arith) (omega arith)

pub returns-in_default : goal.returns-in_default
returns-in_default c = separates_low c.args.b (omega arith)

pub returns-in_default-2 : goal.returns-in_default-2
returns-in_default-2 c = sym (separates_other c.args.b (omega arith))
