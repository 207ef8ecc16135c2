-- `record::number::digit` meets its contract. Assumes nothing.
use native.Mathlib.Omega.{arith}
use Rattle.record.proofs.GatherLaws.{value_of, value_below, value_above}
use mathlib.Core.Path.{sym}
use Rattle.record.proofs.number.digit.Goals as goal

pub returns-in-48-to-57 : goal.returns-in-48-to-57
returns-in-48-to-57 c = rw c.from.ensures (sym (value_of c.args.b (omega arith) (omega arith)))

pub returns-in_default : goal.returns-in_default
returns-in_default c = sym (value_below c.args.b (omega arith))

pub returns-in_default-2 : goal.returns-in_default-2
returns-in_default-2 c = sym (value_above c.args.b (omega arith))
