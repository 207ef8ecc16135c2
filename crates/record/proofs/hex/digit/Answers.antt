-- `record::hex::digit` meets its contract. Assumes nothing.
use native.Mathlib.Omega.{arith}
use Rattle.record.proofs.HexLaws.{number_of, letter_of, other_of}
use Rattle.record.proofs.hex.digit.Goals as goal

pub returns-in-48-to-57 : goal.returns-in-48-to-57
returns-in-48-to-57 c = rw c.from.ensures (number_of c.args.b (omega arith) (omega arith))

pub returns-in-97-to-102 : goal.returns-in-97-to-102
returns-in-97-to-102 c = rw c.from-in-97-to-102.ensures (letter_of c.args.b (omega arith) (omega arith))

pub returns-in_default : goal.returns-in_default
returns-in_default c = other_of c.args.b (λ h k. omega arith) (λ h k. omega arith)

pub returns-in_default-2 : goal.returns-in_default-2
returns-in_default-2 c = other_of c.args.b (λ h k. omega arith) (λ h k. omega arith)

pub returns-in_default-3 : goal.returns-in_default-3
returns-in_default-3 c = other_of c.args.b (λ h k. omega arith) (λ h k. omega arith)
