-- `record::number::decimal` meets its contract. Assumes nothing.
use native.Mathlib.Omega.{arith}
use Rattle.record.proofs.DecimalLaws.{none_of, one_of, spare_of, many_of_law}
use borrow.Author.Rules.{rules}
use Rattle.record.proofs.number.decimal.Goals as goal

pub returns-in-empty : goal.returns-in-empty
returns-in-empty c = none_of _ (omega arith) _ (omega arith)

pub returns-in-len1 : goal.returns-in-len1
returns-in-len1 c = one_of _ (omega arith) _ _ c.gather.ensures (omega arith)

pub returns-in-48 : goal.returns-in-48
returns-in-48 c = spare_of _ (omega arith) _ (λ h. omega arith) (λ h. omega arith) (search rules)

pub returns-in_default : goal.returns-in_default
returns-in_default c = many_of_law _ (omega arith) _ _ c.gather-in_default.ensures (λ h. omega arith) (λ h. omega arith) (search rules)
