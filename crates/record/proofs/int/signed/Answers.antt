-- `record::int::signed` meets its contract. Assumes nothing.
use borrow.Author.Rules.{rules}
use Rattle.record.proofs.IntLaws.{signed_of_law, signed_not, signed_empty}
use Rattle.record.proofs.int.signed.Goals as goal

pub returns-in_err-n-in_default : goal.returns-in_err-n-in_default
returns-in_err-n-in_default c = rw c.from_residual.ensures (signed_not _ (search rules) _ c.decimal.ensures c.in_err-n-in_default.was)

pub returns-in-empty : goal.returns-in-empty
returns-in-empty c = signed_empty _ c.in-empty.len_below

pub returns-in_ok-n-in_default : goal.returns-in_ok-n-in_default
returns-in_ok-n-in_default c = signed_of_law _ (search rules) _ c.decimal.ensures _ c.in_ok-n-in_default.was _ c.try_from.ensures _ c.ok.ensures.value
