-- `signed_of` meets its contract. Assumes nothing.
use borrow.Author.Rules.{rules}
use Rattle.plan_line.proofs.SignedLaws.{plain_fits, plain_is, rest_fits, below_is}
use Rattle.plan_line.proofs.field.signed_of.Goals as goal

pub overflow_cast-result : goal.overflow_cast-result
overflow_cast-result c = plain_fits _ _ _ (search rules) c.if-high-lt-TOP_BIT.true c.bits.ensures

pub returns-then-high-lt-TOP_BIT : goal.returns-then-high-lt-TOP_BIT
returns-then-high-lt-TOP_BIT c = plain_is _ _ _ (search rules) c.if-high-lt-TOP_BIT.true c.bits.ensures

pub overflow_cast-result-2 : goal.overflow_cast-result-2
overflow_cast-result-2 c = rest_fits _ _ _ (search rules) c.if-high-lt-TOP_BIT.false (search rules) c.bits-2.ensures

pub returns : goal.returns
returns c = below_is _ _ _ (search rules) c.if-high-lt-TOP_BIT.false (search rules) c.bits-2.ensures
