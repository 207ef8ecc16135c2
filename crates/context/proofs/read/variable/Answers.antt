-- `variable` meets its contract. Assumes nothing.
use Rattle.context.proofs.Reading.{variable_at}
use borrow.Author.Rules.{rules}
use Rattle.context.proofs.read.variable.Goals as goal

pub returns : goal.returns
returns c = search (variable_at, rules)
