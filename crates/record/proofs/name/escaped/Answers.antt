-- `record::name::escaped` meets its contract. Assumes nothing.
use Rattle.record.proofs.NameLaws.{escape_is, escape_other}
use borrow.Author.Rules.{rules}
use Rattle.record.proofs.name.escaped.Goals as goal

pub returns-in-92 : goal.returns-in-92
returns-in-92 c = escape_is _ c.in-92.is

pub returns-in_default : goal.returns-in_default
returns-in_default c = search (escape_other, rules)
