-- `line::field::alias` meets its contract. Assumes nothing.
use Rattle.line.proofs.NameLaws.{alias_dash, alias_named}
use Rattle.line.proofs.field.alias.Goals as goal

pub returns-in-None : goal.returns-in-None
returns-in-None c = alias_dash _ _ _ c.in_ok-name.ensures c.in-None.is

pub returns-in-Some : goal.returns-in-Some
returns-in-Some c = alias_named _ _ _ c.in_ok-name.ensures _ c.in-Some.is
