-- `Group::room_below` meets its contract. Assumes nothing.
use borrow.Author.Rules.{rules}
use Rattle.sheet.specs.Steps.{room_entry, room_other}
use Rattle.sheet.proofs.stack.Group.room_below.Goals as goal

pub returns-then-eq : goal.returns-then-eq
returns-then-eq c = room_entry _ _ c.requires (search rules)

pub returns : goal.returns
returns c = room_other _ _ c.requires (search rules)
