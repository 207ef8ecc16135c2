-- `words::table::groups_of` meets its contract: each kind's row, and that of no kind. Assumes nothing.
use Rattle.std.proofs.lemmas.List.{get_or_past}
use Rattle.words.specs.LastLaws.{at_least}
use Rattle.words.specs.Table.{group_numbers}
use Rattle.words.proofs.table.groups_of.Goals as goal

pub returns-in_default : goal.returns-in_default
returns-in_default c = rw (get_or_past group_numbers _ 0 (at_least _ 39 c.in_default.in_default-own.rest))
