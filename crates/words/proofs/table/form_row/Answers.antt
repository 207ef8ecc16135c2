-- `words::table::form_row` meets its contract: each kind's row, and that of no kind. Assumes nothing.
use Rattle.std.proofs.lemmas.List.{get_or_past}
use Rattle.words.specs.LastLaws.{at_least}
use Rattle.std.specs.Prelude.{[]}
use Rattle.words.specs.Table.{codes}
use Rattle.words.proofs.table.form_row.Goals as goal

pub returns-in_default : goal.returns-in_default
returns-in_default c = rw (get_or_past codes _ [] (at_least _ 39 c.in_default.in_default-own.rest))
