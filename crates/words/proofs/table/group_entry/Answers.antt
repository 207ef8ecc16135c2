-- `words::table::group_entry` meets its contract: a digit of its row. Assumes nothing.
use Rattle.words.proofs.DigitLaws.{group_digit}
use Rattle.words.proofs.table.group_entry.Goals as goal

pub returns : goal.returns
returns c = group_digit _ c.args.kind _ c.group_row-row.ensures c.requires
