-- `words::table::form_code` meets its contract: a digit of its row. Assumes nothing.
use Rattle.words.proofs.DigitLaws.{code_digit}
use Rattle.words.proofs.table.form_code.Goals as goal

pub returns : goal.returns
returns c = code_digit _ c.args.kind _ c.form_row-row.ensures c.requires
