-- `first_sheet` meets its contract: the sheet is lines, and an empty line stands behind them. Assumes nothing.
use Rattle.std.proofs.Common.{rules}
use borrow.Author.Tests.{tests}
use Rattle.gate_cases.proofs.Sheets.{first_lines}
use Rattle.gate_cases.proofs.text.first_sheet.Goals as goal

pub returns-clause-parts : goal.returns-clause-parts
returns-clause-parts c = first_lines c.args.file.now c.in_ok-n.n (search rules) (search (rules, tests))
