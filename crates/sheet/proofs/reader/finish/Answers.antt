-- `finish` meets its contract: a line too many, a write, or all records. Assumes nothing.
use Rattle.sheet.specs.Reader.{ends_bad, ends_read, ends_write}
use Rattle.sheet.proofs.reader.finish.Goals as goal

pub returns-then-at-sheet : goal.returns-then-at-sheet
returns-then-at-sheet c = ends_bad c.if-at-sheet.true c.line.ensures

pub returns-in-Some : goal.returns-in-Some
returns-in-Some c = ends_write c.if-at-sheet.false c.in-Some.is

pub returns-in-None : goal.returns-in-None
returns-in-None c = ends_read c.if-at-sheet.false c.in-None.is
