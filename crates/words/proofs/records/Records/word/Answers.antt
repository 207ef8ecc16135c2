-- `word` meets its contract: in the first slice, or in the second. Assumes nothing.
use borrow.Author.Tests.{lt-ltb, le-ltb}
use borrow.Author.Rules.{rules}
use Rattle.words.proofs.records.Records.word.Goals as goal

pub returns-then-i-lt-FIRST_RECORDS : goal.returns-then-i-lt-FIRST_RECORDS
returns-then-i-lt-FIRST_RECORDS c = search (rules, lt-ltb)

pub returns : goal.returns
returns c = search (rules, le-ltb)
