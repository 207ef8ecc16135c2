-- `record::name::char_len` meets its contract. Assumes nothing.
use borrow.Author.Rules.{rules}
use Rattle.record.proofs.NameLaws.{char_plain, char_escaped, char_broken}
use Rattle.record.proofs.name.char_len.Goals as goal

pub returns-then-c-ne92 : goal.returns-then-c-ne92
returns-then-c-ne92 c = char_plain _ _ c.if-c-ne92.true

pub returns-then-escaped : goal.returns-then-escaped
returns-then-escaped c = search (char_escaped, rules)

pub returns-else-escaped : goal.returns-else-escaped
returns-else-escaped c = search (char_broken, rules)
