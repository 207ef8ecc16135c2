-- `line::group::Counted::of` meets its contract. Assumes nothing.
use Rattle.std.proofs.Common.{sym, ◌∙◌}
use Rattle.words.proofs.GroupLaws.{part_cell}
use Rattle.line.proofs.group.Counted.of.Goals as goal

pub word-requires : goal.word-requires
word-requires c = rw c.in-InWord.is at c.requires

pub returns-in-InWord : goal.returns-in-InWord
returns-in-InWord c = rw c.in-InWord.is (c.word.ensures ∙ sym (part_cell _ _ _ _ (rw c.in-InWord.is at c.requires)))
