-- `line::group::count_place` meets its contract. Assumes nothing.
use Rattle.words.proofs.GroupLaws.{entries_low}
use Rattle.line.proofs.CountLaws.{count_word}
use Rattle.line.proofs.group.count_place.Goals as goal

pub returns : goal.returns
returns c = count_word _ _ _ c.group_entry-source.ensures c.if-source-lt-FIXED_SOURCES.false (rw c.group_entry-source.ensures (entries_low c.args.kind c.args.g c.requires).1)
