-- `put_copied` meets its contract. Assumes nothing.
use Rattle.plan_line.proofs.CopyLaws.{line_in, copied}
use Rattle.plan_line.proofs.copy.put_copied.Goals as goal

pub part-requires : goal.part-requires
part-requires c = line_in _ _ _ c.word-start.ensures c.word-end.ensures c.requires

pub returns : goal.returns
returns c = copied _ _ _ c.word-start.ensures c.word-end.ensures _ (rw c.part.ensures at c.put_part.ensures)
