-- `record::name::text_at` meets its contract. The loop's invariant: the bytes left come to what the whole name comes to. Assumes nothing.
use Rattle.record.proofs.NameLaws.{naming_more, naming_broken, naming_done}
use Rattle.record.proofs.name.text_at.Goals as goal

pub returns-in_err-n : goal.returns-in_err-n
returns-in_err-n c = rw c.from_residual.ensures (naming_broken _ _ _ c.loop-i.invariant _ c.separates.ensures c.loop-i-test.true _ c.char_len.ensures c.in_err-n.was)

pub loop-i-preserved : goal.loop-i-preserved
loop-i-preserved c = naming_more _ _ _ c.loop-i.invariant _ c.separates.ensures c.loop-i-test.true _ c.char_len.ensures _ c.in_ok-n.was

pub returns : goal.returns
returns c = naming_done _ _ _ c.loop-i.invariant _ c.separates.ensures c.loop-i-test.false
