-- `put_times` meets its contract: no text, and then one more each time. Assumes nothing.
use Rattle.gate_cases.proofs.Sheets.{again_none, again_more}
use Rattle.gate_cases.proofs.text.put_times.Goals as goal

pub loop-i-init : goal.loop-i-init
loop-i-init c = again_none _

pub loop-i-preserved : goal.loop-i-preserved
loop-i-preserved c = again_more _ _ c.loop-i.invariant c.put_part.ensures
