-- `nothing_refused` meets its contract: what is due from a record on is the whole tree, and the records before it are taken. Assumes nothing.
use Rattle.words.proofs.Counting
use Rattle.precheck.proofs.FlatLaws.{TakenTo}
use Rattle.precheck.proofs.flat.nothing_refused.Given as goal

abbrev pub invariant-loop-i : goal.invariant-loop-i
invariant-loop-i l = Counting.Walking l.r.a.now l.r.b.now 0 l.due l.i × TakenTo l.r.a.now l.r.b.now l.i
