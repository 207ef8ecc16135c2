-- `words::records::skip` meets its contract: what is due from a record on is the whole tree there. Assumes nothing.
use Rattle.words.proofs.Counting
use Rattle.words.specs.Words.{max_records}
use Prim.Native.Nat.{◌-◌}
use Rattle.words.proofs.records.Records.skip.Given as goal

abbrev pub invariant-loop-due : goal.invariant-loop-due
invariant-loop-due l = Counting.Walking l.self.a.now l.self.b.now l.i l.due l.at

abbrev pub decreases-loop-due : goal.decreases-loop-due
decreases-loop-due l = max_records - l.at
