-- `read_sheet` meets its contract. The loop's invariant: the slices are those that were lent, and what is left to read gives the whole answer. Assumes nothing.
use Prim.Native.Nat.{◌-◌}
use Rattle.words.specs.Lent.{SameSlices}
use Rattle.words.specs.Words.{max_records}
use Rattle.sheet.specs.Dues.{dues}
use Rattle.sheet.specs.Reader.{SoFar}
use Rattle.sheet.proofs.reader.read_sheet.Given as goal

abbrev pub invariant-loop-due : goal.invariant-loop-due
invariant-loop-due l = SameSlices l.initial.words l.words × SoFar l.depth l.sheet l.words.a.now l.words.b.now (dues l.due.words.now l.due.groups) l.at.records l.at.pos l.at.write

abbrev pub decreases-loop-due : goal.decreases-loop-due
decreases-loop-due l = max_records - l.at.records
