-- `line::read::read_fields` meets its contract. The loop's invariant: for the line's end, whatever it is, what the fields that are left come to is what all of them come to. Assumes nothing.
use Prim.Native.Nat.{ℕ}
use Rattle.record.specs.Place.{LineEnd}
use Rattle.line.proofs.FillLaws.{Filling}
use Rattle.line.proofs.read.read_fields.Given as goal

abbrev pub invariant-loop-g : goal.invariant-loop-g
invariant-loop-g l = (e : ℕ) → LineEnd l.p.cursor.bytes.now l.p.cursor.at e → Filling l.kind l.p.cursor.bytes.now l.p.cursor.at e l.initial.part l.part l.at l.g
