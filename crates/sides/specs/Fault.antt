-- What is wrong with one of two sheets, as a refusal of the definition with its side. Assumes nothing: these are definitions.
use Rattle.std.specs.Prelude.{ℕ}
use Rattle.model.specs.Text.{Bytes}
use Rattle.model.specs.Side.{SideRefusal, left_side, right_side}
use Rattle.statement.specs.Answer.{fault_of}
use Rattle.sides.specs.declared.Side.{Side}
use Rattle.sides.specs.declared.SideFault.{SideFault}

-- a side's number
abbrev pub side_number : Side → ℕ
side_number Side.Left = left_side
side_number Side.Right = right_side

-- the code does not carry the name, which stands in the record of the line
abbrev pub on_side_of : SideFault → (unresolved : Bytes) → SideRefusal
on_side_of f unresolved = record { side = side_number f.side; refusal = fault_of f.fault unresolved }
