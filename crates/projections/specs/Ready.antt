-- The room that there is where a clause may begin. It counts from the statement's first record, so that a statement may be lowered behind another one's operators and numbers, with no variables of its own yet. Assumes nothing: these are definitions.
use Rattle.std.specs.Prelude.{ℕ, ◌+◌, ◌*◌, ◌≤◌, length}
use Rattle.model.specs.Call.{work_words, record_operators, record_numbers}
use Rattle.words.specs.Words.{max_records}
use Rattle.lower.specs.Rep.{Mem, Indexes}

-- before a statement there are at most so many operators, and so many numbers: what another statement of the most records leaves
abbrev pub max_start : ℕ
max_start = record_operators * max_records

-- so many operators a clause may find at most, and so many there are behind one pass over its records
abbrev pub max_found : ℕ
max_found = max_start + record_operators * max_records

abbrev pub max_passed : ℕ
max_passed = max_found + record_operators * max_records

-- there is room at record i, where a clause may begin; each record before it but the statement's may have met a variable in each of two passes
pub record Ready (i : ℕ) (m : Mem) : Type 0 where
  pub few : m.ctx.ops ≤ max_start + record_operators * i
  pub low : m.ctx.numbers ≤ max_start + record_numbers * i
  pub met : m.ctx.mapped + record_numbers ≤ record_numbers * i
  pub here : i ≤ max_records
  -- beside what Tables says, as in lower/specs/Rep.RoomFor, and for the same reason
  pub in_ops : work_words ≤ length m.ops
  pub in_rest : work_words ≤ length m.rest
  pub index : Indexes m
