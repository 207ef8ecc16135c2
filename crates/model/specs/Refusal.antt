-- The refusals, a case for each row of document 01's table with what it carries, and the six values that a call answers with. Assumes nothing: these are definitions.
use Rattle.std.specs.Prelude.{ℕ}
use Rattle.model.specs.Text.{Bytes}
use Rattle.model.specs.Field.{Span}

-- in the order of the table; lines count from 1
pub data Refusal : Type 0 where
  -- a work slice has too few words
  ShortWork : Refusal
  -- the sheet has too many bytes
  LongSheet : Refusal
  -- a line is no record that is due there, or a due one is missing
  BadLine : (line : ℕ) → Refusal
  -- a due record is a line too many, or too deep
  BigTree : (line : ℕ) → Refusal
  -- a clause that writes
  WriteClause : (line : ℕ) → Refusal
  -- a name that was not resolved; the name is carried, and no value tells it
  UnresolvedName : (line : ℕ) (span : Span) (name : Bytes) → Refusal
  -- a form that should be gone
  UndesugaredExpr : (line : ℕ) (span : Span) (kind : ℕ) → Refusal
  -- a part that does not begin with a node
  EmptyPatternPart : (line : ℕ) (span : Span) → Refusal
  -- too many operators, or variable numbers
  PlanFull : Refusal
  -- the plan slice is shorter than the plan
  NoRoom : Refusal

-- ── the six values ──

pub record Answer : Type 0 where
  pub number : ℕ
  pub line : ℕ
  pub start : ℕ
  pub end : ℕ
  pub kind : ℕ
  pub length : ℕ

abbrev pub accepted : ℕ → Answer
accepted n = record { number = 0; line = 0; start = 0; end = 0; kind = 0; length = n }

-- with a number of the table; what a refusal does not carry is 0
abbrev pub plain_refusal : ℕ → Answer
plain_refusal n = record { number = n; line = 0; start = 0; end = 0; kind = 0; length = 0 }

abbrev pub line_refusal : ℕ → ℕ → Answer
line_refusal n l = record { number = n; line = l; start = 0; end = 0; kind = 0; length = 0 }

abbrev pub tree_refusal : ℕ → ℕ → Span → ℕ → Answer
tree_refusal n l s k = record { number = n; line = l; start = s.start; end = s.end; kind = k; length = 0 }

-- the values of a refusal
abbrev pub values_of : Refusal → Answer
values_of Refusal.ShortWork = plain_refusal 1
values_of Refusal.LongSheet = plain_refusal 2
values_of (Refusal.BadLine line) = line_refusal 3 line
values_of (Refusal.BigTree line) = line_refusal 4 line
values_of (Refusal.WriteClause line) = line_refusal 5 line
values_of (Refusal.UnresolvedName line span name) = tree_refusal 6 line span 0
values_of (Refusal.UndesugaredExpr line span kind) = tree_refusal 7 line span kind
values_of (Refusal.EmptyPatternPart line span) = tree_refusal 8 line span 0
values_of Refusal.PlanFull = plain_refusal 9
values_of Refusal.NoRoom = plain_refusal 10
