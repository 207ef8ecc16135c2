-- A refusal with its side in a call with two sheets, its six values, and the numbers of the refusals by name. Assumes nothing: these are definitions.
use Rattle.std.specs.Prelude.{ℕ, ◌+◌, ◌*◌}
use Rattle.model.specs.Refusal.{Refusal, Answer, values_of}

-- ── the numbers of the table; 0 is no refusal ──

abbrev pub short_work_number : ℕ
short_work_number = 1

abbrev pub long_sheet_number : ℕ
long_sheet_number = 2

abbrev pub bad_line_number : ℕ
bad_line_number = 3

abbrev pub big_tree_number : ℕ
big_tree_number = 4

abbrev pub write_clause_number : ℕ
write_clause_number = 5

abbrev pub unresolved_name_number : ℕ
unresolved_name_number = 6

abbrev pub undesugared_expr_number : ℕ
undesugared_expr_number = 7

abbrev pub empty_pattern_part_number : ℕ
empty_pattern_part_number = 8

abbrev pub plan_full_number : ℕ
plan_full_number = 9

abbrev pub no_room_number : ℕ
no_room_number = 10

-- ── sides ──

-- the sides of a pair; 0 is the call as a whole
abbrev pub whole_call : ℕ
whole_call = 0

abbrev pub left_side : ℕ
left_side = 1

abbrev pub right_side : ℕ
right_side = 2

-- what a side adds to the kind of a form
abbrev pub side_step : ℕ
side_step = 10

-- a refusal and the side whose sheet it is of
pub record SideRefusal : Type 0 where
  pub side : ℕ
  pub refusal : Refusal

-- the kind of a refusal tells the side too, in its tens where a form has a kind of its own
abbrev pub side_kind : ℕ → Refusal → ℕ
side_kind side Refusal.ShortWork = side
side_kind side Refusal.LongSheet = side
side_kind side (Refusal.BadLine line) = side
side_kind side (Refusal.BigTree line) = side
side_kind side (Refusal.WriteClause line) = side
side_kind side (Refusal.UnresolvedName line span name) = side
side_kind side (Refusal.UndesugaredExpr line span kind) = side_step * side + kind
side_kind side (Refusal.EmptyPatternPart line span) = side
side_kind side Refusal.PlanFull = side
side_kind side Refusal.NoRoom = side

-- the values of a refusal of a side; line and span are of that side's own sheet
abbrev pub side_values : SideRefusal → Answer
side_values r =
    let a = values_of r.refusal in
    record { number = a.number; line = a.line; start = a.start; end = a.end; kind = side_kind r.side r.refusal; length = a.length }
