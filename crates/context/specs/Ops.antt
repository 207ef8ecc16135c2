-- The stored operators, one for each kind, and what stands before one. Assumes nothing: these are definitions.
use Rattle.std.specs.Prelude.{◌≡◌, ℕ, zero, suc, ◌≤◌, ◌<◌, Option, None, Some}
use Rattle.words.specs.Words.{two32}
use Rattle.context.specs.declared.At.{At}
use Rattle.context.specs.declared.op.Op.{Op}

-- the operator that stands before, if there is one, is below n
pub record Under (b : Option ℕ) (n : ℕ) : Type 0 where
  pub op : (k : ℕ) → b ≡ Some k → k < n

-- and from n on
pub record Since (b : Option ℕ) (n : ℕ) : Type 0 where
  pub op : (k : ℕ) → b ≡ Some k → n ≤ k

-- a place's numbers fit into words
pub record Fits (at : At) : Type 0 where
  pub base : at.base < two32
  pub i : at.i < two32
  pub left : at.left < two32

-- ── kinds ──

abbrev pub source_all_kind : ℕ
source_all_kind = 0

abbrev pub source_no_parts_kind : ℕ
source_no_parts_kind = 1

abbrev pub source_kind : ℕ
source_kind = 2

abbrev pub filter_kind : ℕ
filter_kind = 3

abbrev pub expand_kind : ℕ
expand_kind = 4

abbrev pub shortest_path_kind : ℕ
shortest_path_kind = 5

abbrev pub bind_path_kind : ℕ
bind_path_kind = 6

abbrev pub optional_join_kind : ℕ
optional_join_kind = 7

abbrev pub with_kind : ℕ
with_kind = 8

abbrev pub project_kind : ℕ
project_kind = 9

abbrev pub aggregate_kind : ℕ
aggregate_kind = 10

abbrev pub order_by_kind : ℕ
order_by_kind = 11

abbrev pub skip_kind : ℕ
skip_kind = 12

abbrev pub limit_kind : ℕ
limit_kind = 13

abbrev pub distinct_kind : ℕ
distinct_kind = 14

abbrev pub unwind_kind : ℕ
unwind_kind = 15

abbrev pub union_kind : ℕ
union_kind = 16

abbrev pub procedure_call_kind : ℕ
procedure_call_kind = 17

-- ── operators ──

-- an operator over records at a place
abbrev pub op_over : ℕ → At → (input x y : ℕ) → Op
op_over kind at input x y = record { kind = kind; idx = at.i; input = input; x = x; y = y; left = at.left; base = at.base }

-- an operator at a record, which reads nothing below it
abbrev pub op_alone : ℕ → ℕ → (input x y : ℕ) → Op
op_alone kind i input x y = record { kind = kind; idx = i; input = input; x = x; y = y; left = 0; base = 0 }

abbrev pub source_all_op : ℕ → Op
source_all_op bind = op_alone source_all_kind 0 0 bind 0

abbrev pub source_no_parts_op : ℕ → Op
source_no_parts_op bind = op_alone source_no_parts_kind 0 0 bind 0

abbrev pub source_op : At → ℕ → Op
source_op at bind = op_over source_kind at 0 bind 0

abbrev pub filter_op : At → ℕ → Op
filter_op at input = op_over filter_kind at input 0 0

abbrev pub expand_op : At → (input from far : ℕ) → Op
expand_op at input from far = op_over expand_kind at input from far

abbrev pub shortest_path_op : At → (input rel far : ℕ) → Op
shortest_path_op at input rel far = op_over shortest_path_kind at input rel far

abbrev pub bind_path_op : At → (input count bind : ℕ) → Op
bind_path_op at input count bind = op_over bind_path_kind at input count bind

abbrev pub optional_join_op : (i input inner : ℕ) → Op
optional_join_op i input inner = op_alone optional_join_kind i input inner 0

abbrev pub with_op : At → ℕ → Op
with_op at input = op_over with_kind at input 0 0

abbrev pub project_op : At → ℕ → Op
project_op at input = op_over project_kind at input 0 0

abbrev pub aggregate_op : At → (input keys aggregates : ℕ) → Op
aggregate_op at input keys aggregates = op_over aggregate_kind at input keys aggregates

abbrev pub order_by_op : At → (input keys : ℕ) → Op
order_by_op at input keys = op_over order_by_kind at input keys 0

abbrev pub skip_op : At → ℕ → Op
skip_op at input = op_over skip_kind at input 0 0

abbrev pub limit_op : At → ℕ → Op
limit_op at input = op_over limit_kind at input 0 0

abbrev pub distinct_op : ℕ → Op
distinct_op input = op_alone distinct_kind 0 input 0 0

abbrev pub unwind_op : At → (input bind : ℕ) → Op
unwind_op at input bind = op_over unwind_kind at input bind 0

abbrev pub union_op : (i input right all : ℕ) → Op
union_op i input right all = op_alone union_kind i input right all

unfoldable pub procedure_call_op : At → Option ℕ → Op
procedure_call_op at None = op_over procedure_call_kind at 0 0 0
procedure_call_op at (Some input) = op_over procedure_call_kind at input 1 0

-- what stands before a stored call: an operator, unless the word that tells is 0
unfoldable pub input_if : (told input : ℕ) → Option ℕ
input_if zero input = None
input_if (suc n) input = Some input

abbrev pub call_input : Op → Option ℕ
call_input o = input_if o.x o.input
