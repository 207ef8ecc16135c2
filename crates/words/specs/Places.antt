-- The kinds of records and the places of their fields among a record's words, under the names that the code has for them (src/kind.rt, src/field.rt), and the numbers that sorts and forms have in the record table. Assumes nothing: these are definitions.
use Rattle.std.specs.Prelude.{ℕ}

-- ── kinds ──

abbrev pub stmt_kind : ℕ
stmt_kind = 0

abbrev pub arm_kind : ℕ
arm_kind = 1

abbrev pub match_kind : ℕ
match_kind = 2

abbrev pub where_kind : ℕ
where_kind = 3

abbrev pub with_kind : ℕ
with_kind = 4

abbrev pub return_kind : ℕ
return_kind = 5

abbrev pub unwind_kind : ℕ
unwind_kind = 6

abbrev pub call_kind : ℕ
call_kind = 7

abbrev pub write_kind : ℕ
write_kind = 8

abbrev pub item_kind : ℕ
item_kind = 9

abbrev pub key_kind : ℕ
key_kind = 10

abbrev pub part_kind : ℕ
part_kind = 11

abbrev pub node_kind : ℕ
node_kind = 12

abbrev pub rel_kind : ℕ
rel_kind = 13

abbrev pub name_kind : ℕ
name_kind = 14

abbrev pub yield_kind : ℕ
yield_kind = 15

abbrev pub entry_kind : ℕ
entry_kind = 16

abbrev pub null_kind : ℕ
null_kind = 17

abbrev pub bool_kind : ℕ
bool_kind = 18

abbrev pub int_kind : ℕ
int_kind = 19

abbrev pub float_kind : ℕ
float_kind = 20

abbrev pub str_kind : ℕ
str_kind = 21

abbrev pub param_kind : ℕ
param_kind = 22

abbrev pub prop_kind : ℕ
prop_kind = 23

abbrev pub index_kind : ℕ
index_kind = 24

abbrev pub slice_kind : ℕ
slice_kind = 25

abbrev pub list_kind : ℕ
list_kind = 26

abbrev pub bin_kind : ℕ
bin_kind = 27

abbrev pub un_kind : ℕ
un_kind = 28

abbrev pub case_kind : ℕ
case_kind = 29

abbrev pub is_null_kind : ℕ
is_null_kind = 30

abbrev pub in_kind : ℕ
in_kind = 31

abbrev pub var_kind : ℕ
var_kind = 32

abbrev pub map_kind : ℕ
map_kind = 33

abbrev pub fn_kind : ℕ
fn_kind = 34

abbrev pub pat_kind : ℕ
pat_kind = 35

abbrev pub list_predicate_kind : ℕ
list_predicate_kind = 36

abbrev pub unres_kind : ℕ
unres_kind = 37

abbrev pub undes_kind : ℕ
undes_kind = 38

-- so many
abbrev pub kind_count : ℕ
kind_count = 39

-- ── sorts ──

abbrev pub statement_sort : ℕ
statement_sort = 0

abbrev pub union_arm_sort : ℕ
union_arm_sort = 1

abbrev pub clause_sort : ℕ
clause_sort = 2

abbrev pub projection_sort : ℕ
projection_sort = 3

abbrev pub order_item_sort : ℕ
order_item_sort = 4

abbrev pub pattern_part_sort : ℕ
pattern_part_sort = 5

abbrev pub pattern_element_sort : ℕ
pattern_element_sort = 6

abbrev pub name_sort : ℕ
name_sort = 7

abbrev pub yield_item_sort : ℕ
yield_item_sort = 8

abbrev pub entry_sort : ℕ
entry_sort = 9

abbrev pub expr_sort : ℕ
expr_sort = 10

-- so many
abbrev pub sort_count : ℕ
sort_count = 11

-- ── forms ──

-- code 0 stands behind the last field of a record
abbrev pub none_form : ℕ
none_form = 0

abbrev pub flag_form : ℕ
flag_form = 1

abbrev pub var_form : ℕ
var_form = 2

abbrev pub var_or_absent_form : ℕ
var_or_absent_form = 3

abbrev pub int_form : ℕ
int_form = 4

abbrev pub float_form : ℕ
float_form = 5

abbrev pub text_form : ℕ
text_form = 6

abbrev pub alias_form : ℕ
alias_form = 7

abbrev pub span_form : ℕ
span_form = 8

abbrev pub length_form : ℕ
length_form = 9

-- a number; so is each code above it, with a smaller limit
abbrev pub number_form : ℕ
number_form = 10

-- so many
abbrev pub form_count : ℕ
form_count = 15

-- ── places ──

-- of every record
abbrev pub kind_at : ℕ
kind_at = 0

-- where its line begins in the sheet and where it ends, behind its line feed
abbrev pub line_start_at : ℕ
line_start_at = 1

abbrev pub children_at : ℕ
children_at = 14

abbrev pub line_end_at : ℕ
line_end_at = 15

-- of the statement and of an arm
abbrev pub stmt_clauses_at : ℕ
stmt_clauses_at = 2

abbrev pub stmt_arms_at : ℕ
stmt_arms_at = 4

abbrev pub arm_all_at : ℕ
arm_all_at = 2

abbrev pub arm_clauses_at : ℕ
arm_clauses_at = 4

-- of clauses
abbrev pub match_optional_at : ℕ
match_optional_at = 2

abbrev pub match_parts_at : ℕ
match_parts_at = 4

abbrev pub match_span_at : ℕ
match_span_at = 6

abbrev pub where_span_at : ℕ
where_span_at = 2

abbrev pub write_span_at : ℕ
write_span_at = 2

abbrev pub unwind_var_at : ℕ
unwind_var_at = 2

abbrev pub unwind_span_at : ℕ
unwind_span_at = 4

abbrev pub call_name_at : ℕ
call_name_at = 2

abbrev pub call_args_at : ℕ
call_args_at = 4

abbrev pub call_yields_at : ℕ
call_yields_at = 6

abbrev pub call_optional_at : ℕ
call_optional_at = 8

abbrev pub call_span_at : ℕ
call_span_at = 10

-- of a `with` and a `return` alike; the flag is the one's filter and the other's distinct
abbrev pub items_at : ℕ
items_at = 2

abbrev pub with_filter_at : ℕ
with_filter_at = 4

abbrev pub return_distinct_at : ℕ
return_distinct_at = 4

abbrev pub keys_at : ℕ
keys_at = 6

abbrev pub skip_at : ℕ
skip_at = 8

abbrev pub limit_at : ℕ
limit_at = 10

abbrev pub projection_span_at : ℕ
projection_span_at = 12

-- of what stands below clauses
abbrev pub item_alias_at : ℕ
item_alias_at = 2

abbrev pub yield_name_at : ℕ
yield_name_at = 2

abbrev pub yield_var_at : ℕ
yield_var_at = 4

-- of a part and its elements
abbrev pub part_named_at : ℕ
part_named_at = 2

abbrev pub part_var_at : ℕ
part_var_at = 3

abbrev pub part_shortest_at : ℕ
part_shortest_at = 4

abbrev pub part_elements_at : ℕ
part_elements_at = 6

abbrev pub node_labels_at : ℕ
node_labels_at = 4

abbrev pub node_props_at : ℕ
node_props_at = 6

abbrev pub node_span_at : ℕ
node_span_at = 8

abbrev pub rel_types_at : ℕ
rel_types_at = 4

abbrev pub rel_direction_at : ℕ
rel_direction_at = 6

abbrev pub rel_length_at : ℕ
rel_length_at = 8

abbrev pub rel_props_at : ℕ
rel_props_at = 10

abbrev pub rel_span_at : ℕ
rel_span_at = 12

-- of a node and a rel alike: whether it has a variable, and which
abbrev pub element_named_at : ℕ
element_named_at = 2

abbrev pub element_var_at : ℕ
element_var_at = 3

-- of expressions
abbrev pub name_at : ℕ
name_at = 2

-- an int's number has two words
abbrev pub int_low_at : ℕ
int_low_at = 2

abbrev pub int_high_at : ℕ
int_high_at = 3

abbrev pub var_id_at : ℕ
var_id_at = 2

abbrev pub fn_args_at : ℕ
fn_args_at = 4

abbrev pub fn_distinct_at : ℕ
fn_distinct_at = 6

abbrev pub list_predicate_kind_at : ℕ
list_predicate_kind_at = 2

abbrev pub list_predicate_var_at : ℕ
list_predicate_var_at = 4

abbrev pub list_predicate_pred_at : ℕ
list_predicate_pred_at = 6

abbrev pub undes_kind_at : ℕ
undes_kind_at = 2
