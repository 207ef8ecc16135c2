-- The searches that document 01 works through, M1 to M10: sheets as bytes, and the plan sheet or the refusal that the document names; behind them a refusal for each sentence on forms that a number or a name could get past. The expected side is typed from the document.
use Rattle.std.specs.Prelude.{◌≡◌, refl, List, [], ◌∷◌, ◌++◌, map, length, replicate, drop}
use Prim.Native.String.{String}
use Rattle.model.specs.Text
use Rattle.model.specs.Field
use Rattle.model.specs.Record
use Rattle.model.specs.Tree
use Rattle.model.specs.Sheet
use Rattle.model.specs.Check
use Rattle.model.specs.Lower
use Rattle.model.specs.Plan
use Rattle.model.specs.Call
use Rattle.model.specs.Text.{Bytes, bytes}
use Rattle.model.specs.Refusal.{Refusal, Answer, line_refusal, tree_refusal, accepted}
use Rattle.model.specs.Call.{Outcome, refuse, planned, lower_call, work_words, max_depth}

-- the lowering call with four work slices that are long enough, opened down to what computes
unfoldable pub compute : Bytes → Bytes → Outcome
unfolding Text.bytes_from Text.bytes Text.same_by Text.same Text.split Text.behind Text.join Text.digits Text.decimal Text.value_on Text.value
    Text.signed Text.negative Text.signed_value Text.hex_digit Text.hex_digits Text.hex_digit_value Text.hex_value_on Text.hex_value Text.escape_byte
    Text.escape Text.unescape_byte Text.meant Text.unescape_on Text.unescape Field.width Field.spell_flag Field.spell_option Field.spell_alias
    Field.spell_length Field.spell Field.fits_option Field.fits_int Field.fits_length Field.fits Field.option_value Field.alias_value
    Field.length_value Field.piece Field.meaning Field.read Field.spell_fields Field.both Field.read_fields Record.same_keyword
    Record.expr_keyword Record.clause_keyword Record.element_keyword Record.op_keyword Record.plan_expr_keyword Record.plan_keyword Record.keyword
    Record.sames Record.plan_kinds Record.kinds Record.spell_rec Record.spell_recs Record.kind_named Record.with_fields Record.read_as
    Record.read_rec Tree.to_list Tree.records Tree.fold Sheet.then_read Sheet.formed Sheet.line_at Sheet.read_line Sheet.read_many Sheet.read_groups
    Sheet.read_node Sheet.read_tree Sheet.at_end Sheet.read_sheet Sheet.or_else Sheet.is_write Sheet.write_in Sheet.write_in_arms Sheet.first_write
    Check.and_then Check.of_expr Check.of_elements Check.of_part Check.of_record Check.no_span Check.precheck_statement Check.check Lower.◌>>=◌
    Lower.ret Lower.push Lower.at Lower.copy Lower.lookup Lower.issue Lower.numbered Lower.map_var Lower.fresh Lower.upcoming
    Lower.endpoint_var Lower.in_order Lower.source Lower.filter Lower.push_source_all Lower.or_source_all Lower.has Lower.lower_props
    Lower.lower_rel_element Lower.node_recs Lower.filter_by_props Lower.start_node Lower.expand_to Lower.reach Lower.lower_element
    Lower.lower_elements Lower.root_of Lower.path_elements Lower.bind_path Lower.lower_chain Lower.lower_shortest_path_part Lower.shape_of
    Lower.lower_shaped Lower.lower_pattern_part Lower.further_part Lower.lower_further Lower.lower_parts Lower.optional_join Lower.lower_match_pattern
    Lower.props_of Lower.over Lower.expr_step Lower.element_step Lower.made Lower.lower_expr Lower.lower_exprs Lower.lower_pattern Lower.same_alias
    Lower.synthesise_alias Lower.alias_or Lower.item Lower.lower_projections Lower.lowercase Lower.aggregates Lower.among Lower.is_aggregate_func
    Lower.no_split Lower.with_key Lower.with_agg Lower.lower_key Lower.lower_call_item Lower.lower_item Lower.split_projections_agg Lower.lower_keys
    Lower.order_by Lower.over_expr Lower.lower_trailers Lower.lower_yields Lower.distinct_if Lower.aggregate_if Lower.lower_clause
    Lower.lower_clauses Lower.lower_arms Lower.lower Lower.empty Lower.lower_statement Plan.operator_recs Plan.mapped_recs Plan.first_rec
    Plan.plan_recs Plan.plan_sheet Call.then Call.short Call.test_work Call.test_bytes Call.test_reading Call.test_write Call.test_check
    Call.test_plan Call.checked Call.planned Call.written Call.outcome Call.lower_call Call.record_count
compute sheet slice = lower_call (replicate 4 work_words) sheet slice

-- a sheet, and what the call gives
pub data Row : Type 0 where
  plans : (sheet plan : String) → Row
  refuses : (sheet : String) → Answer → Row

-- the plan slice before each call
unfoldable pub page : Bytes
page = replicate 150 255

unfoldable pub asked : Row → Outcome
unfolding compute page
asked (plans sheet plan) = compute (bytes sheet) page
asked (refuses sheet a) = compute (bytes sheet) page

unfoldable pub expected : Row → Outcome
unfolding bytes page
expected (plans sheet plan) = record { answer = accepted (length (bytes plan)); slice = bytes plan ++ drop (length (bytes plan)) page }
expected (refuses sheet a) = record { answer = a; slice = page }

unfoldable pub table : List Row
table =
    -- M1, MATCH (a:Book) RETURN a.title
    plans "stmt\t2\t0\nmatch\t0\t1\t0\t14\npart\t-\t0\t1\nnode\t7\t1\t0\t6\t14\nname\tBook\nreturn\t1\t0\t0\t0\t0\t15\t29\nitem\t-\nprop\ttitle\nvar\t7\n" "plan\t2\t1\nsource\t0\t1\nname\tBook\nproject\t0\t1\nitem\ttitle\nprop\ttitle\nvar\t0\nv\t0\t7\n"
    -- M2, no bytes
    ∷ refuses "" (line_refusal 3 1)
    -- M3
    ∷ plans "stmt\t0\t0\n" "plan\t0\t0\n"
    -- M4, (a)-[r]->(b): the far node is numbered before the rel
    ∷ plans "stmt\t1\t0\nmatch\t0\t1\t0\t15\npart\t-\t0\t3\nnode\t4\t0\t0\t6\t9\nrel\t5\t0\t0\tone\t-\t-\t0\t9\t12\nnode\t6\t0\t0\t12\t15\n" "plan\t2\t3\nsource\t0\t0\nexpand\t0\t0\t2\t1\nrel\t0\t0\tone\t-\t-\t0\nto\t0\t0\nv\t0\t4\nv\t1\t6\nv\t2\t5\n"
    -- M5, a return of a pattern of one unnamed node: the first lowering counts, and a source of everything takes no number
    ∷ plans "stmt\t1\t0\nreturn\t1\t0\t0\t0\t0\t0\t10\nitem\t-\npat\t1\npart\t-\t0\t1\nnode\t-\t0\t0\t7\t9\n" "plan\t4\t0\nsource\t0\t0\nsource\t0\t0\nsource\t1\t0\nproject\t0\t1\nitem\t_\nexists\nsource\t1\t0\n"
    -- M6, shortest p=(a)-[r]->(b)
    ∷ plans "stmt\t1\t0\nmatch\t0\t1\t0\t30\npart\t9\t1\t3\nnode\t4\t0\t0\t6\t9\nrel\t5\t0\t0\tone\t-\t-\t0\t9\t12\nnode\t6\t0\t0\t12\t15\n" "plan\t2\t4\nsource\t0\t0\nshort\t0\t0\t2\t3\t0\nrel\t0\t0\tone\t-\t-\t0\nv\t0\t4\nv\t1\t5\nv\t2\t6\nv\t3\t9\n"
    -- M7, the pattern of M5 in a leading `where`
    ∷ plans "stmt\t1\t0\nwhere\t0\t10\npat\t1\npart\t-\t0\t1\nnode\t-\t0\t0\t7\t9\n" "plan\t3\t0\nsource\t0\t0\nsource\t1\t0\nfilter\t1\nexists\nsource\t0\t0\n"
    -- M8, the least int
    ∷ plans "stmt\t1\t0\nwhere\t0\t1\nint\t-9223372036854775808\n" "plan\t2\t0\nsource\t0\t0\nfilter\t0\nint\t-9223372036854775808\n"
    -- M8, one above the largest
    ∷ refuses "stmt\t1\t0\nwhere\t0\t1\nint\t9223372036854775808\n" (line_refusal 3 3)
    -- M9, the first met is reported
    ∷ refuses "stmt\t1\t0\nwhere\t3\t8\nlist\t2\nunres\tx\nundes\t0\n" (tree_refusal 6 4 (record { start = 3; end = 8 }) 0)
    -- M9, swapped
    ∷ refuses "stmt\t1\t0\nwhere\t3\t8\nlist\t2\nundes\t0\nunres\tx\n" (tree_refusal 7 4 (record { start = 3; end = 8 }) 0)
    -- M10, an empty head and one empty arm
    ∷ plans "stmt\t0\t1\narm\t0\t0\n" "plan\t3\t0\nsource\t0\t0\nsource\t0\t0\nunion\t0\t1\t0\n"
    -- no `-0`
    ∷ refuses "stmt\t1\t0\nwhere\t0\t1\nint\t-0\n" (line_refusal 3 3)
    -- no spare zero
    ∷ refuses "stmt\t1\t0\nwhere\t0\t1\nint\t07\n" (line_refusal 3 3)
    -- a span does not end before it starts
    ∷ refuses "stmt\t1\t0\nwhere\t4\t3\nnull\n" (line_refusal 3 2)
    -- ids, counts and spans have 32 bits
    ∷ refuses "stmt\t1\t0\nwhere\t0\t4294967296\nnull\n" (line_refusal 3 2)
    -- no other escape is read
    ∷ refuses "stmt\t1\t0\nwhere\t0\t1\nstr\ta\\r\n" (line_refusal 3 3)
    -- `one` has no bounds
    ∷ refuses "stmt\t1\t0\nmatch\t0\t1\t0\t9\npart\t-\t0\t1\nrel\t-\t0\t0\tone\t1\t-\t0\t0\t9\n" (line_refusal 3 4)
    -- a due record without its line feed
    ∷ refuses "stmt\t0\t0" (line_refusal 3 1)
    -- a line with nothing due
    ∷ refuses "stmt\t0\t0\nstmt\t0\t0\n" (line_refusal 3 2)
    -- a record that is missing
    ∷ refuses "stmt\t1\t0\n" (line_refusal 3 2)
    -- the first write, after all lines are read
    ∷ refuses "stmt\t3\t0\nwhere\t0\t1\nunres\tx\nwrite\t5\t6\nwrite\t7\t8\n" (line_refusal 5 4)
    -- a bad line behind a write
    ∷ refuses "stmt\t2\t0\nwrite\t5\t6\nwhere\t0\t1\nnil\n" (line_refusal 3 4)
    -- a part that begins with a rel, inside a node's props, under that node's span
    ∷ refuses "stmt\t1\t0\nmatch\t0\t1\t0\t9\npart\t-\t0\t1\nnode\t-\t0\t1\t2\t3\npat\t1\npart\t-\t0\t1\nrel\t-\t0\t0\tone\t-\t-\t0\t4\t5\n" (tree_refusal 8 6 (record { start = 2; end = 3 }) 0)
    ∷ []

-- what M9 is refused with has the name too, its escape read
pub named : planned max_depth (replicate 4 work_words) (bytes "stmt\t1\t0\nwhere\t3\t8\nlist\t2\nunres\tx\\ty\nundes\t0\n") ≡ refuse (Refusal.UnresolvedName 4 (record { start = 3; end = 8 }) (bytes "x\ty"))
unfolding compute
named = refl

pub worked : map (λ r. asked r) table ≡ map (λ r. expected r) table
unfolding asked expected table
worked = refl
