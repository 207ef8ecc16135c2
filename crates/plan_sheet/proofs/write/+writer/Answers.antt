-- The writers of expressions, elements and operators, which call each other, meet their contracts. Assumes nothing.
use Rattle.plan_sheet.proofs.DueLaws
use Rattle.plan_sheet.proofs.DueLaws.{due_yet}
use Rattle.std.proofs.Math.Nat.{sub-zero, sub-add-eq}
use Rattle.plan_sheet.proofs.CycleLaws
use Rattle.plan_sheet.proofs.MeasureLaws
use Rattle.plan_sheet.proofs.FlatLaws
use Rattle.plan_sheet.proofs.PartedLaws
use Rattle.plan_sheet.proofs.BehindLaws
use Rattle.plan_sheet.proofs.OpLaws
use mathlib.Core.Path.{refl, sym, ◌∙◌}
use native.Mathlib.Omega.{arith}
use Rattle.std.proofs.lemmas.Bool.Decides.{nat_tests}
use Rattle.plan_sheet.proofs.HeadLaws.{others, line_low}
use Rattle.plan_sheet.proofs.write.+writer.Goals as goal

-- ── measure_exprs ──

pub measure_exprs-loop-due-init : goal.measure_exprs-loop-due-init
measure_exprs-loop-due-init t c = DueLaws.going c.requires.exprs_asked.due

pub measure_exprs-invariant_of-line : goal.measure_exprs-invariant_of-line
measure_exprs-invariant_of-line t c = record { stands = line_low (DueLaws.some_line c.loop-due-test.true c.loop-due.invariant.some).line }

pub measure_exprs-measure_before-at-requires : goal.measure_exprs-measure_before-at-requires
measure_exprs-measure_before-at-requires t c =
    record {
      bytes_len = c.loop-due.invariant.long ∙ c.requires.bytes_len;
      some_line = DueLaws.some_line c.loop-due-test.true c.loop-due.invariant.some;
    }

pub measure_exprs-invariant_of-r : goal.measure_exprs-invariant_of-r
measure_exprs-invariant_of-r t c = record { stands = CycleLaws.one_low (DueLaws.one_there c.loop-due-test.true c.loop-due.invariant.some c.measure_before-at.ensures) }

pub measure_exprs-note_of-n-requires : goal.measure_exprs-note_of-n-requires
measure_exprs-note_of-n-requires t c =
    let one = DueLaws.one_there c.loop-due-test.true c.loop-due.invariant.some c.measure_before-at.ensures in
    (omega (arith, c.requires.exprs_asked.near.near), omega (arith, CycleLaws.one_low one), c.args.s.now.room.in_rest)

pub measure_exprs-expr_bytes-requires : goal.measure_exprs-expr_bytes-requires
measure_exprs-expr_bytes-requires t c =
    let one = DueLaws.one_there c.loop-due-test.true c.loop-due.invariant.some c.measure_before-at.ensures in
    (_, CycleLaws.one_at one)

pub measure_exprs-measure-requires : goal.measure_exprs-measure-requires
measure_exprs-measure-requires t c = DueLaws.line_long c.loop-due-test.true c.loop-due.invariant.some c.measure_before-at.ensures ∙ c.loop-due.invariant.long ∙ c.requires.bytes_len

pub measure_exprs-write_op-requires : goal.measure_exprs-write_op-requires
measure_exprs-write_op-requires t c =
    let one = DueLaws.one_there c.loop-due-test.true c.loop-due.invariant.some c.measure_before-at.ensures in
    let e = sym c.kind-kind.ensures ∙ c.if-kind-eq-PAT.true in (
      omega (arith, CycleLaws.copy_low c.args.s.now.records.roomy e c.note_of-n.ensures one, c.decreases),
      CycleLaws.copy_plan c.args.s.now.records.roomy e c.note_of-n.ensures one,
    )

pub measure_exprs-skip-i-requires : goal.measure_exprs-skip-i-requires
measure_exprs-skip-i-requires t c =
    let one = DueLaws.one_there c.loop-due-test.true c.loop-due.invariant.some c.measure_before-at.ensures in
    CycleLaws.starts one

pub measure_exprs-loop-due-smaller-then-kind-eq-PAT : goal.measure_exprs-loop-due-smaller-then-kind-eq-PAT
measure_exprs-loop-due-smaller-then-kind-eq-PAT t c =
    let one = DueLaws.one_there c.loop-due-test.true c.loop-due.invariant.some c.measure_before-at.ensures in
    let few = FlatLaws.list_few c.loop-due.invariant.some.list c.loop-due-test.true in
    let on_line = FlatLaws.behind_later c.loop-due-test.true c.loop-due.invariant.some c.measure_before-at.ensures in
    let later = FlatLaws.ends_later one c.skip-i.ensures in
    omega (arith, few, on_line, later)

pub measure_exprs-loop-due-preserved-then-kind-eq-PAT : goal.measure_exprs-loop-due-preserved-then-kind-eq-PAT
measure_exprs-loop-due-preserved-then-kind-eq-PAT t c =
    let e = sym c.kind-kind.ensures ∙ c.if-kind-eq-PAT.true in
    DueLaws.again
    c.loop-due-test.true
    c.loop-due.invariant
    (DueLaws.lined
    c.measure_before-at.ensures
    (λ h.
    CycleLaws.copy_wrote
    c.args.s.now.records.roomy
    e
    c.note_of-n.ensures
    h
    (MeasureLaws.counted_head c.expr_bytes.ensures c.measure.ensures)
    c.write_op.ensures
    c.skip-i.ensures))

pub measure_exprs-overflow_add-due : goal.measure_exprs-overflow_add-due
measure_exprs-overflow_add-due t c =
    let few = FlatLaws.list_few c.loop-due.invariant.some.list c.loop-due-test.true in
    omega (arith, few, c.children-below.ensures.1)

pub measure_exprs-overflow_add-i : goal.measure_exprs-overflow_add-i
measure_exprs-overflow_add-i t c =
    let one = DueLaws.one_there c.loop-due-test.true c.loop-due.invariant.some c.measure_before-at.ensures in
    omega (arith, CycleLaws.one_low one)

pub measure_exprs-loop-due-smaller : goal.measure_exprs-loop-due-smaller
measure_exprs-loop-due-smaller t c =
    let few = FlatLaws.list_few c.loop-due.invariant.some.list c.loop-due-test.true in
    let on_line = FlatLaws.behind_later c.loop-due-test.true c.loop-due.invariant.some c.measure_before-at.ensures in
    omega (arith, few, on_line)

pub measure_exprs-loop-due-preserved : goal.measure_exprs-loop-due-preserved
measure_exprs-loop-due-preserved t c =
    FlatLaws.again_below
    c.args.s.now.records.roomy
    c.loop-due-test.true
    c.measure_before-at.ensures
    c.children-below.ensures.0
    (λ e. c.if-kind-eq-PAT.false (c.kind-kind.ensures ∙ e))
    c.note_of-n.ensures
    (MeasureLaws.counted_head c.expr_bytes.ensures c.measure.ensures)
    c.loop-due.invariant

pub measure_exprs-returns : goal.measure_exprs-returns
measure_exprs-returns t c = DueLaws.done c.loop-due-test.false c.loop-due.invariant

-- ── put_exprs ──

pub put_exprs-returns-then-run-eq0 : goal.put_exprs-returns-then-run-eq0
put_exprs-returns-then-run-eq0 t c = DueLaws.none_wrote c.if-run-eq0.true

-- ── write_element ──

pub write_element-invariant_of-r : goal.write_element-invariant_of-r
write_element-invariant_of-r t c = record { stands = (CycleLaws.element_is c.args.s.now.records.roomy c.requires.due).at.at.low }

pub write_element-put_element-requires : goal.write_element-put_element-requires
write_element-put_element-requires t c = (CycleLaws.element_is c.args.s.now.records.roomy c.requires.due).at

pub write_element-overflow_add-at : goal.write_element-overflow_add-at
write_element-overflow_add-at t c = omega (arith, (CycleLaws.element_is c.args.s.now.records.roomy c.requires.due).at.at.low)

pub write_element-put_names-first-requires : goal.write_element-put_names-first-requires
write_element-put_names-first-requires t c =
    CycleLaws.element_names c.args.s.now.records.roomy c.requires.due c.below-below.ensures.names

pub write_element-overflow_sub-left : goal.write_element-overflow_sub-left
write_element-overflow_sub-left t c = omega (arith, (CycleLaws.element_is c.args.s.now.records.roomy c.requires.due).deep)

pub write_element-put_exprs-requires : goal.write_element-put_exprs-requires
write_element-put_exprs-requires t c = (
  omega (arith, (CycleLaws.element_is c.args.s.now.records.roomy c.requires.due).deep, c.decreases),
  record {
    near = CycleLaws.nearer c.requires.near;
    due = CycleLaws.element_props
        c.args.s.now.records.roomy
        c.requires.due
        refl
        c.below-below.ensures.names
        c.below-below.ensures.props
        c.put_names-first.ensures;
  },
)

pub write_element-returns : goal.write_element-returns
write_element-returns t c =
    λ h.
    CycleLaws.element_wrote
    c.args.s.now.records.roomy
    h
    refl
    c.below-below.ensures.names
    c.below-below.ensures.props
    c.put_names-first.ensures
    c.put_element.ensures
    c.put_exprs.ensures

-- ── write_expr ──

pub write_expr-invariant_of-line : goal.write_expr-invariant_of-line
write_expr-invariant_of-line t c = record { stands = line_low (DueLaws.first_line c.requires.due).line }

pub write_expr-put_before-i-requires : goal.write_expr-put_before-i-requires
write_expr-put_before-i-requires t c =
    DueLaws.first_line c.requires.due

pub write_expr-invariant_of-r : goal.write_expr-invariant_of-r
write_expr-invariant_of-r t c = record { stands = CycleLaws.one_low (DueLaws.first_there c.requires.due c.put_before-i.ensures) }

pub write_expr-note_of-n-requires : goal.write_expr-note_of-n-requires
write_expr-note_of-n-requires t c =
    let one = DueLaws.first_there c.requires.due c.put_before-i.ensures in
    (omega (arith, c.requires.near.near), omega (arith, CycleLaws.one_low one), c.args.s.now.room.in_rest)

pub write_expr-put_expr-requires : goal.write_expr-put_expr-requires
write_expr-put_expr-requires t c =
    let one = DueLaws.first_there c.requires.due c.put_before-i.ensures in
    CycleLaws.one_at one

pub write_expr-overflow_add-result : goal.write_expr-overflow_add-result
write_expr-overflow_add-result t c =
    let one = DueLaws.first_there c.requires.due c.put_before-i.ensures in
    omega (arith, CycleLaws.one_low one)

pub write_expr-returns-then-is_leaf : goal.write_expr-returns-then-is_leaf
write_expr-returns-then-is_leaf t c =
    DueLaws.lined
    c.put_before-i.ensures
    (CycleLaws.leaf_wrote c.args.s.now.records.roomy c.kind-kind.ensures (sym c.is_leaf.ensures ∙ c.if-is_leaf.true) c.note_of-n.ensures c.put_expr.ensures)

pub write_expr-write_op-requires : goal.write_expr-write_op-requires
write_expr-write_op-requires t c =
    let one = DueLaws.first_there c.requires.due c.put_before-i.ensures in
    let e = sym c.kind-kind.ensures ∙ c.if-kind-eq-PAT.true in (
      omega (arith, CycleLaws.copy_low c.args.s.now.records.roomy e c.note_of-n.ensures one, c.decreases),
      CycleLaws.copy_plan c.args.s.now.records.roomy e c.note_of-n.ensures one,
    )

pub write_expr-skip-behind-requires : goal.write_expr-skip-behind-requires
write_expr-skip-behind-requires t c =
    let one = DueLaws.first_there c.requires.due c.put_before-i.ensures in
    CycleLaws.starts one

pub write_expr-returns-then-kind-eq-PAT : goal.write_expr-returns-then-kind-eq-PAT
write_expr-returns-then-kind-eq-PAT t c =
    let e = sym c.kind-kind.ensures ∙ c.if-kind-eq-PAT.true in
    DueLaws.lined
    c.put_before-i.ensures
    (λ h. CycleLaws.copy_wrote c.args.s.now.records.roomy e c.note_of-n.ensures h c.put_expr.ensures c.write_op.ensures c.skip-behind.ensures)

pub write_expr-overflow_add-first : goal.write_expr-overflow_add-first
write_expr-overflow_add-first t c =
    let one = DueLaws.first_there c.requires.due c.put_before-i.ensures in
    omega (arith, CycleLaws.one_low one)

pub write_expr-overflow_sub-left : goal.write_expr-overflow_sub-left
write_expr-overflow_sub-left t c =
    let one = DueLaws.first_there c.requires.due c.put_before-i.ensures in
    omega (arith, CycleLaws.one_deep one)

pub write_expr-write_exprs-requires : goal.write_expr-write_exprs-requires
write_expr-write_exprs-requires t c =
    let one = DueLaws.first_there c.requires.due c.put_before-i.ensures in (
      omega (arith, CycleLaws.one_deep one, c.decreases),
      record { near = CycleLaws.nearer c.requires.near; due = CycleLaws.kids c.args.s.now.records.roomy c.children.ensures.0 (λ e. c.if-kind-eq-PAT.false (c.kind-kind.ensures ∙ e)) one },
    )

pub write_expr-returns : goal.write_expr-returns
write_expr-returns t c =
    DueLaws.lined
    c.put_before-i.ensures
    (λ h.
    CycleLaws.kids_wrote
    c.args.s.now.records.roomy
    c.children.ensures.0
    (λ e. c.if-kind-eq-PAT.false (c.kind-kind.ensures ∙ e))
    h
    c.note_of-n.ensures
    c.put_expr.ensures
    c.write_exprs.ensures)

-- ── write_exprs ──

pub write_exprs-loop-init : goal.write_exprs-loop-init
write_exprs-loop-init t c = rw (sub-zero c.args.run.n) (DueLaws.going c.requires.due)

pub write_exprs-write_expr-i-requires : goal.write_exprs-write_expr-i-requires
write_exprs-write_expr-i-requires t c = (omega (arith, c.decreases), record { near = c.requires.near; due = DueLaws.first_one (due_yet c.loop-test.true) c.loop.invariant.some })

pub write_exprs-loop-preserved : goal.write_exprs-loop-preserved
write_exprs-loop-preserved t c = rw (sub-add-eq c.args.run.n c.loop.counter 1) (DueLaws.again (due_yet c.loop-test.true) c.loop.invariant c.write_expr-i.ensures)

pub write_exprs-returns : goal.write_exprs-returns
write_exprs-returns t c = DueLaws.done (omega arith) c.loop.invariant

-- ── write_items ──

pub write_items-returns : goal.write_items-returns
write_items-returns t c = PartedLaws.items_wrote c.write_parts.ensures c.write_parts-2.ensures

-- ── write_op ──

pub write_op-put_op-requires : goal.write_op-put_op-requires
write_op-put_op-requires t c = record { in_rest = c.args.s.now.room.in_rest; op_in = OpLaws.shown_at _ c.requires c.read_op-w.ensures }

pub write_op-write_element-requires : goal.write_op-write_element-requires
write_op-write_element-requires t c =
    let near = OpLaws.element_near _ c.requires c.read_op-w.ensures c.at_record-rel.ensures in
    (omega (arith, c.decreases, near.0, near.1), OpLaws.element_asked _ c.requires c.read_op-w.ensures c.at_record-rel.ensures (OpLaws.rel_of _ c.requires c.read_op-w.ensures c.in-4.is))

pub write_op-write_element-requires-in-4 : goal.write_op-write_element-requires-in-4
write_op-write_element-requires-in-4 t c =
    let near = OpLaws.element_near _ c.requires c.read_op-w.ensures c.at_record-far.ensures in
    (omega (arith, c.decreases, near.0, near.1), OpLaws.element_asked _ c.requires c.read_op-w.ensures c.at_record-far.ensures (OpLaws.far_of _ c.requires c.read_op-w.ensures c.in-4.is))

pub write_op-write_element-requires-in-5 : goal.write_op-write_element-requires-in-5
write_op-write_element-requires-in-5 t c =
    let near = OpLaws.element_near _ c.requires c.read_op-w.ensures c.at_record-rel-in-5.ensures in
    (omega (arith, c.decreases, near.0, near.1), OpLaws.element_asked _ c.requires c.read_op-w.ensures c.at_record-rel-in-5.ensures (OpLaws.short_rel _ c.requires c.read_op-w.ensures c.in-5.is))

pub write_op-write_op-requires : goal.write_op-write_op-requires
write_op-write_op-requires t c = (
  omega (arith, c.decreases, OpLaws.optional_low _ c.requires c.read_op-w.ensures c.in-7.is),
  OpLaws.optional_plan _ c.requires c.read_op-w.ensures c.in-7.is,
)

pub write_op-write_items-requires : goal.write_op-write_items-requires
write_op-write_items-requires t c =
    let near = OpLaws.run_near _ c.requires c.read_op-w.ensures c.items_of-items.ensures in
    (omega (arith, c.decreases, near.0, near.1), OpLaws.items_asked _ c.requires c.read_op-w.ensures c.items_of-items.ensures (PartedLaws.items_of _ c.requires c.read_op-w.ensures c.in-10.is))

pub write_op-put_exprs-next-requires : goal.write_op-put_exprs-next-requires
write_op-put_exprs-next-requires t c =
    let near = OpLaws.run_near _ c.requires c.read_op-w.ensures c.exprs_of-run.ensures in
    (omega (arith, c.decreases, near.0, near.1), OpLaws.exprs_asked _ c.requires c.read_op-w.ensures c.exprs_of-run.ensures (BehindLaws.exprs_there _ c.requires c.read_op-w.ensures c.args.s.now.records.roomy (others c.read_op-w.result.kind BehindLaws.own_ways (grind (arith, nat_tests)))))

pub write_op-put_tail-requires : goal.write_op-put_tail-requires
write_op-put_tail-requires t c =
    let v = OpLaws.bounded_at _ c.requires c.read_op-w.ensures in
    record {
      notes = record { in_rest = c.args.s.now.room.in_rest; near = v.near; low = v.low };
      due = BehindLaws.tail_there
          _
          c.requires
          c.read_op-w.ensures
          c.args.s.now.records.roomy
          (others c.read_op-w.result.kind BehindLaws.own_ways (grind (arith, nat_tests)))
          (OpLaws.exprs_written _ c.requires c.read_op-w.ensures c.exprs_of-run.ensures c.put_exprs-next.ensures);
    }

pub write_op-returns-in-4 : goal.write_op-returns-in-4
write_op-returns-in-4 t c =
    λ p.
    OpLaws.expand_wrote
    _
    p
    c.read_op-w.ensures
    c.in-4.is
    c.put_op.ensures
    (OpLaws.element_written _ p c.read_op-w.ensures c.at_record-rel.ensures c.write_element.ensures)
    (OpLaws.element_written _ p c.read_op-w.ensures c.at_record-far.ensures c.write_element-in-4.ensures)

pub write_op-returns-in-5 : goal.write_op-returns-in-5
write_op-returns-in-5 t c =
    λ p.
    OpLaws.short_wrote
    _
    p
    c.read_op-w.ensures
    c.in-5.is
    c.put_op.ensures
    (OpLaws.element_written _ p c.read_op-w.ensures c.at_record-rel-in-5.ensures c.write_element-in-5.ensures)

pub write_op-returns-in-7 : goal.write_op-returns-in-7
write_op-returns-in-7 t c = λ p. OpLaws.optional_wrote _ p c.read_op-w.ensures c.in-7.is c.put_op.ensures c.write_op.ensures

pub write_op-returns-in-10 : goal.write_op-returns-in-10
write_op-returns-in-10 t c =
    λ p.
    PartedLaws.parted_wrote
    _
    p
    c.read_op-w.ensures
    c.in-10.is
    c.put_op.ensures
    (OpLaws.items_written _ p c.read_op-w.ensures c.items_of-items.ensures c.write_items.ensures)

pub write_op-returns-in_default : goal.write_op-returns-in_default
write_op-returns-in_default t c =
    λ p.
    BehindLaws.inside_wrote
    _
    p
    c.read_op-w.ensures
    c.args.s.now.records.roomy
    (others c.read_op-w.result.kind BehindLaws.own_ways (grind (arith, nat_tests)))
    c.put_op.ensures
    (OpLaws.exprs_written _ p c.read_op-w.ensures c.exprs_of-run.ensures c.put_exprs-next.ensures)
    c.put_tail.ensures

-- ── write_part ──

pub write_part-invariant_of-r : goal.write_part-invariant_of-r
write_part-invariant_of-r t c = record { stands = CycleLaws.one_low c.requires.due }

pub write_part-is_aggregate-is-requires : goal.write_part-is_aggregate-is-requires
write_part-is_aggregate-is-requires t c =
    PartedLaws.some_expr c.requires.due

pub write_part-skip-requires : goal.write_part-skip-requires
write_part-skip-requires t c =
    CycleLaws.starts c.requires.due

pub write_part-returns-then-is-aggregates : goal.write_part-returns-then-is-aggregates
write_part-returns-then-is-aggregates t c = PartedLaws.other_wrote _ c.is_aggregate-is.ensures c.if-is-aggregates.true c.skip.ensures

pub write_part-put_agg-requires : goal.write_part-put_agg-requires
write_part-put_agg-requires t c = PartedLaws.agg_in c.args.s.now.records.roomy c.is_aggregate-is.ensures c.if-is.true c.requires.due

pub write_part-overflow_add-first : goal.write_part-overflow_add-first
write_part-overflow_add-first t c = omega (arith, CycleLaws.one_low c.requires.due)

pub write_part-overflow_sub-left : goal.write_part-overflow_sub-left
write_part-overflow_sub-left t c = omega (arith, CycleLaws.one_deep c.requires.due)

pub write_part-put_exprs-requires : goal.write_part-put_exprs-requires
write_part-put_exprs-requires t c = (
  omega (arith, c.decreases, CycleLaws.one_deep c.requires.due),
  record { near = CycleLaws.nearer c.requires.near; due = PartedLaws.args c.args.s.now.records.roomy c.is_aggregate-is.ensures c.if-is.true c.requires.due c.count.ensures.0 },
)

pub write_part-returns-then-is : goal.write_part-returns-then-is
write_part-returns-then-is t c =
    λ h.
    PartedLaws.agg_wrote
    c.args.s.now.records.roomy
    c.is_aggregate-is.ensures
    c.if-is.true
    h
    _
    c.if-is-aggregates.false
    c.count.ensures.0
    c.put_agg.ensures
    c.put_exprs.ensures

pub write_part-write_expr-requires : goal.write_part-write_expr-requires
write_part-write_expr-requires t c = (omega (arith, c.decreases), record { near = c.requires.near; due = CycleLaws.alone c.requires.due })

pub write_part-returns : goal.write_part-returns
write_part-returns t c = PartedLaws.key_wrote _ c.is_aggregate-is.ensures c.if-is-aggregates.false c.if-is.false (CycleLaws.alone_wrote c.write_expr.ensures)

-- ── write_parts ──

pub write_parts-loop-init : goal.write_parts-loop-init
write_parts-loop-init t c = rw (sub-zero c.args.run.n) (PartedLaws.parts_going c.requires.due)

pub write_parts-overflow_add-expr : goal.write_parts-overflow_add-expr
write_parts-overflow_add-expr t c = omega (arith, CycleLaws.one_low (PartedLaws.item_one (due_yet c.loop-test.true) c.loop.invariant.some))

pub write_parts-write_part-i-requires : goal.write_parts-write_part-i-requires
write_parts-write_part-i-requires t c = (omega (arith, c.decreases), record { near = c.requires.near; due = PartedLaws.item_one (due_yet c.loop-test.true) c.loop.invariant.some })

pub write_parts-loop-preserved : goal.write_parts-loop-preserved
write_parts-loop-preserved t c = rw (sub-add-eq c.args.run.n c.loop.counter 1) (PartedLaws.parts_again (due_yet c.loop-test.true) c.loop.invariant c.write_part-i.ensures)

pub write_parts-returns : goal.write_parts-returns
write_parts-returns t c = PartedLaws.parts_done (omega arith) c.loop.invariant
