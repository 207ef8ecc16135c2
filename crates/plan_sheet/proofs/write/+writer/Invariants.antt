-- The measures of the cycle and the invariants of its loops.
use Rattle.plan_sheet.proofs.DueLaws
use Rattle.plan_sheet.proofs.PartedLaws
use Rattle.words.specs.Words.{max_records}
use Rattle.context.specs.Tables.{deepest}
use Prim.Native.Nat.{ℕ, ◌-◌, ◌+◌, ◌*◌}
use Rattle.plan_sheet.proofs.write.+writer.Given as goal

-- how far the measure falls from one operator to the one before
abbrev per_op : ℕ
per_op = 4 * deepest

abbrev pub decreases-measure_exprs : goal.decreases-measure_exprs
decreases-measure_exprs l = per_op * l.run.at.below

abbrev pub decreases-put_exprs : goal.decreases-put_exprs
decreases-put_exprs l = per_op * l.run.at.below + 3 * l.run.at.left + 2

abbrev pub decreases-write_element : goal.decreases-write_element
decreases-write_element l = per_op * l.at.below + 3 * l.at.left + 2

abbrev pub decreases-write_expr : goal.decreases-write_expr
decreases-write_expr l = per_op * l.at.below + 3 * l.at.left

abbrev pub decreases-write_exprs : goal.decreases-write_exprs
decreases-write_exprs l = per_op * l.run.at.below + 3 * l.run.at.left + 1

abbrev pub decreases-write_items : goal.decreases-write_items
decreases-write_items l = per_op * l.run.at.below + 3 * l.run.at.left + 3

abbrev pub decreases-write_op : goal.decreases-write_op
decreases-write_op l = per_op * l.k + 3 * deepest + 4

abbrev pub decreases-write_part : goal.decreases-write_part
decreases-write_part l = per_op * l.at.below + 3 * l.at.left + 1

abbrev pub decreases-write_parts : goal.decreases-write_parts
decreases-write_parts l = per_op * l.run.at.below + 3 * l.run.at.left + 2

abbrev pub invariant-measure_exprs-loop-due : goal.invariant-measure_exprs-loop-due
invariant-measure_exprs-loop-due l = DueLaws.Going l.s.sheet.now l.s.records.a.now l.s.records.b.now l.s.ops.now l.s.rest.now l.run.at.below l.run.at.base l.run.at.left l.run.n l.run.at.i l.initial.page l.due l.i l.page

abbrev pub decreases-measure_exprs-loop-due : goal.decreases-measure_exprs-loop-due
decreases-measure_exprs-loop-due l = max_records - l.i

abbrev pub invariant-write_exprs-loop : goal.invariant-write_exprs-loop
invariant-write_exprs-loop l = DueLaws.Going l.s.sheet.now l.s.records.a.now l.s.records.b.now l.s.ops.now l.s.rest.now l.run.at.below l.run.at.base l.run.at.left l.run.n l.run.at.i l.initial.page (l.run.n - l.counter) l.i l.page

abbrev pub invariant-write_parts-loop : goal.invariant-write_parts-loop
invariant-write_parts-loop l = PartedLaws.PartsGoing l.s.sheet.now l.s.records.a.now l.s.records.b.now l.s.ops.now l.s.rest.now l.run.at.below l.run.at.base l.run.at.left l.run.n l.run.at.i l.aggregates l.initial.page (l.run.n - l.counter) l.i l.page
