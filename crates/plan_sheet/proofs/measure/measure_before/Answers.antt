-- `measure_before` meets its contract. Assumes nothing.
use Rattle.plan_sheet.proofs.HeadLaws
use Rattle.plan_sheet.proofs.MeasureLaws
use mathlib.Core.Path.{sym, ◌∙◌}
use native.Mathlib.Omega.{arith}
use Rattle.std.proofs.lemmas.Bool.Decides.{nat_tests}
use Rattle.plan_sheet.proofs.measure.measure_before.Goals as goal

pub line_bytes-requires : goal.line_bytes-requires
line_bytes-requires c =
    (_, HeadLaws.line_record c.requires.some_line.line)

pub put_item-requires : goal.put_item-requires
put_item-requires c =
    HeadLaws.item_there c.args.r.records.now.roomy (sym c.kind-kind.ensures ∙ c.in-9.is) c.requires.some_line.line

pub returns-in-16 : goal.returns-in-16
returns-in-16 c = λ recs j l. HeadLaws.same_put c.args.r.records.now.roomy (rw c.kind-kind.ensures at c.in-16.is) l (MeasureLaws.counted_line c.line_bytes.ensures c.measure.ensures)

pub returns-in-9 : goal.returns-in-9
returns-in-9 c = λ recs j l. HeadLaws.aliased_put c.args.r.records.now.roomy (sym c.kind-kind.ensures ∙ c.in-9.is) l c.put_item.ensures

pub returns-in_default : goal.returns-in_default
returns-in_default c = λ recs j l. HeadLaws.bare_put c.args.r.records.now.roomy _ c.kind-kind.ensures (HeadLaws.others c.kind-kind.result HeadLaws.lines (grind (arith, nat_tests))) l
