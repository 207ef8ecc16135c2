-- `expr_bytes` meets its contract. Assumes nothing.
use Rattle.plan_sheet.proofs.HeadLaws
use Rattle.plan_sheet.proofs.MeasureLaws
use mathlib.Core.Path.{sym, ◌∙◌}
use native.Mathlib.Omega.{arith}
use Rattle.std.proofs.lemmas.Bool.Decides.{nat_tests}
use Rattle.plan_sheet.proofs.measure.expr_bytes.Goals as goal

pub call_bytes-requires : goal.call_bytes-requires
call_bytes-requires c = (c.requires.0, HeadLaws.call_in c.args.r.records.now.roomy 0 c.requires.1 (sym c.kind-kind.ensures ∙ c.in-34.is))

pub returns-in-32 : goal.returns-in-32
returns-in-32 c = MeasureLaws.var_long c.args.r.records.now.roomy _ (sym c.kind-kind.ensures ∙ c.in-32.is) c.number_bytes.ensures (omega arith)

pub returns-in-34 : goal.returns-in-34
returns-in-34 c = MeasureLaws.call_long c.args.r.records.now.roomy _ (sym c.kind-kind.ensures ∙ c.in-34.is) c.call_bytes.ensures

pub returns-in-35 : goal.returns-in-35
returns-in-35 c = MeasureLaws.exists_long c.args.r.records.now.roomy _ (sym c.kind-kind.ensures ∙ c.in-35.is)

pub returns-in-36 : goal.returns-in-36
returns-in-36 c = MeasureLaws.any_long c.args.r.records.now.roomy _ (sym c.kind-kind.ensures ∙ c.in-36.is) c.any_bytes.ensures

pub returns-in-37 : goal.returns-in-37
returns-in-37 c = MeasureLaws.null_long c.args.r.records.now.roomy _ (omega (arith, c.kind-kind.ensures)) (omega (arith, c.kind-kind.ensures))

pub returns-in_default : goal.returns-in_default
returns-in_default c = MeasureLaws.copied_long c.args.r.records.now.roomy _ c.kind-kind.ensures (HeadLaws.others c.kind-kind.result HeadLaws.renamed (grind (arith, nat_tests))) c.line_bytes.ensures
