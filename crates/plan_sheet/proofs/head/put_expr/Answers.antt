-- `put_expr` meets its contract. Assumes nothing.
use native.Mathlib.Omega.{arith}
use Rattle.std.proofs.lemmas.Bool.Decides.{nat_tests}
use Rattle.plan_sheet.proofs.HeadLaws
use mathlib.Core.Path.{sym, ◌∙◌}
use Rattle.plan_sheet.proofs.head.put_expr.Goals as goal

pub put_call-requires : goal.put_call-requires
put_call-requires c = HeadLaws.call_in c.args.r.records.now.roomy 0 c.requires (sym c.kind-kind.ensures ∙ c.in-34.is)

pub returns-in-32 : goal.returns-in-32
returns-in-32 c = λ h. rw (HeadLaws.var_head c.args.r.records.now.roomy _ h (sym c.kind-kind.ensures ∙ c.in-32.is)) c.put_row.ensures

pub returns-in-19 : goal.returns-in-19
returns-in-19 c = λ h. rw (HeadLaws.int_head c.args.r.records.now.roomy _ h (sym c.kind-kind.ensures ∙ c.in-19.is)) c.put_int.ensures

pub returns-in-34 : goal.returns-in-34
returns-in-34 c = λ h. rw (HeadLaws.call_head c.args.r.records.now.roomy _ h (sym c.kind-kind.ensures ∙ c.in-34.is)) c.put_call.ensures

pub returns-in-35 : goal.returns-in-35
returns-in-35 c = λ h. rw (HeadLaws.exists_head c.args.r.records.now.roomy _ h (sym c.kind-kind.ensures ∙ c.in-35.is)) c.put_row-in-35.ensures

pub returns-in-36 : goal.returns-in-36
returns-in-36 c = λ h. rw (HeadLaws.any_head c.args.r.records.now.roomy _ h (sym c.kind-kind.ensures ∙ c.in-36.is)) c.put_any.ensures

pub returns-in-37 : goal.returns-in-37
returns-in-37 c = λ h. rw (HeadLaws.null_head c.args.r.records.now.roomy _ h (omega (arith, c.kind-kind.ensures)) (omega (arith, c.kind-kind.ensures))) c.put_row-in-37.ensures

pub returns-in_default : goal.returns-in_default
returns-in_default c = λ h. HeadLaws.copied_head c.args.r.records.now.roomy _ _ c.kind-kind.ensures (HeadLaws.others c.kind-kind.result HeadLaws.rewritten (grind (arith, nat_tests))) h c.put_copied.ensures
