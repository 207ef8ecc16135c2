-- `put_clause_op` meets its contract. Assumes nothing.
use Rattle.std.proofs.lemmas.Bool.Decides.{nat_tests}
use native.Mathlib.Omega.{arith}
use Rattle.plan_sheet.proofs.HeadLaws.{others}
use Rattle.plan_sheet.proofs.OpLaws
use Rattle.plan_sheet.proofs.clause.put_clause_op.Goals as goal

pub put_procedure-requires : goal.put_procedure-requires
put_procedure-requires c =
    let shown = c.requires.op_in in
    OpLaws.procedure_in c.args.r.now.roomy shown (OpLaws.is_call shown c.requires.bind_path_kind_lt_kind (others c.args.w.kind OpLaws.clause_ops (grind (arith, nat_tests))))

pub returns-in-7 : goal.returns-in-7
returns-in-7 c = λ h. rw (OpLaws.optional_line h c.in-7.is) c.put_row.ensures

pub returns-in-8 : goal.returns-in-8
returns-in-8 c = λ h. rw (OpLaws.with_line h c.in-8.is) c.put_with.ensures

pub returns-in-9 : goal.returns-in-9
returns-in-9 c = λ h. rw (OpLaws.project_line h c.in-9.is) c.put_project.ensures

pub returns-in-10 : goal.returns-in-10
returns-in-10 c = λ h. rw (OpLaws.aggregate_line h c.in-10.is) c.put_row-in-10.ensures

pub returns-in-11 : goal.returns-in-11
returns-in-11 c = λ h. rw (OpLaws.order_line h c.in-11.is) c.put_row-in-11.ensures

pub returns-in-12 : goal.returns-in-12
returns-in-12 c = λ h. rw (OpLaws.skip_line h c.in-12.is) c.put_row-in-12.ensures

pub returns-in-13 : goal.returns-in-13
returns-in-13 c = λ h. rw (OpLaws.limit_line h c.in-13.is) c.put_row-in-13.ensures

pub returns-in-14 : goal.returns-in-14
returns-in-14 c = λ h. rw (OpLaws.distinct_line h c.in-14.is) c.put_row-in-14.ensures

pub returns-in-15 : goal.returns-in-15
returns-in-15 c = λ h. rw (OpLaws.unwind_line h c.in-15.is) c.put_row-in-15.ensures

pub returns-in-16 : goal.returns-in-16
returns-in-16 c = λ h. rw (OpLaws.union_line h c.in-16.is) c.put_row-in-16.ensures

pub returns-in_default : goal.returns-in_default
returns-in_default c =
    λ h.
    rw
    (OpLaws.call_line
    c.args.r.now.roomy
    h
    (OpLaws.is_call c.requires.op_in c.requires.bind_path_kind_lt_kind (others c.args.w.kind OpLaws.clause_ops (grind (arith, nat_tests)))))
    (rw c.call_input.ensures at c.put_procedure.ensures)
