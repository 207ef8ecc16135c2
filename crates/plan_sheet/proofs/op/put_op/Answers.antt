-- `put_op` meets its contract. Assumes nothing.
use native.Mathlib.Omega.{arith}
use Rattle.plan_sheet.proofs.OpLaws
use Rattle.plan_sheet.proofs.op.put_op.Goals as goal

pub put_expand-requires : goal.put_expand-requires
put_expand-requires c =
    record {
      notes_in = OpLaws.notes_in c.requires.in_rest c.requires.op_in;
      y_lt_max_records = OpLaws.far_low c.requires.op_in c.in-4.is;
    }

pub returns-in-0 : goal.returns-in-0
returns-in-0 c = λ h. rw (OpLaws.bare_line h (omega arith)) c.put_row-in-0.ensures

pub returns-in-2 : goal.returns-in-2
returns-in-2 c = λ h. rw (OpLaws.source_line h c.in-2.is) c.put_source.ensures

pub returns-in-3 : goal.returns-in-3
returns-in-3 c = λ h. rw (OpLaws.filter_line h c.in-3.is) c.put_row.ensures

pub returns-in-4 : goal.returns-in-4
returns-in-4 c = λ h. rw (OpLaws.expand_line h c.in-4.is) c.put_expand.ensures

pub returns-in-5 : goal.returns-in-5
returns-in-5 c = λ h. rw (OpLaws.short_line h c.in-5.is) c.put_short.ensures

pub returns-in-6 : goal.returns-in-6
returns-in-6 c = λ h. rw (OpLaws.path_line h c.in-6.is) c.put_row-in-6.ensures
