-- `line::read::read_fields` meets its contract: the fields, one by one, up to where the row ends or its last form is read. Assumes nothing.
use native.Mathlib.Omega.{arith}
use Rattle.std.proofs.Common.{sym, ◌∙◌}
use Rattle.line.proofs.FillLaws.{fill_start, fill_line, fill_not, fill_few, fill_more, fill_yes, fill_no, no_form, all_forms}
use Rattle.line.proofs.read.read_fields.Goals as goal
use Rattle.line.proofs.read.read_fields.Goals.{else-loop-g-test, then-loop-g-test+in_default}

pub loop-g-init : goal.loop-g-init
loop-g-init c = fill_start _ _ _ _ c.requires.words c.requires.stop

pub returns-then-sheet-at-ne9 : goal.returns-then-sheet-at-ne9
returns-then-sheet-at-ne9 c = λ e h. fill_few _ _ _ _ h _ _ _ _ (c.loop-g.invariant e h) _ (sym c.form_at.ensures ∙ c.in-Some.is) c.if-sheet-at-ne9.true

pub returns-in_err-read : goal.returns-in_err-read
returns-in_err-read c = rw c.from_residual.ensures (λ e h. (let is = sym c.form_at.ensures ∙ c.in-Some.is in fill_not _ _ _ _ h _ _ _ _ (c.loop-g.invariant e h) _ is c.if-sheet-at-ne9.false _ (c.read_form.ensures e (fill_line _ _ _ _ h _ _ _ _ (c.loop-g.invariant e h) _ is c.if-sheet-at-ne9.false)) c.in_err-read.was))

pub loop-g-preserved : goal.loop-g-preserved
loop-g-preserved c = λ e h. (let is = sym c.form_at.ensures ∙ c.in-Some.is in fill_more _ _ _ _ h _ _ _ _ (c.loop-g.invariant e h) _ is c.if-sheet-at-ne9.false _ (c.read_form.ensures e (fill_line _ _ _ _ h _ _ _ _ (c.loop-g.invariant e h) _ is c.if-sheet-at-ne9.false)) _ c.in_ok-read.was)

pub returns-then-sheet-at-eq10 : goal.returns-then-sheet-at-eq10
returns-then-sheet-at-eq10 c =
    λ e h.
    let f = c.loop-g.invariant e h in
    fill_yes _ _ _ _ h _ _ _ _ f (elim c.loop-g-test.branch [ else-loop-g-test w ↦ all_forms _ _ _ _ h _ _ _ _ f (omega (arith, w.loop-g-test.false, c.fields_of-g-end.ensures)) | then-loop-g-test+in_default w ↦ no_form _ _ _ _ h _ _ _ _ f (omega (arith, w.loop-g-test.true, c.fields_of-g-end.ensures)) (sym w.form_at.ensures ∙ w.in_default.is) ]) c.if-sheet-at-eq10.true

pub returns : goal.returns
returns c =
    λ e h.
    let f = c.loop-g.invariant e h in
    fill_no _ _ _ _ h _ _ _ _ f (elim c.loop-g-test.branch [ else-loop-g-test w ↦ all_forms _ _ _ _ h _ _ _ _ f (omega (arith, w.loop-g-test.false, c.fields_of-g-end.ensures)) | then-loop-g-test+in_default w ↦ no_form _ _ _ _ h _ _ _ _ f (omega (arith, w.loop-g-test.true, c.fields_of-g-end.ensures)) (sym w.form_at.ensures ∙ w.in_default.is) ]) c.if-sheet-at-eq10.false
