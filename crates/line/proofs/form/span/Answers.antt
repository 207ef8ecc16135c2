-- `line::form::span` meets its contract. Assumes nothing.
use Rattle.line.proofs.PlaceLaws.{fed_behind}
use Rattle.line.proofs.FormLaws.{span_start_not, ends, span_few, span_end_not, span_is, span_not}
use Rattle.line.proofs.form.span.Goals as goal

pub returns-in_err-start : goal.returns-in_err-start
returns-in_err-start c = rw c.from_residual.ensures (span_start_not _ _ _ c.number.ensures c.in_err-start.was)

pub returns-then-c-r-ne9 : goal.returns-then-c-r-ne9
returns-then-c-r-ne9 c = span_few _ _ _ c.number.ensures _ c.in_ok-start.was c.if-c-r-ne9.true

pub invariant_of-behind : goal.invariant_of-behind
invariant_of-behind c = record { fed = fed_behind _ _ _ c.args.c.fed (ends _ _ _ c.number.ensures _ c.in_ok-start.was) c.if-c-r-ne9.false }

pub returns-in_err-last : goal.returns-in_err-last
returns-in_err-last c = rw c.from_residual-in_err-last.ensures (span_end_not _ _ _ c.number.ensures _ c.in_ok-start.was c.if-c-r-ne9.false _ c.number-2.ensures c.in_err-last.was)

pub returns-then-second-first : goal.returns-then-second-first
returns-then-second-first c = span_not _ _ _ c.number.ensures _ c.in_ok-start.was c.if-c-r-ne9.false _ c.number-2.ensures _ c.in_ok-last.was c.if-second-first.true

pub returns : goal.returns
returns c = span_is _ _ _ c.number.ensures _ c.in_ok-start.was c.if-c-r-ne9.false _ c.number-2.ensures _ c.in_ok-last.was c.if-second-first.false
