-- `starred` meets its contract: a star more is found, or the text stands for itself. Assumes nothing.
use Rattle.gate_cases.proofs.Sheets.{none_given, no_star, one_star, two_stars, no_number, three_stars}
use Rattle.gate_cases.proofs.text.starred.Goals as goal

pub returns-in_err-head : goal.returns-in_err-head
returns-in_err-head c = none_given _ _ c.from_residual.ensures (no_star _ c.in_err-head.ensures.cases)

pub returns-in_err-number : goal.returns-in_err-number
returns-in_err-number c = none_given _ _ c.from_residual-in_err-number.ensures (one_star _ _ _ c.in_ok-head.ensures.cases c.in_err-number.ensures.cases)

pub returns-in_err-part : goal.returns-in_err-part
returns-in_err-part c = none_given _ _ c.from_residual-in_err-part.ensures (two_stars _ _ _ c.in_ok-head.ensures.cases _ _ c.in_ok-number.ensures.cases c.in_err-part.ensures.cases)

pub returns-in_err-times : goal.returns-in_err-times
returns-in_err-times c = none_given _ _ c.from_residual-in_err-times.ensures (no_number _ _ _ c.in_ok-head.ensures.cases _ _ c.in_ok-number.ensures.cases _ _ c.in_ok-part.ensures.cases _ c.decimal.ensures c.in_err-times.was)

pub returns : goal.returns
returns c = three_stars _ _ _ c.in_ok-head.ensures.cases _ _ c.in_ok-number.ensures.cases _ _ c.in_ok-part.ensures.cases _ c.decimal.ensures _ c.in_ok-times.was
