-- `checks` meets its contract: the check's verdict. Assumes nothing.
use Rattle.std.proofs.lemmas.Result.{err_from_is_err_and}
use Rattle.sides.proofs.Laws.{check_fine, check_refused}
use Rattle.sides.proofs.checks.Goals as goal

pub returns-in_err-precheck_statement : goal.returns-in_err-precheck_statement
returns-in_err-precheck_statement c =
    let p = err_from_is_err_and c.from_residual.result c.from_residual.ensures.1 in
    λ sheet t h. rw (p.1, p.2) (check_refused t _ (rw c.in_err-precheck_statement.was at (c.precheck_statement.ensures sheet t h)))

pub returns : goal.returns
returns c = λ sheet t h. check_fine t (rw c.in_ok-precheck_statement.was at (c.precheck_statement.ensures sheet t h))
