-- `check_clause` meets its contract: by the number of the kind. Assumes nothing.
-- Thirteen answers by search: an attribute with using(..) in their place was tried, and finds one of them.
use borrow.Author.Rules.{rules}
use Rattle.precheck.proofs.ClauseLaws.{as_match, as_where, as_with, as_return, as_unwind, as_call, as_write}
use Rattle.precheck.proofs.Checks.{some_turned, walks_turned}
use Rattle.precheck.proofs.clauses.check_clause.Goals as goal

pub check_pattern-requires : goal.check_pattern-requires
check_pattern-requires c = search (some_turned, as_match, rules)

pub check_exprs-requires : goal.check_exprs-requires
check_exprs-requires c = search (some_turned, as_where, rules)

pub check_projections-requires : goal.check_projections-requires
check_projections-requires c = search (some_turned, as_with, rules)

pub check_projections-requires-in-5 : goal.check_projections-requires-in-5
check_projections-requires-in-5 c = search (some_turned, as_return, rules)

pub check_exprs-requires-in-6 : goal.check_exprs-requires-in-6
check_exprs-requires-in-6 c = search (some_turned, as_unwind, rules)

pub check_call-requires : goal.check_call-requires
check_call-requires c = search (some_turned, as_call, rules)

pub returns-in-2 : goal.returns-in-2
returns-in-2 c = search (walks_turned, as_match, rules)

pub returns-in-3 : goal.returns-in-3
returns-in-3 c = search (walks_turned, as_where, rules)

pub returns-in-4 : goal.returns-in-4
returns-in-4 c = search (walks_turned, as_with, rules)

pub returns-in-5 : goal.returns-in-5
returns-in-5 c = search (walks_turned, as_return, rules)

pub returns-in-6 : goal.returns-in-6
returns-in-6 c = search (walks_turned, as_unwind, rules)

pub returns-in-7 : goal.returns-in-7
returns-in-7 c = search (walks_turned, as_call, rules)

pub returns-in_default : goal.returns-in_default
returns-in_default c = search (as_write, rules)
