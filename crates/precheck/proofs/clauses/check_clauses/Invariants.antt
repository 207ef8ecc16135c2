-- `check_clauses` meets its contract: the invariant says that what remains has the verdict of the whole. Assumes nothing.
use Rattle.model.specs.Check.{no_span}
use Rattle.model.specs.Kind.{clause}
use Rattle.precheck.specs.Stands.{At}
use Rattle.precheck.proofs.Laws.{Remaining}
use Rattle.precheck.proofs.clauses.check_clauses.Given as goal

abbrev pub invariant-loop : goal.invariant-loop
invariant-loop l = Remaining (At l.r.a.now l.r.b.now clause l.left no_span) l.n l.i l.counter l.at
