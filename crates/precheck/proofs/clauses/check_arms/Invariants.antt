-- `check_arms` meets its contract: the invariant says that what remains has the verdict of the whole. Assumes nothing.
use Rattle.model.specs.Check.{no_span}
use Rattle.model.specs.Kind.{union_arm}
use Rattle.precheck.specs.Stands.{At}
use Rattle.precheck.proofs.Laws.{Remaining}
use Rattle.precheck.proofs.clauses.check_arms.Given as goal

abbrev pub invariant-loop : goal.invariant-loop
invariant-loop l = Remaining (At l.r.a.now l.r.b.now union_arm l.left no_span) l.n l.i l.counter l.at
