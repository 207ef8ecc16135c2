-- The measures of the cycle and the invariants of its loops.
use Prim.Native.Nat.{◌+◌, ◌*◌}
use Rattle.model.specs.Check.{no_span}
use Rattle.model.specs.Kind.{pattern_element, expr, pattern_part}
use Rattle.precheck.specs.Stands.{At}
use Rattle.precheck.specs.Answer.{span_of}
use Rattle.precheck.proofs.Laws.{Remaining}
use Rattle.precheck.proofs.walk.+expression.Given as goal

abbrev pub decreases-check_elements : goal.decreases-check_elements
decreases-check_elements l = 2 * l.left + 1

abbrev pub decreases-check_expr : goal.decreases-check_expr
decreases-check_expr l = 2 * l.under.left

abbrev pub decreases-check_exprs : goal.decreases-check_exprs
decreases-check_exprs l = 2 * l.under.left + 1

abbrev pub decreases-check_pattern : goal.decreases-check_pattern
decreases-check_pattern l = 2 * l.under.left + 1

abbrev pub invariant-check_elements-loop : goal.invariant-check_elements-loop
invariant-check_elements-loop l = Remaining (At l.r.a.now l.r.b.now pattern_element l.left no_span) l.n l.i l.counter l.at

abbrev pub invariant-check_exprs-loop : goal.invariant-check_exprs-loop
invariant-check_exprs-loop l = Remaining (λ j. At l.r.a.now l.r.b.now expr l.under.left (span_of l.under.span) (j + l.skip)) l.n l.i l.counter l.at

abbrev pub invariant-check_pattern-loop : goal.invariant-check_pattern-loop
invariant-check_pattern-loop l = Remaining (At l.r.a.now l.r.b.now pattern_part l.under.left (span_of l.under.span)) l.n l.i l.counter l.at
