-- `check_expr`: a case for each kind of expression. The others: the loop's invariant says that what remains has the verdict of the whole.
use native.Mathlib.Omega.{arith}
use borrow.Author.Rules.{rules}
use mathlib.Core.Path.{sym, ◌∙◌}
use Rattle.precheck.proofs.Laws.{child, again, stop, done, stopped_as}
use Rattle.precheck.proofs.Checks.{some_turned, walks_turned, standing, next_standing, some_at, as_props, own_refused, as_leaf, as_entries, as_pattern, as_plain, as_elements}
use Rattle.precheck.proofs.walk.+expression.Goals as goal

-- ── check_elements ──

pub check_elements-at-requires : goal.check_elements-at-requires
check_elements-at-requires t c = (next_standing c.args.r.now.roomy c.loop.invariant c.loop-test.true c.requires).low

pub check_elements-props_of-props-requires : goal.check_elements-props_of-props-requires
check_elements-props_of-props-requires t c = rw (c.at.ensures.0, c.at.ensures.1) (some_at c.args.r.now.roomy (child c.loop.invariant c.loop-test.true c.requires))

pub check_elements-overflow_sub-less : goal.check_elements-overflow_sub-less
check_elements-overflow_sub-less t c = omega (arith, (next_standing c.args.r.now.roomy c.loop.invariant c.loop-test.true c.requires).deep)

pub check_elements-check_exprs-requires : goal.check_elements-check_exprs-requires
check_elements-check_exprs-requires t c =
    let next = next_standing c.args.r.now.roomy c.loop.invariant c.loop-test.true c.requires in
    (omega (arith, next.deep), some_turned (as_props (rw (c.at.ensures.0, c.at.ensures.1) at c.props_of-props.ensures)) next.some)

pub check_elements-returns-in_err-at : goal.check_elements-returns-in_err-at
check_elements-returns-in_err-at t c = stopped_as c.from_residual.ensures.1 (stop c.loop.invariant c.loop-test.true (walks_turned (as_props (rw (c.at.ensures.0, c.at.ensures.1) at c.props_of-props.ensures)) c.in_err-at.ensures))

pub check_elements-loop-preserved : goal.check_elements-loop-preserved
check_elements-loop-preserved t c = again c.loop.invariant c.loop-test.true (walks_turned (as_props (rw (c.at.ensures.0, c.at.ensures.1) at c.props_of-props.ensures)) c.in_ok-at.ensures)

pub check_elements-returns : goal.check_elements-returns
check_elements-returns t c = done c.loop.invariant c.loop-test.false

-- ── check_expr ──

pub check_expr-returns-then-is_leaf : goal.check_expr-returns-then-is_leaf
check_expr-returns-then-is_leaf t c = as_leaf c.args.r.records.now.roomy c.kind-kind.ensures (sym c.is_leaf.ensures ∙ c.if-is_leaf.true)

pub check_expr-returns-in_err-expr_verdict : goal.check_expr-returns-in_err-expr_verdict
check_expr-returns-in_err-expr_verdict t c = stopped_as c.from_residual.ensures.1 (own_refused c.in_err-expr_verdict.ensures)

pub check_expr-check_exprs-requires : goal.check_expr-check_exprs-requires
check_expr-check_exprs-requires t c =
    let entries = as_entries c.args.r.records.now.roomy c.kind-kind.ensures c.children-n.ensures.0 c.in_ok-expr_verdict.ensures c.in-33.is in
    (omega arith, some_turned entries c.requires.some)

pub check_expr-check_pattern-requires : goal.check_expr-check_pattern-requires
check_expr-check_pattern-requires t c =
    let pattern = as_pattern c.args.r.records.now.roomy c.kind-kind.ensures c.children-n.ensures.0 c.in_ok-expr_verdict.ensures c.in-35.is in
    (omega arith, some_turned pattern c.requires.some)

pub check_expr-check_exprs-requires-in_default : goal.check_expr-check_exprs-requires-in_default
check_expr-check_exprs-requires-in_default t c =
    let plain = as_plain c.args.r.records.now.roomy c.kind-kind.ensures c.children-n.ensures.0 c.in_ok-expr_verdict.ensures (search rules) in
    (omega arith, some_turned plain c.requires.some)

pub check_expr-returns-in-33 : goal.check_expr-returns-in-33
check_expr-returns-in-33 t c = walks_turned (as_entries c.args.r.records.now.roomy c.kind-kind.ensures c.children-n.ensures.0 c.in_ok-expr_verdict.ensures c.in-33.is) c.check_exprs.ensures

pub check_expr-returns-in-35 : goal.check_expr-returns-in-35
check_expr-returns-in-35 t c = walks_turned (as_pattern c.args.r.records.now.roomy c.kind-kind.ensures c.children-n.ensures.0 c.in_ok-expr_verdict.ensures c.in-35.is) c.check_pattern.ensures

pub check_expr-returns-in_default : goal.check_expr-returns-in_default
check_expr-returns-in_default t c = walks_turned (as_plain c.args.r.records.now.roomy c.kind-kind.ensures c.children-n.ensures.0 c.in_ok-expr_verdict.ensures (search rules)) c.check_exprs-in_default.ensures

-- ── check_exprs ──

pub check_exprs-overflow_add-at : goal.check_exprs-overflow_add-at
check_exprs-overflow_add-at t c = omega (arith, (standing c.args.r.now.roomy (child c.loop.invariant c.loop-test.true c.requires)).low)

pub check_exprs-at-requires : goal.check_exprs-at-requires
check_exprs-at-requires t c = (standing c.args.r.now.roomy (child c.loop.invariant c.loop-test.true c.requires)).low

pub check_exprs-check_expr-requires : goal.check_exprs-check_expr-requires
check_exprs-check_expr-requires t c = (omega arith, rw (c.at.ensures.0, c.at.ensures.1) (standing c.args.r.now.roomy (child c.loop.invariant c.loop-test.true c.requires)))

pub check_exprs-returns-in_err-at : goal.check_exprs-returns-in_err-at
check_exprs-returns-in_err-at t c = stopped_as c.from_residual.ensures.1 (stop c.loop.invariant c.loop-test.true (rw (c.at.ensures.0, c.at.ensures.1) at c.in_err-at.ensures))

pub check_exprs-loop-preserved : goal.check_exprs-loop-preserved
check_exprs-loop-preserved t c = again c.loop.invariant c.loop-test.true (rw (c.at.ensures.0, c.at.ensures.1) at c.in_ok-at.ensures)

pub check_exprs-returns : goal.check_exprs-returns
check_exprs-returns t c = done c.loop.invariant c.loop-test.false

-- ── check_pattern ──

pub check_pattern-part_verdict-requires : goal.check_pattern-part_verdict-requires
check_pattern-part_verdict-requires t c = rw (c.at-part.ensures.0, c.at-part.ensures.1) (some_at c.args.r.now.roomy (child c.loop.invariant c.loop-test.true c.requires))

pub check_pattern-returns-in_err-part_verdict : goal.check_pattern-returns-in_err-part_verdict
check_pattern-returns-in_err-part_verdict t c = stopped_as c.from_residual.ensures.1 (stop c.loop.invariant c.loop-test.true (own_refused (rw (c.at-part.ensures.0, c.at-part.ensures.1) at c.in_err-part_verdict.ensures)))

pub check_pattern-at-part-requires : goal.check_pattern-at-part-requires
check_pattern-at-part-requires t c = (next_standing c.args.r.now.roomy c.loop.invariant c.loop-test.true c.requires).low

pub check_pattern-overflow_add-at : goal.check_pattern-overflow_add-at
check_pattern-overflow_add-at t c = omega (arith, (next_standing c.args.r.now.roomy c.loop.invariant c.loop-test.true c.requires).low)

pub check_pattern-overflow_sub-under : goal.check_pattern-overflow_sub-under
check_pattern-overflow_sub-under t c = omega (arith, (next_standing c.args.r.now.roomy c.loop.invariant c.loop-test.true c.requires).deep)

pub check_pattern-check_elements-requires : goal.check_pattern-check_elements-requires
check_pattern-check_elements-requires t c =
    let elements = as_elements c.args.r.now.roomy (rw (c.at-part.ensures.0, c.at-part.ensures.1) at c.in_ok-part_verdict.ensures) (rw (c.at-part.ensures.0, c.at-part.ensures.1) at c.count-elements.ensures.0) in
    let next = next_standing c.args.r.now.roomy c.loop.invariant c.loop-test.true c.requires in
    (omega (arith, next.deep), some_turned elements next.some)

pub check_pattern-returns-in_err-at : goal.check_pattern-returns-in_err-at
check_pattern-returns-in_err-at t c =
    let elements = as_elements c.args.r.now.roomy (rw (c.at-part.ensures.0, c.at-part.ensures.1) at c.in_ok-part_verdict.ensures) (rw (c.at-part.ensures.0, c.at-part.ensures.1) at c.count-elements.ensures.0) in
    stopped_as c.from_residual-in_err-at.ensures.1 (stop c.loop.invariant c.loop-test.true (walks_turned elements c.in_err-at.ensures))

pub check_pattern-loop-preserved : goal.check_pattern-loop-preserved
check_pattern-loop-preserved t c =
    let elements = as_elements c.args.r.now.roomy (rw (c.at-part.ensures.0, c.at-part.ensures.1) at c.in_ok-part_verdict.ensures) (rw (c.at-part.ensures.0, c.at-part.ensures.1) at c.count-elements.ensures.0) in
    again c.loop.invariant c.loop-test.true (walks_turned elements c.in_ok-at.ensures)

pub check_pattern-returns : goal.check_pattern-returns
check_pattern-returns t c = done c.loop.invariant c.loop-test.false
