-- The measures of the cycle and the invariants of its loops.
use Rattle.lower.specs.Exprs
use Rattle.lower.proofs.Links
use Rattle.lower.proofs.Parts
use Prim.Native.Nat.{◌+◌, ◌*◌, ◌-◌}
use Rattle.lower.specs.Chains.{LowersElements}
use Rattle.lower.specs.Pieces.{LowersExprs}
use Rattle.lower.specs.Rep.{mem}
use Rattle.context.specs.Lent.{SameTables}
use Rattle.lower.proofs.+lowering.Given as goal

abbrev pub decreases-expand_to : goal.decreases-expand_to
decreases-expand_to l = 8 * l.ch.at.left + 2

abbrev pub decreases-lower_chain : goal.decreases-lower_chain
decreases-lower_chain l = 8 * l.at.left + 1

abbrev pub decreases-lower_element : goal.decreases-lower_element
decreases-lower_element l = 8 * l.ch.at.left + 3

abbrev pub decreases-lower_elements : goal.decreases-lower_elements
decreases-lower_elements l = 8 * l.at.left + 4

abbrev pub decreases-lower_expr : goal.decreases-lower_expr
decreases-lower_expr l = 8 * l.at.left

abbrev pub decreases-lower_exprs : goal.decreases-lower_exprs
decreases-lower_exprs l = 8 * l.at.left + 1

abbrev pub decreases-lower_parts : goal.decreases-lower_parts
decreases-lower_parts l = 8 * l.at.left + 3

abbrev pub decreases-lower_pattern_part : goal.decreases-lower_pattern_part
decreases-lower_pattern_part l = 8 * l.at.left + 2

abbrev pub decreases-lower_rel_element : goal.decreases-lower_rel_element
decreases-lower_rel_element l = 8 * l.at.left + 1

abbrev pub decreases-lower_shortest_path_part : goal.decreases-lower_shortest_path_part
decreases-lower_shortest_path_part l = 8 * l.at.left + 1

abbrev pub decreases-start_chain : goal.decreases-start_chain
decreases-start_chain l = 8 * l.ch.at.left + 2

abbrev pub decreases-start_node : goal.decreases-start_node
decreases-start_node l = 8 * l.at.left + 1

abbrev pub invariant-lower_elements-loop : goal.invariant-lower_elements-loop
invariant-lower_elements-loop l = Links.Remaining l.r.a.now l.r.b.now l.fn.at.left l.fn.at.base (λ ch' os' rs'. LowersElements l.r.a.now l.r.b.now l.n l.fn.at.left l.fn.at.base l.initial.ch ch' l.initial.tables.ops.now os' l.initial.tables.rest.now rs') (l.n - l.counter) l.ch l.tables.ops.now l.tables.rest.now × SameTables l.initial.tables l.tables

abbrev pub invariant-lower_exprs-loop : goal.invariant-lower_exprs-loop
invariant-lower_exprs-loop l = Exprs.Remaining l.r.a.now l.r.b.now l.gap l.at.left l.at.base (λ e m'. LowersExprs l.r.a.now l.r.b.now l.n l.gap l.at.left l.at.base l.at.i e (mem l.initial.cur.ctx l.initial.tables.ops.now l.initial.tables.rest.now) m') (l.n - l.counter) l.cur.next (mem l.cur.ctx l.tables.ops.now l.tables.rest.now) × SameTables l.initial.tables l.tables

abbrev pub invariant-lower_parts-loop : goal.invariant-lower_parts-loop
invariant-lower_parts-loop l =
    Parts.Remaining l.r.a.now l.r.b.now l.at.left l.at.base
    (λ e k m'. Parts.LowersFurther l.r.a.now l.r.b.now (l.n - 1) l.at.left l.at.base l.initial.cur.next e l.initial.cur.op k (mem l.initial.cur.ctx l.initial.tables.ops.now l.initial.tables.rest.now) m')
    (l.n - l.counter) l.cur.next l.cur.op (mem l.cur.ctx l.tables.ops.now l.tables.rest.now) × SameTables l.initial.tables l.tables
