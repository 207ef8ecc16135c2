-- `line::kind::kind_named` meets its contract: the number that a keyword has among the kinds of the sort is that of the kind it names. Assumes nothing.
use Rattle.std.proofs.Common.{ap}
use native.Mathlib.Omega.{arith}
use Rattle.words.specs.Places.{statement_sort, union_arm_sort, clause_sort, projection_sort, order_item_sort, pattern_part_sort, pattern_element_sort, name_sort, yield_item_sort, entry_sort, expr_sort}
use Rattle.words.specs.Sorts.{sort_number}
use Rattle.line.specs.Kinds.{keyed, keyed_from}
use Rattle.line.proofs.KindLaws.{keyed_named}
use Rattle.line.proofs.kind.kind_named.Goals as goal

pub returns-in-Statement : goal.returns-in-Statement
unfolding keyed keyed_from
returns-in-Statement c s k = keyed_named statement_sort (ap (λ x. sort_number x) c.in-Statement.is) (omega arith) k c.only.ensures

pub returns-in-UnionArm : goal.returns-in-UnionArm
unfolding keyed keyed_from
returns-in-UnionArm c s k = keyed_named union_arm_sort (ap (λ x. sort_number x) c.in-UnionArm.is) (omega arith) k c.only-in-UnionArm.ensures

pub returns-in-Clause : goal.returns-in-Clause
unfolding keyed keyed_from
returns-in-Clause c s k = keyed_named clause_sort (ap (λ x. sort_number x) c.in-Clause.is) (omega arith) k c.clause_kind.ensures

pub returns-in-Projection : goal.returns-in-Projection
unfolding keyed keyed_from
returns-in-Projection c s k = keyed_named projection_sort (ap (λ x. sort_number x) c.in-Projection.is) (omega arith) k c.only-in-Projection.ensures

pub returns-in-OrderItem : goal.returns-in-OrderItem
unfolding keyed keyed_from
returns-in-OrderItem c s k = keyed_named order_item_sort (ap (λ x. sort_number x) c.in-OrderItem.is) (omega arith) k c.only-in-OrderItem.ensures

pub returns-in-PatternPart : goal.returns-in-PatternPart
unfolding keyed keyed_from
returns-in-PatternPart c s k = keyed_named pattern_part_sort (ap (λ x. sort_number x) c.in-PatternPart.is) (omega arith) k c.only-in-PatternPart.ensures

pub returns-in-PatternElement : goal.returns-in-PatternElement
unfolding keyed keyed_from
returns-in-PatternElement c s k = keyed_named pattern_element_sort (ap (λ x. sort_number x) c.in-PatternElement.is) (omega arith) k c.element_kind.ensures

pub returns-in-Name : goal.returns-in-Name
unfolding keyed keyed_from
returns-in-Name c s k = keyed_named name_sort (ap (λ x. sort_number x) c.in-Name.is) (omega arith) k c.only-in-Name.ensures

pub returns-in-YieldItem : goal.returns-in-YieldItem
unfolding keyed keyed_from
returns-in-YieldItem c s k = keyed_named yield_item_sort (ap (λ x. sort_number x) c.in-YieldItem.is) (omega arith) k c.only-in-YieldItem.ensures

pub returns-in-Entry : goal.returns-in-Entry
unfolding keyed keyed_from
returns-in-Entry c s k = keyed_named entry_sort (ap (λ x. sort_number x) c.in-Entry.is) (omega arith) k c.only-in-Entry.ensures

pub returns-in-Expr : goal.returns-in-Expr
unfolding keyed keyed_from
returns-in-Expr c s k = keyed_named expr_sort (ap (λ x. sort_number x) c.in-Expr.is) (omega arith) k c.expr_kind.ensures
