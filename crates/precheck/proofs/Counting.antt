-- An expression has one group of children at most. Assumes nothing.
use mathlib.Core.Path.{◌≡◌, refl}
use native.Mathlib.Omega.{arith}
use Rattle.model.specs.Field.{Fields}
use Rattle.model.specs.Kind.{Expr}
use Rattle.model.specs.Record.{expr_forms, expr_children}
use Rattle.words.specs.Held.{total}
use Rattle.precheck.specs.Stands.{count_of}

pub one_group : (k : Expr) (f : Fields (expr_forms k)) → total (expr_children k f) ≡ count_of (expr_children k f)
one_group (Expr.Over h) f = omega arith
one_group Expr.Var f = refl
one_group Expr.Map f = omega arith
one_group Expr.Call f = omega arith
one_group Expr.PatternPredicate f = omega arith
one_group Expr.ListPredicate f = omega arith
one_group Expr.Unresolved f = refl
one_group Expr.Undesugared f = refl
