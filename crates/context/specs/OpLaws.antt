-- What a caller knows of operators that are made and pushed. Assumes nothing.
use Rattle.std.specs.Prelude.{◌≡◌, ℕ, ◌≤◌, ◌<◌, List, Option, None, Some}
use Rattle.std.proofs.Common.{arith}
use Rattle.std.proofs.lemmas.Option.{same_Some}
use Rattle.context.specs.declared.LowerCtx.{LowerCtx}
use Rattle.context.specs.declared.op.Op.{Op}
use Rattle.context.specs.Ops.{Under}
use Rattle.context.specs.Tables.{Pushed}

-- what is pushed is what its constructor says
pub pushed_as : {c r : LowerCtx} {o o' : List ℕ} {x y : Op} → x ≡ y → Pushed c r o o' x → Pushed c r o o' y
pushed_as e p = rw e at p

pub under_none : {n : ℕ} → Under None n
under_none = record { op = λ k e. cc }

pub under_some : {k n : ℕ} → k < n → Under (Some k) n
under_some {k} l = record { op = λ j e. let z : k ≡ j = same_Some _ _ e in omega arith }

pub under_more : {b : Option ℕ} {n m : ℕ} → n ≤ m → Under b n → Under b m
under_more l u = record { op = λ k e. let h = u.op k e in omega arith }
