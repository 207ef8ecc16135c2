-- `record::number::decimal_at` meets its contract. Assumes nothing.
use native.Mathlib.Omega.{arith}
use mathlib.Core.Path.{sym}
use Rattle.record.proofs.PlaceLaws.{fed_in}
use Rattle.record.proofs.DecimalLaws.{decimal_none, decimal_zero, decimal_spare, decimal_over, first_fed, decimal_on}
use Rattle.record.proofs.GatherLaws.{value_byte}
use Rattle.record.proofs.number.decimal_at.Goals as goal

pub returns-in_err-d : goal.returns-in_err-d
returns-in_err-d c = rw c.from_residual.ensures (decimal_none _ (omega arith) _ _ c.args.c.fed (sym c.in_err-d.ensures))

pub overflow_cast-d : goal.overflow_cast-d
overflow_cast-d c = record { fits = omega (arith, value_byte _ _ (sym c.in_ok-d.ensures)) }

pub bounds-c-behind : goal.bounds-c-behind
bounds-c-behind c = fed_in _ _ (first_fed c.args.limit (omega arith) _ _ c.args.c.fed _ (sym c.in_ok-d.ensures))

pub returns-then-separates : goal.returns-then-separates
returns-then-separates c = decimal_zero _ (omega arith) _ _ c.args.c.fed _ (sym c.in_ok-d.ensures) c.if-d-eq0.true _ c.separates.ensures c.if-separates.true

pub returns-then-d-eq0 : goal.returns-then-d-eq0
returns-then-d-eq0 c = decimal_spare _ (omega arith) _ _ c.args.c.fed _ (sym c.in_ok-d.ensures) c.if-d-eq0.true _ c.separates.ensures c.if-separates.false

pub returns-then-limit-d : goal.returns-then-limit-d
returns-then-limit-d c = decimal_over _ (omega arith) _ _ c.args.c.fed _ (sym c.in_ok-d.ensures) c.if-d-eq0.false c.if-limit-d.true

pub invariant_of-gather_at : goal.invariant_of-gather_at
invariant_of-gather_at c = record { fed = first_fed c.args.limit (omega arith) _ _ c.args.c.fed _ (sym c.in_ok-d.ensures) }

pub returns : goal.returns
returns c = decimal_on _ (omega arith) _ _ c.args.c.fed _ (sym c.in_ok-d.ensures) c.if-d-eq0.false _ c.gather_at.ensures
