-- `record::number::gather_at` meets its contract. The loop's invariant: the digits left, behind the number so far, give the whole answer. Assumes nothing.
use native.Mathlib.Omega.{arith}
use mathlib.Core.Path.{sym, ◌∙◌}
use Prim.Native.Nat.{◌+◌}
use Rattle.record.specs.Number.{digit_value}
use Rattle.record.specs.Place.{separates}
use Rattle.record.proofs.PlaceLaws.{behind_at}
use Rattle.record.proofs.GatherLaws.{value_byte, digits_over, digits_next, digits_end, digits_other}
use Rattle.record.proofs.number.gather_at.Goals as goal

pub overflow_add-v : goal.overflow_add-v
overflow_add-v c = omega (arith, c.loop-k.invariant.low, value_byte _ _ (sym c.in-Some.ensures))

pub returns-then-most-v : goal.returns-then-most-v
returns-then-most-v c = digits_over _ _ _ _ _ _ c.loop-k.invariant _ (behind_at digit_value _ _ _ c.loop-k.invariant.fed ∙ sym c.in-Some.ensures) (rw c.from-most.ensures at c.if-most-v.true)

pub loop-k-preserved : goal.loop-k-preserved
loop-k-preserved c = digits_next _ _ _ _ _ _ c.loop-k.invariant _ (behind_at digit_value _ _ _ c.loop-k.invariant.fed ∙ sym c.in-Some.ensures) (rw c.from-most.ensures at c.if-most-v.false)

pub returns-then-separates : goal.returns-then-separates
returns-then-separates c = digits_end _ _ _ _ _ _ c.loop-k.invariant _ (c.separates.ensures ∙ sym (behind_at separates _ _ _ c.loop-k.invariant.fed)) c.if-separates.true

pub returns-in_default : goal.returns-in_default
returns-in_default c =
    digits_other _ _ _ _ _ _ c.loop-k.invariant (behind_at digit_value _ _ _ c.loop-k.invariant.fed ∙ sym c.in_default.ensures) _
    (c.separates.ensures ∙ sym (behind_at separates _ _ _ c.loop-k.invariant.fed)) c.if-separates.false
