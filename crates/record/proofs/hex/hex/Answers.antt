-- `record::hex::hex` meets its contract. Assumes nothing.
use native.Mathlib.Omega.{arith}
use mathlib.Core.Path.{refl, sym}
use Rattle.record.proofs.HexLaws.{hex_not, hex_of, hex_bad, hex_more, digit_low, room, grown}
use Rattle.record.proofs.hex.hex.Goals as goal

pub returns-then-s-ne-HEX_DIGITS : goal.returns-then-s-ne-HEX_DIGITS
returns-then-s-ne-HEX_DIGITS c = hex_not _ c.if-s-ne-HEX_DIGITS.true

pub returns-in_err-d : goal.returns-in_err-d
returns-in_err-d c = rw c.from_residual.ensures (hex_bad _ c.if-s-ne-HEX_DIGITS.false _ _ c.loop-b.invariant.1 c.loop-b-test.true (sym c.in_err-d.ensures))

pub overflow_mul-v : goal.overflow_mul-v
overflow_mul-v c = omega (arith, room c.loop-b.b-index c.loop-b.v (omega arith) c.loop-b.invariant.0)

pub overflow_add-v : goal.overflow_add-v
overflow_add-v c = omega (arith, room c.loop-b.b-index c.loop-b.v (omega arith) c.loop-b.invariant.0, digit_low _ _ (sym c.in_ok-d.ensures))

pub loop-b-preserved : goal.loop-b-preserved
loop-b-preserved c = (
  grown c.loop-b.b-index c.loop-b.v c.in_ok-d.d c.loop-b.invariant.0 (digit_low _ _ (sym c.in_ok-d.ensures)),
  hex_more _ c.if-s-ne-HEX_DIGITS.false _ _ c.loop-b.invariant.1 c.loop-b-test.true c.in_ok-d.d (sym c.in_ok-d.ensures),
)

pub returns : goal.returns
returns c = hex_of _ c.if-s-ne-HEX_DIGITS.false _ _ c.loop-b.invariant.1 c.loop-b-test.false
