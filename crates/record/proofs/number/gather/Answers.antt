-- `record::number::gather` meets its contract. Assumes nothing.
use native.Mathlib.Omega.{arith}
use mathlib.Core.Path.{◌≡◌, refl, sym}
use Prim.Native.Nat.{◌+◌, ◌*◌}
use Rattle.record.proofs.GatherLaws.{gathered, stuck, on, over}
use Rattle.record.proofs.number.gather.Goals as goal

pub returns-in_err-d : goal.returns-in_err-d
returns-in_err-d c = rw c.from_residual.ensures (stuck _ _ _ _ _ c.loop-b.invariant.1 c.loop-b-test.true (sym c.in_err-d.ensures))

pub returns-in_err-tens : goal.returns-in_err-tens
returns-in_err-tens c =
    rw c.from_residual-in_err-tens.ensures
    (over _ _ _ _ _ c.loop-b.invariant.1 c.loop-b-test.true c.in_ok-d.d (sym c.in_ok-d.ensures) (omega (arith, c.in_err-tens.ensures)))

pub returns-in_err-v : goal.returns-in_err-v
returns-in_err-v c =
    rw c.from_residual-in_err-v.ensures
    (over _ _ _ _ _ c.loop-b.invariant.1 c.loop-b-test.true c.in_ok-d.d (sym c.in_ok-d.ensures) (omega (arith, c.in_ok-tens.ensures, c.in_err-v.ensures)))

pub returns-then-limit-v : goal.returns-then-limit-v
returns-then-limit-v c = over _ _ _ _ _ c.loop-b.invariant.1 c.loop-b-test.true c.in_ok-d.d (sym c.in_ok-d.ensures) (omega (arith, c.in_ok-tens.ensures, c.in_ok-v.ensures))

pub loop-b-preserved : goal.loop-b-preserved
loop-b-preserved c =
    let e : c.in_ok-v.v ≡ c.loop-b.v * 10 + c.in_ok-d.d = omega (arith, c.in_ok-tens.ensures, c.in_ok-v.ensures) in
    (c.if-limit-v.false, rw e (on _ _ _ _ _ c.loop-b.invariant.1 c.loop-b-test.true c.in_ok-d.d (sym c.in_ok-d.ensures)))

pub returns : goal.returns
returns c = gathered _ _ _ _ _ c.loop-b.invariant.1 c.loop-b-test.false c.loop-b.invariant.0
