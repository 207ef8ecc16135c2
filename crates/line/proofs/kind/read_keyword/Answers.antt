-- `line::kind::read_keyword` meets its contract. Assumes nothing.
use Prim.Native.Nat.{◌+◌}
use mathlib.Core.Path.{◌≡◌}
use native.Mathlib.Omega.{arith}
use Rattle.record.proofs.PlaceLaws.{fed_in}
use Rattle.line.proofs.PackLaws.{pack_none, pack_room, pack_more, pack_behind, pack_done}
use Rattle.line.proofs.kind.read_keyword.Goals as goal

pub loop-k-init : goal.loop-k-init
loop-k-init c = let e : c.args.c.at + 0 ≡ c.args.c.at = omega arith in rw e (pack_none _ _ c.args.c.fed)

pub bounds-c-i : goal.bounds-c-i
bounds-c-i c = fed_in _ _ c.loop-k.invariant.pass.fed

pub returns-then-separates : goal.returns-then-separates
returns-then-separates c = pack_done _ _ _ _ c.loop-k.invariant _ c.separates.ensures c.if-separates.true

pub bounds-c-i-in-loop-k : goal.bounds-c-i-in-loop-k
bounds-c-i-in-loop-k c = fed_in _ _ c.loop-k.invariant.pass.fed

pub overflow_mul-v : goal.overflow_mul-v
overflow_mul-v c = omega (arith, pack_room _ _ _ _ c.loop-k.invariant _ c.separates.ensures c.if-separates.false (omega arith))

pub overflow_add-v : goal.overflow_add-v
overflow_add-v c = omega (arith, pack_room _ _ _ _ c.loop-k.invariant _ c.separates.ensures c.if-separates.false (omega arith))

pub loop-k-preserved : goal.loop-k-preserved
loop-k-preserved c =
    let on : c.args.c.at + (c.loop-k.k + 1) ≡ c.args.c.at + c.loop-k.k + 1 = omega arith in
    rw on (pack_more _ _ _ _ c.loop-k.invariant _ c.separates.ensures c.if-separates.false (omega arith) _ c.from-b.ensures (omega arith))

pub invariant_of-piece_end : goal.invariant_of-piece_end
invariant_of-piece_end c = let seven : c.args.c.at + 7 ≡ c.args.c.at + c.loop-k.k = omega arith in record { fed = rw seven c.loop-k.invariant.pass.fed }

pub returns : goal.returns
returns c = pack_behind _ _ _ _ c.loop-k.invariant (omega arith) _ c.piece_end-end.ensures _ c.then_some.ensures
