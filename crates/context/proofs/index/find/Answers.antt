-- `find` meets its contract. The loop's invariant: among the first k variables the id is found as among all. Assumes nothing.
use native.Mathlib.Omega.{arith}
use mathlib.Core.Path.{◌≡◌, sym, ap, ◌∙◌}
use Prim.Native.Nat.{ℕ}
use Rattle.context.proofs.Tree
use Rattle.context.proofs.Laws
use Rattle.context.proofs.index.find.Goals as goal

pub returns-then-vars-k : goal.returns-then-vars-k
returns-then-vars-k c = Laws.hit _ _ _ (λ (z : _ ≡ 0). absurd (omega (arith, z, c.loop-k-test.true))) c.if-vars-k.true ∙ sym c.loop-k.invariant.2

pub loop-k-preserved : goal.loop-k-preserved
loop-k-preserved c = (
  omega arith,
  Tree.late _ c.loop-k-test.true ∙ c.loop-k.invariant.1,
  c.loop-k.invariant.2 ∙ Laws.miss _ _ _ (λ (z : _ ≡ 0). absurd (omega (arith, z, c.loop-k-test.true))) c.if-vars-k.false,
)

pub find_indexed-requires : goal.find_indexed-requires
find_indexed-requires c = (omega arith, record { long = c.requires.1.long; index = Tree.index_late c.args.count c.min.result c.args.vars.now (omega arith) c.requires.1.index })

pub returns : goal.returns
returns c =
    let e : c.min.result ≡ c.loop-k.k = omega arith in
    c.find_indexed.ensures ∙ ap (λ (k : ℕ). Laws.from c.args.vars.now k c.args.id) e ∙ sym c.loop-k.invariant.2
