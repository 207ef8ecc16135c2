-- `push` meets its contract: the operator is stored, or only counted. Assumes nothing.
use mathlib.Core.Path.{refl}
use native.Mathlib.Omega.{arith}
use Rattle.std.proofs.lemmas.Grind.{common_steps}
use Rattle.context.specs.Tables.{op_at}
use Rattle.context.proofs.Storing
use Rattle.context.proofs.LowerCtx.push.Goals as goal

pub returns : goal.returns
unfolding op_at
returns c =
    record {
      count = refl;
      numbers = refl;
      mapped = refl;
      here = λ l. Storing.stored_here _ _ _ l c.requires.long;
      other = λ k l l'. grind (arith, common_steps);
    }
