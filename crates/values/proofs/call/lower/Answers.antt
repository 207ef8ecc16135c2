-- `lower` meets its contract: the values of the call's answer. Assumes nothing.
use Rattle.values.proofs.Numbers.{with_values}
use mathlib.Core.Path.{ap}
use native.Mathlib.Omega.{arith}
use Rattle.model.specs.Refusal.{Answer}
use Rattle.statement.specs.Fits.{answer_fits}
use Rattle.values.proofs.call.lower.Goals as goal

pub returns : goal.returns
returns c =
    record {
      plan_after = with_values c.from.ensures c.lower_statement.ensures.plan_after;
      length_in_bounds = omega (arith, ap (λ (a : Answer). a.length) c.from.ensures, answer_fits _ _ _ _ _ c.lower_statement.ensures.plan_after);
      kept = c.lower_statement.ensures.kept;
    }
