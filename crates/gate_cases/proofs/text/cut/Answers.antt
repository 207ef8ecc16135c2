-- `cut` meets its contract: the first place of the byte, and what stands on its two sides. Assumes nothing.
use Rattle.std.specs.Prelude.{◌==◌}
use Rattle.std.proofs.Common.{rules}
use Rattle.std.proofs.lemmas.Iterator.{YieldsList-from_slice}
use Rattle.std.proofs.lemmas.Iterator.Search.{position_from_yields_List}
use borrow.Author.Tests.{tests}
use Rattle.gate_cases.proofs.Sheets.{none_given, not_cut, cut_at}
use Rattle.gate_cases.proofs.text.cut.Goals as goal

pub returns-in_err-n-clause-cases : goal.returns-in_err-n-clause-cases
returns-in_err-n-clause-cases c = none_given _ _ c.from_residual.ensures (not_cut _ _ c.position.result (position_from_yields_List (λ x. x == c.args.byte) _ _ c.position.result c.position.ensures.ran (YieldsList-from_slice c.args.text.now c.iter.ensures.rest) (λ x b q k. search (rules, tests))) c.in_err-n.was)

pub returns-clause-cases : goal.returns-clause-cases
returns-clause-cases c = cut_at _ _ c.position.result (position_from_yields_List (λ x. x == c.args.byte) _ _ c.position.result c.position.ensures.ran (YieldsList-from_slice c.args.text.now c.iter.ensures.rest) (λ x b q k. search (rules, tests))) c.in_ok-n.n c.in_ok-n.was
