-- `long_enough` meets its contract: a slice that is too short tells. Assumes nothing.
use Rattle.std.specs.Prelude.{not, ltb}
use Rattle.std.proofs.Common.{rules, sym, ap, ◌∙◌}
use Rattle.std.proofs.lemmas.Iterator.{YieldsList-from_slice}
use Rattle.std.proofs.lemmas.Iterator.Search.{any_from_yields_List}
use borrow.Author.Tests.{tests}
use Rattle.model.specs.Call.{work_words}
use Rattle.statement.specs.Sizing.{short_any, long_of}
use Rattle.statement.specs.Work.{sizes}
use Rattle.statement.proofs.work.long_enough.Goals as goal

pub returns : goal.returns
returns c =
    let works = sizes c.args.a.now c.args.b.now c.args.c.now c.args.d.now in
    let found = any_from_yields_List (λ n. ltb n work_words) _ _ c.any.result c.any.ensures.ran (YieldsList-from_slice works cc) (λ x b q k. search (rules, tests)) in
    long_of _ _ _ _ _ (ap not (found ∙ sym (short_any works)))
