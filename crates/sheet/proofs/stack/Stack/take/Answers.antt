-- `Stack::take` meets its contract: the topmost group has one record less, and is gone at none. Assumes nothing.
use Rattle.std.proofs.Common.{ap, ◌∙◌}
use Rattle.words.specs.Sorts.{sort_is, sort_at_is}
use Rattle.sheet.specs.Dues.{taken_last, taken_more}
use Rattle.sheet.proofs.stack.Stack.take.Goals as goal
use Rattle.sheet.proofs.stack.Stack.take.Goals.{then-count-eq1, else-count-eq1}

pub returns : goal.returns
returns c =
    let sort = ap (λ s. sort_is s) c.at-sort.ensures ∙ sort_at_is _ in
    rw sort (elim c.if-count-eq1.branch [ then-count-eq1 w ↦ rw w.self-is (taken_last c.requires c.args.self.now.stands w.if-count-eq1.true) | else-count-eq1 w ↦ rw w.self-is (taken_more c.requires c.args.self.now.stands w.if-count-eq1.false) ])
