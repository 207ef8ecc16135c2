-- `line::group::group_sort` meets its contract: an entry of the table. Assumes nothing.
use Rattle.std.proofs.Common.{ap, ◌∙◌}
use Rattle.words.specs.Sorts.{sort_is, sort_at_is}
use Rattle.words.specs.Table.{sort_of}
use Rattle.line.proofs.group.group_sort.Goals as goal

pub returns : goal.returns
returns c = ap (λ s. sort_is s) c.at.ensures ∙ sort_at_is _ ∙ ap (λ n. sort_of n) c.group_entry.ensures
