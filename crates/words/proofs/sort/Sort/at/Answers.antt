-- `words::sort::Sort::at` meets its contract. Assumes nothing.
use Rattle.std.proofs.lemmas.List.{get_or_past}
use Rattle.words.specs.LastLaws.{at_least}
use Rattle.words.specs.Sorts.{numbered, sort_at}
use Rattle.words.specs.declared.sort.Sort.TheVariants.{Expr}
use Rattle.words.proofs.sort.Sort.at.Goals as goal

pub returns-in_default : goal.returns-in_default
unfolding sort_at
returns-in_default c = rw (get_or_past numbered _ Expr (at_least _ 10 c.in_default.in_default-own.rest))
