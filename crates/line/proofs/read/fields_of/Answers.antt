-- `line::read::fields_of` meets its contract: each kind's row, and that of no kind. Assumes nothing.
use Rattle.std.specs.Prelude.{refl, []}
use native.Mathlib.Omega.{arith}
use Rattle.std.proofs.lemmas.List.{get_or_past}
use Rattle.words.specs.LastLaws.{at_least}
use Rattle.words.specs.Table.{codes, forms_at, forms_from, forms_in}
use Rattle.line.proofs.read.fields_of.Goals as goal

pub returns-in_default : goal.returns-in_default
unfolding forms_at forms_from forms_in
returns-in_default c = rw (get_or_past codes _ [] (at_least _ 39 c.in_default.in_default-own.rest)) (refl, omega arith)
