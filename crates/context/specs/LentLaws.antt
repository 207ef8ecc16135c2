-- Tables that are lent on, one call after another. Assumes nothing.
use Rattle.std.proofs.Common.{refl, ◌∙◌}
use Rattle.context.specs.declared.Tables.{Tables}
use Rattle.context.specs.Lent.{SameTables}

pub same_refl : {t : Tables} → SameTables t t
same_refl = record { ops = refl; rest = refl; in_ops = refl; in_rest = refl }

pub same_then : {t u v : Tables} → SameTables t u → SameTables u v → SameTables t v
same_then p q = record { ops = q.ops ∙ p.ops; rest = q.rest ∙ p.rest; in_ops = q.in_ops ∙ p.in_ops; in_rest = q.in_rest ∙ p.in_rest }
