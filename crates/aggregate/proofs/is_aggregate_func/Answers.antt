-- `aggregate::is_aggregate_func` meets its contract. Assumes nothing.
use Rattle.aggregate.proofs.NameLaws.{named}
use Rattle.aggregate.proofs.EscapeLaws.{by_place}
use Rattle.laws.specs.PartLaws.{part_is}
use Rattle.model.specs.Text.{bytes, bytes_from}
use Rattle.model.specs.Lower.{aggregates}
use Rattle.std.proofs.Common.{◌∙◌}
use Rattle.std.proofs.Math.Seq.{slice}
use Rattle.aggregate.proofs.is_aggregate_func.Goals as goal

pub returns : goal.returns
unfolding aggregates bytes bytes_from
returns c = rw part_is at (c.is_one_of.ensures) ∙ named (slice c.args.from c.args.to c.args.sheet.now) ∙ by_place _ _ _ c.requires
