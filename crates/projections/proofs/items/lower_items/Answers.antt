-- `projections::items::lower_items` meets its contract.
use Rattle.std.proofs.Common.{le_refl, arith}
use Rattle.lower.specs.Exprs
use Rattle.projections.proofs.items.lower_items.Goals as goal

pub lower_exprs-requires : goal.lower_exprs-requires
lower_exprs-requires c =
    record {
      tree = rw c.saturating_sub.ensures c.requires.items;
      room = Exprs.room_from (omega arith) (le_refl _) c.requires.room.here c.requires.room;
      depth = omega (arith, c.requires.depth);
      pass = c.requires.pass;
    }

pub returns-clause-lowered : goal.returns-clause-lowered
returns-clause-lowered c = rw c.saturating_sub.ensures at c.lower_exprs.ensures.lowered
