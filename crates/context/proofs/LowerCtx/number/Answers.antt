-- `number` meets its contract: the number is issued over the variables' words and noted before them. Assumes nothing.
use mathlib.Core.Path.{refl}
use Rattle.context.proofs.Laws
use borrow.Author.Rules.{rules}
use Rattle.context.proofs.LowerCtx.number.Goals as goal

pub map_var-r-requires : goal.map_var-r-requires
map_var-r-requires c =
    record {
      met = c.requires.met;
      low = c.requires.low;
      held = record { long = search rules; index = Laws.index_part _ _ c.args.rest.now refl c.requires.index };
    }

pub returns : goal.returns
returns c = Laws.number_law _ _ _ _ _ _ _ _ c.requires.long refl c.map_var-r.ensures c.note.ensures
