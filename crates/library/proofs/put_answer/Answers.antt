-- `put_answer` meets its contract: each value in its place. Assumes nothing.
use Rattle.std.specs.Prelude.{◌++◌, drop}
use Rattle.std.proofs.Common.{ap, ◌∙◌}
use Rattle.library.specs.Told.{answer_words}
use Rattle.library.proofs.put_answer.Goals as goal

pub returns : goal.returns
returns c = ap (λ w. w ++ drop answer_words c.args.answer.now) (c.copy_from_slice.ensures.after ∙ c.words.ensures)
