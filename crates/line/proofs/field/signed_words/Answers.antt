-- `line::field::signed_words` meets its contract. Assumes nothing.
use Rattle.line.proofs.SignedLaws.{below_words, above_words}
use Rattle.line.proofs.field.signed_words.Goals as goal

pub returns-then-v-lt0 : goal.returns-then-v-lt0
returns-then-v-lt0 c = below_words _ c.ranges.v _ c.unsigned_abs.ensures.value c.if-v-lt0.true _ c.halves.ensures

pub returns : goal.returns
returns c = above_words _ c.ranges.v _ c.unsigned_abs-2.ensures.value c.if-v-lt0.false _ c.halves-2.ensures
