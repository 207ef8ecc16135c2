-- `pair::write_pair` meets its contract. Assumes nothing.
use Rattle.std.proofs.Common.{refl}
use native.Mathlib.Omega.{arith}
use borrow.Author.Rules.{rules}
use Rattle.plan_writer.specs.Whole.{answer_of}
use Rattle.output.specs.Whole.{refuses, accepts}
use Rattle.plan_writer.proofs.pair.write_pair.Goals as goal

pub returns-then-bytes-long : goal.returns-then-bytes-long
unfolding answer_of
returns-then-bytes-long c = λ s h. refuses c.args.bytes.now _ (omega arith) (omega arith) (c.write_sheet.ensures s h) c.if-bytes-long.true

pub returns : goal.returns
unfolding answer_of
returns c = λ s h. accepts c.args.bytes.now _ (omega arith) (omega arith) (c.write_sheet.ensures s h) c.if-bytes-long.false refl (c.write_sheet-2.ensures s h) (search rules)
