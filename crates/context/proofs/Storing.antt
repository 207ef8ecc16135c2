-- The words of an operator stand where they were stored. Assumes nothing.
use mathlib.Core.Path.{◌≡◌}
use mathlib.Core.List.{List}
use Prim.Native.Nat.{ℕ, ◌*◌, ◌-◌, ◌≤◌, ◌<◌}
use native.Mathlib.Omega.{arith}
use lib.ListN.{length, take, drop, set}
use borrow.Rule.Slice.PartMut.{put_mid}
use Rattle.std.proofs.lemmas.Grind.{common_steps}
use Rattle.model.specs.Call.{work_words}
use Rattle.context.specs.declared.op.Op.{Op}
use Rattle.context.specs.Tables.{op_at, max_stored, op_words, kind_word, idx_word, input_word, x_word, y_word, left_word, base_word}

-- the part of a table from operator k on
abbrev part : List ℕ → ℕ → List ℕ
part o k = take (length o - k * op_words) (drop (k * op_words) o)

pub stored_here : (o : List ℕ) (k : ℕ) (x : Op) → k < max_stored → work_words ≤ length o →
    op_at (put_mid (k * op_words) (length o - k * op_words) o (set (set (set (set (set (set (set (part o k) kind_word x.kind) idx_word x.idx) input_word x.input) x_word x.x) y_word x.y) left_word x.left) base_word x.base)) k ≡ x
unfolding op_at
stored_here o k x h l = grind (arith, common_steps)
