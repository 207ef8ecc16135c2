-- Pairs at the limit of 2,048 operators: what the call with two sheets answers, by computation. Apart from the other examples, since they take seconds.
use Rattle.std.specs.Prelude.{◌≡◌, refl, ℕ, false, replicate, take}
use Rattle.model.specs.Text.{Bytes, bytes}
use Rattle.model.specs.Refusal.{plain_refusal}
use Rattle.model.specs.Call.{Outcome, work_words}
use Rattle.model.specs.Pair.{pair_call}
use Rattle.model.specs.PairExamples.{compute_pair}
use Rattle.limits.specs.Limits.{many_patterns}

unfoldable pub pair : Bytes → Bytes → Outcome
unfolding compute_pair
pair left right = pair_call (replicate 8 work_words) left right false (replicate 65536 255)

unfoldable pub begins : Outcome → ℕ × Bytes
begins o = (o.answer.number, take 12 o.slice)

-- 1,022 `pat 0` on the left make 2,046 operators, one node on the right another, and the `union` the last
pub pair_full : begins (pair (many_patterns 1022 "stmt\t1\t0\nreturn\t1\t0\t0\t0\t0\t0\t9\nitem\t-\nlist\t1022\n") (bytes "stmt\t1\t0\nmatch\t0\t1\t0\t9\npart\t-\t0\t1\nnode\t7\t0\t0\t0\t9\n")) ≡ (0, bytes "plan\t2048\t1\n")
unfolding compute_pair many_patterns pair begins
pair_full = refl

-- 511 `pat 0` on each side make 1,024 operators each: with the `union` one too many, and 9 is of no side
pub pair_overfull : pair (many_patterns 511 "stmt\t1\t0\nreturn\t1\t0\t0\t0\t0\t0\t9\nitem\t-\nlist\t511\n") (many_patterns 511 "stmt\t1\t0\nreturn\t1\t0\t0\t0\t0\t0\t9\nitem\t-\nlist\t511\n") ≡ record { answer = plain_refusal 9; slice = replicate 65536 255 }
unfolding compute_pair many_patterns pair
pair_overfull = refl
