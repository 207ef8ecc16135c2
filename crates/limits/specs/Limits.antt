-- The two searches of document 01 at the limit of 2,048 operators: what the lowering call answers, by computation. Apart from the other examples, since they take seconds.
use Rattle.std.specs.Prelude.{◌≡◌, refl, ℕ, zero, suc, [], ◌++◌, replicate, take}
use Prim.Native.String.{String}
use Rattle.model.specs.Text.{Bytes, bytes}
use Rattle.model.specs.Refusal.{Answer, plain_refusal, accepted}
use Rattle.model.specs.Call.{Outcome, lower_call, work_words}
use Rattle.model.specs.Examples.{compute}

-- a lone return of a list of n `pat 0`
unfoldable pub patterns : ℕ → Bytes → Bytes
unfolding bytes
patterns zero s = s
patterns (suc n) s = bytes "pat\t0\n" ++ patterns n s

unfoldable pub many_patterns : ℕ → String → Bytes
unfolding bytes patterns
many_patterns n head = bytes head ++ patterns n []

-- the call with them: four work slices that are long enough, and a plan slice of 65,536 bytes
unfoldable pub call : Bytes → Outcome
unfolding compute
call sheet = lower_call (replicate 4 work_words) sheet (replicate 65536 255)

-- its answer, and as many bytes of the plan slice as the first line of a plan of 2,048 operators has
unfoldable pub answered : Outcome → Answer × Bytes
answered o = (o.answer, take 12 o.slice)

-- 1,023 of them are accepted, and the first line says 2,048 operators
pub full : answered (call (many_patterns 1023 "stmt\t1\t0\nreturn\t1\t0\t0\t0\t0\t0\t9\nitem\t-\nlist\t1023\n")) ≡ (accepted 49069, bytes "plan\t2048\t0\n")
unfolding compute many_patterns call answered
full = refl

-- 1,024 of them are refused with 9, and the plan slice is untouched
pub overfull : call (many_patterns 1024 "stmt\t1\t0\nreturn\t1\t0\t0\t0\t0\t0\t9\nitem\t-\nlist\t1024\n") ≡ record { answer = plain_refusal 9; slice = replicate 65536 255 }
unfolding compute many_patterns call
overfull = refl
