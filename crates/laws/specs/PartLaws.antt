-- A part of a slice, as the code takes it and as the definitions write it. Assumes nothing.
use Rattle.std.specs.Prelude.{◌≡◌, ℕ, zero, suc, ◌-◌, List, [], ◌∷◌, take, drop}
use Rattle.std.proofs.Math.Nat.{sub-zero, zero-sub, suc-sub-suc}
use Rattle.std.proofs.Math.Seq.{slice, take-nil}

pub part_is : {A : Type 0} (f t : ℕ) (l : List A) → take (t - f) (drop f l) ≡ slice f t l
part_is zero t l = rw (sub-zero t)
part_is (suc f) zero l = rw (zero-sub (suc f))
part_is (suc f) (suc t) [] = rw (take-nil (suc t - suc f))
part_is (suc f) (suc t) (x ∷ l) = rw (suc-sub-suc t f) (part_is f t l)
