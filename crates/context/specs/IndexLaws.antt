-- What a caller knows of the variables' index without its definition. Assumes nothing.
use Rattle.std.specs.Prelude.{List, ℕ}
use Rattle.std.proofs.Common.{arith}
use Rattle.context.specs.Tables.{Indexed}

-- no words need to be cleared before the first variable
pub none_indexed : (vs : List ℕ) → Indexed 0 vs
none_indexed vs = record { leads = λ j l. absurd (omega arith); later = λ j rest q l e. absurd (omega arith) }
