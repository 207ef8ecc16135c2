-- A sheet that the tests 3 to 5 refuse for a write was read, as a tree whose first write is there: a reading refuses with a line that is no record, or one too many, and with nothing else. Assumes nothing: these are laws with their proofs.
use Rattle.std.specs.Prelude.{◌≡◌, refl, ℕ, Option, None, Some}
use Rattle.std.proofs.Common.{arith}
use Rattle.model.specs.Text.{Bytes}
use Rattle.model.specs.Kind.{statement}
use Rattle.model.specs.Tree.{Tree}
use Rattle.model.specs.Refusal.{Refusal}
use Rattle.model.specs.Sheet.{Reading, read_sheet, first_write}
use Rattle.model.specs.Call.{refuse, pass, then, test_reading, test_write}
use Rattle.demands.specs.Reader.{Numbered, read, three, four, sheet_numbered}

-- a tree was read, and its first write is on this line
pub record WriteFound (r : Reading (Tree statement)) (line : ℕ) : Type 0 where
  pub tree : Tree statement
  pub reads : test_reading r ≡ pass tree
  pub first : first_write tree ≡ Some line

written : (t : Tree statement) (o : Option ℕ) (line : ℕ) → test_write t o ≡ refuse (Refusal.WriteClause line) → o ≡ Some line
unfolding test_write
written t None line e = let z : ◌≡◌ {A = ℕ} 0 1 = cc in absurd (omega arith)
written t (Some k) line e = let z : k ≡ line = cc in rw z

found : {r : Reading (Tree statement)} (line : ℕ) → Numbered r → then (test_reading r) (λ t. test_write t (first_write t)) ≡ refuse (Refusal.WriteClause line) → WriteFound r line
unfolding then test_reading
found line (read {a = t} l) e = record { tree = t; reads = refl; first = written t (first_write t) line e }
found line (three l) e = let z : ◌≡◌ {A = ℕ} 0 1 = cc in absurd (omega arith)
found line (four l) e = let z : ◌≡◌ {A = ℕ} 0 1 = cc in absurd (omega arith)

pub write_found : (depth : ℕ) (sheet : Bytes) (line : ℕ) → then (test_reading (read_sheet depth sheet)) (λ t. test_write t (first_write t)) ≡ refuse (Refusal.WriteClause line) → WriteFound (read_sheet depth sheet) line
write_found depth sheet line e = found line (sheet_numbered depth sheet) e
