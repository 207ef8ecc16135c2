-- How many records a tree has is the length of their list. Assumes nothing: lemmas with their proofs.
use Rattle.std.specs.Prelude.{ℕ, suc, ◌+◌, ◌≤◌, List, ◌≡◌, refl, length}
use Rattle.std.proofs.Common.{arith, sym, ap, ap₂, ◌∙◌, length-append}
use Rattle.model.specs.Kind.{Sort}
use Rattle.model.specs.Record.{Group}
use Rattle.model.specs.Tree.{Tree, Trees, Forest, node, []ᵗ, ◌∷ᵗ◌, end, ◌▸◌, records, records_of, records_in}
unfoldable pub use Rattle.model.specs.Tree.{size, size_of, size_in}

pub size_of_pos : {s : Sort} {n : ℕ} (t : Tree s) (ts : Trees s n) → 1 ≤ size_of (t ∷ᵗ ts)
unfolding size
size_of_pos (node s line k f kids) ts = omega arith

-- it is the count of the records
mutual
  unfolding size records

  pub size_records : {s : Sort} (t : Tree s) → size t ≡ length (records t)
  size_records (node s line k f kids) = ap suc (size_records_in kids)

  pub size_records_of : {s : Sort} {n : ℕ} (ts : Trees s n) → size_of ts ≡ length (records_of ts)
  size_records_of []ᵗ = refl
  size_records_of (t ∷ᵗ ts) = ap₂ (λ a b. a + b) (size_records t) (size_records_of ts) ∙ sym (length-append (records t) (records_of ts))

  pub size_records_in : {gs : List Group} (f : Forest gs) → size_in f ≡ length (records_in f)
  size_records_in end = refl
  size_records_in (ts ▸ f) = ap₂ (λ a b. a + b) (size_records_of ts) (size_records_in f) ∙ sym (length-append (records_of ts) (records_in f))
