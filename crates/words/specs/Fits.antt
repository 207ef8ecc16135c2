-- Trees that are held end within the records that a sheet may have, and each has a record at least. Assumes nothing.
use Rattle.std.specs.Prelude.{ℕ, ◌+◌, ◌≤◌, ◌<◌, List}
use Rattle.std.proofs.Common.{arith}
use Rattle.model.specs.Text.{Bytes}
use Rattle.model.specs.Kind.{Sort}
use Rattle.model.specs.Record.{Group}
use Rattle.model.specs.Tree.{Tree, Trees, Forest, node, []ᵗ, ◌∷ᵗ◌, end, ◌▸◌}
use Rattle.words.specs.Words.{max_records}
use Rattle.words.specs.Held.{Held, HeldOf, HeldIn, size, size_of, size_in, room_in, total}

module _ (sheet : Bytes) (a b : List ℕ) where
  mutual
    unfolding Held size

    pub tree_fits : {s : Sort} (t : Tree s) (d i : ℕ) → Held sheet a b t d i → (i < i + size t) × (i + size t ≤ max_records)
    tree_fits (node s line k f kids) d i h =
        let l = h.1.low in
        let p = forest_fits kids (room_in s d) (i + 1) (omega arith) h.3 in
        (omega arith, omega arith)

    pub trees_fits : {s : Sort} {n : ℕ} (ts : Trees s n) (d i : ℕ) → i ≤ max_records → HeldOf sheet a b ts d i → (i + n ≤ i + size_of ts) × (i + size_of ts ≤ max_records)
    trees_fits []ᵗ d i l h = (omega arith, omega arith)
    trees_fits (t ∷ᵗ ts) d i l h =
        let p = tree_fits t d i h.0 in
        let q = trees_fits ts d (i + size t) p.1 h.1 in
        (omega arith, omega arith)

    pub forest_fits : {gs : List Group} (f : Forest gs) (d i : ℕ) → i ≤ max_records → HeldIn sheet a b f d i → (i + total gs ≤ i + size_in f) × (i + size_in f ≤ max_records)
    forest_fits end d i l h = (omega arith, omega arith)
    forest_fits (ts ▸ f) d i l h =
        let p = trees_fits ts d i l h.0 in
        let q = forest_fits f d (i + size_of ts) p.1 h.1 in
        (omega arith, omega arith)

  pub tree_low : {s : Sort} (t : Tree s) (d i : ℕ) → Held sheet a b t d i → i < max_records
  tree_low t d i h = let p = tree_fits t d i h in omega (arith, p.0, p.1)
