-- A tree whose records stand in the words is held by them, once its lines are numbered. Assumes nothing.
use Rattle.std.specs.Prelude.{◌≡◌, refl, ℕ, suc, ◌+◌, ◌-◌, ◌<◌, ◌≤◌, Bool, true, false, cond, List, [], ◌∷◌, ◌++◌, length}
use Rattle.std.proofs.Common.{ap, add-zero, arith, length-append}
use Rattle.model.specs.Text.{Bytes}
use Rattle.model.specs.Kind.{Sort}
use Rattle.model.specs.Record.{Rec, Group, beside}
use Rattle.model.specs.Tree.{Tree, Trees, Forest, node, []ᵗ, ◌∷ᵗ◌, end, ◌▸◌, records, records_of, records_in}
use Rattle.words.specs.Held.{RecordAt, room_in, size, size_of, size_in, Held, HeldOf, HeldIn}
use Rattle.laws.specs.TreeLaws.{level, depth, depth_of, depth_in, numbered, numbered_of, numbered_in}

add_suc_one : (i n : ℕ) → i + suc n ≡ i + 1 + n
add_suc_one i n = omega arith

-- records one after another from record i on
module _ (sheet : Bytes) (a b : List ℕ) where
  abbrev pub Standing : ℕ → List Rec → Type 0
  Standing i [] = Unit {0}
  Standing i (r ∷ rs) = RecordAt sheet a b i r.sort r.kind r.fields × Standing (i + 1) rs

  pub standing_first : (rs ss : List Rec) (i : ℕ) → Standing i (rs ++ ss) → Standing i rs
  standing_first [] ss i h = tt
  standing_first (r ∷ rs) ss i h = (h.0, standing_first rs ss (i + 1) h.1)

  pub standing_rest : (rs ss : List Rec) (i : ℕ) → Standing i (rs ++ ss) → Standing (i + length rs) ss
  standing_rest [] ss i h = rw (add-zero i) h
  standing_rest (r ∷ rs) ss i h = rw (add_suc_one i (length rs)) (standing_rest rs ss (i + 1) h.1)

  pub standing_both : (rs ss : List Rec) (i : ℕ) → Standing i rs → Standing (i + length rs) ss → Standing i (rs ++ ss)
  standing_both [] ss i h g = rw (add-zero i) at g
  standing_both (r ∷ rs) ss i h g = (h.0, standing_both rs ss (i + 1) h.1 (rw (add_suc_one i (length rs)) at g))

-- ── sizes ──

mutual
  unfolding size records numbered

  pub size_records : {s : Sort} (t : Tree s) (n : ℕ) → size (numbered t n) ≡ length (records t)
  size_records (node s line k f kids) n = ap (λ m. suc m) (size_records_in kids (suc n))

  pub size_records_of : {s : Sort} {m : ℕ} (ts : Trees s m) (n : ℕ) → size_of (numbered_of ts n) ≡ length (records_of ts)
  size_records_of []ᵗ n = refl
  size_records_of (t ∷ᵗ ts) n = rw (length-append (records t) (records_of ts), size_records t n, size_records_of ts (n + length (records t)))

  pub size_records_in : {gs : List Group} (f : Forest gs) (n : ℕ) → size_in (numbered_in f n) ≡ length (records_in f)
  size_records_in end n = refl
  size_records_in (ts ▸ f) n = rw (length-append (records_of ts) (records_in f), size_records_of ts n, size_records_in f (n + length (records_of ts)))

-- ── held ──

room_below_law : (b : Bool) (m d : ℕ) → level b m ≤ d → m ≤ cond b d (d - 1)
unfolding level
room_below_law true m d h = omega arith
room_below_law false m d h = omega arith

positive : (b : Bool) (m d : ℕ) → level b m ≤ d → 0 < d
unfolding level
positive true m d h = omega arith
positive false m d h = omega arith

module _ (sheet : Bytes) (a b : List ℕ) where
  mutual
    unfolding Held depth records numbered

    pub stands_held : {s : Sort} (t : Tree s) (d i : ℕ) → depth t ≤ d → Standing sheet a b i (records t) → Held sheet a b (numbered t (suc i)) d i
    stands_held (node s line k f kids) d i h g = (refl, g.0, positive (beside s) (depth_in kids) d h, stands_held_in kids (room_in s d) (i + 1) (suc (suc i)) (omega arith) (room_below_law (beside s) (depth_in kids) d h) g.1)

    pub stands_held_of : {s : Sort} {m : ℕ} (ts : Trees s m) (d i n : ℕ) → n ≡ suc i → depth_of ts ≤ d → Standing sheet a b i (records_of ts) → HeldOf sheet a b (numbered_of ts n) d i
    stands_held_of []ᵗ d i n e h g = tt
    stands_held_of (t ∷ᵗ ts) d i n e h g = (
      rw e (stands_held t d i (omega arith) (standing_first sheet a b (records t) (records_of ts) i g)),
      rw (size_records t n) (stands_held_of ts d (i + length (records t)) (n + length (records t)) (omega arith) (omega arith) (standing_rest sheet a b (records t) (records_of ts) i g)),
    )

    pub stands_held_in : {gs : List Group} (f : Forest gs) (d i n : ℕ) → n ≡ suc i → depth_in f ≤ d → Standing sheet a b i (records_in f) → HeldIn sheet a b (numbered_in f n) d i
    stands_held_in end d i n e h g = tt
    stands_held_in (ts ▸ f) d i n e h g = (
      stands_held_of ts d i n e (omega arith) (standing_first sheet a b (records_of ts) (records_in f) i g),
      rw (size_records_of ts n) (stands_held_in f d (i + length (records_of ts)) (n + length (records_of ts)) (omega arith) (omega arith) (standing_rest sheet a b (records_of ts) (records_in f) i g)),
    )
