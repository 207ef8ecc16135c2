-- What a tree has beside its records: how deep it is, and its line numbers; other numbers leave records and depth as they are. Assumes nothing: each law is proved.
use Rattle.std.specs.Prelude.{◌≡◌, refl, Bool, true, false, List, ◌∷◌, ◌++◌, ℕ, suc, ◌+◌, ◌≤◌, pred, max, length}
use Rattle.std.proofs.Common.{ap, ap₂, arith}
use Rattle.model.specs.Kind.{Sort}
use Rattle.model.specs.Record.{rec, Group, beside}
use Rattle.model.specs.Tree.{Tree, Trees, Forest, node, []ᵗ, ◌∷ᵗ◌, end, ◌▸◌, records, records_of, records_in}

-- ── depth ──

-- how deep a record is whose children are m deep: one deeper, but a map's key is as deep as the expression beside it
unfoldable pub level : (beside : Bool) → ℕ → ℕ
level true m = suc (pred m)
level false m = suc m

-- how deep the children of a record may be that may be suc d deep
unfoldable pub below : (beside : Bool) → ℕ → ℕ
below true d = suc d
below false d = d

unfoldable mutual
  pub depth : {s : Sort} → Tree s → ℕ
  depth (node s line k f kids) = level (beside s) (depth_in kids)

  pub depth_of : {s : Sort} {n : ℕ} → Trees s n → ℕ
  depth_of []ᵗ = 0
  depth_of (t ∷ᵗ ts) = max (depth t) (depth_of ts)

  pub depth_in : {gs : List Group} → Forest gs → ℕ
  depth_in end = 0
  depth_in (ts ▸ f) = max (depth_of ts) (depth_in f)

pub level_mono : (b : Bool) (m e : ℕ) → m ≤ e → level b m ≤ level b e
unfolding level
level_mono true m e h = omega arith
level_mono false m e h = omega arith

pub level_up : (b : Bool) (e : ℕ) → level b e ≤ suc e
unfolding level
level_up true e = omega arith
level_up false e = omega arith

pub level_beside : (d : ℕ) → level true (suc d) ≤ suc d
unfolding level
level_beside d = omega arith

pub level_below : (b : Bool) (m d : ℕ) → level b m ≤ suc d → m ≤ below b d
unfolding level below
level_below true m d h = omega arith
level_below false m d h = omega arith

-- no tree has depth 0
pub level_positive : (b : Bool) (m : ℕ) → level b m ≤ 0 → ⊥
unfolding level
level_positive true m h = omega arith
level_positive false m h = omega arith

-- ── line numbers ──

-- the tree with its lines numbered from n on, in sheet order
unfoldable mutual
  pub numbered : {s : Sort} → Tree s → ℕ → Tree s
  numbered (node s line k f kids) n = node s n k f (numbered_in kids (suc n))

  pub numbered_of : {s : Sort} {m : ℕ} → Trees s m → ℕ → Trees s m
  numbered_of []ᵗ n = []ᵗ
  numbered_of (t ∷ᵗ ts) n = numbered t n ∷ᵗ numbered_of ts (n + length (records t))

  pub numbered_in : {gs : List Group} → Forest gs → ℕ → Forest gs
  numbered_in end n = end
  numbered_in (ts ▸ f) n = numbered_of ts n ▸ numbered_in f (n + length (records_of ts))

mutual
  unfolding records numbered

  pub records_numbered : {s : Sort} (t : Tree s) (n : ℕ) → records (numbered t n) ≡ records t
  records_numbered (node s line k f kids) n = ap (λ rs. rec s k f ∷ rs) (records_numbered_in kids (suc n))

  pub records_numbered_of : {s : Sort} {m : ℕ} (ts : Trees s m) (n : ℕ) → records_of (numbered_of ts n) ≡ records_of ts
  records_numbered_of []ᵗ n = refl
  records_numbered_of (t ∷ᵗ ts) n = ap₂ (λ a b. a ++ b) (records_numbered t n) (records_numbered_of ts (n + length (records t)))

  pub records_numbered_in : {gs : List Group} (f : Forest gs) (n : ℕ) → records_in (numbered_in f n) ≡ records_in f
  records_numbered_in end n = refl
  records_numbered_in (ts ▸ f) n = ap₂ (λ a b. a ++ b) (records_numbered_of ts n) (records_numbered_in f (n + length (records_of ts)))

mutual
  unfolding depth numbered

  pub depth_numbered : {s : Sort} (t : Tree s) (n : ℕ) → depth (numbered t n) ≡ depth t
  depth_numbered (node s line k f kids) n = ap (λ m. level (beside s) m) (depth_numbered_in kids (suc n))

  pub depth_numbered_of : {s : Sort} {m : ℕ} (ts : Trees s m) (n : ℕ) → depth_of (numbered_of ts n) ≡ depth_of ts
  depth_numbered_of []ᵗ n = refl
  depth_numbered_of (t ∷ᵗ ts) n = ap₂ (λ a b. max a b) (depth_numbered t n) (depth_numbered_of ts (n + length (records t)))

  pub depth_numbered_in : {gs : List Group} (f : Forest gs) (n : ℕ) → depth_in (numbered_in f n) ≡ depth_in f
  depth_numbered_in end n = refl
  depth_numbered_in (ts ▸ f) n = ap₂ (λ a b. max a b) (depth_numbered_of ts n) (depth_numbered_in f (n + length (records_of ts)))
