-- The tree: a record with its line and its children, as the record table has them. So a tree of sort `statement` is a Statement of cyrs-hir, with its counts and sorts right by its type, and a line number at each record. Assumes nothing: these are definitions.
use Rattle.std.specs.Prelude.{ℕ, zero, suc, ◌+◌, List, [], ◌∷◌, ◌++◌}
use Rattle.model.specs.Field.{Fields}
use Rattle.model.specs.Kind.{Sort, Kind}
use Rattle.model.specs.Record.{Rec, rec, forms, children, Group}

mutual
  pub data Tree : Sort → Type 0 where
    node : (s : Sort) (line : ℕ) (k : Kind s) (f : Fields (forms s k)) → Forest (children s k f) → Tree s

  -- a group of n children
  pub data Trees : Sort → ℕ → Type 0 where
    []ᵗ : {s : Sort} → Trees s zero
    ◌∷ᵗ◌ : {s : Sort} {n : ℕ} → Tree s → Trees s n → Trees s (suc n)

  -- a record's groups, one after another
  pub data Forest : List Group → Type 0 where
    end : Forest []
    ◌▸◌ : {s : Sort} {n : ℕ} {gs : List Group} → Trees s n → Forest gs → Forest ((s, n) ∷ gs)

infixr 50 ◌∷ᵗ◌
infixr 40 ◌▸◌
-- the records of a tree, in sheet order
unfoldable mutual
  pub records : {s : Sort} → Tree s → List Rec
  records (node s line k f kids) = rec s k f ∷ records_in kids

  pub records_of : {s : Sort} {n : ℕ} → Trees s n → List Rec
  records_of []ᵗ = []
  records_of (t ∷ᵗ ts) = records t ++ records_of ts

  pub records_in : {gs : List Group} → Forest gs → List Rec
  records_in end = []
  records_in (ts ▸ f) = records_of ts ++ records_in f

-- how many records a tree has
unfoldable mutual
  pub size : {s : Sort} → Tree s → ℕ
  size (node s line k f kids) = suc (size_in kids)

  pub size_of : {s : Sort} {n : ℕ} → Trees s n → ℕ
  size_of []ᵗ = 0
  size_of (t ∷ᵗ ts) = size t + size_of ts

  pub size_in : {gs : List Group} → Forest gs → ℕ
  size_in end = 0
  size_in (ts ▸ f) = size_of ts + size_in f

-- n results
abbrev pub Many : Type 0 → ℕ → Type 0
Many A zero = Unit {0}
Many A (suc n) = A × Many A n

unfoldable pub to_list : {A : Type 0} (n : ℕ) → Many A n → List A
to_list zero m = []
to_list (suc n) (a, m) = a ∷ to_list n m

-- A walk from the leaves up: L s is what is made of a tree of sort s, out of what was made of its children.
module _ (L : Sort → Type 0) where
  abbrev pub Results : List Group → Type 0
  Results [] = Unit {0}
  Results (g ∷ gs) = Many (L g.0) g.1 × Results gs

  module _ (made : (s : Sort) (line : ℕ) (k : Kind s) (f : Fields (forms s k)) → Results (children s k f) → L s) where
    unfoldable mutual
      pub fold : {s : Sort} → Tree s → L s
      fold (node s line k f kids) = made s line k f (fold_in kids)

      pub fold_of : {s : Sort} {n : ℕ} → Trees s n → Many (L s) n
      fold_of []ᵗ = tt
      fold_of (t ∷ᵗ ts) = (fold t, fold_of ts)

      pub fold_in : {gs : List Group} → Forest gs → Results gs
      fold_in end = tt
      fold_in (ts ▸ f) = (fold_of ts, fold_in f)
