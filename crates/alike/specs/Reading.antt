-- A sheet that has the records of another, alike line for line, is read as a tree alike. Assumes nothing but the parameter R, which joins the ids.
use Rattle.std.specs.Prelude.{◌≡◌, refl, ℕ, suc, ◌+◌, ◌≤◌, max, List, [], ◌∷◌, ◌++◌, length}
use Rattle.std.proofs.Common.{ap, ap₂, arith, append-nil, append_assoc, length-append}
use Rattle.std.proofs.Math.Path.{subst}
use Rattle.model.specs.Text.{Bytes}
use Rattle.model.specs.Field.{Fields}
use Rattle.model.specs.Kind.{Sort, Kind, statement}
use Rattle.model.specs.Record.{Rec, rec, Group, forms, children, spell_recs}
use Rattle.model.specs.Tree.{Tree, Trees, Forest, node, []ᵗ, ◌∷ᵗ◌, end, ◌▸◌, records, records_of, records_in}
use Rattle.model.specs.Sheet.{max_lines, Place, got, read_sheet}
use Rattle.laws.specs.TextLaws.{Each}
use Rattle.laws.specs.RecordLaws.{Fits}
use Rattle.laws.specs.TreeLaws.{depth, depth_of, depth_in, numbered, numbered_of, numbered_in}
use Rattle.laws.specs.SheetLaws.{WellFormed, ending, spelled_got}
use Rattle.alike.specs.Relation.{Equal, equal, List~, []~, ◌∷~◌, Fields~, Tree~, Trees~, Forest~, node~, []ᵗ~, ◌∷ᵗ~◌, end~, ◌▸~◌}
use Rattle.alike.specs.Children.{children~}
use Rattle.alike.specs.Relating.{Rec~, rec~}

long_append : (a b c d : List Rec) → length a ≡ length b → length c ≡ length d → length (a ++ c) ≡ length (b ++ d)
long_append a b c d p q = omega (arith, length-append a c, length-append b d)

module _ (R : ℕ → ℕ → Type 0) where
  abbrev Recs~ : List Rec → List Rec → Type 0
  Recs~ rs ss = List~ (λ x y. Rec~ R x y) rs ss

  -- ── trees alike have equally many records, are equally deep, and stay alike when they are numbered ──

  mutual
    unfolding records

    long~ : {s : Sort} {t u : Tree s} → Tree~ R s t u → length (records t) ≡ length (records u)
    long~ (node~ v kids) = ap suc (long_in~ kids)

    long_of~ : {s : Sort} {n m : ℕ} {ts : Trees s n} {us : Trees s m} → Trees~ R s n m ts us → length (records_of ts) ≡ length (records_of us)
    long_of~ []ᵗ~ = refl
    long_of~ (◌∷ᵗ~◌ {t = t} {u = u} {ts = ts} {us = us} p ps) = long_append (records t) (records u) (records_of ts) (records_of us) (long~ p) (long_of~ ps)

    long_in~ : {gs hs : List Group} {x : Forest gs} {y : Forest hs} → Forest~ R gs hs x y → length (records_in x) ≡ length (records_in y)
    long_in~ end~ = refl
    long_in~ (◌▸~◌ {ts = ts} {us = us} {x = x} {y = y} ps q) = long_append (records_of ts) (records_of us) (records_in x) (records_in y) (long_of~ ps) (long_in~ q)

  mutual
    unfolding depth

    depth~ : {s : Sort} {t u : Tree s} → Tree~ R s t u → depth t ≡ depth u
    depth~ (node~ v kids) = rw (depth_in~ kids)

    depth_of~ : {s : Sort} {n m : ℕ} {ts : Trees s n} {us : Trees s m} → Trees~ R s n m ts us → depth_of ts ≡ depth_of us
    depth_of~ []ᵗ~ = refl
    depth_of~ (t ∷ᵗ~ ts) = ap₂ (λ a b. max a b) (depth~ t) (depth_of~ ts)

    depth_in~ : {gs hs : List Group} {x : Forest gs} {y : Forest hs} → Forest~ R gs hs x y → depth_in x ≡ depth_in y
    depth_in~ end~ = refl
    depth_in~ (ts ▸~ x) = ap₂ (λ a b. max a b) (depth_of~ ts) (depth_in~ x)

  mutual
    unfolding numbered

    numbered~ : {s : Sort} {t u : Tree s} → Tree~ R s t u → (n : ℕ) → Tree~ R s (numbered t n) (numbered u n)
    numbered~ (node~ v kids) n = node~ v (numbered_in~ kids (suc n))

    numbered_of~ : {s : Sort} {n m : ℕ} {ts : Trees s n} {us : Trees s m} → Trees~ R s n m ts us → (l : ℕ) → Trees~ R s n m (numbered_of ts l) (numbered_of us l)
    numbered_of~ []ᵗ~ l = []ᵗ~
    numbered_of~ (◌∷ᵗ~◌ {s = s} {n = n} {m = m} {t = t} {ts = ts} {us = us} p ps) l = numbered~ p l ∷ᵗ~ subst (λ k. Trees~ R s n m (numbered_of ts (l + length (records t))) (numbered_of us (l + k))) (long~ p) (numbered_of~ ps (l + length (records t)))

    numbered_in~ : {gs hs : List Group} {x : Forest gs} {y : Forest hs} → Forest~ R gs hs x y → (l : ℕ) → Forest~ R gs hs (numbered_in x l) (numbered_in y l)
    numbered_in~ end~ l = end~
    numbered_in~ (◌▸~◌ {gs = gs} {hs = hs} {ts = ts} {x = x} {y = y} ps q) l = numbered_of~ ps l ▸~ subst (λ k. Forest~ R gs hs (numbered_in x (l + length (records_of ts))) (numbered_in y (l + k))) (long_of~ ps) (numbered_in~ q (l + length (records_of ts)))

  -- ── records alike a tree's are those of a tree alike ──

  data Built {s : Sort} (t : Tree s) (rs : List Rec) : List Rec → Type 0 where
    built : (u : Tree s) {ss : List Rec} → Tree~ R s t u → Recs~ rs ss → Built t rs (records u ++ ss)

  data BuiltOf {s : Sort} {n : ℕ} (ts : Trees s n) (rs : List Rec) : List Rec → Type 0 where
    built_of : (us : Trees s n) {ss : List Rec} → Trees~ R s n n ts us → Recs~ rs ss → BuiltOf ts rs (records_of us ++ ss)

  data BuiltIn {gs : List Group} (hs : List Group) (x : Forest gs) (rs : List Rec) : List Rec → Type 0 where
    built_in : (y : Forest hs) {ss : List Rec} → Forest~ R gs hs x y → Recs~ rs ss → BuiltIn hs x rs (records_in y ++ ss)

  due : {gs hs : List Group} {x : Forest gs} {rs ss : List Rec} → Equal gs hs → BuiltIn gs x rs ss → BuiltIn hs x rs ss
  due equal b = b

  built_node : {s : Sort} {line : ℕ} {k : Kind s} {f g : Fields (forms s k)} {x : Forest (children s k f)} {rs ss : List Rec} → Fields~ R (forms s k) f g → BuiltIn (children s k g) x rs ss → Built (node s line k f x) rs (rec s k g ∷ ss)
  unfolding records
  built_node {s} {line} {k} {f} {g} v (built_in y p q) = built (node s line k g y) (node~ v p) q

  cons_built : {s : Sort} {n : ℕ} {t u : Tree s} {ts : Trees s n} {rs ss : List Rec} → Tree~ R s t u → BuiltOf ts rs ss → BuiltOf (t ∷ᵗ ts) rs (records u ++ ss)
  unfolding records
  cons_built {t} {u} {ts} {rs} p (built_of us {ss = ss} ps q) = subst (λ l. BuiltOf (t ∷ᵗ ts) rs l) (append_assoc (records u) (records_of us) ss) (built_of (u ∷ᵗ us) (p ∷ᵗ~ ps) q)

  built_cons : {s : Sort} {n : ℕ} {t : Tree s} {ts : Trees s n} {rs ss : List Rec} → Built t (records_of ts ++ rs) ss → ((l : List Rec) → Recs~ (records_of ts ++ rs) l → BuiltOf ts rs l) → BuiltOf (t ∷ᵗ ts) rs ss
  built_cons (built u p q) k = cons_built p (k _ q)

  group_built : {s : Sort} {n : ℕ} {gs : List Group} {ts us : Trees s n} {x : Forest gs} {rs ss : List Rec} → Trees~ R s n n ts us → BuiltIn gs x rs ss → BuiltIn ((s, n) ∷ gs) (ts ▸ x) rs (records_of us ++ ss)
  unfolding records
  group_built {s} {n} {gs} {ts} {us} {x} {rs} p (built_in y {ss = ss} q r) = subst (λ l. BuiltIn ((s, n) ∷ gs) (ts ▸ x) rs l) (append_assoc (records_of us) (records_in y) ss) (built_in (us ▸ y) (p ▸~ q) r)

  built_group : {s : Sort} {n : ℕ} {gs : List Group} {ts : Trees s n} {x : Forest gs} {rs ss : List Rec} → BuiltOf ts (records_in x ++ rs) ss → ((l : List Rec) → Recs~ (records_in x ++ rs) l → BuiltIn gs x rs l) → BuiltIn ((s, n) ∷ gs) (ts ▸ x) rs ss
  built_group (built_of us p q) k = group_built p (k _ q)

  mutual
    unfolding records

    build : {s : Sort} (t : Tree s) (rs ss : List Rec) → Recs~ (records t ++ rs) ss → Built t rs ss
    build (node s line k f x) rs ss (rec~ {g = g} v ∷~ p) = built_node v (due (children~ R s k f g v) (build_in x rs _ p))

    build_of : {s : Sort} {n : ℕ} (ts : Trees s n) (rs ss : List Rec) → Recs~ (records_of ts ++ rs) ss → BuiltOf ts rs ss
    build_of []ᵗ rs ss p = built_of []ᵗ []ᵗ~ p
    build_of (t ∷ᵗ ts) rs ss p = built_cons (build t (records_of ts ++ rs) ss (rw (append_assoc (records t) (records_of ts) rs) at p)) (λ l q. build_of ts rs l q)

    build_in : {gs : List Group} (x : Forest gs) (rs ss : List Rec) → Recs~ (records_in x ++ rs) ss → BuiltIn gs x rs ss
    build_in end rs ss p = built_in end end~ p
    build_in (ts ▸ x) rs ss p = built_group (build_of ts (records_in x ++ rs) ss (rw (append_assoc (records_of ts) (records_in x) rs) at p)) (λ l q. build_in x rs l q)

  -- the tree that T is read as
  pub record Read (d : ℕ) (sheet : Bytes) (t : Tree statement) : Type 0 where
    pub tree : Tree statement
    pub behind : Place
    pub reads : read_sheet d sheet ≡ got tree behind
    pub alike : Tree~ R statement t tree

  from_built : (d : ℕ) (S : Bytes) (t : Tree statement) {rs : List Rec} → WellFormed d S t → Built t [] rs → Each Fits rs → Read d (spell_recs rs) t
  from_built d S t w (built u p []~) fit =
      let few : length (records u) ≤ max_lines = omega (arith, w.few, long~ p) in
      let deep : depth u ≤ d = omega (arith, w.deep, depth~ p) in
      let e = append-nil (records u) in
      record {
        tree = numbered u 1;
        behind = ending u;
        reads = rw e (spelled_got d u (rw e at fit) few deep);
        alike = rw w.numbers at (numbered~ p 1);
      }

  pub alike_read : (d : ℕ) (S : Bytes) (t : Tree statement) (rs : List Rec) → WellFormed d S t → Recs~ (records t) rs → Each Fits rs → Read d (spell_recs rs) t
  alike_read d S t rs w p fit = from_built d S t w (build t [] rs (rw (append-nil (records t)) p)) fit
