-- How many children a record has, and the record behind a tree. Assumes nothing.
use mathlib.Core.Path.{◌≡◌, refl, sym, ap, ◌∙◌}
use Prim.Native.Nat.{ℕ, suc, ◌+◌, ◌-◌, ◌≤◌, ◌<◌}
use native.Mathlib.Nat.{mod-eq_of_lt}
use native.Mathlib.Omega.{arith}
use mathlib.Core.Bool.{true, false, false≢true}
use mathlib.Core.List.{List}
use Rattle.model.specs.Text.{Bytes}
use Rattle.model.specs.Field.{Fields}
use Rattle.model.specs.Kind.{Sort, Kind, Same, Expr, expr}
use Rattle.model.specs.Record.{Group, forms, children}
use Rattle.model.specs.Tree.{Tree, Trees, Forest, node, []ᵗ, ◌∷ᵗ◌, end, ◌▸◌}
use Rattle.words.specs.Words.{max_records, two32, Roomy, cell}
use Rattle.words.specs.Held.{RecordAt, Held, HeldOf, HeldIn, size, size_of, size_in, room_in, total}
use Rattle.words.specs.Cells.{shown}
use Rattle.words.specs.Fits.{tree_fits, forest_fits, tree_low}
use Rattle.words.proofs.GroupLaws.{part_cell}
use Rattle.words.specs.Count.{count_at, is_leaf, Due, none_due, one_due, Starts, Ends}
use Rattle.words.specs.Numbers.{same_number, expr_number, expr_number_law}
use Rattle.words.specs.Places.{kind_at, children_at}

-- an expression that has none, whatever its fields, is of no kind that may have one
pub leaf_not : (c k : ℕ) → is_leaf c ≡ true → is_leaf k ≡ false → c ≡ k → ⊥
leaf_not c k e f q = false≢true (sym f ∙ ap is_leaf (sym q) ∙ e)

-- ── by the record's word ──

-- a record whose children are held has as many as its word says: no more than a sheet has records, so that a word holds the number
pub counted : {sheet : Bytes} {a b : List ℕ} {i : ℕ} {s : Sort} {k : Kind s} {f : Fields (forms s k)} → RecordAt sheet a b i s k f → (d : ℕ) (kids : Forest (children s k f)) → HeldIn sheet a b kids d (i + 1) → count_at a b i ≡ total (children s k f)
counted {sheet} {a} {b} {i} r d kids h =
    let few = forest_fits sheet a b kids d (i + 1) (omega (arith, r.low)) h in
    sym (part_cell a b i children_at (omega arith)) ∙ r.kids ∙ mod-eq_of_lt (omega (arith, few.0, few.1))

leaf_same : (h : Same) (f : Fields (forms expr (Expr.Over h))) → is_leaf (same_number h) ≡ true → total (children expr (Expr.Over h) f) ≡ 0
unfolding is_leaf same_number
leaf_same Same.Null f e = refl
leaf_same Same.Bool f e = refl
leaf_same Same.Int f e = refl
leaf_same Same.Float f e = refl
leaf_same Same.String f e = refl
leaf_same Same.Param f e = refl
leaf_same Same.Prop f e = absurd (false≢true e)
leaf_same Same.Index f e = absurd (false≢true e)
leaf_same Same.Slice f e = absurd (false≢true e)
leaf_same Same.List f e = absurd (false≢true e)
leaf_same Same.BinOp f e = absurd (false≢true e)
leaf_same Same.UnaryOp f e = absurd (false≢true e)
leaf_same Same.Case f e = absurd (false≢true e)
leaf_same Same.IsNull f e = absurd (false≢true e)
leaf_same Same.InList f e = absurd (false≢true e)

leaf_total : (k : Expr) (f : Fields (forms expr k)) → is_leaf (expr_number k) ≡ true → total (children expr k f) ≡ 0
unfolding is_leaf expr_number
leaf_total (Expr.Over h) f e = leaf_same h f e
leaf_total Expr.Var f e = refl
leaf_total Expr.Map f e = absurd (false≢true e)
leaf_total Expr.Call f e = absurd (false≢true e)
leaf_total Expr.PatternPredicate f e = absurd (false≢true e)
leaf_total Expr.ListPredicate f e = absurd (false≢true e)
leaf_total Expr.Unresolved f e = absurd (false≢true e)
leaf_total Expr.Undesugared f e = absurd (false≢true e)

-- an expression of a kind that has none below it has no children
pub leaf_count : (sheet : Bytes) (a b : List ℕ) (d i kind : ℕ) (t : Tree expr) → Roomy a b → Held sheet a b t d i → kind ≡ cell a b i kind_at → is_leaf kind ≡ true → 0 ≡ count_at a b i
unfolding Held
leaf_count sheet a b d i kind (node expr line k f kids) room h c e =
    let n : cell a b i kind_at ≡ expr_number k = expr_number_law (cell a b i kind_at) k (shown room h.1).kind in
    sym (counted h.1 (d - 1) kids h.3 ∙ leaf_total k f (ap is_leaf (sym (c ∙ n)) ∙ e))

-- ── records that are due ──

module _ {sheet : Bytes} {a b : List ℕ} {e : ℕ} where
  due_at : {n n' i i' : ℕ} → n ≡ n' → i ≡ i' → Due sheet a b e n i → Due sheet a b e n' i'
  due_at p q h = rw (← p, ← q) h

  trees_due : {s : Sort} {n : ℕ} (ts : Trees s n) (d m i : ℕ) → HeldOf sheet a b ts d i → Due sheet a b e m (i + size_of ts) → Due sheet a b e (n + m) i
  unfolding Held size
  trees_due []ᵗ d m i h r = due_at (omega arith) (omega arith) r
  trees_due (◌∷ᵗ◌ {s = s} {n = n} t ts) d m i h r = due_at {n = suc (n + m)} (omega arith) refl (one_due s d t h.0 (trees_due ts d m (i + size t) h.1 (due_at refl (omega arith) r)))

  forest_due : {gs : List Group} (f : Forest gs) (d m i : ℕ) → HeldIn sheet a b f d i → Due sheet a b e m (i + size_in f) → Due sheet a b e (total gs + m) i
  unfolding Held size
  forest_due end d m i h r = due_at (omega arith) (omega arith) r
  forest_due (◌▸◌ {s = s} {n = n} {gs = gs} ts f) d m i h r = due_at {n = n + (total gs + m)} (omega arith) refl (trees_due ts d (total gs + m) i h.0 (forest_due f d m (i + size_of ts) h.1 (due_at refl (omega arith) r)))

  -- the next record, and its children in its place
  step_tree : {s : Sort} (t : Tree s) (d m i : ℕ) → Roomy a b → Held sheet a b t d i → Due sheet a b e m (i + size t) → Due sheet a b e (count_at a b i + m) (i + 1)
  unfolding Held size
  step_tree (node s line k f kids) d m i room h r =
      rw (counted h.1 (room_in s d) kids h.3) (forest_due kids (room_in s d) m (i + 1) h.3 (due_at refl (omega arith) r))

  pub step : (n i : ℕ) → Roomy a b → ((n ≡ 0) → ⊥) → Due sheet a b e n i → Due sheet a b e (n - 1 + count_at a b i) (i + 1)
  step n i room h (none_due p) = absurd (h refl)
  step n i room h (one_due {n = m} s d t hd r) = due_at {n = count_at a b i + m} (omega arith) refl (step_tree t d m i room hd r)

  next_due : (n i : ℕ) → ((n ≡ 0) → ⊥) → Due sheet a b e n i → Starts a b i
  next_due n i h (none_due p) = absurd (h refl)
  next_due n i h (one_due s d t hd r) = record { sheet = sheet; sort = s; depth = d; tree = t; held = hd }

  pub finish : (n i : ℕ) → n ≡ 0 → Due sheet a b e n i → i ≡ e
  finish n i h (none_due p) = p
  finish n i h (one_due {n = m} s d t hd r) = absurd (omega arith)

  pub enough : (n i : ℕ) → Due sheet a b e n i → i ≤ max_records → i + n ≤ max_records
  enough n i (none_due p) l = omega arith
  enough n i (one_due {n = m} s d t hd r) l =
      let p = tree_fits sheet a b t d i hd in
      let q = enough m (i + size t) r p.1 in
      omega arith

-- what is due from a record on, whatever the tree there
pub record Remaining (a b : List ℕ) (i n at : ℕ) : Type 0 where
  pub same : (sheet : Bytes) (e : ℕ) → Due sheet a b e 1 i → Due sheet a b e n at

-- what a walk from record to record keeps, whatever it does at each
abbrev pub Walking : (a b : List ℕ) (i n at : ℕ) → Type 0
Walking a b i n at = (at ≤ max_records) × Remaining a b i n at

pub start_low : {a b : List ℕ} {i : ℕ} → Starts a b i → i < max_records
start_low {a} {b} {i} z = tree_low z.sheet a b z.tree z.depth i z.held

module _ {a b : List ℕ} where
  starts_due : {i : ℕ} (z : Starts a b i) → Due z.sheet a b (i + size z.tree) 1 i
  starts_due z = one_due z.sort z.depth z.tree z.held (none_due refl)

  -- where more is due, some tree stands there
  pub next : {i n at : ℕ} → Starts a b i → Remaining a b i n at → ((n ≡ 0) → ⊥) → Starts a b at
  next {i} {n} {at} z l h = next_due n at h (l.same z.sheet (i + size z.tree) (starts_due z))

  pub in_range : {i n at : ℕ} → Starts a b i → Remaining a b i n at → ((n ≡ 0) → ⊥) → at < max_records
  in_range z l h = start_low (next z l h)

  pub few : {i n at : ℕ} → Starts a b i → Remaining a b i n at → at ≤ max_records → n ≤ max_records
  few {i} {n} {at} z l h = let p = enough n at (l.same z.sheet (i + size z.tree) (starts_due z)) h in omega arith

  pub first : (i : ℕ) → Remaining a b i 1 i
  first i = record { same = λ sheet e h. h }

  pub again : {i n at k : ℕ} → Roomy a b → ((n ≡ 0) → ⊥) → k ≡ count_at a b at → Remaining a b i n at → Remaining a b i (n - 1 + k) (at + 1)
  again {i} {n} {at} {k} room h ek l = record { same = λ sheet e d. rw ek (step n at room h (l.same sheet e d)) }

  pub begun : {i : ℕ} → Starts a b i → Walking a b i 1 i
  begun {i} z = (omega (arith, start_low z), first i)

  pub walked : {i n at k : ℕ} → Roomy a b → Starts a b i → Walking a b i n at → ((n ≡ 0) → ⊥) → k ≡ count_at a b at → Walking a b i (n - 1 + k) (at + 1)
  walked room z w h ek = let p = in_range z w.1 h in (omega arith, again room h ek w.1)

  -- what is due behind a record fits a word of 64 bits
  pub due_fits : {i n at k : ℕ} → Starts a b i → Walking a b i n at → k < two32 → n - 1 + k < two32 + two32
  due_fits z w l = let p = few z w.1 w.0 in omega arith

  -- behind the last record that there may be nothing is due
  pub spent : {i n at : ℕ} → Starts a b i → Walking a b i n at → max_records ≤ at → (n ≡ 0) × (at ≡ max_records)
  spent {i} {n} {at} z w l = let p = enough n at (w.1.same z.sheet (i + size z.tree) (starts_due z)) w.0 in (omega arith, omega (arith, w.0))

  pub done : {i n at : ℕ} → n ≡ 0 → Remaining a b i n at → Ends a b i at
  done {i} {n} {at} h l = record { each = λ sheet s d t hd. finish n at h (l.same sheet (i + size t) (one_due s d t hd (none_due refl))) }
