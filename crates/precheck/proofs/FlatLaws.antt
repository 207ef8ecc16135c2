-- The records alone: where the lowering takes each record of a tree, the tree is refused for nothing. Assumes nothing.
use mathlib.Core.Path.{◌≡◌, refl, sym, ◌∙◌}
use mathlib.Core.Bool.{Bool, true, false}
use Prim.Native.Nat.{ℕ, ◌+◌, ◌<◌, ◌≤◌}
use native.Mathlib.Omega.{arith}
use mathlib.Core.List.{List}
use Rattle.std.specs.Prelude.{None, Some}
use lib.Dec.{ltb}
use borrow.Author.Tests.{ltb-true, ltb-false}
use Rattle.model.specs.Text.{Bytes}
use Rattle.model.specs.Field.{Span}
use Rattle.model.specs.Kind.{Sort, statement, union_arm, clause, projection, order_item, pattern_part, pattern_element, name, yield_item, entry, expr, in_plan}
use Rattle.model.specs.Record.{Group, kinds}
use Rattle.model.specs.Tree.{Tree, Trees, Forest, node, []ᵗ, ◌∷ᵗ◌, end, ◌▸◌}
use Rattle.model.specs.Check.{Verdict, fine, and_then, check, check_of, check_in, of_record, span_in, no_span, precheck_statement}
use Rattle.words.specs.Words.{Roomy, cell, kind_of, first_kind, nth}
use Rattle.words.specs.Places.{kind_at, part_kind, unres_kind}
use Rattle.words.specs.Held.{Held, HeldOf, HeldIn, HeldSome, size, size_of, size_in, room_in}
use Rattle.words.specs.Count.{Starts, Ends}
use Rattle.words.specs.Cells.{numbered, number_of}
use Rattle.precheck.specs.Stands.{SomeAt, Begins, Taken, NoneRefused, own_verdict}
use Rattle.precheck.proofs.Opened.{open_held}
use Rattle.precheck.proofs.Expressions.{in_expr}
use Rattle.precheck.proofs.Checks.{some_at}

-- ── every record of a tree ──

both_fine : {u w : Verdict} → u ≡ fine → w ≡ fine → and_then u w ≡ fine
unfolding and_then
both_fine p q = rw (p, q)

-- the lowering takes the first n records
abbrev pub TakenTo : (a b : List ℕ) (n : ℕ) → Type 0
TakenTo a b n = (j : ℕ) → j < n → Taken a b j

-- a tree among them
module _ {a b : List ℕ} {n : ℕ} (taken : TakenTo a b n) (sheet : Bytes) where
  mutual
    unfolding Held check size

    tree_fine : {s : Sort} (t : Tree s) (d i : ℕ) (span : Span) → i + size t ≤ n → Held sheet a b t d i → check t span ≡ fine
    tree_fine (node s line k f kids) d i span l h =
        both_fine ((taken i (omega arith)).each sheet s d (node s line k f kids) span h) (forest_fine kids (room_in s d) (i + 1) (span_in s k f span) (omega arith) h.3)

    trees_fine : {s : Sort} {m : ℕ} (ts : Trees s m) (d i : ℕ) (span : Span) → i + size_of ts ≤ n → HeldOf sheet a b ts d i → check_of ts span ≡ fine
    trees_fine []ᵗ d i span l h = refl
    trees_fine (t ∷ᵗ ts) d i span l h = both_fine (tree_fine t d i span (omega arith) h.0) (trees_fine ts d (i + size t) span (omega arith) h.1)

    forest_fine : {gs : List Group} (f : Forest gs) (d i : ℕ) (span : Span) → i + size_in f ≤ n → HeldIn sheet a b f d i → check_in f span ≡ fine
    forest_fine end d i span l h = refl
    forest_fine (ts ▸ f) d i span l h = both_fine (trees_fine ts d i span (omega arith) h.0) (forest_fine f d (i + size_of ts) span (omega arith) h.1)

pub all_taken : {a b : List ℕ} {n : ℕ} → Ends a b 0 n → TakenTo a b n → NoneRefused a b
all_taken ends taken = record { each = λ sheet s d t span h. let e = ends.each sheet s d t h in tree_fine taken sheet t d 0 span (omega (arith, e)) h }

pub none_yet : {a b : List ℕ} → TakenTo a b 0
none_yet j l = absurd (omega arith)

pub one_more : {a b : List ℕ} {n : ℕ} → TakenTo a b n → Taken a b n → TakenTo a b (n + 1)
one_more {a} {b} {n} before this j l = go (ltb j n) refl
  where
    go : (t : Bool) → ltb j n ≡ t → Taken a b j
    go true e = before j (ltb-true j n e)
    go false e = let q : j ≡ n = omega (arith, ltb-false j n e) in rw q this

-- ── one record ──

-- no record but a part has the number of its kind
module _ {a b : List ℕ} (room : Roomy a b) {i : ℕ} (part : cell a b i kind_at ≡ part_kind) (sheet : Bytes) (d : ℕ) where
  none_such : {s : Sort} (t : Tree s) → kind_of s part_kind ≡ None → Held sheet a b t d i → SomeAt a b pattern_part i
  none_such {s} t e h =
      let o = open_held room sheet d t no_span h in
      let q : kind_of s part_kind ≡ Some o.kind = rw part at o.number in
      let z : ◌≡◌ {A = ℕ} 0 1 = cc in
      absurd (omega arith)

  part_at : (s : Sort) (t : Tree s) → Held sheet a b t d i → SomeAt a b pattern_part i
  unfolding kind_of first_kind nth kinds
  part_at statement t h = none_such t refl h
  part_at union_arm t h = none_such t refl h
  part_at clause t h = none_such t refl h
  part_at projection t h = none_such t refl h
  part_at order_item t h = none_such t refl h
  part_at pattern_part t h = some_at room (record { verdict = check t no_span; next = i + size t; is = record { sheet = sheet; tree = t; held = h; verdict = refl; next = refl } })
  part_at pattern_element t h = none_such t refl h
  part_at name t h = none_such t refl h
  part_at yield_item t h = none_such t refl h
  part_at entry t h = none_such t refl h
  part_at expr t h = none_such t refl h
  part_at (in_plan p) t h = none_such t refl h

pub some_part : {a b : List ℕ} {i c : ℕ} → Roomy a b → c ≡ cell a b i kind_at → c ≡ part_kind → Starts a b i → SomeAt a b pattern_part i
some_part room kind part z = part_at room (sym kind ∙ part) z.sheet z.depth z.sort z.tree z.held

module _ {a b : List ℕ} (room : Roomy a b) {i c : ℕ} (kind : c ≡ cell a b i kind_at) where
  -- only a part and an expression can be refused for their own records
  module _ (low : c < unres_kind) (begins : c ≡ part_kind → Begins a b i true) (sheet : Bytes) (d : ℕ) (span : Span) where
    own_fine : {s : Sort} (t : Tree s) → Held sheet a b t d i → own_verdict t span ≡ fine
    unfolding of_record numbered first_kind kinds
    own_fine (node statement line k f kids) h = refl
    own_fine (node union_arm line k f kids) h = refl
    own_fine (node clause line k f kids) h = refl
    own_fine (node projection line k f kids) h = refl
    own_fine (node order_item line k f kids) h = refl
    own_fine (node pattern_part line k f kids) h =
        let n : cell a b i kind_at ≡ part_kind = number_of pattern_part (λ x. part_kind) refl _ _ (open_held room sheet d (node pattern_part line k f kids) span h).number in
        (begins (kind ∙ n)).each sheet d (node pattern_part line k f kids) span h
    own_fine (node pattern_element line k f kids) h = refl
    own_fine (node name line k f kids) h = refl
    own_fine (node yield_item line k f kids) h = refl
    own_fine (node entry line k f kids) h = refl
    own_fine (node expr line k f kids) h = (in_expr (open_held room sheet d (node expr line k f kids) span h)).other (λ z. omega arith) (λ z. omega arith)
    own_fine (node (in_plan p) line k f kids) h = refl

  pub part_taken : c ≡ part_kind → Begins a b i true → Taken a b i
  part_taken e h = record { each = λ sheet s d t span. own_fine (omega arith) (λ y. h) sheet d span t }

  pub other_taken : (c ≡ part_kind → ⊥) → c < unres_kind → Taken a b i
  other_taken e l = record { each = λ sheet s d t span. own_fine l (λ y. absurd (e y)) sheet d span t }

-- ── the statement ──

pub starts_held : {a b : List ℕ} {d : ℕ} → ((sheet : Bytes) × HeldSome sheet a b statement d 0) → Starts a b 0
starts_held {d = d} (sheet, h) = record { sheet = sheet; sort = statement; depth = d; tree = h.tree; held = h.is }

pub fine_statement : {a b : List ℕ} → NoneRefused a b → (d : ℕ) (sheet : Bytes) (t : Tree statement) → Held sheet a b t d 0 → precheck_statement t ≡ fine
unfolding precheck_statement
fine_statement all d sheet t h = all.each sheet statement d t no_span h
