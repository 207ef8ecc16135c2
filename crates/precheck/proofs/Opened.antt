-- What stands at a record is opened: the number of its kind, its fields as the words have them, and its children, group by group. Assumes nothing.
use mathlib.Core.Path.{◌≡◌, refl, sym, ap, subst, ◌∙◌}
use Prim.Native.Nat.{ℕ, suc, ◌+◌, ◌<◌, ◌≤◌}
use native.Mathlib.Nat.{add_assoc, add-zero}
use native.Mathlib.Omega.{arith}
use mathlib.Core.List.{List, [], ◌∷◌}
use Rattle.std.specs.Prelude.{Some}
use Rattle.model.specs.Text.{Bytes}
use Rattle.model.specs.Field.{Span, Fields}
use Rattle.model.specs.Kind.{Sort, Kind}
use Rattle.model.specs.Record.{Group, forms, children}
use Rattle.model.specs.Tree.{Tree, Trees, Forest, node, []ᵗ, ◌∷ᵗ◌, end, ◌▸◌}
use Rattle.model.specs.Check.{Verdict, fine, and_then, check, check_of, check_in, of_record, span_in}
use Rattle.words.specs.Words.{Roomy, cell, kind_of, fields_of, max_records}
use Rattle.words.specs.Places.{kind_at}
use Rattle.words.specs.Held.{Held, HeldOf, HeldIn, Flags, size, size_of, size_in, room_in, total}
use Rattle.words.specs.Count.{count_at}
use Rattle.words.specs.Fits.{tree_fits}
use Rattle.words.proofs.Counting.{counted}
use Rattle.precheck.specs.Steps.{Then, Run, no_more, one_more}
use Rattle.words.specs.Cells.{cells, Shown, shown}
use Rattle.precheck.specs.Stands.{At, own_verdict, in_turn}
use Rattle.precheck.proofs.Laws.{End}

-- ── a tree ──

-- a tree is refused for its own record, and then for what is below it
pub in_turn_law : {s : Sort} (t : Tree s) (span : Span) → check t span ≡ in_turn t span
unfolding check
in_turn_law (node s line k f kids) span = refl

-- ── groups of children ──

module _ (a b : List ℕ) (d : ℕ) (span : Span) where
  abbrev pub Groups : List Group → ℕ → Verdict → ℕ → Type 0
  Groups [] i v e = End i v e
  Groups (g ∷ gs) i v e = Then (Run (At a b g.0 d span) g.1 i) (λ j w x. Groups gs j w x) v e

  pub trees : (sheet : Bytes) {s : Sort} {n : ℕ} (ts : Trees s n) (i : ℕ) → HeldOf sheet a b ts d i → Run (At a b s d span) n i (check_of ts span) (i + size_of ts)
  unfolding Held check size
  trees sheet []ᵗ i h = rw add-zero no_more
  trees sheet (t ∷ᵗ ts) i h =
      rw (← add_assoc)
      (one_more (record { sheet = sheet; tree = t; held = h.0; verdict = refl; next = refl }) (trees sheet ts (i + size t) h.1) refl)

  pub groups : (sheet : Bytes) {gs : List Group} (f : Forest gs) (i : ℕ) → HeldIn sheet a b f d i → Groups gs i (check_in f span) (i + size_in f)
  unfolding Held check size
  groups sheet end i h = (refl, sym (add-zero i))
  groups sheet (◌▸◌ {s = s} {n = n} {gs = gs} ts f) i h =
      rw (← add_assoc)
      (record {
        verdict = check_of ts span;
        next = i + size_of ts;
        first = trees sheet ts i h.0;
        later = check_in f span;
        second = groups sheet f (i + size_of ts) h.1;
        both = refl;
      })

-- ── a record ──

-- the children of a record with fields f, its verdict and the record behind
pub record Body (sheet : Bytes) (a b : List ℕ) (s : Sort) (d : ℕ) (span : Span) (i : ℕ) (v : Verdict) (e : ℕ) (k : Kind s) (f : Fields (forms s k)) : Type 0 where
  pub forest : Forest (children s k f)
  pub held : HeldIn sheet a b forest (room_in s d) (i + 1)
  pub verdict : v ≡ and_then (of_record s (suc i) k f forest span) (check_in forest (span_in s k f span))
  pub next : e ≡ i + 1 + size_in forest

-- where the record itself is fine, its children are all that counts
pub kids_of : {sheet : Bytes} {a b : List ℕ} {s : Sort} {d : ℕ} {span : Span} {i : ℕ} {v : Verdict} {e : ℕ} {k : Kind s} {f : Fields (forms s k)} (o : Body sheet a b s d span i v e k f) → of_record s (suc i) k f o.forest span ≡ fine → Groups a b (room_in s d) (span_in s k f span) (children s k f) (i + 1) v e
unfolding and_then
kids_of {sheet} {a} {b} {s} {d} {span} {i} {v} {e} {k} {f} o own =
    let z : v ≡ check_in o.forest (span_in s k f span) = o.verdict ∙ rw own in
    rw (z, o.next) (groups a b (room_in s d) (span_in s k f span) sheet o.forest (i + 1) o.held)

-- a record of which the tree's own verdict is u
pub record Opened (a b : List ℕ) (s : Sort) (d : ℕ) (span : Span) (i : ℕ) (u v : Verdict) (e : ℕ) : Type 0 where
  pub sheet : Bytes
  pub kind : Kind s
  pub low : i < max_records
  pub deep : 0 < d
  pub number : kind_of s (cell a b i kind_at) ≡ Some kind
  pub flags : Flags (forms s kind) (cells a b i) 0
  pub count : count_at a b i ≡ total (children s kind (fields_of (forms s kind) sheet (cells a b i) 0))
  pub body : Body sheet a b s d span i v e kind (fields_of (forms s kind) sheet (cells a b i) 0)
  pub own : u ≡ of_record s (suc i) kind (fields_of (forms s kind) sheet (cells a b i) 0) body.forest span

open_tree : {a b : List ℕ} {d : ℕ} {span : Span} {i : ℕ} {v : Verdict} {e : ℕ} → Roomy a b → (sheet : Bytes) {s : Sort} (t : Tree s) → Held sheet a b t d i → v ≡ check t span → e ≡ i + size t → Opened a b s d span i (own_verdict t span) v e
unfolding Held check size
open_tree {a} {b} {d} {span} {i} {v} {e} room sheet (node s line k f kids) h hv he =
    let w : Shown sheet a b i s k f = shown room h.1 in
    let body : Body sheet a b s d span i v e k f =
    record { forest = kids; held = h.3; verdict = hv ∙ rw h.0 refl; next = omega arith }
    in
    let read : (x : Body sheet a b s d span i v e k (fields_of (forms s k) sheet (cells a b i) 0)) × (of_record s line k f kids span ≡ of_record s (suc i) k (fields_of (forms s k) sheet (cells a b i) 0) x.forest span) =
    subst (λ (g : Fields (forms s k)). (x : Body sheet a b s d span i v e k g) × (of_record s line k f kids span ≡ of_record s (suc i) k g x.forest span)) w.fields (body, rw h.0 refl)
    in
    record {
      sheet = sheet;
      kind = k;
      low = h.1.low;
      deep = h.2;
      number = w.kind;
      flags = w.flags;
      count = counted h.1 (room_in s d) kids h.3 ∙ ap (λ (g : Fields (forms s k)). total (children s k g)) w.fields;
      body = read.0;
      own = read.1;
    }

pub open_held : {a b : List ℕ} {s : Sort} {i : ℕ} → Roomy a b → (sheet : Bytes) (d : ℕ) (t : Tree s) (span : Span) → Held sheet a b t d i → Opened a b s d span i (own_verdict t span) (check t span) (i + size t)
open_held room sheet d t span h = open_tree room sheet t h refl refl

pub open_at : {a b : List ℕ} {s : Sort} {d : ℕ} {span : Span} {i : ℕ} {v : Verdict} {e : ℕ} → Roomy a b → (h : At a b s d span i v e) → Opened a b s d span i (own_verdict h.tree span) v e
open_at room h = open_tree room h.sheet h.tree h.held h.verdict h.next

-- ── a record of a kind that is known ──

pub record As (sheet : Bytes) (a b : List ℕ) (s : Sort) (d : ℕ) (span : Span) (i : ℕ) (v : Verdict) (e : ℕ) (k : Kind s) : Type 0 where
  pub flags : Flags (forms s k) (cells a b i) 0
  pub body : Body sheet a b s d span i v e k (fields_of (forms s k) sheet (cells a b i) 0)

pub open_as : {a b : List ℕ} {s : Sort} {d : ℕ} {span : Span} {i : ℕ} {u v : Verdict} {e : ℕ} (o : Opened a b s d span i u v e) (k : Kind s) → kind_of s (cell a b i kind_at) ≡ Some k → As o.sheet a b s d span i v e k
open_as {a} {b} {s} {d} {span} {i} {u} {v} {e} o k h =
    let p : o.kind ≡ k = cc o.number in
    subst (λ (x : Kind s). As o.sheet a b s d span i v e x) p (record { flags = o.flags; body = o.body })

-- ── what stands in the words ends in them ──

pub low_end : {a b : List ℕ} {s : Sort} {d : ℕ} {span : Span} {i : ℕ} {v : Verdict} {e : ℕ} → At a b s d span i v e → e ≤ max_records
low_end {a} {b} {d = d} {i = i} h = rw h.next (tree_fits h.sheet a b h.tree d i h.held).1
