-- Patterns: what the check sees of a pattern element and of a part. Assumes nothing.
use mathlib.Core.Path.{◌≡◌, refl, sym, ap, ◌∙◌}
use Prim.Native.Nat.{ℕ, suc, ◌+◌, ◌-◌, ◌<◌, ◌≤◌}
use native.Mathlib.Nat.{add-zero}
use native.Mathlib.Omega.{arith}
use mathlib.Core.Bool.{Bool, true, false, cond}
use mathlib.Core.List.{List, [], ◌∷◌}
use lib.Dec.{eqb}
use borrow.Author.Tests.{eqb-true, eqb-false, eq-eqb, ne_eqb}
use Rattle.model.specs.Text.{Bytes}
use Rattle.model.specs.Field.{Span}
use Rattle.model.specs.Kind.{PatternElement, expr, name, yield_item, pattern_part, pattern_element}
use Rattle.model.specs.Record.{one, element_forms}
use Rattle.model.specs.Tree.{Tree, Trees, Forest, node, []ᵗ, ◌∷ᵗ◌, end, ◌▸◌}
use Rattle.model.specs.Check.{Verdict, fine, and_then, check, of_record, of_part, of_elements}
use Rattle.words.specs.Words.{Roomy, max_records, cell, fields_of, field_of}
use Rattle.words.specs.Places.{node_kind, rel_kind, kind_at, part_elements_at, node_labels_at, node_props_at, node_span_at, rel_types_at, rel_props_at, rel_span_at}
use Rattle.words.specs.Held.{Held, HeldOf, HeldIn, Flags}
use Rattle.precheck.specs.Answer.{span_of}
use Rattle.precheck.specs.Steps.{Stage, Then, Run, no_more, one_more}
use Rattle.words.specs.Cells.{flag_word, cells, shown}
use Rattle.words.specs.Numbers.{element_number, element_number_law}
use Rattle.precheck.specs.Stands.{At, Exprs, SomeAt, Spans, Inside, part_verdict, Begins, span_in}
use Rattle.precheck.specs.declared.HirSpan.{HirSpan}
use Rattle.precheck.proofs.Laws.{End, none_after, last_of, map_run}
use Rattle.precheck.proofs.Opened.{kids_of, Body, Opened, open_at, open_held}

-- ── records with no children ──

-- n records that are fine and have no children are passed over by their count
pub passed : {P : ℕ → Stage} {n i : ℕ} {v : Verdict} {e : ℕ} → ((j : ℕ) (w : Verdict) (x : ℕ) → P j w x → End (j + 1) w x) → Run P n i v e → End (i + n) v e
passed h no_more = (refl, omega arith)
passed h (one_more {n = n} {i = i} {u = u} {v = v} {w = w} {j = j} {e = e} p ps q) =
    let f : End (i + 1) u j = h _ _ _ p in
    let g : End (j + n) w e = passed h ps in
    (q ∙ rw (f.0, g.0) (none_after fine), omega arith)

pub past : {P : ℕ → Stage} {Q : ℕ → Stage} {n i : ℕ} {v : Verdict} {e : ℕ} → ((j : ℕ) (w : Verdict) (x : ℕ) → P j w x → End (j + 1) w x) → Then (Run P n i) Q v e → Q (i + n) v e
unfolding and_then
past {n = n} {i = i} {v = v} h t =
    let f : End (i + n) t.verdict t.next = passed h t.first in
    let z : v ≡ t.later = t.both ∙ rw f.0 in
    rw (z, f.1) t.second

module _ {a b : List ℕ} (room : Roomy a b) {d : ℕ} {span : Span} where
  pub of_name : (i : ℕ) (v : Verdict) (e : ℕ) → At a b name d span i v e → End (i + 1) v e
  unfolding of_record
  of_name i v e h = kids_of (open_at room h).body refl

  pub of_yield : (i : ℕ) (v : Verdict) (e : ℕ) → At a b yield_item d span i v e → End (i + 1) v e
  unfolding of_record
  of_yield i v e h = kids_of (open_at room h).body refl

-- expressions behind no record
pub at_once : {a b : List ℕ} {d : ℕ} {span : Span} {n i : ℕ} {v : Verdict} {e : ℕ} → Run (At a b expr d span) n i v e → Exprs a b 0 d span n i v e
at_once h = map_run (λ j w x p. rw add-zero p) h

-- ── pattern elements ──

-- behind c names stand n expressions, n being 0 or 1
behind_names : {a b : List ℕ} {d : ℕ} {span : Span} {n c i : ℕ} {v : Verdict} {e : ℕ} → Roomy a b → n ≤ 1 → Then (Run (At a b name d span) c i) (λ j. Then (Run (At a b expr d span) (one (eqb n 1)) j) End) v e → Exprs a b 0 d span n (i + c) v e
behind_names {n = n} room h t = at_once (rw (flag_word n h) at (last_of (past (of_name room) t)))

-- what the check looks at in an element of kind number c
pub record InElement (a b : List ℕ) (d i c : ℕ) (v : Verdict) (e : ℕ) : Type 0 where
  pub node : c ≡ node_kind → Exprs a b 0 (d - 1) (span_in a b i node_span_at) (cell a b i node_props_at) (i + 1 + cell a b i node_labels_at) v e
  pub rel : (c ≡ node_kind → ⊥) → Exprs a b 0 (d - 1) (span_in a b i rel_span_at) (cell a b i rel_props_at) (i + 1 + cell a b i rel_types_at) v e

module _ {a b : List ℕ} (room : Roomy a b) {d : ℕ} {around : Span} {i : ℕ} {v : Verdict} {e : ℕ} where
  in_kind_law : (sheet : Bytes) (k : PatternElement) (c : ℕ) → c ≡ element_number k → Flags (element_forms k) (cells a b i) 0 → Body sheet a b pattern_element d around i v e k (fields_of (element_forms k) sheet (cells a b i) 0) → InElement a b d i c v e
  unfolding element_number of_record fields_of field_of
  in_kind_law sheet PatternElement.Node c n f o = record { node = λ h. behind_names room f.1.1.0 (kids_of o refl); rel = λ h. absurd (h n) }
  in_kind_law sheet PatternElement.Rel c n f o = record { node = λ h. absurd (omega arith); rel = λ h. behind_names room f.1.1.1.1.0 (kids_of o refl) }

  pub in_element : At a b pattern_element d around i v e → InElement a b d i (cell a b i kind_at) v e
  in_element h = let o = open_at room h in in_kind_law o.sheet o.kind (cell a b i kind_at) (element_number_law _ _ o.number) o.flags o.body

-- with the numbers that the code has read
read_off : {a b : List ℕ} {d i i' n n' : ℕ} {s s' : Span} {v : Verdict} {e : ℕ} → i ≡ i' → n ≡ n' → s ≡ s' → Exprs a b 0 d s' n' i' v e → Exprs a b 0 d s n i v e
read_off hi hn hs h = rw (hi, hn, hs) h

pub span_read : {a b : List ℕ} {i c : ℕ} {s : HirSpan} → Spans a b i c s → span_of s ≡ span_in a b i c
span_read h = rw (h.start, h.end)

module _ {a b : List ℕ} (room : Roomy a b) {i c l n : ℕ} {s : HirSpan} (kind : c ≡ cell a b i kind_at) (labels : l ≡ cell a b i node_labels_at) where
  pub inside_node : c ≡ node_kind → n ≡ cell a b i node_props_at → Spans a b i node_span_at s → Inside a b i (record { first = i + 1 + l; n = n; span = s })
  inside_node h hn hs = record { each = λ d around v e p. read_off (ap (λ x. i + 1 + x) labels) hn (span_read hs) ((in_element room p).node (sym kind ∙ h)) }

  pub inside_rel : (c ≡ node_kind → ⊥) → n ≡ cell a b i rel_props_at → Spans a b i rel_span_at s → Inside a b i (record { first = i + 1 + l; n = n; span = s })
  inside_rel h hn hs = record { each = λ d around v e p. read_off (ap (λ x. i + 1 + x) labels) hn (span_read hs) ((in_element room p).rel (λ z. h (kind ∙ z))) }

-- the same by what `below` tells of an element, and the word at which its span begins
module _ {a b : List ℕ} (room : Roomy a b) {i c l f n at : ℕ} {s : HirSpan} (kind : c ≡ cell a b i kind_at) (labels : l ≡ cell a b i node_labels_at) (first : f ≡ i + 1 + l)
    (props : n ≡ cond (eqb (cell a b i kind_at) node_kind) (cell a b i node_props_at) (cell a b i rel_props_at)) (spans : Spans a b i at s) where
  pub below_node : c ≡ node_kind → at ≡ node_span_at → Inside a b i (record { first = f; n = n; span = s })
  below_node h e = rw first (inside_node room kind labels h (rw (eq-eqb (cell a b i kind_at) node_kind (sym kind ∙ h)) at props) (rw e at spans))

  pub below_rel : (c ≡ node_kind → ⊥) → at ≡ rel_span_at → Inside a b i (record { first = f; n = n; span = s })
  below_rel h e = rw first (inside_rel room kind labels h (rw (ne_eqb (cell a b i kind_at) node_kind (λ z. h (kind ∙ z))) at props) (rw e at spans))

-- an element's own span counts, and no span around it
same_check : (t : Tree pattern_element) (s s' : Span) → check t s ≡ check t s'
unfolding check of_record
same_check (node pattern_element line k f kids) s s' = refl

pub any_span : {a b : List ℕ} {d : ℕ} {s t : Span} (i : ℕ) (v : Verdict) (e : ℕ) → At a b pattern_element d s i v e → At a b pattern_element d t i v e
any_span {s = s} {t = t} i v e h = record { sheet = h.sheet; tree = h.tree; held = h.held; verdict = h.verdict ∙ same_check h.tree s t; next = h.next }

-- ── parts ──

-- the verdict at a part with n elements, by the first one's kind
pub record InPart (a b : List ℕ) (span : Span) (i n : ℕ) (u : Verdict) : Type 0 where
  pub low : (n ≡ 0 → ⊥) → i + 1 < max_records
  pub empty : n ≡ 0 → u ≡ part_verdict false i span
  pub node : (n ≡ 0 → ⊥) → cell a b (i + 1) kind_at ≡ node_kind → u ≡ part_verdict true i span
  pub rel : (n ≡ 0 → ⊥) → (cell a b (i + 1) kind_at ≡ node_kind → ⊥) → u ≡ part_verdict false i span

module _ {a b : List ℕ} (room : Roomy a b) {span : Span} {i : ℕ} {u : Verdict} where
  by_elements : (sheet : Bytes) (d n : ℕ) (ts : Trees pattern_element n) → HeldOf sheet a b ts d (i + 1) → u ≡ of_elements (suc i) ts span → InPart a b span i n u
  unfolding of_elements Held element_number
  by_elements sheet d n []ᵗ h o = record { empty = λ z. o; low = λ z. absurd (z refl); node = λ z. absurd (z refl); rel = λ z. absurd (z refl) }
  by_elements sheet d n (◌∷ᵗ◌ {n = m} (node pattern_element line PatternElement.Node f kids) ts) h o =
      record {
        empty = λ z. absurd (omega arith);
        low = λ z. h.0.1.low;
        node = λ z c. o;
        rel = λ z c. absurd (c (element_number_law _ _ (shown room h.0.1).kind));
      }
  by_elements sheet d n (◌∷ᵗ◌ {n = m} (node pattern_element line PatternElement.Rel f kids) ts) h o =
      record {
        empty = λ z. absurd (omega arith);
        low = λ z. h.0.1.low;
        node = λ z c. let k : cell a b (i + 1) kind_at ≡ rel_kind = element_number_law _ _ (shown room h.0.1).kind in absurd (omega arith);
        rel = λ z c. o;
      }

  by_forest : (sheet : Bytes) (d n : ℕ) (f : Forest ((pattern_element, n) ∷ [])) → HeldIn sheet a b f d (i + 1) → u ≡ of_part (suc i) f span → InPart a b span i n u
  unfolding of_part Held
  by_forest sheet d n (ts ▸ end) h o = by_elements sheet d n ts h.0 o

  pub in_part : {d : ℕ} {v : Verdict} {e : ℕ} → Opened a b pattern_part d span i u v e → InPart a b span i (cell a b i part_elements_at) u
  unfolding of_record fields_of field_of
  in_part {d} o = by_forest o.sheet (d - 1) (cell a b i part_elements_at) o.body.forest o.body.held o.own

module _ {a b : List ℕ} (room : Roomy a b) {i n : ℕ} (elements : n ≡ cell a b i part_elements_at) where
  module _ (some : (n ≡ 0) → ⊥) where
    begins_rel : {c : ℕ} → c ≡ cell a b (i + 1) kind_at → (c ≡ node_kind → ⊥) → Begins a b i false
    begins_rel kind h = record { each = λ sheet d t span p. (in_part room (open_held room sheet d t span p)).rel (λ z. some (elements ∙ z)) (λ z. h (kind ∙ z)) }

    pub begins_low : SomeAt a b pattern_part i → i + 1 < max_records
    begins_low h = (in_part room (open_at room h.is)).low (λ z. some (elements ∙ z))

    begins_node : {c : ℕ} → c ≡ cell a b (i + 1) kind_at → c ≡ node_kind → Begins a b i true
    begins_node kind h = record { each = λ sheet d t span p. (in_part room (open_held room sheet d t span p)).node (λ z. some (elements ∙ z)) (sym kind ∙ h) }

    -- as the first element's kind says
    pub begins_by_kind : {c : ℕ} → c ≡ cell a b (i + 1) kind_at → Begins a b i (eqb c node_kind)
    begins_by_kind {c} kind = go (eqb c node_kind) refl
      where
        go : (t : Bool) → eqb c node_kind ≡ t → Begins a b i t
        go true e = begins_node kind (eqb-true c node_kind e)
        go false e = begins_rel kind (eqb-false c node_kind e)

  pub begins_not : n ≡ 0 → Begins a b i false
  begins_not h = record { each = λ sheet d t span p. (in_part room (open_held room sheet d t span p)).empty (sym elements ∙ h) }
