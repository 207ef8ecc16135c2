-- How the writers of expressions and elements call each other. Assumes nothing: every law is proved.
use mathlib.Core.Path.{◌≡◌, refl, ◌∙◌}
use Prim.Native.Nat.{ℕ, ◌+◌, ◌-◌, ◌<◌}
use native.Mathlib.Omega.{arith}
use mathlib.Core.Bool.{true, cond}
use mathlib.Core.List.{List, [], ◌∷◌, append-nil}
use lib.Dec.{eqb}
use Rattle.model.specs.Text.{Bytes}
use Rattle.model.specs.Kind.{expr}
use Rattle.model.specs.Record.{spell_rec, spell_recs}
use Rattle.output.specs.declared.Page.{Page}
use Rattle.output.specs.Page.{Puts}
use Rattle.output.specs.Writes.{◌⨾◌}
use Rattle.words.specs.Words.{Roomy, cell, max_records}
use Rattle.words.specs.Held.{size}
use Rattle.words.specs.Places.{kind_at, node_kind, pat_kind, node_labels_at, node_props_at, rel_props_at}
use Rattle.words.proofs.Counting.{leaf_not, leaf_count}
use Rattle.context.specs.Read.{note_of}
use Rattle.lower.specs.Render.{render, spec_rec}
use Rattle.lower.specs.Shows.{shift}
use Rattle.words.specs.Count.{count_at, is_leaf, Starts, Ends}
use Rattle.model.specs.Lower.{expr_head}
use Rattle.plan_sheet.specs.Due.{noted, Near, SomePlan, ExprAt, ElementAt, One, one_text, Many, Element, element_text, Names, names_recs, Line, carried_recs, carried_end, WroteOne, WroteMany, WroteOp}
use Rattle.plan_sheet.specs.Due
use Rattle.plan_sheet.proofs.DueLaws.{expr_of, tabled_less, spell_append, none_wrote}
use Rattle.plan_sheet.proofs.PartLaws.{ExprParts, parts, Copy, copied, deep, props_at, ElementParts, element_parts}

-- one level down
pub nearer : {base left : ℕ} → Near base left → Near base (left - 1)
nearer h = record { near = h.near; shallow = omega (arith, h.shallow) }

-- ── expressions ──

module _ {sheet : Bytes} {a b os rest : List ℕ} {below base left i : ℕ} where
  pub one_at : One sheet a b os rest below base left i → ExprAt sheet a b i
  one_at h = expr_of left h.tree i h.held

  pub one_low : One sheet a b os rest below base left i → i < max_records
  one_low h = (one_at h).at.low

  pub one_deep : One sheet a b os rest below base left i → 0 < left
  one_deep h = deep sheet a b left i h.tree h.held

  pub starts : One sheet a b os rest below base left i → Starts a b i
  starts h = record { sheet = sheet; sort = expr; depth = left; tree = h.tree; held = h.held }

  -- one that has no line before it, as the first of one
  pub alone : One sheet a b os rest below base left i → Many sheet a b os rest below base left 1 i
  alone h = record { first = h.first; ops = h.ops; tabled = h.tabled; list = Due.more [] i (Line.bare (one_at h)) h.tree h.held h.under Due.none }

  pub alone_wrote : {next : ℕ} {p q : Page} → WroteMany sheet a b os rest below base left 1 i p next q → WroteOne sheet a b os rest below base left i p next q
  unfolding alone carried_recs carried_end
  alone_wrote w h = let o = w (alone h) in (o.0, rw (append-nil (render (shift (noted rest) base) h.ops h.tree)) at o.1)

  -- a pattern: the operator that it copies
  module _ (room : Roomy a b) {n : ℕ} (e : cell a b i kind_at ≡ pat_kind) (noted_is : n ≡ note_of rest base i) (h : One sheet a b os rest below base left i) where
    copy_of : Copy (shift (noted rest) base) h.first below i h.tree (one_at h)
    unfolding one_at
    copy_of = copied (shift (noted rest) base) h.first below left i room h.tree h.held h.under e

    pub copy_low : n < below
    copy_low = rw (← noted_is) at copy_of.low

    pub copy_plan : SomePlan sheet a b os rest n (n + 1)
    copy_plan = record { first = h.first; ops = h.ops; tabled = tabled_less (omega (arith, copy_low)) h.tabled; inside = rw (← noted_is) at copy_of.from }

    pub copy_wrote : {p q r : Page} {next : ℕ} → ((x : ExprAt sheet a b i) → Puts (spell_rec (expr_head n x.kind x.fields)) p q) → WroteOp sheet a b os rest n q r → Ends a b i next → (next ≡ i + size h.tree) × Puts (one_text h) p r
    unfolding copy_plan spell_recs
    copy_wrote {p} {q} {r} {next} head op ends =
        let recs : render (shift (noted rest) base) h.ops h.tree ≡ expr_head n (one_at h).kind (one_at h).fields ∷ h.ops n = rw (← noted_is) at (copy_of.recs h.ops) in
        (ends.each sheet expr left h.tree h.held, rw recs (head (one_at h) ⨾ op copy_plan))

  -- any other: what is below it
  module _ (room : Roomy a b) {m : ℕ} (count : m ≡ count_at a b i) (z : cell a b i kind_at ≡ pat_kind → ⊥) (h : One sheet a b os rest below base left i) where
    pub kid_parts : ExprParts sheet a b (shift (noted rest) base) h.first below left i m h.tree (one_at h)
    unfolding one_at
    kid_parts = parts (shift (noted rest) base) h.first below left i m room count h.tree h.held h.under z

    pub kids : Many sheet a b os rest below base (left - 1) m (i + 1)
    kids = record { first = h.first; ops = h.ops; tabled = h.tabled; list = kid_parts.list }

    pub kids_wrote : {n : ℕ} {p q r : Page} {next : ℕ} → n ≡ note_of rest base i → ((x : ExprAt sheet a b i) → Puts (spell_rec (expr_head n x.kind x.fields)) p q) → WroteMany sheet a b os rest below base (left - 1) m (i + 1) q next r → (next ≡ i + size h.tree) × Puts (one_text h) p r
    unfolding kids spell_recs
    kids_wrote {n} {p} {q} {r} {next} noted_is head many =
        let k = kid_parts in
        let recs : render (shift (noted rest) base) h.ops h.tree ≡ expr_head n (one_at h).kind (one_at h).fields ∷ carried_recs h.ops k.list = rw (← noted_is) at (k.recs h.ops) in
        let w = many kids in
        (w.0 ∙ k.stop, rw recs (head (one_at h) ⨾ w.1))

-- ── expressions of one line ──

module _ {sheet : Bytes} {a b : List ℕ} {i : ℕ} (room : Roomy a b) {kind : ℕ} (k : kind ≡ cell a b i kind_at) (leaf : is_leaf kind ≡ true) where
  pub leaf_wrote : {os rest : List ℕ} {below base left n : ℕ} {p q : Page} → n ≡ note_of rest base i → ((x : ExprAt sheet a b i) → Puts (spell_rec (expr_head n x.kind x.fields)) p q) → WroteOne sheet a b os rest below base left i p (i + 1) q
  unfolding is_leaf
  leaf_wrote noted_is head h =
      kids_wrote room (leaf_count sheet a b _ i kind h.tree room h.held k leaf) (λ z. leaf_not kind pat_kind leaf refl (k ∙ z)) h noted_is head (none_wrote refl)

-- ── elements ──

module _ {sheet : Bytes} {a b os rest : List ℕ} {below base left i : ℕ} (room : Roomy a b) (h : Element sheet a b os rest below base left i) where
  pub element_is : ElementParts sheet a b (shift (noted rest) base) h.first below left i h.tree
  element_is = element_parts (shift (noted rest) base) h.first below left i room h.tree h.held h.under

  pub element_names : {n : ℕ} → n ≡ cell a b i node_labels_at → Names sheet a b n (i + 1)
  element_names c = rw c element_is.names

  module _ {kind n props : ℕ} (k : kind ≡ cell a b i kind_at) (c : n ≡ cell a b i node_labels_at) (e : props ≡ cond (eqb kind node_kind) (cell a b i node_props_at) (cell a b i rel_props_at)) where
    module _ {next : ℕ} {p q : Page} (names : (x : Names sheet a b n (i + 1)) → (next ≡ i + 1 + n) × Puts (spell_recs (names_recs x)) p q) where
      names_put : (next ≡ i + 1 + cell a b i node_labels_at) × Puts (spell_recs (names_recs element_is.names)) p q
      names_put = let f : (x : Names sheet a b (cell a b i node_labels_at) (i + 1)) → (next ≡ i + 1 + cell a b i node_labels_at) × Puts (spell_recs (names_recs x)) p q = rw c at names in f element_is.names

      pub element_props : Many sheet a b os rest below base (left - 1) props next
      element_props = rw (names_put.0, e, k) (record { first = h.first; ops = h.ops; tabled = h.tabled; list = element_is.list })

      pub element_wrote : {start r : Page} {last : ℕ} → ((x : ElementAt sheet a b i) → Puts (spell_rec (spec_rec x.kind x.fields)) start p) → WroteMany sheet a b os rest below base (left - 1) props next q last r → Puts (element_text h) start r
      unfolding spell_recs
      element_wrote {start} {r} {last} head many =
          let m : WroteMany sheet a b os rest below base (left - 1) (props_at a b i) (i + 1 + cell a b i node_labels_at) q last r = rw (e, k, names_put.0) at many in
          let w = m (record { first = h.first; ops = h.ops; tabled = h.tabled; list = element_is.list }) in
          rw (element_is.recs h.ops) (head element_is.at ⨾ rw (spell_append (names_recs element_is.names) (carried_recs h.ops element_is.list)) (names_put.1 ⨾ w.1))
