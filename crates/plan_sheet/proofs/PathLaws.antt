-- The loop over the elements of a path. Assumes nothing: every law is proved.
use mathlib.Core.Path.{◌≡◌, refl, sym, ap, ◌∙◌}
use Prim.Native.Nat.{ℕ, suc, ◌+◌, ◌-◌, ◌<◌}
use native.Mathlib.Omega.{arith}
use mathlib.Core.Bool.{Bool, true, false}
use mathlib.Core.List.{List, [], ◌∷◌, ◌++◌, append-nil, append_assoc}
use Rattle.std.specs.Prelude.{Option, None, Some}
use lib.ListN.{get_or}
use Rattle.model.specs.Text.{Bytes, bytes, bytes_from}
use Rattle.model.specs.Field.{spell, spell_fields}
use Rattle.model.specs.Kind.{PatternElement, pattern_element, in_plan, path_element}
use Rattle.model.specs.Record.{rec, keyword, plan_keyword, spell_rec, spell_recs}
use Rattle.model.specs.Tree.{Trees, node, []ᵗ, ◌∷ᵗ◌}
use Rattle.model.specs.Lower.{path_elements}
use Rattle.output.specs.declared.Page.{Page}
use Rattle.output.specs.Page.{Puts}
use Rattle.output.specs.Writes.{◌⨾◌, stay}
use Rattle.words.specs.Words.{Roomy, cell, max_records}
use Rattle.words.specs.Held.{Held, HeldOf, size}
use Rattle.context.specs.Read.{note_of}
use Rattle.lower.specs.Render.{Notes, kept_rel, kept_from}
use Rattle.lower.specs.Shows.{shift}
use Rattle.words.specs.Count.{Starts, Ends}
use Rattle.words.specs.Numbers.{element_number}
use Rattle.plan_line.specs.Keywords.{word}
use Rattle.plan_line.specs.declared.keyword.Keyword.{Keyword}
use Rattle.plan_line.specs.Row.{row_text}
use Rattle.plan_sheet.specs.Due.{noted, ElementAt}
use Rattle.plan_sheet.specs.Path.{waits_of, WaitsLow, Stepped, Elements, WrotePath}
use Rattle.plan_sheet.specs.declared.path.Path.{Path}
use Rattle.plan_line.proofs.RowLaws.{row_rec}
use Rattle.plan_sheet.proofs.NameLaws.{element_number_law}
use Rattle.words.specs.Places.{kind_at, node_kind, rel_kind}

-- ── a number ──

number_line : (n : ℕ) → spell_recs (path_elements (n ∷ [])) ≡ row_text Keyword.Element (n ∷ [])
unfolding path_elements spell_recs keyword plan_keyword word bytes bytes_from spell_fields spell
number_line n = append-nil (spell_rec (rec (in_plan path_element) tt (n, tt))) ∙ row_rec (rec (in_plan path_element) tt (n, tt)) Keyword.Element (n ∷ []) refl refl

path_append : (xs ys : List ℕ) → spell_recs (path_elements (xs ++ ys)) ≡ spell_recs (path_elements xs) ++ spell_recs (path_elements ys)
unfolding path_elements spell_recs
path_append [] ys = refl
path_append (x ∷ xs) ys = ap (λ (t : Bytes). spell_rec (rec (in_plan path_element) tt (x, tt)) ++ t) (path_append xs ys) ∙ sym (append_assoc (spell_rec (rec (in_plan path_element) tt (x, tt))) (spell_recs (path_elements xs)) (spell_recs (path_elements ys)))

module _ (rest : List ℕ) (base : ℕ) (path : Path) where
  -- the number of the rel that waits, if it is kept, stands between two pages
  abbrev pub PutsKept : Page → Page → Type 0
  PutsKept g g' = Puts (spell_recs (path_elements (kept_rel (shift (noted rest) base) path.seen (waits_of path.waits)))) g g'

  pub none_waits : {g : Page} → path.waits ≡ None → PutsKept g g
  unfolding waits_of kept_rel path_elements spell_recs
  none_waits e = rw e stay

  pub kept : {i n : ℕ} {g g' : Page} → path.waits ≡ Some i → path.seen ≡ true → n ≡ note_of rest base i → Puts (row_text Keyword.Element (n ∷ [])) g g' → PutsKept g g'
  unfolding waits_of kept_rel
  kept {n = n} e t q w = rw (e, t, ← q, number_line n) w

  pub not_kept : {i : ℕ} {g : Page} → path.waits ≡ Some i → path.seen ≡ false → PutsKept g g
  unfolding waits_of kept_rel path_elements spell_recs
  not_kept e t = rw (e, t) stay

  pub node_step_law : {i kind n : ℕ} {g g' g'' : Page} → kind ≡ node_kind → PutsKept g g' → n ≡ note_of rest base i → Puts (row_text Keyword.Element (n ∷ [])) g' g'' → Stepped rest base i kind path (record { seen = true; waits = None }) g g''
  node_step_law {i} {n = n} e w q v =
      record {
        low = tt;
        of_node_law = λ x. (refl, refl, rw (path_append (kept_rel (shift (noted rest) base) path.seen (waits_of path.waits)) (note_of rest base i ∷ []), ← q, number_line n) (w ⨾ v));
        of_rel_law = λ x. absurd (x e);
      }

-- ── the loop ──

-- what is behind an element, of which the numbers `before` were due
pub record Walked (sheet : Bytes) (a b rest : List ℕ) (base m at : ℕ) (path : Path) (before : List ℕ) (p q : Page) : Type 0 where
  pub others : Elements sheet a b m at
  pub text : (r : Page) → Puts (spell_recs (path_elements (kept_from (shift (noted rest) base) path.seen (waits_of path.waits) others.trees))) q r → Puts (spell_recs (path_elements before)) p r

module _ {sheet : Bytes} {a b rest : List ℕ} {base at kind next : ℕ} {path path' : Path} {p q : Page} (room : Roomy a b) (k : kind ≡ cell a b at kind_at) (s : Stepped rest base at kind path path' p q) (ends : Ends a b at next) where
  walk : {m : ℕ} (z : m ≡ 0 → ⊥) (d : ℕ) (ts : Trees pattern_element m) → HeldOf sheet a b ts d at → Walked sheet a b rest base (m - 1) next path' (kept_from (shift (noted rest) base) path.seen (waits_of path.waits) ts) p q
  unfolding Held kept_from waits_of element_number
  walk z d []ᵗ h = absurd (z refl)
  walk {m = suc m} z d (node pattern_element line PatternElement.Node f kids ∷ᵗ ts) h =
      let x : ElementAt sheet a b at = record { kind = PatternElement.Node; fields = f; at = h.0.1 } in
      let w = s.of_node_law (k ∙ element_number_law room x) in
      let e : suc m - 1 ≡ m = omega arith in
      let n : next ≡ at + size (node pattern_element line PatternElement.Node f kids) = ends.each sheet pattern_element d (node pattern_element line PatternElement.Node f kids) h.0 in
      let l : suc at ≡ line = sym h.0.0 in
      let before : List ℕ = kept_rel (shift (noted rest) base) path.seen (waits_of path.waits) ++ (get_or rest (base + line) 0 ∷ []) in
      rw (e, n, w.0, w.1) (record {
        others = record { depth = d; trees = ts; held = h.1 };
        text = λ r v. rw (← append_assoc (kept_rel (shift (noted rest) base) path.seen (waits_of path.waits)) (get_or rest (base + line) 0 ∷ []) (kept_from (shift (noted rest) base) true None ts), path_append before (kept_from (shift (noted rest) base) true None ts)) (rw l at w.2 ⨾ v);
      })
  walk {m = suc m} z d (node pattern_element line PatternElement.Rel f kids ∷ᵗ ts) h =
      let x : ElementAt sheet a b at = record { kind = PatternElement.Rel; fields = f; at = h.0.1 } in
      let w = s.of_rel_law (λ e. let y : rel_kind ≡ node_kind = sym (element_number_law room x) ∙ sym k ∙ e in omega arith) in
      let e : suc m - 1 ≡ m = omega arith in
      let n : next ≡ at + size (node pattern_element line PatternElement.Rel f kids) = ends.each sheet pattern_element d (node pattern_element line PatternElement.Rel f kids) h.0 in
      let l : suc at ≡ line = sym h.0.0 in
      rw (e, n, w.0, w.1, w.2) (record {
        others = record { depth = d; trees = ts; held = h.1 };
        text = λ r v. rw l at v;
      })

pub record Walking (sheet : Bytes) (a b rest : List ℕ) (base n i : ℕ) (start : Page) (m at : ℕ) (path : Path) (p : Page) : Type 0 where
  pub some : Elements sheet a b m at
  pub each : (h : Elements sheet a b n i) → Walked sheet a b rest base m at path (kept_from (shift (noted rest) base) false None h.trees) start p
  pub low : WaitsLow path.waits

pub walking : {sheet : Bytes} {a b rest : List ℕ} {base n i : ℕ} {p : Page} → Elements sheet a b n i → Walking sheet a b rest base n i p n i (record { seen = false; waits = None }) p
unfolding waits_of
walking h = record { some = h; each = λ h. record { others = h; text = λ r v. v }; low = tt }

first_element : (sheet : Bytes) (a b : List ℕ) (d i : ℕ) {n : ℕ} → (n ≡ 0 → ⊥) → (ts : Trees pattern_element n) → HeldOf sheet a b ts d i → Starts a b i × (i < max_records)
unfolding Held
first_element sheet a b d i z []ᵗ h = absurd (z refl)
first_element sheet a b d i z (node pattern_element line k f kids ∷ᵗ ts) h = (record { sheet = sheet; sort = pattern_element; depth = d; tree = node pattern_element line k f kids; held = h.0 }, h.0.1.low)

pub element_starts : {sheet : Bytes} {a b : List ℕ} {n i : ℕ} → (n ≡ 0 → ⊥) → Elements sheet a b n i → Starts a b i × (i < max_records)
element_starts {sheet = sheet} {a = a} {b = b} {i = i} z h = first_element sheet a b h.depth i z h.trees h.held

module _ {sheet : Bytes} {a b rest : List ℕ} {base n i : ℕ} {start : Page} where
  pub walk_on : {m at kind next : ℕ} {path path' : Path} {p q : Page} → Roomy a b → (m ≡ 0 → ⊥) → Walking sheet a b rest base n i start m at path p → kind ≡ cell a b at kind_at → Stepped rest base at kind path path' p q → Ends a b at next → Walking sheet a b rest base n i start (m - 1) next path' q
  walk_on room z g k s ends =
      record {
        some = (walk room k s ends z g.some.depth g.some.trees g.some.held).others;
        each = λ h.
            let o = g.each h in
            let w = walk room k s ends z o.others.depth o.others.trees o.others.held in
            record { others = w.others; text = λ r v. o.text r (w.text r v) };
        low = s.low;
      }

kept_end : (N : Notes) (seen : Bool) (waits : Option ℕ) {m : ℕ} → m ≡ 0 → (ts : Trees pattern_element m) → kept_from N seen waits ts ≡ []
unfolding kept_from
kept_end N seen waits z []ᵗ = refl
kept_end N seen waits {m = suc m} z (t ∷ᵗ ts) = let e : suc m ≡ 0 = z in absurd (omega arith)

pub walk_done : {sheet : Bytes} {a b rest : List ℕ} {base n i m at : ℕ} {path : Path} {start p : Page} → m ≡ 0 → Walking sheet a b rest base n i start m at path p → WrotePath sheet a b rest base n i start p
unfolding path_elements spell_recs
walk_done {rest = rest} {base = base} {path = path} {p = p} z g h =
    let o = g.each h in
    o.text p (rw (kept_end (shift (noted rest) base) path.seen (waits_of path.waits) z o.others.trees) stay)
