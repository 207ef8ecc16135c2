-- A shortest part of exactly node, rel, node. Assumes nothing.
use mathlib.Core.Path.{◌≡◌, refl, sym, ap}
use Prim.Native.Nat.{ℕ, zero, suc, ◌+◌, ◌≤◌, ◌<◌}
use native.Mathlib.Omega.{arith}
use mathlib.Core.Bool.{Bool}
use mathlib.Core.List.{List, [], ◌∷◌, ◌++◌}
use Rattle.std.specs.Prelude.{Option}
use lib.ListN.{length}
use lib.Dec.{eqb, eqb-suc-suc}
use Rattle.model.specs.Text.{Bytes}
use Rattle.model.specs.Kind.{ReadOp, pattern_element, name, expr, in_plan, rel_spec}
use Rattle.model.specs.Record.{Rec, rec, one, all_shortest}
use Rattle.model.specs.Tree.{Tree, Trees, []ᵗ, ◌∷ᵗ◌, to_list, fold, fold_of}
use Rattle.model.specs.Lower.{Recs, Lowered, made, ◌>>=◌, ret, push, op, endpoint_var, props_of, lower_rel_element, lower_shortest_path_part, shape_of, lower_shaped, lower_pattern_part, lower_chain, NodeStep, RelStep, Step, of_node, of_rel, node_rel_node, other}
use Rattle.words.specs.Held.{Held, HeldOf, size, size_of}
use Rattle.lower.specs.Render.{Notes, Ops, render_of, spec_recs}
use Rattle.lower.specs.Rep.{State}
use Rattle.lower.specs.Pieces.{lower_c, render_c}
use Rattle.lower.specs.Chains.{step_of, steps_of, start_l}
use Rattle.lower.specs.Carry.{plain_c, plain_render}
use Rattle.lower.proofs.Elements.{names_render, names_count, props_lower, props_has}
use Rattle.words.specs.Words.{max_records}
use Rattle.context.specs.Tables.{vars_at}

-- what the definition's steps make of it
module _ (o br bt : Option ℕ) (n b : NodeStep) {k : ℕ} (types : Trees name k) (p : Bool) (props : Trees expr (one p)) (r : RelStep) (er : r ≡ record { bind = br; types = to_list k (fold_of Lowered made types); direction = r.direction; length = r.length; props = props_of p (fold_of Lowered made props) }) (eb : b.bind ≡ bt) (s : State) where
  abbrev s₁ : State
  s₁ = (endpoint_var n.bind s).1

  abbrev s₂ : State
  s₂ = (start_l (endpoint_var n.bind s).0 n s₁).1

  abbrev s₃ : State
  s₃ = (endpoint_var br s₂).1

  abbrev s₄ : State
  s₄ = (lower_c (plain_c props) s₃).1

  abbrev s₅ : State
  s₅ = (endpoint_var bt s₄).1

  abbrev s₆ : State
  s₆ = (endpoint_var o s₅).1

  abbrev pub short_recs : Bool → Recs
  short_recs all = op ReadOp.ShortestPath ((start_l (endpoint_var n.bind s).0 n s₁).0, ((endpoint_var n.bind s).0, ((endpoint_var bt s₄).0, ((endpoint_var o s₅).0, (all, tt))))) ∷ (rec (in_plan rel_spec) tt (k, (r.direction, (r.length, (p, tt)))) ∷ (to_list k (fold_of Lowered made types) ++ (lower_c (plain_c props) s₃).0))

  rel_def : lower_rel_element r s₂ ≡ (((endpoint_var br s₂).0, rec (in_plan rel_spec) tt (k, (r.direction, (r.length, (p, tt)))) ∷ (to_list k (fold_of Lowered made types) ++ (lower_c (plain_c props) s₃).0)), s₄)
  unfolding lower_rel_element ◌>>=◌ ret
  rel_def = rw (er, props_lower p props (endpoint_var br s₂).1, names_count types, props_has p props)

  pub short_def : (all : Bool) → lower_shortest_path_part o all n r b s ≡ push (short_recs all) s₆
  unfolding lower_shortest_path_part ◌>>=◌
  short_def all = rw (rel_def, eb)

-- ── the shape ──

pub shape_not_three : (ss : List Step) → ((length ss ≡ 3) → ⊥) → shape_of ss ≡ other
unfolding shape_of
shape_not_three [] h = refl
shape_not_three (s ∷ []) h = refl
shape_not_three (s ∷ t ∷ []) h = refl
shape_not_three (of_rel r ∷ t ∷ u ∷ ss) h = refl
shape_not_three (of_node a ∷ of_node n ∷ u ∷ ss) h = refl
shape_not_three (of_node a ∷ of_rel r ∷ of_rel q ∷ ss) h = refl
shape_not_three (of_node a ∷ of_rel r ∷ of_node b ∷ []) h = absurd (h refl)
shape_not_three (of_node a ∷ of_rel r ∷ of_node b ∷ s ∷ ss) h = refl

pub steps_length : {n : ℕ} (ts : Trees pattern_element n) → length (steps_of ts) ≡ n
unfolding to_list fold
steps_length []ᵗ = refl
steps_length (t ∷ᵗ ts) = rw (steps_length ts)

-- a part that is no shortest one, or has another shape, is a chain
pub plain_part : (o : Option ℕ) (k : ℕ) (ss : List Step) (s : State) → k ≡ 0 → lower_pattern_part o k ss s ≡ lower_chain o ss s
unfolding lower_pattern_part
plain_part o k ss s e = rw e

pub other_part : (o : Option ℕ) (k : ℕ) (ss : List Step) (s : State) → shape_of ss ≡ other → lower_pattern_part o k ss s ≡ lower_chain o ss s
unfolding lower_pattern_part lower_shaped
other_part o zero ss s e = refl
other_part o (suc k) ss s e = rw e

pub special_part : (o : Option ℕ) (k : ℕ) (ss : List Step) (n : NodeStep) (r : RelStep) (b : NodeStep) (s : State) → ((k ≡ 0) → ⊥) → shape_of ss ≡ node_rel_node n r b → lower_pattern_part o k ss s ≡ lower_shortest_path_part o (eqb k all_shortest) n r b s
unfolding lower_pattern_part lower_shaped
special_part o zero ss n r b s h e = absurd (h refl)
special_part o (suc k) ss n r b s h e = rw e (ap (λ (x : Bool). lower_shortest_path_part o x n r b s) (sym (eqb-suc-suc k 1)))

-- ── three elements ──

pub record Three {n : ℕ} (ts : Trees pattern_element n) : Type 0 where
  pub first : Tree pattern_element
  pub rel : Tree pattern_element
  pub far : Tree pattern_element
  pub steps : steps_of ts ≡ step_of first ∷ step_of rel ∷ step_of far ∷ []
  pub sized : size_of ts ≡ size first + size rel + size far
  pub held : (sheet : Bytes) (a b : List ℕ) (d i : ℕ) → HeldOf sheet a b ts d i → Held sheet a b first d i × Held sheet a b rel d (i + size first) × Held sheet a b far d (i + size first + size rel)

pub three : {n : ℕ} (ts : Trees pattern_element n) → n ≡ 3 → Three ts
unfolding to_list fold size Held
three []ᵗ e = absurd (omega arith)
three (t ∷ᵗ []ᵗ) e = absurd (omega arith)
three (t ∷ᵗ u ∷ᵗ []ᵗ) e = absurd (omega arith)
three (t ∷ᵗ u ∷ᵗ w ∷ᵗ []ᵗ) e = record { first = t; rel = u; far = w; steps = refl; sized = omega arith; held = λ sheet a b d i h. (h.0, h.1.0, h.1.1.0) }
three (◌∷ᵗ◌ t (◌∷ᵗ◌ u (◌∷ᵗ◌ w (◌∷ᵗ◌ {n = n} x ts)))) e = absurd (omega arith)

-- ── where its notes stand ──

pub record Spots (B i j rel far e nt : ℕ) : Type 0 where
  pub ij : B + suc i ≤ B + suc j
  pub j1e : B + suc j + 1 ≤ B + suc e
  pub j1j : B + suc j + 1 ≤ B + suc (j + 1)
  pub ij1 : B + suc i ≤ B + suc (j + 1)
  pub re : B + suc rel ≤ B + suc e
  pub j1r : B + suc j + 1 ≤ B + suc rel
  pub ir : B + suc i ≤ B + suc rel
  pub r1e : B + suc rel + 1 ≤ B + suc e
  pub r1t : B + suc rel + 1 ≤ B + suc (rel + 1 + nt)
  pub rt : B + suc rel ≤ B + suc (rel + 1 + nt)
  pub j1t : B + suc j + 1 ≤ B + suc (rel + 1 + nt)
  pub it : B + suc i ≤ B + suc (rel + 1 + nt)
  pub fe : B + suc far ≤ B + suc e
  pub r1f : B + suc rel + 1 ≤ B + suc far
  pub rf : B + suc rel ≤ B + suc far
  pub j1f : B + suc j + 1 ≤ B + suc far
  pub if : B + suc i ≤ B + suc far
  pub f1e : B + suc far + 1 ≤ B + suc e
  pub i1f : B + suc i + 1 ≤ B + suc far
  pub i1t : B + suc i + 1 ≤ B + suc (rel + 1 + nt)
  pub i1r : B + suc i + 1 ≤ B + suc rel
  pub i1j1 : B + suc i + 1 ≤ B + suc (j + 1)
  pub i1j : B + suc i + 1 ≤ B + suc j
  pub i1e : B + suc i + 1 ≤ B + suc e
  pub low_i : B + suc i < vars_at
  pub low_j : B + suc j < vars_at
  pub low_f : B + suc far < vars_at

pub spots : (B i j rel far e nt : ℕ) → j ≡ i + 1 → j < rel → rel + 1 + nt ≤ far → far < e → e ≤ max_records → B ≤ max_records → Spots B i j rel far e nt
spots B i j rel far e nt a b c d f g = record {
  ij = omega arith;
  j1e = omega arith;
  j1j = omega arith;
  ij1 = omega arith;
  re = omega arith;
  j1r = omega arith;
  ir = omega arith;
  r1e = omega arith;
  r1t = omega arith;
  rt = omega arith;
  j1t = omega arith;
  it = omega arith;
  fe = omega arith;
  r1f = omega arith;
  rf = omega arith;
  j1f = omega arith;
  if = omega arith;
  f1e = omega arith;
  i1f = omega arith;
  i1t = omega arith;
  i1r = omega arith;
  i1j1 = omega arith;
  i1j = omega arith;
  i1e = omega arith;
  low_i = omega arith;
  low_j = omega arith;
  low_f = omega arith;
}

pub at_place_law : (p : ℕ) → (p ≤ p) × (p < p + 1)
at_place_law p = (omega arith, omega arith)

pub short_is : (N : Notes) (A : Ops) (tr : Tree pattern_element) {n : ℕ} (types : Trees name n) (p : Bool) (props : Trees expr (one p)) (h : Rec) (input input' x x' y y' z z' : ℕ)
    (all : Bool) (q : Recs) → input' ≡ input → x ≡ x' → y ≡ y' → z ≡ z' → spec_recs N A tr ≡ h ∷ (render_of N A types ++ render_of N A props) → render_c N A (plain_c props) ≡ q →
    op ReadOp.ShortestPath (input, (x', (y', (z', (all, tt))))) ∷ (h ∷ (to_list n (fold_of Lowered made types) ++ q)) ≡ op ReadOp.ShortestPath (input', (x, (y, (z, (all, tt))))) ∷ spec_recs N A tr
short_is N A tr types p props h input input' x x' y y' z z' all q ei ex ey ez es eq = rw (ei, ex, ey, ez, es, plain_render N A props, eq, names_render N A types)
