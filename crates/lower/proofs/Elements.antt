-- Pattern elements as their words have them: names, and props if there are any. Assumes nothing.
use mathlib.Core.Path.{◌≡◌, refl, sym, ap}
use Prim.Native.Nat.{ℕ, suc, ◌+◌, ◌-◌}
use native.Mathlib.Omega.{arith}
use mathlib.Core.Bool.{Bool, true, false}
use mathlib.Core.List.{List, ◌∷◌, ◌++◌, append-nil}
use Rattle.std.specs.Prelude.{None, Some}
use lib.ListN.{length}
use lib.Dec.{eqb}
use Rattle.model.specs.Text.{Bytes}
use Rattle.model.specs.Field.{Fields, RelLength}
use Rattle.model.specs.Kind.{PatternElement, pattern_element, name, expr, in_plan, rel_spec, node_spec}
use Rattle.model.specs.Record.{Rec, rec, one, element_forms}
use Rattle.model.specs.Tree.{Tree, Trees, node, []ᵗ, ◌∷ᵗ◌, end, ◌▸◌, to_list, fold, fold_of}
use Rattle.model.specs.Lower.{Recs, Lowered, made, ◌>>=◌, ret, element_step, props_of, lower_props, lower_expr, has, Step, NodeStep, RelStep, of_node, of_rel}
use Rattle.words.specs.Words.{Roomy, cell, fields_of, field_of, option_of}
use Rattle.words.specs.Held.{Held, HeldOf, RecordAt, size, size_of}
use Rattle.words.specs.Cells.{shown, flag_counts}
use Rattle.lower.specs.Render.{Notes, Ops, render, render_of, recs_over, Below, BelowOf, below_in, spec_recs, spec_rec, KidsBelow}
use Rattle.lower.specs.Rep.{State}
use Rattle.lower.specs.Pieces.{lower_c}
use Rattle.lower.specs.Chains.{step_of}
use Rattle.words.specs.Kinds.{Opens, by_element}
use Rattle.words.specs.Numbers.{element_number}
use Rattle.words.specs.Numbers
use Rattle.lower.specs.Carry.{plain_c}
use Rattle.words.specs.Places.{kind_at, node_kind, rel_kind, element_named_at, element_var_at, node_labels_at, node_props_at, rel_props_at}

-- ── names ──

pub names_size : {n : ℕ} (ts : Trees name n) → size_of ts ≡ n
unfolding size
names_size []ᵗ = refl
names_size (◌∷ᵗ◌ {n = n} (node name line k f end) ts) = let e = names_size ts in omega arith

pub names_render : (N : Notes) (A : Ops) {n : ℕ} (ts : Trees name n) → render_of N A ts ≡ to_list n (fold_of Lowered made ts)
unfolding render recs_over to_list fold made
names_render N A []ᵗ = refl
names_render N A (node name line k f end ∷ᵗ ts) = rw (names_render N A ts)

pub names_count : {n : ℕ} (ts : Trees name n) → length (to_list n (fold_of Lowered made ts)) ≡ n
unfolding to_list fold made
names_count []ᵗ = refl
names_count (node name line k f end ∷ᵗ ts) = rw (names_count ts)

-- ── props ──

pub props_lower : (p : Bool) (ps : Trees expr (one p)) (s : State) → lower_props (props_of p (fold_of Lowered made ps)) s ≡ lower_c (plain_c ps) s
unfolding props_of lower_props fold plain_c lower_c ◌>>=◌ ret lower_expr
props_lower false []ᵗ s = refl
props_lower true (e ∷ᵗ []ᵗ) s = ap (λ (x : Recs). (x, (fold Lowered made e s).1)) (sym (append-nil (fold Lowered made e s).0))

pub props_has : (p : Bool) (ps : Trees expr (one p)) → has (props_of p (fold_of Lowered made ps)) ≡ p
unfolding props_of has fold
props_has false []ᵗ = refl
props_has true (e ∷ᵗ []ᵗ) = refl

-- ── elements ──

-- an element: names, whose number is word 4, and props, if the word at `flag` is 1
pub record IsElement (flag : ℕ) (sheet : Bytes) (a b : List ℕ) (d i : ℕ) (t : Tree pattern_element) : Type 0 where
  pub n : ℕ
  pub names : Trees name n
  pub p : Bool
  pub props : Trees expr (one p)
  pub many : n ≡ cell a b i node_labels_at
  pub flagged : one p ≡ cell a b i flag
  pub held_names : HeldOf sheet a b names (d - 1) (i + 1)
  pub held_props : HeldOf sheet a b props (d - 1) (i + 1 + n)
  pub sized : size t ≡ suc (n + size_of props)
  pub head : Rec
  pub spec : (N : Notes) (A : Ops) → spec_recs N A t ≡ head ∷ (render_of N A names ++ render_of N A props)
  pub below : (N : Notes) (lo k : ℕ) → BelowOf N lo k props → KidsBelow N lo k t

pub record IsNode (sheet : Bytes) (a b : List ℕ) (d i : ℕ) (t : Tree pattern_element) : Type 0 where
  pub el : IsElement node_props_at sheet a b d i t
  pub step : step_of t ≡ of_node (record { bind = option_of (cell a b i element_named_at) (cell a b i element_var_at); labels = to_list el.n (fold_of Lowered made el.names); props = props_of el.p (fold_of Lowered made el.props) })
  pub head : el.head ≡ rec (in_plan node_spec) tt (el.n, (el.p, tt))

pub record IsRel (sheet : Bytes) (a b : List ℕ) (d i : ℕ) (t : Tree pattern_element) : Type 0 where
  pub el : IsElement rel_props_at sheet a b d i t
  pub direction : ℕ
  pub length : RelLength
  pub step : step_of t ≡ of_rel (record { bind = option_of (cell a b i element_named_at) (cell a b i element_var_at); types = to_list el.n (fold_of Lowered made el.names); direction = direction; length = length; props = props_of el.p (fold_of Lowered made el.props) })
  pub head : el.head ≡ rec (in_plan rel_spec) tt (el.n, (direction, (length, (el.p, tt))))

pub element_number_law : {sheet : Bytes} {a b : List ℕ} {i : ℕ} {k : PatternElement} {f : Fields (element_forms k)} → Roomy a b → RecordAt sheet a b i pattern_element k f → cell a b i kind_at ≡ element_number k
element_number_law {k = k} room h = Numbers.element_number_law _ k (shown room h).kind

names_none : (N : Notes) (lo k : ℕ) {n : ℕ} (ts : Trees name n) → BelowOf N lo k ts
unfolding Below below_in
names_none N lo k []ᵗ = tt
names_none N lo k (node name line e f end ∷ᵗ ts) = (tt, names_none N lo k ts)

module _ {sheet : Bytes} {a b : List ℕ} {d i : ℕ} (room : Roomy a b) where
  a_node_of : Opens sheet a b d i pattern_element (λ t. IsNode sheet a b d i t) PatternElement.Node
  unfolding Held size fold made element_step spec_recs spec_rec render KidsBelow Below fields_of field_of
  a_node_of line (bind, (n, (p, (span, u)))) (names ▸ props ▸ end) hd =
      let w = shown room hd.1 in
      let eb : bind ≡ option_of (cell a b i element_named_at) (cell a b i element_var_at) = ap (λ (x : Fields (element_forms PatternElement.Node)). x.0) w.fields in
      let en : n ≡ cell a b i node_labels_at = ap (λ (x : Fields (element_forms PatternElement.Node)). x.1.0) w.fields in
      let ep : p ≡ eqb (cell a b i node_props_at) 1 = ap (λ (x : Fields (element_forms PatternElement.Node)). x.1.1.0) w.fields in
      let z : size_of names ≡ n = names_size names in
      record {
        el = record {
          n = n;
          names = names;
          p = p;
          props = props;
          many = en;
          flagged = flag_counts p (cell a b i node_props_at) ep w.flags.1.1.0;
          held_names = hd.3.0;
          held_props = rw z at hd.3.1.0;
          sized = omega arith;
          head = rec (in_plan node_spec) tt (n, (p, tt));
          spec = λ N A. ap (λ (x : Recs). rec (in_plan node_spec) tt (n, (p, tt)) ∷ (render_of N A names ++ x)) (append-nil (render_of N A props));
          below = λ N lo k q. (names_none N lo k names, (q, tt));
        };
        step = rw eb;
        head = refl;
      }

  pub a_node : (t : Tree pattern_element) → Held sheet a b t d i → cell a b i kind_at ≡ node_kind → IsNode sheet a b d i t
  unfolding element_number
  a_node t hd e = by_element sheet d i room (λ t. IsNode sheet a b d i t) PatternElement.Node a_node_of t hd e

  a_rel_of : Opens sheet a b d i pattern_element (λ t. IsRel sheet a b d i t) PatternElement.Rel
  unfolding Held size fold made element_step spec_recs spec_rec render KidsBelow Below fields_of field_of
  a_rel_of line (bind, (n, (direction, (length, (p, (span, u)))))) (names ▸ props ▸ end) hd =
      let w = shown room hd.1 in
      let eb : bind ≡ option_of (cell a b i element_named_at) (cell a b i element_var_at) = ap (λ (x : Fields (element_forms PatternElement.Rel)). x.0) w.fields in
      let en : n ≡ cell a b i node_labels_at = ap (λ (x : Fields (element_forms PatternElement.Rel)). x.1.0) w.fields in
      let ep : p ≡ eqb (cell a b i rel_props_at) 1 = ap (λ (x : Fields (element_forms PatternElement.Rel)). x.1.1.1.1.0) w.fields in
      let z : size_of names ≡ n = names_size names in
      record {
        el = record {
          n = n;
          names = names;
          p = p;
          props = props;
          many = en;
          flagged = flag_counts p (cell a b i rel_props_at) ep w.flags.1.1.1.1.0;
          held_names = hd.3.0;
          held_props = rw z at hd.3.1.0;
          sized = omega arith;
          head = rec (in_plan rel_spec) tt (n, (direction, (length, (p, tt))));
          spec = λ N A. ap (λ (x : Recs). rec (in_plan rel_spec) tt (n, (direction, (length, (p, tt)))) ∷ (render_of N A names ++ x)) (append-nil (render_of N A props));
          below = λ N lo k q. (names_none N lo k names, (q, tt));
        };
        direction = direction;
        length = length;
        step = rw eb;
        head = refl;
      }

  pub a_rel : (t : Tree pattern_element) → Held sheet a b t d i → cell a b i kind_at ≡ rel_kind → IsRel sheet a b d i t
  unfolding element_number
  a_rel t hd e = by_element sheet d i room (λ t. IsRel sheet a b d i t) PatternElement.Rel a_rel_of t hd e

-- an element is the one or the other
pub other_element : {a b : List ℕ} (room : Roomy a b) (sheet : Bytes) (d i : ℕ) (t : Tree pattern_element) → Held sheet a b t d i → ((cell a b i kind_at ≡ node_kind) → ⊥) → cell a b i kind_at ≡ rel_kind
unfolding Held element_number
other_element room sheet d i (node pattern_element line PatternElement.Node f kids) hd h = absurd (h (element_number_law room hd.1))
other_element room sheet d i (node pattern_element line PatternElement.Rel f kids) hd h = element_number_law room hd.1

-- the props, if there are any
pub record OneProp (p : Bool) (ps : Trees expr (one p)) : Type 0 where
  pub tree : Tree expr
  pub is : props_of p (fold_of Lowered made ps) ≡ Some (λ s. lower_expr tree s)
  pub held : (sheet : Bytes) (a b : List ℕ) (d i : ℕ) → HeldOf sheet a b ps d i → Held sheet a b tree d i
  pub sized : size_of ps ≡ size tree

pub one_prop : (p : Bool) (ps : Trees expr (one p)) → ((one p ≡ 0) → ⊥) → OneProp p ps
unfolding props_of fold lower_expr Held size
one_prop false ps h = absurd (h refl)
one_prop true (e ∷ᵗ []ᵗ) h = record { tree = e; is = refl; held = λ sheet a b d i q. q.0; sized = omega arith }

pub no_prop : (p : Bool) (ps : Trees expr (one p)) → one p ≡ 0 → (props_of p (fold_of Lowered made ps) ≡ None) × (size_of ps ≡ 0)
unfolding props_of fold size
no_prop false []ᵗ h = (refl, refl)
no_prop true ps h = absurd (omega arith)

un_node : Step → NodeStep → NodeStep
un_node (of_node n) x = n
un_node (of_rel r) x = x

pub same_node : {n n' : NodeStep} → of_node n ≡ of_node n' → n ≡ n'
unfolding un_node
same_node {n} e = ap (λ (x : Step). un_node x n) e

un_rel : Step → RelStep → RelStep
un_rel (of_node n) x = x
un_rel (of_rel r) x = r

pub same_rel : {r r' : RelStep} → of_rel r ≡ of_rel r' → r ≡ r'
unfolding un_rel
same_rel {r} e = ap (λ (x : Step). un_rel x r) e
