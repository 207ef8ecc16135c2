-- A node with its number: the source, and the filter by its props. Assumes nothing.
use mathlib.Core.Path.{◌≡◌, refl, sym, ap, ◌∙◌}
use Prim.Native.Nat.{ℕ, suc, ◌+◌, ◌-◌, ◌≤◌}
use native.Mathlib.Nat.{le_refl}
use native.Mathlib.Omega.{arith}
use mathlib.Core.List.{List}
use Rattle.std.specs.Prelude.{None, Some}
use lib.ListN.{length}
use Rattle.model.specs.Text.{Bytes}
use Rattle.model.specs.Kind.{pattern_element, expr}
use Rattle.model.specs.Tree.{Tree, to_list, fold_of}
use Rattle.model.specs.Lower.{Recs, Lowered, made, ◌>>=◌, ret, push, source, filter, filter_by_props, props_of, lower_expr, NodeStep, of_node}
use Rattle.words.specs.Words.{Roomy, cell, option_of, max_records}
use Rattle.words.specs.Held.{Held}
use Rattle.context.specs.Tables.{Pushed, second_pass, deepest}
use Rattle.context.specs.declared.LowerCtx.{LowerCtx}
use Rattle.context.specs.Ops.{filter_op, source_op}
use Rattle.lower.specs.Side.{side}
use Rattle.lower.specs.Shows.{shift, shows_source, shows_filter}
use Rattle.lower.specs.Rep.{at_place, State, Mem, mem, Written, Blank, Rep, To, Rooted}
use Rattle.lower.specs.Pieces.{SomeTree, LowersExpr}
use Rattle.lower.specs.Chains.{step_of, start_l, LowersStart}
use Rattle.lower.specs.State.{sub_more, sub_within, blank_within, to_then, to_wider, push_to, filter_is}
use Rattle.words.specs.Fits.{tree_fits, tree_low}
use Rattle.lower.proofs.Elements.{names_render, a_node, OneProp, one_prop, no_prop, same_node}
use Rattle.words.specs.Places.{kind_at, node_kind, element_named_at, element_var_at, node_labels_at, node_props_at}

module _ {a b : List ℕ} (d i : ℕ) (room : Roomy a b) (is_node_law : cell a b i kind_at ≡ node_kind) where
  pub some_end : SomeTree a b pattern_element d i → i + 1 + cell a b i node_labels_at ≤ max_records
  some_end x =
      let v = (a_node room x.tree x.held is_node_law).el in
      let f = tree_fits x.sheet a b x.tree d i x.held in
      let z = v.sized in
      let y = v.many in
      omega arith

  -- the expression behind the names
  pub some_prop : SomeTree a b pattern_element d i → ((cell a b i node_props_at ≡ 0) → ⊥) → SomeTree a b expr (d - 1) (i + 1 + cell a b i node_labels_at)
  some_prop x h =
      let v = (a_node room x.tree x.held is_node_law).el in
      let o = one_prop v.p v.props (λ e. h (sym v.flagged ∙ e)) in
      record { sheet = x.sheet; tree = o.tree; held = o.held x.sheet a b (d - 1) _ (rw v.many at v.held_props) }

-- its props
props_of_law : {a b : List ℕ} (d i : ℕ) (room : Roomy a b) (is_node_law : cell a b i kind_at ≡ node_kind) (sheet : Bytes) (t : Tree pattern_element) (n : NodeStep) (hd : Held sheet a b t d i) → step_of t ≡ of_node n → n.props ≡ props_of (a_node room t hd is_node_law).el.p (fold_of Lowered made (a_node room t hd is_node_law).el.props)
props_of_law d i room is_node_law sheet t n hd st = ap (λ (x : NodeStep). x.props) (same_node (sym st ∙ (a_node room t hd is_node_law).step))

bare_root : (number k : ℕ) (n : NodeStep) (s : State) → n.props ≡ None → k ≡ length s.ops → ((start_l number n s).1 ≡ (push (source number n.labels) s).1) × (k ≡ (start_l number n s).0)
unfolding ◌>>=◌ push filter_by_props ret
bare_root number k n s e ek = rw e (refl, ek)

-- the state behind a source, and a filter by props
abbrev sourced : ℕ → NodeStep → State → State
sourced number n s = (push (source number n.labels) s).1

filter_root : (number : ℕ) (n : NodeStep) (e : Tree expr) (s : State) → n.props ≡ Some (λ z. lower_expr e z) → start_l number n s ≡ push (filter (length s.ops) (lower_expr e (sourced number n s)).0) (lower_expr e (sourced number n s)).1
unfolding ◌>>=◌ push filter_by_props
filter_root number n e s h = rw h

module _ {a b : List ℕ} {base number : ℕ} {c : LowerCtx} {os' : List ℕ} {m : Mem} (d i : ℕ) (room : Roomy a b) (is_node_law : cell a b i kind_at ≡ node_kind) (sh : (d ≤ deepest) × (base ≤ second_pass)) (ps : Pushed m.ctx c m.ops os' (source_op (at_place base i (d - 1)) number)) (lo : length os' ≡ length m.ops) where
  -- the source
  source_to : (sheet : Bytes) {first : ℕ} (t : Tree pattern_element) (n : NodeStep) → Held sheet a b t d i → step_of t ≡ of_node n → (W : Written) (s : State) → Rep (side sheet a b first) W s m → To (side sheet a b first) W W s (push (source number n.labels) s).1 m (mem c os' m.rest)
  source_to sheet t n hd st W s r =
      let v = a_node room t hd is_node_law in
      let e : n ≡ record { bind = option_of (cell a b i element_named_at) (cell a b i element_var_at); labels = to_list v.el.n (fold_of Lowered made v.el.names); props = props_of v.el.p (fold_of Lowered made v.el.props) } = same_node (sym st ∙ v.step) in
      push_to m c os' (source_op (at_place base i (d - 1)) number) (source number n.labels) r ps
      (λ N A f. record {
        bounded = record { shallow = let z = sh.0 in omega arith; near = sh.1; low = tree_low sheet a b t d i hd; far = λ e. absurd (omega arith); flagged = λ e. absurd (omega arith) };
        shows = shows_source refl (record {
          count = v.el.n;
          labels = v.el.names;
          counted = v.el.many;
          held = v.el.held_names;
          is = ap (λ (x : Recs). source number x) (ap (λ (x : NodeStep). x.labels) e ∙ sym (names_render (shift N base) A v.el.names));
        });
      })

  module _ (k6 : cell a b i node_props_at ≡ 0) where
    bare_run : (sheet : Bytes) {first : ℕ} (t : Tree pattern_element) (n : NodeStep) → Held sheet a b t d i → step_of t ≡ of_node n → (W : Written) (s : State) → Rep (side sheet a b first) W s m → Rooted (side sheet a b first) W (start_l number n) m.ctx.ops base (suc (i + 1)) (suc (i + 1 + cell a b i node_labels_at)) s m (mem c os' m.rest)
    bare_run sheet t n hd st W s r =
        let v = (a_node room t hd is_node_law).el in
        let z = bare_root number m.ctx.ops n s (props_of_law d i room is_node_law sheet t n hd st ∙ (no_prop v.p v.props (v.flagged ∙ k6)).0) r.count in
        record {
          to = rw z.0 (to_wider (sub_more (base + suc (i + 1), base + suc (i + 1 + cell a b i node_labels_at)) W) (source_to sheet t n hd st W s r));
          root = z.1;
          low = let e : c.ops ≡ m.ctx.ops + 1 = ps.count in omega arith;
        }

    pub bare_law : SomeTree a b pattern_element d i → LowersStart a b d base i number (i + 1 + cell a b i node_labels_at) m.ctx.ops m (mem c os' m.rest)
    bare_law x =
        let l = some_end d i room is_node_law x in
        record {
          moved = record { up = omega arith; here = l; grow = omega (arith, ps.count); few = omega (arith, ps.count); low = omega (arith, ps.numbers); met = omega (arith, ps.mapped); in_ops = lo; in_rest = refl; index = λ x. rw ps.mapped x };
          numbers = omega (arith, ps.numbers);
          mapped = omega (arith, ps.mapped);
          since = le_refl _;
          low = omega (arith, ps.count);
          next = λ sheet t hd. (let v = (a_node room t hd is_node_law).el in let z = (no_prop v.p v.props (v.flagged ∙ k6)).1 in let y = v.sized in let w = v.many in omega arith);
          run = λ sheet t n hd st W s r bl. bare_run sheet t n hd st W s r;
        }

  module _ {e : ℕ} {c₃ : LowerCtx} {os₃ : List ℕ} {m₂ : Mem} (k6 : (cell a b i node_props_at ≡ 0) → ⊥)
      (ex : LowersExpr a b (d - 1) base (i + 1 + cell a b i node_labels_at) e (mem c os' m.rest) m₂)
      (pf : Pushed m₂.ctx c₃ m₂.ops os₃ (filter_op (at_place base (i + 1 + cell a b i node_labels_at) (d - 1)) m.ctx.ops)) (lo₃ : length os₃ ≡ length m₂.ops) where
    prop_at : (sheet : Bytes) (t : Tree pattern_element) (hd : Held sheet a b t d i) → OneProp (a_node room t hd is_node_law).el.p (a_node room t hd is_node_law).el.props
    prop_at sheet t hd = let v = (a_node room t hd is_node_law).el in one_prop v.p v.props (λ z. k6 (sym v.flagged ∙ z))

    prop_held : (sheet : Bytes) (t : Tree pattern_element) (hd : Held sheet a b t d i) → Held sheet a b (prop_at sheet t hd).tree (d - 1) (i + 1 + cell a b i node_labels_at)
    prop_held sheet t hd = let v = (a_node room t hd is_node_law).el in (prop_at sheet t hd).held sheet a b (d - 1) _ (rw v.many at v.held_props)

    filtered_run : (sheet : Bytes) {first : ℕ} (t : Tree pattern_element) (n : NodeStep) → Held sheet a b t d i → step_of t ≡ of_node n → (W : Written) (s : State) → Rep (side sheet a b first) W s m → Blank W (base + suc (i + 1)) (base + suc e) → Rooted (side sheet a b first) W (start_l number n) m₂.ctx.ops base (suc (i + 1)) (suc e) s m (mem c₃ os₃ m₂.rest)
    unfolding push
    filtered_run sheet t n hd st W s r bl =
        let u = ex.moved.up in
        let j : ℕ = i + 1 + cell a b i node_labels_at in
        let o = prop_at sheet t hd in
        let z = filter_root number n o.tree s (props_of_law d i room is_node_law sheet t n hd st ∙ o.is) in
        let a₁ = source_to sheet t n hd st W s r in
        let a₂ = ex.run sheet o.tree (prop_held sheet t hd) W (sourced number n s) a₁.rep (blank_within (omega arith) (le_refl _) bl) in
        let s₂ : State = (lower_expr o.tree (sourced number n s)).1 in
        let a₃ = push_to m₂ c₃ os₃ (filter_op (at_place base j (d - 1)) m.ctx.ops) (filter (length s.ops) (lower_expr o.tree (sourced number n s)).0) a₂.to.rep pf
        (λ N A f. record {
          bounded = record { shallow = let y = sh.0 in omega arith; near = sh.1; low = tree_low sheet a b o.tree (d - 1) j (prop_held sheet t hd); far = λ e. absurd (omega arith); flagged = λ e. absurd (omega arith) };
          shows = shows_filter refl (record {
            tree = o.tree;
            held = prop_held sheet t hd;
            below = a₂.below N A f;
            is = filter_is m.ctx.ops (length s.ops) _ _ r.count (a₂.shown N A f);
          });
        }) in
        record {
          to = rw z (to_wider (sub_within (omega arith) (le_refl _) (sub_more (base + suc (i + 1), base + suc e) W)) (to_then a₁ (to_then a₂.to a₃)));
          root = rw z a₂.to.rep.count;
          low = let w : c₃.ops ≡ m₂.ctx.ops + 1 = pf.count in omega arith;
        }

    pub filtered_law : LowersStart a b d base i number e m₂.ctx.ops m (mem c₃ os₃ m₂.rest)
    filtered_law =
        let v = ex.moved in
        record {
          moved = record {
            up = omega (arith, v.up);
            here = v.here;
            grow = omega (arith, ps.count, pf.count, v.grow);
            few = omega (arith, ps.count, pf.count, v.few);
            low = omega (arith, ps.numbers, pf.numbers, v.low, v.up);
            met = omega (arith, ps.mapped, pf.mapped, v.met, v.up);
            in_ops = lo₃ ∙ v.in_ops ∙ lo;
            in_rest = v.in_rest;
            index = λ x. rw pf.mapped (v.index (rw ps.mapped x));
          };
          numbers = omega (arith, ps.numbers, pf.numbers, v.low, v.up);
          mapped = omega (arith, ps.mapped, pf.mapped, v.met, v.up);
          since = omega (arith, ps.count, v.grow);
          low = omega (arith, pf.count);
          next = λ sheet t hd. (let w = (a_node room t hd is_node_law).el in let q = ex.next sheet (prop_at sheet t hd).tree (prop_held sheet t hd) in let y = w.sized in let x = w.many in let z = (prop_at sheet t hd).sized in omega arith);
          run = filtered_run;
        }

-- the same, with the record behind the labels as it was read
module _ {a b : List ℕ} {base number : ℕ} {c : LowerCtx} {os' : List ℕ} {m : Mem} (d i j : ℕ) (room : Roomy a b) (is_node_law : cell a b i kind_at ≡ node_kind) (sh : (d ≤ deepest) × (base ≤ second_pass))
    (ej : j ≡ i + 1 + cell a b i node_labels_at) (ps : Pushed m.ctx c m.ops os' (source_op (at_place base i (d - 1)) number)) (lo : length os' ≡ length m.ops) where
  pub bare_read : cell a b i node_props_at ≡ 0 → SomeTree a b pattern_element d i → LowersStart a b d base i number j m.ctx.ops m (mem c os' m.rest)
  bare_read k6 x = rw ej (bare_law d i room is_node_law sh ps lo k6 x)

  pub filtered_read : {e : ℕ} {c₃ : LowerCtx} {os₃ : List ℕ} {m₂ : Mem} → ((cell a b i node_props_at ≡ 0) → ⊥) → LowersExpr a b (d - 1) base j e (mem c os' m.rest) m₂ →
      Pushed m₂.ctx c₃ m₂.ops os₃ (filter_op (at_place base j (d - 1)) m.ctx.ops) → length os₃ ≡ length m₂.ops → LowersStart a b d base i number e m₂.ctx.ops m (mem c₃ os₃ m₂.rest)
  filtered_read k6 ex pf lo₃ = filtered_law d i room is_node_law sh ps lo k6 (rw ej at ex) (rw ej at pf) lo₃

pub prop_read : {a b : List ℕ} (d i j : ℕ) (room : Roomy a b) (is_node_law : cell a b i kind_at ≡ node_kind) → j ≡ i + 1 + cell a b i node_labels_at → SomeTree a b pattern_element d i → ((cell a b i node_props_at ≡ 0) → ⊥) → SomeTree a b expr (d - 1) j
prop_read d i j room is_node_law ej x h = rw ej (some_prop d i room is_node_law x h)
