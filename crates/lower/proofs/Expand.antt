-- A node behind a rel that waits: its number, the rel's number, the rel's props, its own props, and then the expand. Assumes nothing.
use mathlib.Core.Path.{◌≡◌, refl, sym, ap, subst, ◌∙◌}
use Prim.Native.Nat.{ℕ, suc, ◌+◌, ◌-◌, ◌≤◌, ◌<◌}
use native.Mathlib.Nat.{le_refl}
use native.Mathlib.Omega.{arith}
use mathlib.Core.Bool.{Bool}
use mathlib.Core.List.{List, [], ◌∷◌, ◌++◌}
use mathlib.Core.Logic.{inl}
use Rattle.std.specs.Prelude.{Option, None, Some}
use lib.ListN.{length}
use Rattle.model.specs.Text.{Bytes}
use Rattle.model.specs.Kind.{ReadOp, pattern_element, expr, name, in_plan, rel_spec, node_spec}
use Rattle.model.specs.Record.{Rec, rec, one}
use Rattle.model.specs.Tree.{Tree, Trees, to_list, fold_of}
use Rattle.model.specs.Lower.{Recs, Lowered, made, ◌>>=◌, ret, push, op, endpoint_var, props_of, node_recs, lower_rel_element, expand_to, reach, lower_element, NodeStep, RelStep, of_node, of_rel, at}
use Rattle.model.specs.Lower
use Rattle.words.specs.Words.{Roomy, cell, option_of, max_records}
use Rattle.words.specs.Held.{Held, size}
use Rattle.context.specs.Tables.{Pushed, Numbers, second_pass, vars_at, deepest}
use Rattle.context.specs.declared.LowerCtx.{LowerCtx}
use Rattle.context.specs.declared.Numbered.{Numbered}
use Rattle.context.specs.Ops.{expand_op}
use Rattle.lower.specs.Side.{Side, side}
use Rattle.lower.specs.Render.{Notes, Ops, render_of, spec_recs}
use Rattle.lower.specs.Shows.{shift, InBounds, shows_expand}
use Rattle.lower.specs.Rep.{at_place, State, Mem, mem, Written, Sub, Blank, Future, Rep, To}
use Rattle.lower.specs.Pieces.{lower_c, render_c, LowersExprs}
use Rattle.lower.specs.Chains.{step_of}
use Rattle.lower.specs.State.{sub_more, sub_within, blank_within, blank_before, blank_behind, back, to_then, to_wider, push_to, Given, number_to}
use Rattle.words.specs.Fits.{tree_low}
use Rattle.lower.specs.Below.{carried_more}
use Rattle.lower.specs.Exprs.{narrow}
use Rattle.lower.specs.Carry.{plain_c, plain_size, plain_held, plain_render, plain_below}
use Rattle.lower.proofs.Elements
use Rattle.lower.proofs.Elements.{names_render, names_count, props_lower, props_has, a_node, a_rel}
use Rattle.words.specs.Places.{kind_at, node_kind, rel_kind, element_named_at, element_var_at, node_labels_at, node_props_at, rel_types_at, rel_props_at}

-- what the definition's steps make of elements that are opened
abbrev pub node_step : (bind : Option ℕ) {n : ℕ} → Trees name n → (p : Bool) → Trees expr (one p) → NodeStep
node_step bind {n} names p props = record { bind = bind; labels = to_list n (fold_of Lowered made names); props = props_of p (fold_of Lowered made props) }

module _ (bn br : Option ℕ) {n n' : ℕ} (labels : Trees name n) (types : Trees name n') (p p' : Bool) (props : Trees expr (one p)) (props' : Trees expr (one p')) (r : RelStep)
    (er : r ≡ record { bind = br; types = to_list n' (fold_of Lowered made types); direction = r.direction; length = r.length; props = props_of p' (fold_of Lowered made props') }) (s : State) where
  abbrev s₁ : State
  s₁ = (endpoint_var bn s).1

  abbrev s₂ : State
  s₂ = (endpoint_var br s₁).1

  abbrev s₃ : State
  s₃ = (lower_c (plain_c props') s₂).1

  abbrev s₄ : State
  s₄ = (lower_c (plain_c props) s₃).1

  abbrev pub expand_recs : ℕ → ℕ → Recs
  expand_recs input origin = op ReadOp.Expand (input, (origin, ((endpoint_var br s₁).0, ((endpoint_var bn s).0, tt)))) ∷ ((rec (in_plan rel_spec) tt (n', (r.direction, (r.length, (p', tt)))) ∷ (to_list n' (fold_of Lowered made types) ++ (lower_c (plain_c props') s₂).0)) ++ (rec (in_plan node_spec) tt (n, (p, tt)) ∷ (to_list n (fold_of Lowered made labels) ++ (lower_c (plain_c props) s₃).0)))

  rel_def : lower_rel_element r s₁ ≡ (((endpoint_var br s₁).0, rec (in_plan rel_spec) tt (n', (r.direction, (r.length, (p', tt)))) ∷ (to_list n' (fold_of Lowered made types) ++ (lower_c (plain_c props') s₂).0)), s₃)
  unfolding lower_rel_element ◌>>=◌ ret
  rel_def = rw (er, props_lower p' props' (endpoint_var br s₁).1, names_count types, props_has p' props')

  expand_def : (c : Lower.Chain) (input origin : ℕ) → c.pending ≡ Some r → c.last ≡ Some (input, origin) → lower_element c (of_node (node_step bn labels p props)) s ≡ (record { last = Some (length s₄.ops, (endpoint_var bn s).0); pending = None; path = c.path ++ ((endpoint_var br s₁).0 ∷ (endpoint_var bn s).0 ∷ []) }, (push (expand_recs input origin) s₄).1)
  unfolding lower_element reach expand_to node_recs ◌>>=◌ ret push
  expand_def c input origin ep el = rw (ep, el, rel_def, props_lower p props s₃, names_count labels, props_has p props)

-- where the notes of an expand stand
pub record Places (B rel far e₁ e₂ nt nl : ℕ) : Type 0 where
  pub rf : B + suc rel ≤ B + suc far
  pub fe : B + suc far + 1 ≤ B + suc e₂
  pub r1f : B + suc rel + 1 ≤ B + suc far
  pub r1e : B + suc rel + 1 ≤ B + suc e₂
  pub r1t : B + suc rel + 1 ≤ B + suc (rel + 1 + nt)
  pub ef : B + suc e₁ ≤ B + suc far
  pub rt : B + suc rel ≤ B + suc (rel + 1 + nt)
  pub ee : B + suc e₁ ≤ B + suc e₂
  pub el : B + suc e₁ ≤ B + suc (far + 1 + nl)
  pub r1l : B + suc rel + 1 ≤ B + suc (far + 1 + nl)
  pub f1l : B + suc far + 1 ≤ B + suc (far + 1 + nl)
  pub rl : B + suc rel ≤ B + suc (far + 1 + nl)
  pub low_rel : B + suc rel < vars_at
  pub low_far : B + suc far < vars_at
  pub at_rel : (B + suc rel ≤ B + suc rel) × (B + suc rel < B + suc rel + 1)
  pub at_far : (B + suc far ≤ B + suc far) × (B + suc far < B + suc far + 1)

places : (B rel far e₁ e₂ nt nl : ℕ) → far ≡ e₁ → rel + 1 + nt ≤ e₁ → far + 1 + nl ≤ e₂ → far < max_records → B ≤ max_records → Places B rel far e₁ e₂ nt nl
places B rel far e₁ e₂ nt nl a b c d e = record {
  rf = omega arith;
  fe = omega arith;
  r1f = omega arith;
  r1e = omega arith;
  r1t = omega arith;
  ef = omega arith;
  rt = omega arith;
  ee = omega arith;
  el = omega arith;
  r1l = omega arith;
  f1l = omega arith;
  rl = omega arith;
  low_rel = omega arith;
  low_far = omega arith;
  at_rel = (omega arith, omega arith);
  at_far = (omega arith, omega arith);
}

pub place_at_law : (p B i : ℕ) → p ≡ B + (i + 1) → p ≡ B + suc i
place_at_law p B i e = omega arith

-- the records of an expand, as they are rendered
recs_are : (N : Notes) (A : Ops) (t tr : Tree pattern_element) {n n' : ℕ} (names : Trees name n) (types : Trees name n') (p p' : Bool) (props : Trees expr (one p))
    (props' : Trees expr (one p')) (h h' : Rec) (x y input origin x' y' : ℕ) (q q' : Recs) → x ≡ x' → y ≡ y' → spec_recs N A tr ≡ h' ∷ (render_of N A types ++ render_of N A props') →
    spec_recs N A t ≡ h ∷ (render_of N A names ++ render_of N A props) → render_c N A (plain_c props') ≡ q' → render_c N A (plain_c props) ≡ q →
    op ReadOp.Expand (input, (origin, (x', (y', tt)))) ∷ ((h' ∷ (to_list n' (fold_of Lowered made types) ++ q')) ++ (h ∷ (to_list n (fold_of Lowered made names) ++ q))) ≡ op ReadOp.Expand (input, (origin, (x, (y, tt)))) ∷ (spec_recs N A tr ++ spec_recs N A t)
recs_are N A t tr names types p p' props props' h h' x y input origin x' y' q q' ex ey et' et eq' eq = rw (ex, ey, et', et, plain_render N A props', plain_render N A props, eq', eq, names_render N A types, names_render N A names)

expand_bounded : (rel input origin far d base : ℕ) → d ≤ deepest → base ≤ second_pass → rel < max_records → InBounds (expand_op (at_place base rel d) input origin far)
expand_bounded rel input origin far d base sh lb l = record { shallow = sh; near = lb; low = l; far = λ e. absurd (omega arith); flagged = λ e. absurd (omega arith) }

module _ {a b : List ℕ} (d base far rel : ℕ) {e₁ e₂ n₁ n₂ input origin p₁ p₂ : ℕ} {c₀ : LowerCtx} {os rest rest₁ rest₂ : List ℕ} {r₁ r₂ : Numbered} {m₃ m₄ : Mem} {c₅ : LowerCtx}
    {os₅ : List ℕ} (room : Roomy a b) (is_node_law : cell a b far kind_at ≡ node_kind) (is_rel_law : cell a b rel kind_at ≡ rel_kind) (lb : base ≤ second_pass) (sh : d ≤ deepest) (la : far < max_records)
    (ep₁ : p₁ ≡ base + (far + 1)) (nm₁ : Numbers (endpoint_var (option_of (cell a b far element_named_at) (cell a b far element_var_at))) p₁ c₀ rest rest₁ r₁) (ep₂ : p₂ ≡ base + (rel + 1))
    (nm₂ : Numbers (endpoint_var (option_of (cell a b rel element_named_at) (cell a b rel element_var_at))) p₂ r₁.ctx rest₁ rest₂ r₂) (en₁ : n₁ ≡ cell a b rel rel_props_at)
    (x₁ : LowersExprs a b n₁ 0 (d - 1) base (rel + 1 + cell a b rel rel_types_at) e₁ (mem r₂.ctx os rest₂) m₃) (en₂ : n₂ ≡ cell a b far node_props_at)
    (x₂ : LowersExprs a b n₂ 0 (d - 1) base (far + 1 + cell a b far node_labels_at) e₂ m₃ m₄) (pe : Pushed m₄.ctx c₅ m₄.ops os₅ (expand_op (at_place base rel d) input origin far)) where
  -- what an expand has done
  pub record Expanded (S : Side) (W : Written) (s : State) (c : Lower.Chain) (n : NodeStep) : Type 0 where
    pub to : To S W ((base + suc rel, base + suc e₂) ∷ W) s (lower_element c (of_node n) s).1 (mem c₀ os rest) (mem c₅ os₅ m₄.rest)
    pub bind_to : ℕ
    pub bind_rel : ℕ
    pub number : r₁.number ≡ bind_to
    pub is : (lower_element c (of_node n) s).0 ≡ record { last = Some (m₄.ctx.ops, bind_to); pending = None; path = c.path ++ (bind_rel ∷ bind_to ∷ []) }
    pub notes : (N : Notes) (A : Ops) → Future ((base + suc rel, base + suc e₂) ∷ W) (lower_element c (of_node n) s).1 (mem c₅ os₅ m₄.rest) N A → (N (base + suc rel) ≡ bind_rel) × (N (base + suc far) ≡ bind_to)

  pub rel_end : (sheet : Bytes) (tr : Tree pattern_element) (hr : Held sheet a b tr d rel) → e₁ ≡ rel + size tr
  rel_end sheet tr hr =
      let v = (a_rel room tr hr is_rel_law).el in
      let x' : LowersExprs a b (one v.p) 0 (d - 1) base (rel + 1 + cell a b rel rel_types_at) e₁ (mem r₂.ctx os rest₂) m₃ = rw (en₁ ∙ sym v.flagged) at x₁ in
      let q = x'.next sheet (plain_c v.props) (plain_held sheet a b v.props (d - 1) _ (rw v.many at v.held_props)) in
      let z = plain_size v.props in
      let y = v.sized in
      let w = v.many in
      omega arith

  pub far_end : (sheet : Bytes) (t : Tree pattern_element) (hd : Held sheet a b t d far) → e₂ ≡ far + size t
  far_end sheet t hd =
      let v = (a_node room t hd is_node_law).el in
      let x' : LowersExprs a b (one v.p) 0 (d - 1) base (far + 1 + cell a b far node_labels_at) e₂ m₃ m₄ = rw (en₂ ∙ sym v.flagged) at x₂ in
      let q = x'.next sheet (plain_c v.props) (plain_held sheet a b v.props (d - 1) _ (rw v.many at v.held_props)) in
      let z = plain_size v.props in
      let y = v.sized in
      let w = v.many in
      omega arith

  pub expand_run : (sheet : Bytes) {first : ℕ} (t tr : Tree pattern_element) (n : NodeStep) (r : RelStep) (hd : Held sheet a b t d far) (hr : Held sheet a b tr d rel) → step_of t ≡ of_node n →
      step_of tr ≡ of_rel r → far ≡ rel + size tr → (W : Written) (s : State) (c : Lower.Chain) → c.pending ≡ Some r → c.last ≡ Some (input, origin) → Rep (side sheet a b first) W s (mem c₀ os rest) →
      Blank W (base + suc rel) (base + suc e₂) → Expanded (side sheet a b first) W s c n
  unfolding push
  expand_run sheet {first} t tr n r hd hr st sr er W s c ep el q bl =
      let vn = a_node room t hd is_node_law in
      let vr = a_rel room tr hr is_rel_law in
      let E₁ : e₁ ≡ rel + size tr = rel_end sheet tr hr in
      let P = places base rel far e₁ e₂ (cell a b rel rel_types_at) (cell a b far node_labels_at) (er ∙ sym E₁) x₁.moved.up x₂.moved.up la lb in
      let bn : Option ℕ = option_of (cell a b far element_named_at) (cell a b far element_var_at) in
      let br : Option ℕ = option_of (cell a b rel element_named_at) (cell a b rel element_var_at) in
      let x₁' : LowersExprs a b (one vr.el.p) 0 (d - 1) base (rel + 1 + cell a b rel rel_types_at) e₁ (mem r₂.ctx os rest₂) m₃ = rw (en₁ ∙ sym vr.el.flagged) at x₁ in
      let x₂' : LowersExprs a b (one vn.el.p) 0 (d - 1) base (far + 1 + cell a b far node_labels_at) e₂ m₃ m₄ = rw (en₂ ∙ sym vn.el.flagged) at x₂ in
      let r₀ : RelStep = record { bind = br; types = to_list vr.el.n (fold_of Lowered made vr.el.names); direction = vr.direction; length = vr.length; props = props_of vr.el.p (fold_of Lowered made vr.el.props) } in
      let er₀ : r ≡ r₀ = Elements.same_rel (sym sr ∙ vr.step) in
      let n₀ : NodeStep = node_step bn vn.el.names vn.el.p vn.el.props in
      let en₀ : n ≡ n₀ = Elements.same_node (sym st ∙ vn.step) in
      let D = expand_def bn br vn.el.names vr.el.names vn.el.p vr.el.p vn.el.props vr.el.props r₀ refl s c input origin (ep ∙ ap Some er₀) el in
      let recs : Recs = expand_recs bn br vn.el.names vr.el.names vn.el.p vr.el.p vn.el.props vr.el.props r₀ refl s input origin in
      let ep₁' : p₁ ≡ base + suc far = place_at_law p₁ base far ep₁ in
      let ep₂' : p₂ ≡ base + suc rel = place_at_law p₂ base rel ep₂ in
      let g₁ : Given (side sheet a b first) W s (endpoint_var bn) (base + suc far) (mem c₀ os rest) rest₁ r₁ = number_to (endpoint_var bn) (base + suc far) (mem c₀ os rest) rest₁ r₁ q (rw ep₁' at nm₁) (blank_within P.rf P.fe bl) in
      let W₁ : Written = (base + suc far, base + suc far + 1) ∷ W in
      let g₂ : Given (side sheet a b first) W₁ (endpoint_var bn s).1 (endpoint_var br) (base + suc rel) (mem r₁.ctx os rest₁) rest₂ r₂ = number_to (endpoint_var br) (base + suc rel) (mem r₁.ctx os rest₁) rest₂ r₂ g₁.to.rep (rw ep₂' at nm₂) (blank_before P.r1f (blank_within (le_refl _) P.r1e bl)) in
      let hp₁ = plain_held sheet a b vr.el.props (d - 1) _ (rw vr.el.many at vr.el.held_props) in
      let hp₂ = plain_held sheet a b vn.el.props (d - 1) _ (rw vn.el.many at vn.el.held_props) in
      let y₁ = x₁'.run sheet (plain_c vr.el.props) hp₁ _ _ g₂.to.rep (blank_behind P.r1t (blank_before P.ef (blank_within P.rt P.ee bl))) in
      let y₂ = x₂'.run sheet (plain_c vn.el.props) hp₂ _ _ y₁.to.rep (blank_behind P.el (blank_behind P.r1l (blank_behind P.f1l (blank_within P.rl (le_refl _) bl)))) in
      let W₄ : Written = (base + suc (far + 1 + cell a b far node_labels_at), base + suc e₂) ∷ (base + suc (rel + 1 + cell a b rel rel_types_at), base + suc e₁) ∷ (base + suc rel, base + suc rel + 1) ∷ W₁ in
      let s₃ : State = (lower_c (plain_c vr.el.props) (endpoint_var br (endpoint_var bn s).1).1).1 in
      let s₄ : State = (lower_c (plain_c vn.el.props) s₃).1 in
      let noted : (N : Notes) (A : Ops) → Future W₄ s₄ m₄ N A → (N (base + suc rel) ≡ (endpoint_var br (endpoint_var bn s).1).0) × (N (base + suc far) ≡ (endpoint_var bn s).0) = λ N A f.
      (let f₂ = back y₁.to (back y₂.to f) in (
        f₂.notes.at (base + suc rel) P.low_rel (inl P.at_rel) ∙ g₂.noted ∙ g₂.number,
        (back g₂.to f₂).notes.at (base + suc far) P.low_far (inl P.at_far) ∙ g₁.noted ∙ g₁.number,
      )) in
      let y₃ = push_to m₄ c₅ os₅ (expand_op (at_place base rel d) input origin far) recs y₂.to.rep pe
      (λ N A f. record {
        bounded = expand_bounded rel input origin far d base sh lb (tree_low sheet a b tr d rel hr);
        shows = shows_expand refl (record {
          rel = tr;
          far = t;
          held_rel = hr;
          held_far = hd;
          is_rel_law = is_rel_law;
          is_far = is_node_law;
          below_rel = vr.el.below (shift N base) first m₄.ctx.ops (plain_below (shift N base) first m₄.ctx.ops vr.el.props (carried_more (shift N base) first m₃.ctx.ops m₄.ctx.ops y₂.to.grow (plain_c vr.el.props) (y₁.below N A (back y₂.to f))));
          below_far = vn.el.below (shift N base) first m₄.ctx.ops (plain_below (shift N base) first m₄.ctx.ops vn.el.props (y₂.below N A f));
          is = recs_are (shift N base) A t tr vn.el.names vr.el.names vn.el.p vr.el.p vn.el.props vr.el.props _ _ _ _ input origin _ _ _ _ (noted N A f).0
              (noted N A f).1 (vr.el.spec (shift N base) A ∙ ap (λ (h : Rec). h ∷ (render_of (shift N base) A vr.el.names ++ render_of (shift N base) A vr.el.props)) vr.head)
              (vn.el.spec (shift N base) A ∙ ap (λ (h : Rec). h ∷ (render_of (shift N base) A vn.el.names ++ render_of (shift N base) A vn.el.props)) vn.head)
              (y₁.shown N A (back y₂.to f)) (y₂.shown N A f);
        });
      }) in
      let u : Sub W₄ ((base + suc rel, base + suc e₂) ∷ W) = sub_within P.rl (le_refl _) (sub_within P.rt P.ee (sub_within (le_refl _) P.r1e (sub_within P.rf P.fe (sub_more (base + suc rel, base + suc e₂) W)))) in
      subst (λ (z : NodeStep). Expanded (side sheet a b first) W s c z) (sym en₀)
      (record {
        to = rw D (to_wider u (to_then g₁.to (to_then g₂.to (to_then y₁.to (to_then y₂.to y₃)))));
        bind_to = (endpoint_var bn s).0;
        bind_rel = (endpoint_var br (endpoint_var bn s).1).0;
        number = g₁.number;
        is = ap (λ (z : Lower.Chain × State). z.0) D ∙ ap (λ (z : ℕ). record { last = Some (z, (endpoint_var bn s).0); pending = None; path = c.path ++ ((endpoint_var br (endpoint_var bn s).1).0 ∷ (endpoint_var bn s).0 ∷ []) }) (sym y₂.to.rep.count);
        notes = λ N A f. noted N A (back y₃ (narrow u (rw D at f)));
      })
