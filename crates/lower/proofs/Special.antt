-- The lowering of a shortest part of exactly node, rel, node. Assumes nothing.
use mathlib.Core.Path.{◌≡◌, refl, sym, ap, subst, ◌∙◌}
use Prim.Native.Nat.{ℕ, suc, ◌+◌, ◌-◌, ◌≤◌, ◌<◌}
use native.Mathlib.Nat.{le_refl, le_trans}
use native.Mathlib.Omega.{arith}
use mathlib.Core.Bool.{Bool}
use mathlib.Core.List.{List, [], ◌∷◌, ◌++◌}
use Rattle.std.specs.Prelude.{Option}
use mathlib.Core.Logic.{inl}
use lib.ListN.{length}
use lib.Dec.{eqb}
use Rattle.model.specs.Text.{Bytes}
use Rattle.model.specs.Kind.{pattern_part, pattern_element}
use Rattle.model.specs.Record.{Rec, one, all_shortest}
use Rattle.model.specs.Tree.{Tree, to_list, fold_of}
use Rattle.model.specs.Lower.{Recs, Lowered, made, push, endpoint_var, props_of, shape_of, NodeStep, RelStep, Step, of_node, of_rel, node_rel_node}
use Rattle.words.specs.Words.{Roomy, cell, option_of, max_records}
use Rattle.words.specs.Held.{Held, size}
use Rattle.context.specs.Tables.{Pushed, Numbers, second_pass, deepest}
use Rattle.context.specs.declared.LowerCtx.{LowerCtx}
use Rattle.context.specs.declared.Numbered.{Numbered}
use Rattle.context.specs.Ops.{shortest_path_op}
use Rattle.words.specs.Count.{Ends}
use Rattle.lower.specs.Side.{side}
use Rattle.lower.specs.Render.{render_of}
use Rattle.lower.specs.Shows.{shift, InBounds, shows_short}
use Rattle.lower.specs.Rep.{at_place, State, Mem, mem, Written, Sub, Blank, Rep, Rooted, Moved}
use Rattle.lower.specs.Pieces.{lower_c, SomeTree, LowersExprs}
use Rattle.lower.specs.Patterns.{part_l, LowersPart}
use Rattle.lower.specs.Chains.{special_elements, steps_of, start_l, LowersStart, LowersRel}
use Rattle.lower.specs.State.{sub_more, sub_within, blank_within, blank_before, blank_behind, back, to_then, to_wider, push_to, Given, number_to}
use Rattle.lower.specs.Below.{carried_more}
use Rattle.words.specs.Fits.{tree_fits, tree_low}
use Rattle.lower.specs.Carry.{plain_c, plain_held, plain_size, plain_below}
use Rattle.lower.proofs.Elements.{a_node, a_rel}
use Rattle.lower.proofs.Chaining.{IsPart, a_part}
use Rattle.lower.proofs.Shortest.{short_recs, short_def, short_is, special_part, Three, three, spots, at_place_law}
use Rattle.lower.proofs.Expand.{place_at_law}
use Rattle.words.specs.Places.{kind_at, node_kind, rel_kind, element_named_at, element_var_at, rel_types_at, part_named_at, part_var_at, part_shortest_at, part_elements_at}

one_more : {k n : ℕ} → n ≡ k + 1 → k < n
one_more e = omega arith

shape_three : (ss : List Step) (x y z : Step) (n b : NodeStep) (r : RelStep) → ss ≡ x ∷ y ∷ z ∷ [] → x ≡ of_node n → y ≡ of_rel r → z ≡ of_node b → shape_of ss ≡ node_rel_node n r b
unfolding shape_of
shape_three ss x y z n b r e ex ey ez = rw (e, ex, ey, ez)

short_bounded : (i input rel far d base : ℕ) → d ≤ deepest → base ≤ second_pass → i < max_records → far < max_records → InBounds (shortest_path_op (at_place base i (d - 1)) input rel far)
short_bounded i input rel far d base sh lb l h = record { shallow = omega arith; near = lb; low = l; far = λ e. h; flagged = λ e. absurd (omega arith) }

module _ {a b : List ℕ} (d base i rel far e : ℕ) {p₁ p₃ p₄ e₁ e₂ k₁ : ℕ} {c₀ : LowerCtx} {os rest rest₁ rest₄ rest₅ os₆ : List ℕ} {r₁ r₃ r₄ : Numbered} {m₂ m₃ : Mem} {c₆ : LowerCtx}
    (room : Roomy a b) (lb : base ≤ second_pass) (sh : d ≤ deepest) (k4 : (cell a b i part_shortest_at ≡ 0) → ⊥) (k6 : cell a b i part_elements_at ≡ special_elements) (ka : cell a b (i + 1) kind_at ≡ node_kind)
    (kr : cell a b rel kind_at ≡ rel_kind) (kf : cell a b far kind_at ≡ node_kind) (na : Ends a b (i + 1) rel) (nr : Ends a b rel far) (nf : Ends a b far e)
    (ep₁ : p₁ ≡ base + (i + 1 + 1)) (nm₁ : Numbers (endpoint_var (option_of (cell a b (i + 1) element_named_at) (cell a b (i + 1) element_var_at))) p₁ c₀ rest rest₁ r₁)
    (lr₁ : length rest₁ ≡ length rest) (ls : LowersStart a b (d - 1) base (i + 1) r₁.number e₁ k₁ (mem r₁.ctx os rest₁) m₂) (lr : LowersRel a b (d - 1) base rel e₂ m₂.ctx
    m₂.ops m₂.rest m₃)
    (ep₃ : p₃ ≡ base + (far + 1)) (nm₃ : Numbers (endpoint_var (option_of (cell a b far element_named_at) (cell a b far element_var_at))) p₃ m₃.ctx m₃.rest rest₄ r₃)
    (lr₃ : length rest₄ ≡ length m₃.rest) (ep₄ : p₄ ≡ base + (i + 1)) (nm₄ : Numbers (endpoint_var (option_of (cell a b i part_named_at)
    (cell a b i part_var_at))) p₄ r₃.ctx rest₄ rest₅ r₄) (lr₄ : length rest₅ ≡ length rest₄)
    (pp : Pushed r₄.ctx c₆ m₃.ops os₆ (shortest_path_op (at_place base i (d - 1)) k₁ rel far)) (lo : length os₆ ≡ length m₃.ops) where
  -- the three elements, and where they end
  pub record Sits (sheet : Bytes) (t : Tree pattern_part) (v : IsPart sheet a b d i t) : Type 0 where
    pub trees : Three v.elements
    pub held_first : Held sheet a b trees.first (d - 1) (i + 1)
    pub held_rel : Held sheet a b trees.rel (d - 1) rel
    pub held_far : Held sheet a b trees.far (d - 1) far
    pub start_end : e₁ ≡ rel
    pub rel_end : e₂ ≡ far
    pub whole : e ≡ i + size t
    pub low : i + 1 < rel
    pub high : far < e
    pub fits : e ≤ max_records

  rel_ends : (sheet : Bytes) (t : Tree pattern_element) → Held sheet a b t (d - 1) rel → e₂ ≡ rel + size t
  rel_ends sheet t hd =
      let v = (a_rel room t hd kr).el in
      let x' : LowersExprs a b (one v.p) 0 (d - 1 - 1) base (rel + 1 + cell a b rel rel_types_at) e₂ (mem lr.named.ctx m₂.ops lr.between) m₃ = rw (sym v.flagged) at lr.props in
      let q = x'.next sheet (plain_c v.props) (plain_held sheet a b v.props (d - 1 - 1) _ (rw v.many at v.held_props)) in
      let z = plain_size v.props in
      let y = v.sized in
      let w = v.many in
      omega arith

  sits : (sheet : Bytes) (t : Tree pattern_part) (hd : Held sheet a b t d i) → Sits sheet t (a_part room t hd)
  sits sheet t hd =
      let v = a_part room t hd in
      let th = three v.elements (v.many ∙ k6) in
      let h = th.held sheet a b (d - 1) (i + 1) v.held in
      let E₁ : rel ≡ i + 1 + size th.first = na.each sheet pattern_element (d - 1) th.first h.0 in
      let hr : Held sheet a b th.rel (d - 1) rel = rw E₁ h.1 in
      let E₂ : far ≡ rel + size th.rel = nr.each sheet pattern_element (d - 1) th.rel hr in
      let E₂' : far ≡ i + 1 + size th.first + size th.rel = omega arith in
      let hf : Held sheet a b th.far (d - 1) far = rw E₂' h.2 in
      let E₃ : e ≡ far + size th.far = nf.each sheet pattern_element (d - 1) th.far hf in
      let f₁ = tree_fits sheet a b th.first (d - 1) (i + 1) h.0 in
      let f₃ = tree_fits sheet a b th.far (d - 1) far hf in
      let z = v.sized in
      let z' = th.sized in
      record { trees = th; held_first = h.0; held_rel = hr; held_far = hf; start_end = ls.next sheet th.first h.0 ∙ sym E₁; rel_end = rel_ends sheet th.rel hr ∙ sym E₂; whole = omega arith; low = omega arith; high = omega arith; fits = omega arith }

  special_moved : e₁ ≡ rel → e₂ ≡ far → far < e → e ≤ max_records → Moved i e (mem c₀ os rest) (mem c₆ os₆ rest₅)
  special_moved E₁ E₂ he le =
      let i₁ = nm₁.issued in
      let i₂ = lr.noted.issued in
      let i₃ = nm₃.issued in
      let i₄ = nm₄.issued in
      let v₁ = ls.moved in
      let v₂ = lr.props.moved in
      record {
        up = omega (arith, v₁.up, v₂.up);
        here = le;
        grow = omega (arith, i₁.ops, i₂.ops, i₃.ops, i₄.ops, v₁.grow, v₂.grow, pp.count);
        few = omega (arith, i₁.ops, i₂.ops, i₃.ops, i₄.ops, v₁.few, v₂.few, pp.count, v₁.up, v₂.up);
        low = omega (arith, i₁.low, i₂.low, i₃.low, i₄.low, ls.numbers, v₂.low, pp.numbers, v₁.up, v₂.up);
        met = omega (arith, i₁.met, i₂.met, i₃.met, i₄.met, ls.mapped, v₂.met, pp.mapped, v₁.up, v₂.up);
        in_ops = lo ∙ v₂.in_ops ∙ v₁.in_ops;
        in_rest = lr₄ ∙ lr₃ ∙ v₂.in_rest ∙ lr.kept ∙ v₁.in_rest ∙ lr₁;
        index = λ x. rw pp.mapped (i₄.index (i₃.index (v₂.index (i₂.index (v₁.index (i₁.index x))))));
      }

  -- the operators before are as many as there were at least
  special_since : c₀.ops ≤ r₄.ctx.ops
  special_since = omega (arith, nm₁.issued.ops, lr.noted.issued.ops, nm₃.issued.ops, nm₄.issued.ops, ls.moved.grow, lr.props.moved.grow)

  special_run : (sheet : Bytes) {first : ℕ} (t : Tree pattern_part) (hd : Held sheet a b t d i) (W : Written) (s : State) → Rep (side sheet a b first) W s (mem c₀ os rest) → Blank W (base + suc i) (base + suc e) → Rooted (side sheet a b first) W (part_l t) r₄.ctx.ops base (suc i) (suc e) s (mem c₀ os rest) (mem c₆ os₆ rest₅)
  unfolding push
  special_run sheet {first} t hd W s q bl =
      let v = a_part room t hd in
      let S = sits sheet t hd in
      let va = a_node room S.trees.first S.held_first ka in
      let vr = a_rel room S.trees.rel S.held_rel kr in
      let vf = a_node room S.trees.far S.held_far kf in
      let P = spots base i (i + 1) rel far e (cell a b rel rel_types_at) refl S.low (rw S.rel_end at lr.props.moved.up) S.high S.fits lb in
      let o : Option ℕ = option_of (cell a b i part_named_at) (cell a b i part_var_at) in
      let bn : Option ℕ = option_of (cell a b (i + 1) element_named_at) (cell a b (i + 1) element_var_at) in
      let br : Option ℕ = option_of (cell a b rel element_named_at) (cell a b rel element_var_at) in
      let bt : Option ℕ = option_of (cell a b far element_named_at) (cell a b far element_var_at) in
      let n₀ : NodeStep = record { bind = bn; labels = to_list va.el.n (fold_of Lowered made va.el.names); props = props_of va.el.p (fold_of Lowered made va.el.props) } in
      let r₀ : RelStep = record { bind = br; types = to_list vr.el.n (fold_of Lowered made vr.el.names); direction = vr.direction; length = vr.length; props = props_of vr.el.p (fold_of Lowered made vr.el.props) } in
      let b₀ : NodeStep = record { bind = bt; labels = to_list vf.el.n (fold_of Lowered made vf.el.names); props = props_of vf.el.p (fold_of Lowered made vf.el.props) } in
      let all : Bool = eqb (cell a b i part_shortest_at) all_shortest in
      let D = v.shaped s ∙ special_part o (cell a b i part_shortest_at) (steps_of v.elements) n₀ r₀ b₀ s k4 (shape_three _ _ _ _ n₀ b₀ r₀ S.trees.steps va.step vr.step vf.step) ∙ short_def o br bt n₀ b₀ vr.el.names vr.el.p vr.el.props r₀ refl refl s all in
      let ls' : LowersStart a b (d - 1) base (i + 1) r₁.number rel k₁ (mem r₁.ctx os rest₁) m₂ = rw S.start_end at ls in
      let x' : LowersExprs a b (one vr.el.p) 0 (d - 1 - 1) base (rel + 1 + cell a b rel rel_types_at) far (mem lr.named.ctx m₂.ops lr.between) m₃ = rw (S.rel_end, sym vr.el.flagged) at lr.props in
      let W₁ : Written = (base + suc (i + 1), base + suc (i + 1) + 1) ∷ W in
      let W₂ : Written = (base + suc (i + 1 + 1), base + suc rel) ∷ W₁ in
      let W₃ : Written = (base + suc rel, base + suc rel + 1) ∷ W₂ in
      let W₄ : Written = (base + suc (rel + 1 + cell a b rel rel_types_at), base + suc far) ∷ W₃ in
      let W₅ : Written = (base + suc far, base + suc far + 1) ∷ W₄ in
      let W₆ : Written = (base + suc i, base + suc i + 1) ∷ W₅ in
      let s₁ : State = (endpoint_var bn s).1 in
      let g₁ : Given (side sheet a b first) W s (endpoint_var bn) (base + suc (i + 1)) (mem c₀ os rest) rest₁ r₁ = number_to (endpoint_var bn) (base + suc (i + 1)) (mem c₀ os rest) rest₁ r₁ q (rw (place_at_law p₁ base (i + 1) ep₁) at nm₁) (blank_within P.ij P.j1e bl) in
      let y₂₀ = ls'.run sheet S.trees.first n₀ S.held_first va.step W₁ s₁ g₁.to.rep (blank_behind P.j1j (blank_within P.ij1 P.re bl)) in
      let y₂ : Rooted (side sheet a b first) W₁ (start_l (endpoint_var bn s).0 n₀) k₁ base (suc (i + 1 + 1)) (suc rel) s₁ (mem r₁.ctx os rest₁) m₂ = subst (λ (z : ℕ). Rooted (side sheet a b first) W₁ (start_l z n₀) k₁ base (suc (i + 1 + 1)) (suc rel) s₁ (mem r₁.ctx os rest₁) m₂) g₁.number y₂₀ in
      let s₂ : State = (start_l (endpoint_var bn s).0 n₀ s₁).1 in
      let g₃ : Given (side sheet a b first) W₂ s₂ (endpoint_var br) (base + suc rel) m₂ lr.between lr.named = number_to (endpoint_var br) (base + suc rel) m₂ lr.between lr.named y₂.to.rep (rw (place_at_law (base + (rel + 1)) base rel refl) at lr.noted) (blank_behind (le_refl _) (blank_behind P.j1r (blank_within P.ir P.r1e bl))) in
      let hp = plain_held sheet a b vr.el.props (d - 1 - 1) _ (rw vr.el.many at vr.el.held_props) in
      let y₄ = x'.run sheet (plain_c vr.el.props) hp W₃ (endpoint_var br s₂).1 g₃.to.rep (blank_behind P.r1t (blank_behind P.rt (blank_behind P.j1t (blank_within P.it P.fe bl)))) in
      let s₄ : State = (lower_c (plain_c vr.el.props) (endpoint_var br s₂).1).1 in
      let g₅ : Given (side sheet a b first) W₄ s₄ (endpoint_var bt) (base + suc far) m₃ rest₄ r₃ = number_to (endpoint_var bt) (base + suc far) m₃ rest₄ r₃ y₄.to.rep (rw (place_at_law p₃ base far ep₃) at nm₃) (blank_behind (le_refl _) (blank_behind P.r1f (blank_behind P.rf (blank_behind P.j1f (blank_within P.if P.f1e bl))))) in
      let s₅ : State = (endpoint_var bt s₄).1 in
      let g₆ : Given (side sheet a b first) W₅ s₅ (endpoint_var o) (base + suc i) (mem r₃.ctx m₃.ops rest₄) rest₅ r₄ = number_to (endpoint_var o) (base + suc i) (mem r₃.ctx
      m₃.ops rest₄) rest₅ r₄ g₅.to.rep (rw (place_at_law p₄ base i ep₄) at nm₄) (blank_before P.i1f (blank_before P.i1t (blank_before P.i1r (blank_before P.i1j1
      (blank_before P.i1j (blank_within (le_refl _) P.i1e bl)))))) in
      let recs : Recs = short_recs o br bt n₀ b₀ vr.el.names vr.el.p vr.el.props r₀ refl refl s all in
      let y₇ = push_to (mem r₄.ctx m₃.ops rest₅) c₆ os₆ (shortest_path_op (at_place base i (d - 1)) k₁ rel far) recs g₆.to.rep pp
      (λ N A f.
      let f₅ = back g₆.to f in
      let f₄ = back g₅.to f₅ in
      let f₁ = back y₂.to (back g₃.to (back y₄.to f₄)) in
      let l₃ : m₃.ctx.ops ≤ r₄.ctx.ops = le_trans g₅.to.grow g₆.to.grow in
      record {
        bounded = short_bounded i k₁ rel far d base sh lb (tree_low sheet a b t d i hd) (tree_low sheet a b S.trees.far (d - 1) far S.held_far);
        shows = shows_short refl (record {
          rel = S.trees.rel;
          held_rel = S.held_rel;
          is_rel_law = kr;
          below_rel = vr.el.below (shift N base) first r₄.ctx.ops (plain_below (shift N base) first r₄.ctx.ops vr.el.props (carried_more (shift N base) first m₃.ctx.ops r₄.ctx.ops l₃ (plain_c vr.el.props) (y₄.below N A f₄)));
          all = all;
          is_all = refl;
          is = short_is (shift N base) A S.trees.rel vr.el.names vr.el.p vr.el.props _ _ _ _ _ _ _ _ _ all _ y₂.root (f₁.notes.at (base + suc (i + 1)) P.low_j
              (inl (at_place_law (base + suc (i + 1)))) ∙ g₁.noted ∙ g₁.number) (f₅.notes.at (base + suc far) P.low_f (inl (at_place_law (base + suc far))) ∙ g₅.noted ∙ g₅.number)
              (f.notes.at (base + suc i) P.low_i (inl (at_place_law (base + suc i))) ∙ g₆.noted ∙ g₆.number)
              (vr.el.spec (shift N base) A ∙ ap (λ (h : Rec). h ∷ (render_of (shift N base) A vr.el.names ++ render_of (shift N base) A vr.el.props)) vr.head) (y₄.shown N A f₄);
        });
      }) in
      let u : Sub W₆ ((base + suc i, base + suc e) ∷ W) = sub_within (le_refl _) P.i1e (sub_within P.if P.f1e (sub_within P.it P.fe (sub_within P.ir P.r1e (sub_within P.ij1 P.re (sub_within P.ij P.j1e (sub_more (base + suc i, base + suc e) W)))))) in
      record { to = rw D (to_wider u (to_then g₁.to (to_then y₂.to (to_then g₃.to (to_then y₄.to (to_then g₅.to (to_then g₆.to y₇))))))); root = rw D g₆.to.rep.count; low = one_more pp.count }

  pub special_law : SomeTree a b pattern_part d i → LowersPart a b d base i e r₄.ctx.ops (mem c₀ os rest) (mem c₆ os₆ rest₅)
  special_law x =
      let S = sits x.sheet x.tree x.held in
      record { moved = special_moved S.start_end S.rel_end S.high S.fits; since = special_since; low = one_more pp.count; next = λ sheet t hd. (sits sheet t hd).whole; run = special_run }
