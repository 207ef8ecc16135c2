-- The elements of a chain, one by one: a rel waits, a node starts a source or ends an expand. Assumes nothing.
use mathlib.Core.Path.{◌≡◌, refl, sym, ap, subst, ◌∙◌}
use Prim.Native.Nat.{ℕ, suc, ◌+◌, ◌-◌, ◌≤◌, ◌<◌}
use native.Mathlib.Nat.{le_refl}
use native.Mathlib.Omega.{arith}
use mathlib.Core.Bool.{Bool, true, false}
use mathlib.Core.List.{List, [], ◌∷◌, ◌++◌, append_assoc}
use mathlib.Core.Logic.{inl, inr}
use Rattle.std.specs.Prelude.{Option, None, Some}
use lib.ListN.{length, length-append}
use Rattle.model.specs.Text.{Bytes}
use Rattle.model.specs.Kind.{PatternElement, pattern_element}
use Rattle.model.specs.Tree.{Tree, Trees, node, ◌∷ᵗ◌, end, ◌▸◌, to_list, fold, fold_of}
use Rattle.model.specs.Lower.{Lowering, Lowered, made, ◌>>=◌, ret, endpoint_var, start_node, reach, lower_element, element_step, NodeStep, RelStep, of_node, of_rel, at}
use Rattle.model.specs.Lower
use Rattle.words.specs.Words.{Roomy, cell, option_of, max_records}
use Rattle.words.specs.Held.{Held, size}
use Rattle.context.specs.Tables.{Pushed, Numbers, second_pass, vars_at, deepest}
use Rattle.context.specs.declared.LowerCtx.{LowerCtx}
use Rattle.context.specs.declared.Numbered.{Numbered}
use Rattle.context.specs.Ops.{expand_op}
use Rattle.words.specs.Count.{Ends}
use Rattle.lower.specs.Side.{side}
use Rattle.lower.specs.Render.{Notes, kept_rel, kept_from}
use Rattle.lower.specs.Shows.{shift}
use Rattle.lower.specs.Rep.{at_place, State, Mem, mem, Written, Sub, Blank, Rep, Moved}
use Rattle.lower.specs.Pieces.{SomeTree, LowersExprs}
use Rattle.lower.specs.Chains.{last_of, ReadAt, has_last, pending_line, from_of, from, LastUnder, LastSince, step_of, Waiting, no_rel_law, a_rel, SameChain, ChainInBounds, Anchored, Chained, LowersElement, start_l, LowersStart, StartsAnew}
use Rattle.std.proofs.lemmas.Option.{none-some, same_Some}
use Rattle.lower.specs.declared.LastNode.{LastNode}
use Rattle.lower.specs.declared.PendingRel.{PendingRel}
use Rattle.lower.specs.declared.Read.{Read}
use Rattle.lower.specs.declared.Chain.{Chain}
use Rattle.lower.specs.State.{sub_more, sub_within, blank_within, blank_behind, back, to_refl, to_then, to_wider, Given, number_to}
use Rattle.words.specs.Fits.{tree_fits}
use Rattle.words.specs.Numbers.{element_number}
use Rattle.lower.specs.Exprs.{moved_refl, moved_within, narrow}
use Rattle.lower.proofs.Elements.{a_node, element_number_law}
use Rattle.lower.proofs.Elements
use Rattle.lower.proofs.Expand.{expand_run, far_end, rel_end}
use Rattle.words.specs.Places.{kind_at, node_kind, rel_kind, element_named_at, element_var_at, node_props_at, rel_types_at, rel_props_at, node_labels_at}

IsNodeStep : Lower.Step → Type 0
IsNodeStep (of_node n) = Unit {0}
IsNodeStep (of_rel r) = ⊥

step_apart : {n : NodeStep} {r : RelStep} → of_node n ≡ of_rel r → ⊥
unfolding IsNodeStep
step_apart e = subst IsNodeStep e tt

-- ── what an element adds to the path ──

module _ {a b : List ℕ} (room : Roomy a b) (sheet : Bytes) (d i : ℕ) (N : Notes) (seen : Bool) (w : Option ℕ) {n : ℕ} (ts : Trees pattern_element n) where
  kept_rel_law : (t : Tree pattern_element) → Held sheet a b t d i → cell a b i kind_at ≡ rel_kind → kept_from N seen w (t ∷ᵗ ts) ≡ kept_from N seen (Some (suc i)) ts
  unfolding Held kept_from element_number
  kept_rel_law (node pattern_element line PatternElement.Node f kids) hd e = let z = element_number_law room hd.1 in absurd (omega arith)
  kept_rel_law (node pattern_element line PatternElement.Rel f kids) hd e = rw hd.0

  kept_node : (t : Tree pattern_element) → Held sheet a b t d i → cell a b i kind_at ≡ node_kind → kept_from N seen w (t ∷ᵗ ts) ≡ kept_rel N seen w ++ (N (suc i) ∷ kept_from N true None ts)
  unfolding Held kept_from element_number
  kept_node (node pattern_element line PatternElement.Node f kids) hd e = rw hd.0
  kept_node (node pattern_element line PatternElement.Rel f kids) hd e = let z = element_number_law room hd.1 in absurd (omega arith)

-- ── a rel ──

abbrev pub rel_chain : Chain → ℕ → Read → Chain
rel_chain ch stop x = record { at = at_place ch.at.base stop ch.at.left; ctx = ch.ctx; last = ch.last; pending = Some (record { i = ch.at.i; read = x }); kept = ch.kept }

module _ {a b : List ℕ} (d base : ℕ) (ch : Chain) (stop : ℕ) (os rs : List ℕ) (room : Roomy a b) (st : ChainInBounds ch) (is_rel_law : cell a b ch.at.i kind_at ≡ rel_kind) (en : Ends a b ch.at.i stop) {x : Read} (rd : ReadAt a b ch.at.i rel_props_at x) where
  rel_same : (sheet : Bytes) (t : Tree pattern_element) → Held sheet a b t d ch.at.i → (c : Lower.Chain) → SameChain sheet a b d ch c → (r : RelStep) → step_of t ≡ of_rel r → SameChain sheet a b d (rel_chain ch stop x) (record { last = c.last; pending = Some r; path = c.path })
  rel_same sheet t hd c l r e = record { last = l.last; waiting = a_rel (record { i = ch.at.i; read = x }) refl rd t r hd e (en.each sheet pattern_element d t hd) refl; kept = l.kept }

  rel_run : (sheet : Bytes) {first : ℕ} (t : Tree pattern_element) → Held sheet a b t d ch.at.i → (W : Written) (s : State) (c : Lower.Chain) → Rep (side sheet a b first) W s (mem ch.ctx os rs) → SameChain sheet a b d ch c → Chained (side sheet a b first) W d base ch (rel_chain ch stop x) t (step_of t) c s (mem ch.ctx os rs) (mem ch.ctx os rs)
  unfolding lower_element ret
  rel_run sheet {first} t hd W s c r l =
      let v = Elements.a_rel room t hd is_rel_law in
      subst (λ (z : Lower.Step). Chained (side sheet a b first) W d base ch (rel_chain ch stop x) t z c s (mem ch.ctx os rs) (mem ch.ctx os rs)) (sym v.step)
      (record {
        to = to_wider (sub_more (base + suc (from ch), base + suc ch.at.i) W) (to_refl r);
        same = rel_same sheet t hd c l _ v.step;
        path = λ N A f ts. ap (λ (z : List ℕ). c.path ++ z) (sym (kept_rel_law room sheet d ch.at.i (shift N base) (has_last ch.last) (pending_line ch.pending) ts t hd is_rel_law));
      })

  pub rel_law : SomeTree a b pattern_element d ch.at.i → LowersElement a b d base ch (rel_chain ch stop x) os os rs rs
  rel_law y =
      let z = en.each y.sheet pattern_element d y.tree y.held in
      let f = tree_fits y.sheet a b y.tree d ch.at.i y.held in
      let k = st.kept in
      record {
        moved = moved_within (le_refl _) st.from st.next (moved_refl (let q = st.from in let q' = st.next in omega arith));
        bounded = record { from = omega arith; next = omega arith; last = st.last; kept = omega arith };
        anchored = record { sheet = y.sheet; pending = Some _; waiting = a_rel (record { i = ch.at.i; read = x }) refl rd y.tree _ y.held (Elements.a_rel room y.tree y.held is_rel_law).step z refl };
        ahead = omega arith;
        stays = (refl, refl);
        since = λ n l h. h;
        next = λ sheet t hd. en.each sheet pattern_element d t hd;
        run = λ sheet t hd W s c r l bl. rel_run sheet t hd W s c r l;
      }

-- ── a node that starts ──

abbrev pub node_chain : Chain → (next : ℕ) → LowerCtx → (k origin more : ℕ) → Chain
node_chain ch next c k origin more = record { at = at_place ch.at.base next ch.at.left; ctx = c; last = Some (record { op = k; number = origin }); pending = None; kept = ch.kept + more }

-- the operator of a node
op_under : {k n m : ℕ} → k < m → LastUnder (Some (record { op = k; number = n })) m
op_under {k} l = record { op = λ x e. (let z : k ≡ x.op = ap (λ (y : LastNode). y.op) (same_Some _ _ e) in omega arith) }

op_since : {k n m : ℕ} → m ≤ k → LastSince (Some (record { op = k; number = n })) m
op_since {k} l = record { op = λ x e. (let z : k ≡ x.op = ap (λ (y : LastNode). y.op) (same_Some _ _ e) in omega arith) }

-- the rel that waits, at its record
pub record RelWaits (sheet : Bytes) (a b : List ℕ) (d : ℕ) (ch : Chain) (rel : PendingRel) (o : Option RelStep) : Type 0 where
  pub read : ReadAt a b rel.i rel_props_at rel.read
  pub tree : Tree pattern_element
  pub step : RelStep
  pub held : Held sheet a b tree d rel.i
  pub is : step_of tree ≡ of_rel step
  pub ends : ch.at.i ≡ rel.i + size tree
  pub there : o ≡ Some step

pub rel_waits : {sheet : Bytes} {a b : List ℕ} {d : ℕ} {ch : Chain} {rel : PendingRel} {o : Option RelStep} → ch.pending ≡ Some rel → Waiting sheet a b d ch o → RelWaits sheet a b d ch rel o
rel_waits h (no_rel_law w e) = absurd (none-some _ (sym w ∙ h))
rel_waits {rel = rel} h (a_rel q w rd t r hd st nx e) = let z : q ≡ rel = same_Some _ _ (sym w ∙ h) in record { read = rw z at rd; tree = t; step = r; held = rw z at hd; is = st; ends = rw z at nx; there = e }

no_last_law : (c : Lower.Chain) (n : NodeStep) (k : ℕ) (o : Option RelStep) → reach c n k o None ≡ start_node c n k
unfolding reach
no_last_law c n k None = refl
no_last_law c n k (Some r) = refl

nothing_waits : {sheet : Bytes} {a b : List ℕ} {d : ℕ} {ch : Chain} {o : Option RelStep} → ch.pending ≡ None → Waiting sheet a b d ch o → o ≡ None
nothing_waits h (no_rel_law w e) = e
nothing_waits h (a_rel q w rd t r hd st nx e) = absurd (none-some _ (sym h ∙ w))

starts_def : {sheet : Bytes} {a b : List ℕ} {d : ℕ} {ch : Chain} (c : Lower.Chain) (n : NodeStep) (k : ℕ) → StartsAnew ch → SameChain sheet a b d ch c → reach c n k c.pending c.last ≡ start_node c n k
unfolding reach
starts_def c n k (inl h) l = ap (λ (o : Option RelStep). reach c n k o c.last) (nothing_waits h l.waiting)
starts_def {ch = ch} c n k (inr h) l = ap (λ (o : Option (ℕ × ℕ)). reach c n k c.pending o) (l.last ∙ ap last_of h) ∙ no_last_law c n k c.pending

starts_path : (N : Notes) (ch : Chain) → StartsAnew ch → kept_rel N (has_last ch.last) (pending_line ch.pending) ≡ []
unfolding kept_rel
starts_path N ch (inl h) = rw h
starts_path N ch (inr h) = rw h (none_kept N (pending_line ch.pending))
  where
    none_kept : (N : Notes) (o : Option ℕ) → kept_rel N false o ≡ []
    none_kept N None = refl
    none_kept N (Some x) = refl

start_def : (c : Lower.Chain) (n : NodeStep) (k : ℕ) (s : State) → start_node c n k s ≡ (record { last = Some ((start_l k n s).0, k); pending = None; path = c.path ++ (k ∷ []) }, (start_l k n s).1)
unfolding start_node ◌>>=◌ ret
start_def c n k s = refl

path_one : (p cp rest K kr : List ℕ) (x y : ℕ) → p ≡ cp ++ (x ∷ []) → K ≡ kr ++ (y ∷ rest) → kr ≡ [] → y ≡ x → p ++ rest ≡ cp ++ K
path_one p cp rest K kr x y ep eK ek ey = rw (ep, eK, ek, ey) (append_assoc cp (x ∷ []) rest)

path_two : (p cp rest K kr : List ℕ) (x x' y y' : ℕ) → p ≡ cp ++ (x ∷ y ∷ []) → K ≡ kr ++ (y' ∷ rest) → kr ≡ x' ∷ [] → x' ≡ x → y' ≡ y → p ++ rest ≡ cp ++ K
path_two p cp rest K kr x x' y y' ep eK ek ex ey = rw (ep, eK, ek, ex, ey) (append_assoc cp (x ∷ y ∷ []) rest)

kept_one : (N : Notes) (l : Option LastNode) (p : Option PendingRel) (x : LastNode) (rel : PendingRel) → l ≡ Some x → p ≡ Some rel → kept_rel N (has_last l) (pending_line p) ≡ N (suc rel.i) ∷ []
unfolding kept_rel
kept_one N l p x rel el ep = rw (el, ep)

abbrev started : Lower.Chain → ℕ → ℕ → Lower.Chain
started c k x = record { last = Some (k, x); pending = None; path = c.path ++ (x ∷ []) }

start_same : (c : Lower.Chain) (n : NodeStep) (s : State) (x x' k : ℕ) → x ≡ x' → (start_l x' n s).0 ≡ k → ◌≡◌ {A = Lower.Chain × State} (started c (start_l x n s).0 x, (start_l x n s).1) (started c k x', (start_l x' n s).1)
start_same c n s x x' k ex ek = rw (ex, ek)

module _ {a b : List ℕ} (d base : ℕ) (ch : Chain) {e k place : ℕ} {os rest rest₁ : List ℕ} {r : Numbered} {m₂ : Mem} (room : Roomy a b) (lb : base ≤ second_pass) (st : ChainInBounds ch)
    (is_node_law : cell a b ch.at.i kind_at ≡ node_kind) (starts : StartsAnew ch) (ep : place ≡ base + (ch.at.i + 1)) (nm : Numbers (endpoint_var (option_of (cell a b ch.at.i element_named_at)
    (cell a b ch.at.i element_var_at))) place ch.ctx rest rest₁ r) (lr : length rest₁ ≡ length rest) (ls : LowersStart a b d base ch.at.i r.number e k (mem r.ctx os rest₁) m₂) where
  abbrev ch' : Chain
  ch' = node_chain ch e m₂.ctx k r.number 1

  pub record StartPlaces : Type 0 where
    pub place_is : place ≡ base + suc ch.at.i
    pub fn : base + suc (from ch) ≤ base + suc ch.at.i
    pub ne : base + suc ch.at.i + 1 ≤ base + suc e
    pub n1 : base + suc ch.at.i + 1 ≤ base + suc (ch.at.i + 1)
    pub fn1 : base + suc (from ch) ≤ base + suc (ch.at.i + 1)
    pub low : base + suc ch.at.i < vars_at
    pub here : (base + suc ch.at.i ≤ base + suc ch.at.i) × (base + suc ch.at.i < base + suc ch.at.i + 1)

  start_places : ch.at.i < e → e ≤ max_records → StartPlaces
  start_places l h = let q = st.from in record { place_is = omega arith; fn = omega arith; ne = omega arith; n1 = omega arith; fn1 = omega arith; low = omega arith; here = (omega arith, omega arith) }

  start_run : (sheet : Bytes) {first : ℕ} (t : Tree pattern_element) → Held sheet a b t d ch.at.i → (W : Written) (s : State) (c : Lower.Chain) → Rep (side sheet a b first) W s (mem ch.ctx os rest) → SameChain sheet a b d ch c → Blank W (base + suc (from ch)) (base + suc e) → Chained (side sheet a b first) W d base ch ch' t (step_of t) c s (mem ch.ctx os rest) m₂
  unfolding lower_element ◌>>=◌
  start_run sheet {first} t hd W s c rp l bl =
      let v = a_node room t hd is_node_law in
      let bn : Option ℕ = option_of (cell a b ch.at.i element_named_at) (cell a b ch.at.i element_var_at) in
      let n : NodeStep = record { bind = bn; labels = to_list v.el.n (fold_of Lowered made v.el.names); props = Lower.props_of v.el.p (fold_of Lowered made v.el.props) } in
      let f = tree_fits sheet a b t d ch.at.i hd in
      let E = ls.next sheet t hd in
      let P = start_places (rw E f.0) ls.moved.here in
      let g : Given (side sheet a b first) W s (endpoint_var bn) (base + suc ch.at.i) (mem ch.ctx os rest) rest₁ r = number_to (endpoint_var bn) (base + suc ch.at.i) (mem ch.ctx os rest) rest₁ r rp (rw P.place_is at nm) (blank_within P.fn P.ne bl) in
      let W₁ : Written = (base + suc ch.at.i, base + suc ch.at.i + 1) ∷ W in
      let s₁ : State = (endpoint_var bn s).1 in
      let y = ls.run sheet t n hd v.step W₁ s₁ g.to.rep (blank_behind P.n1 (blank_within P.fn1 (le_refl _) bl)) in
      let D : lower_element c (of_node n) s ≡ (started c k r.number, (start_l r.number n s₁).1) = ap (λ (z : Lowering Lower.Chain). z s₁) (starts_def c n (endpoint_var bn s).0 starts l) ∙ start_def c n (endpoint_var bn s).0 s₁ ∙ start_same c n s₁ _ _ _ (sym g.number) (sym y.root) in
      let u : Sub ((base + suc (ch.at.i + 1), base + suc e) ∷ W₁) ((base + suc (from ch), base + suc e) ∷ W) = sub_within P.fn1 (le_refl _) (sub_within P.fn P.ne (sub_more (base + suc (from ch), base + suc e) W)) in
      subst (λ (x : Lower.Step). Chained (side sheet a b first) W d base ch ch' t x c s (mem ch.ctx os rest) m₂) (sym v.step)
      (record {
        to = rw D (to_wider u (to_then g.to y.to));
        same = rw D (record { last = refl; waiting = no_rel_law refl refl; kept = length-append c.path (r.number ∷ []) ∙ ap (λ (x : ℕ). x + 1) l.kept });
        path = λ N A fu ts. (let z : N (base + suc ch.at.i) ≡ r.number = (back y.to (narrow u (rw D at fu))).notes.at (base + suc ch.at.i) P.low
            (inl P.here) ∙ g.noted in path_one _ c.path _ _ _ _ _ (ap (λ (x : Lower.Chain × State). x.0.path) D) (kept_node room sheet d ch.at.i (shift N base)
            (has_last ch.last) (pending_line ch.pending) ts t hd is_node_law) (starts_path (shift N base) ch starts) z);
      })

  start_moved : Moved (from ch) e (mem ch.ctx os rest) m₂
  start_moved =
      let v = ls.moved in
      let n = nm.issued in
      let q = st.from in
      let n₁ = n.low in
      let n₂ = n.met in
      let n₃ = n.ops in
      let w₁ = ls.numbers in
      let w₂ = ls.mapped in
      let w₃ = v.few in
      let w₄ = v.up in
      record { up = omega arith; here = v.here; grow = let g = v.grow in omega arith; few = omega arith; low = omega arith; met = omega arith; in_ops = v.in_ops; in_rest = v.in_rest ∙ lr; index = λ x. v.index (n.index x) }

  pub start_law : SomeTree a b pattern_element d ch.at.i → LowersElement a b d base ch ch' os m₂.ops rest m₂.rest
  start_law x =
      let f = tree_fits x.sheet a b x.tree d ch.at.i x.held in
      let E = ls.next x.sheet x.tree x.held in
      let v = ls.moved in
      let n = nm.issued in
      record {
        moved = start_moved;
        bounded = record { from = le_refl _; next = v.here; last = op_under ls.low; kept = let q = st.kept in omega arith };
        anchored = record { sheet = x.sheet; pending = None; waiting = no_rel_law refl refl };
        ahead = omega arith;
        stays = (refl, refl);
        since = λ o l h. op_since (omega (arith, n.ops, ls.since));
        next = λ sheet t hd. ls.next sheet t hd;
        run = λ sheet t hd W s c r l bl. start_run sheet t hd W s c r l bl;
      }

-- ── a node behind a rel ──

pub rel_kind_law : {a b : List ℕ} (room : Roomy a b) (sheet : Bytes) (d i : ℕ) (t : Tree pattern_element) (r : RelStep) → Held sheet a b t d i → step_of t ≡ of_rel r → cell a b i kind_at ≡ rel_kind
unfolding Held element_number fold made element_step
rel_kind_law room sheet d i (node pattern_element line PatternElement.Node (bind, (n, (p, (span, u)))) (names ▸ props ▸ end)) r hd e = absurd (step_apart e)
rel_kind_law room sheet d i (node pattern_element line PatternElement.Rel f kids) r hd e = element_number_law room hd.1

module _ {a b : List ℕ} (d base : ℕ) (ch : Chain) {rel : PendingRel} {origin : LastNode} {e₁ e₂ n₁ n₂ p₁ p₂ : ℕ} {os rest rest₁ rest₂ : List ℕ} {r₁ r₂ : Numbered} {m₃ m₄ : Mem} {c₅ : LowerCtx} {os₅ : List ℕ}
    (room : Roomy a b) (lb : base ≤ second_pass) (sh : d ≤ deepest) (st : ChainInBounds ch) (w1 : ch.pending ≡ Some rel) (h1 : ch.last ≡ Some origin)
    (is_node_law : cell a b ch.at.i kind_at ≡ node_kind) (la : ch.at.i < max_records) (ep₁ : p₁ ≡ base + (ch.at.i + 1)) (nm₁ : Numbers (endpoint_var (option_of (cell a b ch.at.i element_named_at)
    (cell a b ch.at.i element_var_at))) p₁ ch.ctx rest rest₁ r₁) (lr₁ : length rest₁ ≡ length rest) (ep₂ : p₂ ≡ base + (rel.i + 1))
    (nm₂ : Numbers (endpoint_var (option_of (cell a b rel.i element_named_at) (cell a b rel.i element_var_at))) p₂ r₁.ctx rest₁ rest₂ r₂) (lr₂ : length rest₂ ≡ length rest₁)
    (en₁ : n₁ ≡ cell a b rel.i rel_props_at) (x₁ : LowersExprs a b n₁ 0 (d - 1) base (rel.i + 1 + cell a b rel.i rel_types_at) e₁ (mem r₂.ctx os rest₂) m₃)
    (en₂ : n₂ ≡ cell a b ch.at.i node_props_at) (x₂ : LowersExprs a b n₂ 0 (d - 1) base (ch.at.i + 1 + cell a b ch.at.i node_labels_at) e₂ m₃ m₄)
    (pe : Pushed m₄.ctx c₅ m₄.ops os₅ (expand_op (at_place base rel.i d) origin.op origin.number ch.at.i)) (lo : length os₅ ≡ length m₄.ops) where
  abbrev ch'' : Chain
  ch'' = node_chain ch e₂ c₅ m₄.ctx.ops r₁.number 2

  -- nothing from the rel on is lowered yet
  from_is : from ch ≡ rel.i
  from_is = ap (λ (p : Option PendingRel). from_of p ch.at.i) w1

  -- the rel that waits is a rel
  waiting_kind : {sheet : Bytes} {o : Option RelStep} → RelWaits sheet a b d ch rel o → cell a b rel.i kind_at ≡ rel_kind
  waiting_kind {sheet} w = rel_kind_law room sheet d rel.i w.tree w.step w.held w.is

  expand_end : {sheet : Bytes} {o : Option RelStep} → RelWaits sheet a b d ch rel o → e₁ ≡ ch.at.i
  expand_end {sheet} w = rel_end d base ch.at.i rel.i room is_node_law (waiting_kind w) lb sh la ep₁ nm₁ ep₂ nm₂ en₁ x₁ en₂ x₂ pe sheet w.tree w.held ∙ sym w.ends

  expand_moved : e₁ ≡ ch.at.i → Moved (from ch) e₂ (mem ch.ctx os rest) (mem c₅ os₅ m₄.rest)
  expand_moved E =
      let i₁ = nm₁.issued in
      let i₂ = nm₂.issued in
      let v₁ = x₁.moved in
      let v₂ = x₂.moved in
      let fr = from_is in
      record {
        up = omega (arith, v₁.up, v₂.up);
        here = v₂.here;
        grow = omega (arith, i₁.ops, i₂.ops, v₁.grow, v₂.grow, pe.count);
        few = omega (arith, i₁.ops, i₂.ops, v₁.few, v₂.few, pe.count, v₁.up, v₂.up);
        low = omega (arith, i₁.low, i₂.low, v₁.low, v₂.low, pe.numbers, v₁.up, v₂.up);
        met = omega (arith, i₁.met, i₂.met, v₁.met, v₂.met, pe.mapped, v₁.up, v₂.up);
        in_ops = lo ∙ v₂.in_ops ∙ v₁.in_ops;
        in_rest = v₂.in_rest ∙ v₁.in_rest ∙ lr₂ ∙ lr₁;
        index = λ x. rw pe.mapped (v₂.index (v₁.index (i₂.index (i₁.index x))));
      }

  expanded_run : (sheet : Bytes) {first : ℕ} (t : Tree pattern_element) → Held sheet a b t d ch.at.i → (W : Written) (s : State) (c : Lower.Chain) → Rep (side sheet a b first) W s (mem ch.ctx os rest) →
      SameChain sheet a b d ch c → RelWaits sheet a b d ch rel c.pending → Blank W (base + suc (from ch)) (base + suc e₂) →
      Chained (side sheet a b first) W d base ch ch'' t (step_of t) c s (mem ch.ctx os rest) (mem c₅ os₅ m₄.rest)
  unfolding kept_rel
  expanded_run sheet {first} t hd W s c rp l w bl =
      let v = a_node room t hd is_node_law in
      let fr = from_is in
      let x =
      expand_run d base ch.at.i rel.i room is_node_law (waiting_kind w) lb sh la ep₁ nm₁ ep₂ nm₂ en₁ x₁ en₂ x₂ pe sheet t w.tree _ w.step hd w.held v.step w.is w.ends W s c w.there (l.last ∙ ap last_of h1) rp (rw fr at bl)
      in
      subst (λ (z : Lower.Step). Chained (side sheet a b first) W d base ch ch'' t z c s (mem ch.ctx os rest) (mem c₅ os₅ m₄.rest)) (sym v.step)
      (record {
        to = rw fr x.to;
        same = rw x.is (record { last = ap (λ (z : ℕ). Some (m₄.ctx.ops, z)) (sym x.number); waiting = no_rel_law refl refl; kept = length-append c.path (x.bind_rel ∷ x.bind_to ∷ []) ∙ ap (λ (z : ℕ). z + 2) l.kept });
        path = λ N A f ts.
            (let y = x.notes N A (rw fr at f) in
            path_two _ c.path _ _ _ _ _ _ _ (ap (λ (z : Lower.Chain). z.path) x.is) (kept_node room sheet d ch.at.i (shift N base) (has_last ch.last) (pending_line ch.pending) ts t hd is_node_law) (kept_one (shift N base) ch.last ch.pending origin rel h1 w1) y.0 y.1);
      })

  pub expand_law : SomeTree a b pattern_element d ch.at.i → Anchored a b d ch → LowersElement a b d base ch ch'' os os₅ rest m₄.rest
  expand_law x y =
      let w = rel_waits w1 y.waiting in
      let E = expand_end w in
      let mv = expand_moved E in
      let u₁ = x₁.moved.up in
      let u₂ = x₂.moved.up in
      record {
        moved = mv;
        bounded = record { from = le_refl _; next = mv.here; last = op_under (omega (arith, pe.count)); kept = let q = st.kept in omega arith };
        anchored = record { sheet = x.sheet; pending = None; waiting = no_rel_law refl refl };
        ahead = omega arith;
        stays = (refl, refl);
        since = λ o l h. op_since (omega (arith, nm₁.issued.ops, nm₂.issued.ops, x₁.moved.grow, x₂.moved.grow));
        next = λ sheet t hd. far_end d base ch.at.i rel.i room is_node_law (waiting_kind w) lb sh la ep₁ nm₁ ep₂ nm₂ en₁ x₁ en₂ x₂ pe sheet t hd;
        run = λ sheet t hd W s c r l bl. expanded_run sheet t hd W s c r l (rel_waits w1 l.waiting) bl;
      }
