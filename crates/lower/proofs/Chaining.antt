-- A part as a chain: its elements, a source of everything where there is no operator, and the path if it is named. Assumes nothing.
use mathlib.Core.Path.{◌≡◌, refl, sym, ap, ◌∙◌}
use Prim.Native.Nat.{ℕ, suc, ◌+◌, ◌-◌, ◌≤◌, ◌<◌}
use native.Mathlib.Nat.{le_refl}
use native.Mathlib.Omega.{arith}
use mathlib.Core.List.{List, [], ◌∷◌}
use Rattle.std.specs.Prelude.{Option, None, Some}
use lib.ListN.{length}
use Rattle.model.specs.Text.{Bytes}
use Rattle.model.specs.Field.{Fields}
use Rattle.model.specs.Kind.{ReadOp, pattern_part, pattern_element}
use Rattle.model.specs.Record.{forms}
use Rattle.model.specs.Tree.{Tree, Trees, node, end, ◌▸◌, fold}
use Rattle.model.specs.Lower.{Recs, Lowered, made, ◌>>=◌, ret, push, op, source, issue, upcoming, map_var, push_source_all, or_source_all, root_of, path_elements, bind_path, lower_elements, lower_chain}
use Rattle.model.specs.Lower
use Rattle.words.specs.Words.{Roomy, cell, option_of, fields_of, field_of, max_records}
use Rattle.words.specs.Held.{Held, HeldOf, size, size_of}
use Rattle.context.specs.Tables.{Pushed, Numbers, second_pass, deepest}
use Rattle.context.specs.declared.At.{At}
use Rattle.context.specs.declared.LowerCtx.{LowerCtx}
use Rattle.context.specs.declared.Numbered.{Numbered}
use Rattle.words.specs.Cells.{shown}
use Rattle.context.specs.Ops.{Under, Since, bind_path_op, source_all_kind, source_all_op}
use Rattle.lower.specs.Side.{side}
use Rattle.lower.specs.Shows.{shows_all, shows_path}
use Rattle.lower.specs.Rep.{at_place, State, Mem, mem, Written, Sub, Blank, Rep, Rooted}
use Rattle.lower.specs.Pieces.{SomeTree}
use Rattle.lower.specs.Patterns.{SomeTrees}
use Rattle.lower.specs.Chains.{last_of, LastUnder, LastSince, steps_of, no_rel_law, SameChain, ChainInBounds, Anchored, passed, ChainedAll, LowersElements, Sourced, OrSource, chain_l, LowersChain, start_chain}
use Rattle.std.proofs.lemmas.Option.{none-some, same_Some}
use Rattle.lower.specs.declared.LastNode.{LastNode}
use Rattle.lower.specs.declared.Chain.{Chain}
use Rattle.lower.specs.State.{sub_more, sub_within, blank_within, blank_before, back, to_refl, to_then, to_wider, push_to, Given, number_to, upcoming_number}
use Rattle.words.specs.Fits.{tree_low}
use Rattle.lower.proofs.Parts.{source_bounded}
use Rattle.words.specs.Places.{part_named_at, part_var_at, part_shortest_at, part_elements_at}

-- ── the operator before, or a source of everything ──

pub source_there : (current : Option ℕ) (k : ℕ) (m : Mem) → current ≡ Some k → k < m.ctx.ops → OrSource m.ctx.ops (or_source_all current) k m m
unfolding or_source_all ret
source_there current k m e l = record { grow = le_refl _; few = omega arith; numbers = refl; mapped = refl; rest = refl; in_ops = refl; low = l; run = λ S W s h r. rw e (record { to = to_refl r; root = refl }) }

pub source_new : (current : Option ℕ) (m : Mem) (c : LowerCtx) (os : List ℕ) → current ≡ None → Pushed m.ctx c m.ops os (source_all_op m.ctx.numbers) → length os ≡ length m.ops → OrSource m.ctx.ops (or_source_all current) m.ctx.ops m (mem c os m.rest)
unfolding or_source_all push_source_all upcoming issue ◌>>=◌ push
source_new current m c os e p lo = record {
  grow = omega (arith, p.count);
  few = omega (arith, p.count);
  numbers = p.numbers;
  mapped = p.mapped;
  rest = refl;
  in_ops = lo;
  low = omega (arith, p.count);
  run = λ S W s h r. rw e (record { to = push_to m c os (source_all_op m.ctx.numbers) (source s.scope.next_var []) r p (λ N A f. record { bounded = source_bounded source_all_kind m.ctx.numbers; shows = shows_all refl (ap (λ (x : ℕ). source x []) (sym (upcoming_number m r))) }); root = r.count });
}

-- a root as the code has it
pub source_as : {o o' : Option ℕ} {n k : ℕ} {m m' : Mem} → o ≡ o' → OrSource n (or_source_all o) k m m' → OrSource n (or_source_all o') k m m'
source_as e p = rw e at p

under_by : (l : Option LastNode) (n k : ℕ) → LastUnder l n → Some k ≡ root_of (last_of l) → k < n
unfolding root_of
under_by None n k u e = absurd (none-some k (sym e))
under_by (Some x) n k u e = let z : k ≡ x.op = same_Some _ _ e in let y = u.op x refl in omega arith

pub root_under : {root : Option ℕ} {l : Option LastNode} {n : ℕ} → root ≡ root_of (last_of l) → LastUnder l n → Under root n
root_under {l = l} {n = n} e u = record { op = λ k h. under_by l n k u (sym h ∙ e) }

since_by : (l : Option LastNode) (n k : ℕ) → LastSince l n → Some k ≡ root_of (last_of l) → n ≤ k
unfolding root_of
since_by None n k u e = absurd (none-some k (sym e))
since_by (Some x) n k u e = let z : k ≡ x.op = same_Some _ _ e in let y = u.op x refl in omega arith

pub root_since : {root : Option ℕ} {l : Option LastNode} {n : ℕ} → root ≡ root_of (last_of l) → LastSince l n → Since root n
root_since {l = l} {n = n} e u = record { op = λ k h. since_by l n k u (sym h ∙ e) }

-- ── a part, opened ──

pub record IsPart (sheet : Bytes) (a b : List ℕ) (d i : ℕ) (t : Tree pattern_part) : Type 0 where
  pub n : ℕ
  pub elements : Trees pattern_element n
  pub many : n ≡ cell a b i part_elements_at
  pub held : HeldOf sheet a b elements (d - 1) (i + 1)
  pub sized : size t ≡ suc (size_of elements)
  pub chain : (s : State) → chain_l t s ≡ lower_chain (option_of (cell a b i part_named_at) (cell a b i part_var_at)) (steps_of elements) s
  pub shaped : (s : State) → fold Lowered made t s ≡ Lower.lower_pattern_part (option_of (cell a b i part_named_at) (cell a b i part_var_at)) (cell a b i part_shortest_at) (steps_of elements) s

pub a_part : {sheet : Bytes} {a b : List ℕ} {d i : ℕ} (room : Roomy a b) (t : Tree pattern_part) → Held sheet a b t d i → IsPart sheet a b d i t
unfolding Held size chain_l fold made fields_of field_of
a_part {sheet} {a} {b} {d} {i} room (node pattern_part line k (named_as, (shortest, (n, u))) (ts ▸ end)) hd =
    let w = (shown room hd.1).fields in
    let e₁ : named_as ≡ option_of (cell a b i part_named_at) (cell a b i part_var_at) = ap (λ (x : Fields (forms pattern_part tt)). x.0) w in
    let e₂ : shortest ≡ cell a b i part_shortest_at = ap (λ (x : Fields (forms pattern_part tt)). x.1.0) w in
    let e₃ : n ≡ cell a b i part_elements_at = ap (λ (x : Fields (forms pattern_part tt)). x.1.1.0) w in
    record { n = n; elements = ts; many = e₃; held = hd.3.0; sized = omega arith; chain = λ s. rw e₁; shaped = λ s. rw (e₁, e₂) }

pub some_elements : {a b : List ℕ} {n d i : ℕ} → Roomy a b → n ≡ cell a b i part_elements_at → SomeTree a b pattern_part d i → SomeTrees a b pattern_element n (d - 1) (i + 1)
some_elements room en x = let v = a_part room x.tree x.held in rw (en ∙ sym v.many) (record { sheet = x.sheet; trees = v.elements; held = v.held })

-- ── the chain ──

abbrev no_chain : Lower.Chain
no_chain = record { last = None; pending = None; path = [] }

pub start_bounded : (at : At) (c : LowerCtx) → at.i + 1 ≤ max_records → ChainInBounds (start_chain at c)
start_bounded at c l = record { from = le_refl _; next = l; last = record { op = λ x e. absurd (none-some x e) }; kept = omega arith }

pub start_anchored : (a b : List ℕ) (sheet : Bytes) (d : ℕ) (at : At) (c : LowerCtx) → Anchored a b d (start_chain at c)
start_anchored a b sheet d at c = record { sheet = sheet; pending = None; waiting = no_rel_law refl refl }

-- the last operator of all elements was pushed since
pub start_since : {a b : List ℕ} {n d base : ℕ} (at : At) {c : LowerCtx} {ch : Chain} {os os' rs rs' : List ℕ} → LowersElements a b n d base (start_chain at c) ch os os' rs rs' → LastSince ch.last c.ops
start_since at el = el.since _ (le_refl _) (record { op = λ x e. absurd (none-some x e) })

start_same : (sheet : Bytes) (a b : List ℕ) (d : ℕ) (at : At) (c : LowerCtx) → SameChain sheet a b d (start_chain at c) no_chain
start_same sheet a b d at c = record { last = refl; waiting = no_rel_law refl refl; kept = refl }

abbrev after_elements : {n : ℕ} → Trees pattern_element n → State → Lower.Chain × State
after_elements ts s = lower_elements no_chain (steps_of ts) s

chain_def : {n : ℕ} (o : Option ℕ) (ts : Trees pattern_element n) (s : State) (g : Option ℕ) → root_of (after_elements ts s).0.last ≡ g → lower_chain o (steps_of ts) s ≡ bind_path o (or_source_all g (after_elements ts s).1).0 (after_elements ts s).0.path (or_source_all g (after_elements ts s).1).1
unfolding lower_chain ◌>>=◌
chain_def o ts s g e = rw e

path_is : (k x x' n n' : ℕ) (path path' : List ℕ) → x ≡ x' → n ≡ n' → path ≡ path' → op ReadOp.BindPath (k, (x, (n, tt))) ∷ path_elements path ≡ op ReadOp.BindPath (k, (x', (n', tt))) ∷ path_elements path'
path_is k x x' n n' path path' ex en ep = rw (ex, en, ep)

module _ {a b : List ℕ} {n base : ℕ} {c : LowerCtx} {ch : Chain} {os os₁ rs rs₁ : List ℕ} {k : ℕ} {m₂ : Mem} (d i : ℕ) (room : Roomy a b) (lb : base ≤ second_pass)
    (en : n ≡ cell a b i part_elements_at) (el : LowersElements a b n (d - 1) base (start_chain (at_place base i (d - 1)) c) ch os os₁ rs rs₁)
    (sr : OrSource ch.ctx.ops (or_source_all (root_of (last_of ch.last))) k (mem ch.ctx os₁ rs₁) m₂) where
  chain_next : (sheet : Bytes) (t : Tree pattern_part) → Held sheet a b t d i → ch.at.i ≡ i + size t
  chain_next sheet t hd =
      let v = a_part room t hd in
      let el' : LowersElements a b v.n (d - 1) base (start_chain (at_place base i (d - 1)) c) ch os os₁ rs rs₁ = rw (en ∙ sym v.many) at el in
      let x = el'.next sheet v.elements v.held in
      let y = v.sized in
      omega arith

  -- elements and source
  pub record Rooting (sheet : Bytes) (first : ℕ) (t : Tree pattern_part) (W : Written) (s : State) (v : IsPart sheet a b d i t) : Type 0 where
    pub all : ChainedAll (side sheet a b first) W (d - 1) base (start_chain (at_place base i (d - 1)) c) ch v.elements no_chain s (mem c os rs) (mem ch.ctx os₁ rs₁)
    pub src : Sourced (side sheet a b first) (or_source_all (root_of (last_of ch.last))) k (passed base (start_chain (at_place base i (d - 1)) c) ch W) (after_elements v.elements s).1 (mem ch.ctx os₁ rs₁) m₂
    pub def : (o : Option ℕ) → lower_chain o (steps_of v.elements) s ≡ bind_path o k (after_elements v.elements s).0.path (or_source_all (root_of (last_of ch.last)) (after_elements v.elements s).1).1

  rooting : (sheet : Bytes) {first : ℕ} (t : Tree pattern_part) (hd : Held sheet a b t d i) (W : Written) (s : State) → Rep (side sheet a b first) W s (mem c os rs) → Blank W (base + suc i) (base + suc ch.at.i) → Rooting sheet first t W s (a_part room t hd)
  rooting sheet t hd W s r bl =
      let v = a_part room t hd in
      let el' : LowersElements a b v.n (d - 1) base (start_chain (at_place base i (d - 1)) c) ch os os₁ rs rs₁ = rw (en ∙ sym v.many) at el in
      let y = el'.run sheet v.elements v.held W s no_chain r (start_same sheet a b (d - 1) (at_place base i (d - 1)) c) (blank_within (omega arith) (le_refl _) bl) in
      let z = sr.run _ _ _ y.to.rep.from y.to.rep in
      record { all = y; src = z; def = λ o. chain_def o v.elements s _ (ap root_of y.same.last) ∙ ap (λ (x : ℕ). bind_path o x (after_elements v.elements s).0.path (or_source_all (root_of (last_of ch.last)) (after_elements v.elements s).1).1) (sym z.root) }

  module _ (so : c.ops ≤ k) (k2 : option_of (cell a b i part_named_at) (cell a b i part_var_at) ≡ None) where
    unnamed_run : (sheet : Bytes) {first : ℕ} (t : Tree pattern_part) → Held sheet a b t d i → (W : Written) (s : State) → Rep (side sheet a b first) W s (mem c os rs) → Blank W (base + suc i) (base + suc ch.at.i) → Rooted (side sheet a b first) W (chain_l t) k base (suc i) (suc ch.at.i) s (mem c os rs) m₂
    unfolding bind_path ret
    unnamed_run sheet t hd W s r bl =
        let v = a_part room t hd in
        let x = rooting sheet t hd W s r bl in
        let D = v.chain s ∙ ap (λ (o : Option ℕ). lower_chain o (steps_of v.elements) s) k2 ∙ x.def None in
        let f = el.bounded.from in
        record { to = rw D (to_wider (sub_within (omega arith) (omega arith) (sub_more (base + suc i, base + suc ch.at.i) W)) (to_then x.all.to x.src.to)); root = rw D; low = sr.low }

    pub unnamed_law : LowersChain a b d base i ch.at.i k (mem c os rs) m₂
    unnamed_law =
        let v = el.moved in
        let f = el.bounded.from in
        record {
          moved = record { up = omega (arith, v.up); here = el.bounded.next; grow = omega (arith, v.grow, sr.grow); few = omega (arith, v.few, sr.few); low = omega (arith, v.low, sr.numbers); met = omega (arith, v.met, sr.mapped); in_ops = sr.in_ops ∙ v.in_ops; in_rest = ap length sr.rest ∙ v.in_rest; index = λ x. rw (sr.mapped, sr.rest) (v.index x) };
          since = so;
          low = sr.low;
          next = chain_next;
          run = unnamed_run;
        }

  module _ {place id : ℕ} {r₃ : Numbered} {rest₃ os₄ : List ℕ} {c₄ : LowerCtx} (sh : d ≤ deepest) (k2 : option_of (cell a b i part_named_at) (cell a b i part_var_at) ≡ Some id) (ep : place ≡ base + (i + 1))
      (nm : Numbers (map_var id) place m₂.ctx m₂.rest rest₃ r₃) (lr : length rest₃ ≡ length m₂.rest)
      (pp : Pushed r₃.ctx c₄ m₂.ops os₄ (bind_path_op (at_place base i (d - 1)) k ch.kept r₃.number)) (lo : length os₄ ≡ length m₂.ops) where
    named_run : (sheet : Bytes) {first : ℕ} (t : Tree pattern_part) → Held sheet a b t d i → (W : Written) (s : State) → Rep (side sheet a b first) W s (mem c os rs) → Blank W (base + suc i) (base + suc ch.at.i) → Rooted (side sheet a b first) W (chain_l t) r₃.ctx.ops base (suc i) (suc ch.at.i) s (mem c os rs) (mem c₄ os₄ rest₃)
    unfolding bind_path ◌>>=◌ push
    named_run sheet {first} t hd W s r bl =
        let v = a_part room t hd in
        let x = rooting sheet t hd W s r bl in
        let f = el.bounded.from in
        let g₀ = el.ahead in
        let W₁ : Written = passed base (start_chain (at_place base i (d - 1)) c) ch W in
        let s₂ : State = (or_source_all (root_of (last_of ch.last)) (after_elements v.elements s).1).1 in
        let path : List ℕ = (after_elements v.elements s).0.path in
        let D = v.chain s ∙ ap (λ (o : Option ℕ). lower_chain o (steps_of v.elements) s) k2 ∙ x.def (Some id) in
        let ep' : place ≡ base + suc i = omega arith in
        let g : Given (side sheet a b first) W₁ s₂ (map_var id) (base + suc i) m₂ rest₃ r₃ = number_to (map_var id) (base + suc i) m₂ rest₃ r₃ x.src.to.rep (rw ep' at nm) (blank_before (omega arith) (blank_within (le_refl _) (omega arith) bl)) in
        let recs : Recs = op ReadOp.BindPath (k, ((map_var id s₂).0, (length path, tt))) ∷ path_elements path in
        let y = push_to (mem r₃.ctx m₂.ops rest₃) c₄ os₄ (bind_path_op (at_place base i (d - 1)) k ch.kept r₃.number) recs g.to.rep pp
        (λ N A fu. record {
          bounded = record { shallow = omega arith; near = lb; low = tree_low sheet a b t d i hd; far = λ e. absurd (omega arith); flagged = λ e. absurd (omega arith) };
          shows = shows_path refl (record {
            count = v.n;
            elements = v.elements;
            counted = v.many;
            held = v.held;
            is = path_is k (map_var id s₂).0 r₃.number (length path) ch.kept path _ (sym g.number) x.all.same.kept (x.all.path N A (back x.src.to (back g.to fu)));
          });
        }) in
        let u : Sub ((base + suc i, base + suc i + 1) ∷ W₁) ((base + suc i, base + suc ch.at.i) ∷ W) = sub_within (le_refl _) (omega arith) (sub_within (omega arith) (omega arith) (sub_more (base + suc i, base + suc ch.at.i) W)) in
        record { to = rw D (to_wider u (to_then x.all.to (to_then x.src.to (to_then g.to y)))); root = rw D g.to.rep.count; low = let e : c₄.ops ≡ r₃.ctx.ops + 1 = pp.count in omega arith }

    pub named_law : LowersChain a b d base i ch.at.i r₃.ctx.ops (mem c os rs) (mem c₄ os₄ rest₃)
    named_law =
        let v = el.moved in
        let f = el.bounded.from in
        let n = nm.issued in
        record {
          moved = record {
            up = omega (arith, v.up);
            here = el.bounded.next;
            grow = omega (arith, v.grow, sr.grow, n.ops, pp.count);
            few = omega (arith, v.few, sr.few, n.ops, pp.count);
            low = omega (arith, v.low, sr.numbers, n.low, pp.numbers);
            met = omega (arith, v.met, sr.mapped, n.met, pp.mapped);
            in_ops = lo ∙ sr.in_ops ∙ v.in_ops;
            in_rest = lr ∙ ap length sr.rest ∙ v.in_rest;
            index = λ x. rw pp.mapped (n.index (rw (sr.mapped, sr.rest) (v.index x)));
          };
          since = omega (arith, v.grow, sr.grow, n.ops);
          low = omega (arith, pp.count);
          next = chain_next;
          run = named_run;
        }
