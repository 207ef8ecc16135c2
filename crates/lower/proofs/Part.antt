-- A part by its shape: a chain, unless it is a shortest part of exactly node, rel, node. Assumes nothing.
use mathlib.Core.Path.{◌≡◌, sym, ap, ◌∙◌}
use Prim.Native.Nat.{ℕ, ◌+◌, ◌-◌}
use native.Mathlib.Omega.{arith}
use mathlib.Core.List.{List, [], ◌∷◌}
use Rattle.model.specs.Text.{Bytes}
use Rattle.model.specs.Kind.{pattern_part, pattern_element}
use Rattle.model.specs.Tree.{Tree}
use Rattle.model.specs.Lower.{Step, NodeStep, RelStep, of_node, of_rel, other, shape_of}
use Rattle.words.specs.Words.{Roomy, cell}
use Rattle.words.specs.Held.{Held, size}
use Rattle.words.specs.Count.{Starts, Ends}
use Rattle.lower.specs.Rep.{State, Mem}
use Rattle.lower.specs.Pieces.{SomeTree}
use Rattle.lower.specs.Patterns.{part_l, LowersPart}
use Rattle.lower.specs.Chains.{special_elements, steps_of, chain_l, LowersChain, ReadAt, ElementAt, node_at, rel_at}
use Rattle.lower.specs.declared.Element.{Element}
use Rattle.lower.specs.declared.Element.TheVariants as element
use Rattle.lower.specs.declared.Read.{Read}
use Rattle.lower.proofs.Elements.{a_node, a_rel, other_element}
use Rattle.lower.proofs.Chaining.{IsPart, a_part}
use Rattle.lower.proofs.Shortest.{Three, three, plain_part, other_part, shape_not_three, steps_length}
use Rattle.words.specs.Places.{kind_at, node_kind, rel_kind, part_shortest_at, part_elements_at, node_props_at, rel_props_at}

-- ── what was read of an element ──

read_of : Element → Read
read_of (element.Node x) = x
read_of (element.Rel x) = x

nodes : Element → ℕ
nodes (element.Node x) = 1
nodes (element.Rel x) = 0

pub record NodeRead (a b : List ℕ) (i : ℕ) (x : Read) : Type 0 where
  pub is : cell a b i kind_at ≡ node_kind
  pub read : ReadAt a b i node_props_at x

pub record RelRead (a b : List ℕ) (i : ℕ) (x : Read) : Type 0 where
  pub is : (cell a b i kind_at ≡ node_kind) → ⊥
  pub read : ReadAt a b i rel_props_at x

pub node_read : {a b : List ℕ} {i : ℕ} {r : Element} {x : Read} → ElementAt a b i r → r ≡ element.Node x → NodeRead a b i x
unfolding read_of nodes
node_read (node_at y e k p) h = let z = ap read_of (sym e ∙ h) in record { is = k; read = rw z at p }
node_read (rel_at y e k p) h = let z : ◌≡◌ {A = ℕ} 0 1 = ap nodes (sym e ∙ h) in absurd (omega arith)

pub rel_read : {a b : List ℕ} {i : ℕ} {r : Element} {x : Read} → ElementAt a b i r → r ≡ element.Rel x → RelRead a b i x
unfolding read_of nodes
rel_read (node_at y e k p) h = let z : ◌≡◌ {A = ℕ} 1 0 = ap nodes (sym e ∙ h) in absurd (omega arith)
rel_read (rel_at y e k p) h = let z = ap read_of (sym e ∙ h) in record { is = k; read = rw z at p }

-- ── as a chain ──

pub chain_part : {a b : List ℕ} {d base i e k : ℕ} {m m' : Mem} → ((sheet : Bytes) (t : Tree pattern_part) → Held sheet a b t d i → (s : State) → part_l t s ≡ chain_l t s) → LowersChain a b d base i e k m m' → LowersPart a b d base i e k m m'
chain_part same p = record {
  moved = p.moved;
  since = p.since;
  low = p.low;
  next = p.next;
  run = λ sheet t hd W s r bl.
      let x = p.run sheet t hd W s r bl in
      let z = same sheet t hd s in
      record { to = rw z x.to; root = x.root ∙ ap (λ (y : ℕ × State). y.0) (sym z); low = x.low };
}

module _ {a b : List ℕ} (d i : ℕ) (room : Roomy a b) where
  pub no_shortest : cell a b i part_shortest_at ≡ 0 → (sheet : Bytes) (t : Tree pattern_part) → Held sheet a b t d i → (s : State) → part_l t s ≡ chain_l t s
  no_shortest k sheet t hd s = let v = a_part room t hd in v.shaped s ∙ plain_part _ _ _ s k ∙ sym (v.chain s)

  by_shape : (sheet : Bytes) (t : Tree pattern_part) (hd : Held sheet a b t d i) → shape_of (steps_of (a_part room t hd).elements) ≡ other → (s : State) → part_l t s ≡ chain_l t s
  by_shape sheet t hd e s = let v = a_part room t hd in v.shaped s ∙ other_part _ (cell a b i part_shortest_at) _ s e ∙ sym (v.chain s)

  pub not_three : ((cell a b i part_elements_at ≡ special_elements) → ⊥) → (sheet : Bytes) (t : Tree pattern_part) → Held sheet a b t d i → (s : State) → part_l t s ≡ chain_l t s
  not_three h sheet t hd s = let v = a_part room t hd in by_shape sheet t hd (shape_not_three _ (λ e. h (sym v.many ∙ sym (steps_length v.elements) ∙ e))) s

-- three elements of another shape
shape_first : (ss : List Step) (x y z : Step) (r : RelStep) → ss ≡ x ∷ y ∷ z ∷ [] → x ≡ of_rel r → shape_of ss ≡ other
unfolding shape_of
shape_first ss x y z r e ex = rw (e, ex)

shape_second : (ss : List Step) (x y z : Step) (n m : NodeStep) → ss ≡ x ∷ y ∷ z ∷ [] → x ≡ of_node n → y ≡ of_node m → shape_of ss ≡ other
unfolding shape_of
shape_second ss x y z n m e ex ey = rw (e, ex, ey)

shape_third : (ss : List Step) (x y z : Step) (n : NodeStep) (r q : RelStep) → ss ≡ x ∷ y ∷ z ∷ [] → x ≡ of_node n → y ≡ of_rel r → z ≡ of_rel q → shape_of ss ≡ other
unfolding shape_of
shape_third ss x y z n r q e ex ey ez = rw (e, ex, ey, ez)

module _ {a b : List ℕ} (d i : ℕ) {rel : ℕ} (room : Roomy a b) (k6 : cell a b i part_elements_at ≡ special_elements) (na : Ends a b (i + 1) rel) where
  -- where the three stand
  record Stand (sheet : Bytes) (t : Tree pattern_part) (v : IsPart sheet a b d i t) : Type 0 where
    trees : Three v.elements
    first : Held sheet a b trees.first (d - 1) (i + 1)
    second : Held sheet a b trees.rel (d - 1) rel
    third : Held sheet a b trees.far (d - 1) (rel + size trees.rel)

  stand : (sheet : Bytes) (t : Tree pattern_part) (hd : Held sheet a b t d i) → Stand sheet t (a_part room t hd)
  stand sheet t hd =
      let v = a_part room t hd in
      let th = three v.elements (v.many ∙ k6) in
      let h = th.held sheet a b (d - 1) (i + 1) v.held in
      let e : rel ≡ i + 1 + size th.first = na.each sheet pattern_element (d - 1) th.first h.0 in
      record { trees = th; first = h.0; second = rw e h.1; third = rw e h.2 }

  pub some_second : SomeTree a b pattern_part d i → SomeTree a b pattern_element (d - 1) rel
  some_second x = let s = stand x.sheet x.tree x.held in record { sheet = x.sheet; tree = s.trees.rel; held = s.second }

  pub not_first : ((cell a b (i + 1) kind_at ≡ node_kind) → ⊥) → (sheet : Bytes) (t : Tree pattern_part) → Held sheet a b t d i → (s : State) → part_l t s ≡ chain_l t s
  not_first h sheet t hd s =
      let x = stand sheet t hd in
      let v = a_rel room x.trees.first x.first (other_element room sheet (d - 1) (i + 1) x.trees.first x.first h) in
      by_shape d i room sheet t hd (shape_first _ _ _ _ _ x.trees.steps v.step) s

  pub not_second : cell a b (i + 1) kind_at ≡ node_kind → cell a b rel kind_at ≡ node_kind → (sheet : Bytes) (t : Tree pattern_part) → Held sheet a b t d i → (s : State) → part_l t s ≡ chain_l t s
  not_second h h' sheet t hd s =
      let x = stand sheet t hd in
      let v = a_node room x.trees.first x.first h in
      let w = a_node room x.trees.rel x.second h' in
      by_shape d i room sheet t hd (shape_second _ _ _ _ _ _ x.trees.steps v.step w.step) s

  module _ {far : ℕ} (nr : Ends a b rel far) where
    third_at : (sheet : Bytes) (t : Tree pattern_part) (hd : Held sheet a b t d i) → Held sheet a b (stand sheet t hd).trees.far (d - 1) far
    third_at sheet t hd = let x = stand sheet t hd in rw (nr.each sheet pattern_element (d - 1) x.trees.rel x.second) x.third

    pub some_third : SomeTree a b pattern_part d i → SomeTree a b pattern_element (d - 1) far
    some_third x = record { sheet = x.sheet; tree = (stand x.sheet x.tree x.held).trees.far; held = third_at x.sheet x.tree x.held }

    pub not_third : cell a b (i + 1) kind_at ≡ node_kind → ((cell a b rel kind_at ≡ node_kind) → ⊥) → ((cell a b far kind_at ≡ node_kind) → ⊥) → (sheet : Bytes) (t : Tree pattern_part) → Held sheet a b t d i → (s : State) → part_l t s ≡ chain_l t s
    not_third h h' h'' sheet t hd s =
        let x = stand sheet t hd in
        let v = a_node room x.trees.first x.first h in
        let w = a_rel room x.trees.rel x.second (other_element room sheet (d - 1) rel x.trees.rel x.second h') in
        let z = a_rel room x.trees.far (third_at sheet t hd) (other_element room sheet (d - 1) far x.trees.far (third_at sheet t hd) h'') in
        by_shape d i room sheet t hd (shape_third _ _ _ _ _ _ _ x.trees.steps v.step w.step z.step) s

pub other_kind : {a b : List ℕ} {d i : ℕ} → Roomy a b → SomeTree a b pattern_element d i → ((cell a b i kind_at ≡ node_kind) → ⊥) → cell a b i kind_at ≡ rel_kind
other_kind {d = d} {i = i} room x h = other_element room x.sheet d i x.tree x.held h

pub starts : {a b : List ℕ} {d i : ℕ} → SomeTree a b pattern_element d i → Starts a b i
starts {d = d} x = record { sheet = x.sheet; sort = pattern_element; depth = d; tree = x.tree; held = x.held }

-- the first of three elements
pub first_some : {a b : List ℕ} (d i : ℕ) (room : Roomy a b) → cell a b i part_elements_at ≡ special_elements → SomeTree a b pattern_part d i → SomeTree a b pattern_element (d - 1) (i + 1)
first_some {a} {b} d i room k6 x =
    let v = a_part room x.tree x.held in
    let th = three v.elements (v.many ∙ k6) in
    record { sheet = x.sheet; tree = th.first; held = (th.held x.sheet a b (d - 1) (i + 1) v.held).0 }
