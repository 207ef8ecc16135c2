-- Patterns alike lower alike: elements, chains, special shortest parts and parts. Assumes nothing but the parameters: R, which joins the ids, and that R is one to one.
use Rattle.std.specs.Prelude.{◌≡◌, Bool, eqb, Option, None, Some}
use Rattle.std.proofs.Math.Path.{refl}
use Prim.Native.Nat.{ℕ, zero, suc}
use Rattle.std.proofs.Math.Bool.{true, false}
use mathlib.Core.List.{List, []}
use Rattle.model.specs.Field.{RelLength}
use Rattle.model.specs.Lower.{Recs, Lowering, ◌>>=◌, source, filter, or_source_all, Props, has, lower_props, NodeStep, RelStep, Step, of_node, of_rel}
use Rattle.model.specs.Lower.{lower_rel_element, node_recs, filter_by_props, Chain, start_node, expand_to, reach, lower_element, lower_elements, root_of, bind_path, lower_chain, lower_shortest_path_part, Shape, node_rel_node, other, shape_of, lower_shaped, lower_pattern_part, further_part, lower_further, lower_parts, optional_join, lower_match_pattern}
use Rattle.alike.specs.Relation.{Option~, none~, some~, List~, []~, ◌∷~◌}
use Rattle.alike.specs.Action.{Action~, Does~, bind~, then~, gives~, ret~, push~, copy~, fresh~, or_source_all~, map_var~, endpoint_var~}

module _ (R : ℕ → ℕ → Type 0) where
  abbrev pub Props~ : Props → Props → Type 0
  Props~ p q = Option~ (λ m n. Does~ R m n) p q

  pub data NodeStep~ : NodeStep → NodeStep → Type 0 where
    node_step~ : {a b : Option ℕ} {labels : Recs} {p q : Props} → Option~ R a b → Props~ p q →
        NodeStep~ (record { bind = a; labels = labels; props = p }) (record { bind = b; labels = labels; props = q })

  pub data RelStep~ : RelStep → RelStep → Type 0 where
    rel_step~ : {a b : Option ℕ} {types : Recs} {direction : ℕ} {length : RelLength} {p q : Props} → Option~ R a b → Props~ p q →
        RelStep~ (record { bind = a; types = types; direction = direction; length = length; props = p }) (record { bind = b; types = types; direction = direction; length = length; props = q })

  pub data Step~ : Step → Step → Type 0 where
    of_node~ : {a b : NodeStep} → NodeStep~ a b → Step~ (of_node a) (of_node b)
    of_rel~ : {a b : RelStep} → RelStep~ a b → Step~ (of_rel a) (of_rel b)

  pub data Chain~ : Chain → Chain → Type 0 where
    chain~ : {last : Option (ℕ × ℕ)} {p q : Option RelStep} {path : List ℕ} → Option~ RelStep~ p q →
        Chain~ (record { last = last; pending = p; path = path }) (record { last = last; pending = q; path = path })

  pub data Shape~ : Shape → Shape → Type 0 where
    node_rel_node~ : {a b : NodeStep} {r s : RelStep} {x y : NodeStep} → NodeStep~ a b → RelStep~ r s → NodeStep~ x y → Shape~ (node_rel_node a r x) (node_rel_node b s y)
    other~ : Shape~ other other

  has~ : {p q : Props} → Props~ p q → has p ≡ has q
  unfolding has
  has~ none~ = refl
  has~ (some~ p) = refl

  lower_props~ : {p q : Props} → Props~ p q → Does~ R (lower_props p) (lower_props q)
  unfolding lower_props
  lower_props~ none~ = ret~ R []
  lower_props~ (some~ p) = p

  filter_by_props~ : (k : ℕ) {p q : Props} → Props~ p q → Does~ R (filter_by_props k p) (filter_by_props k q)
  unfolding filter_by_props
  filter_by_props~ k none~ = ret~ R k
  filter_by_props~ k (some~ p) = then~ R p λ predicate. push~ R (filter k predicate)

  module _ (one : (a b x y : ℕ) → R a b → R x y → eqb a x ≡ eqb b y) where
    lower_rel_element~ : {r s : RelStep} → RelStep~ r s → Does~ R (lower_rel_element r) (lower_rel_element s)
    unfolding lower_rel_element
    lower_rel_element~ (rel_step~ b p) = rw (has~ p) (then~ R (endpoint_var~ R one b) λ bind_rel. then~ R (lower_props~ p) λ props. ret~ R _)

    start_node~ : {c d : Chain} {n m : NodeStep} → Chain~ c d → NodeStep~ n m → (bind : ℕ) → Action~ R (λ a b. Chain~ a b) (start_node c n bind) (start_node d m bind)
    unfolding start_node
    start_node~ (chain~ r) (node_step~ b p) bind = then~ R (push~ R _) λ k. then~ R (filter_by_props~ k p) λ root. gives~ R _ _ _ (chain~ none~)

    expand_to~ : {c d : Chain} {n m : NodeStep} {r s : RelStep} → Chain~ c d → NodeStep~ n m → RelStep~ r s → (input origin bind_to : ℕ) → Action~ R (λ a b. Chain~ a b) (expand_to c n r input origin bind_to) (expand_to d m s input origin bind_to)
    unfolding expand_to node_recs
    expand_to~ (chain~ w) (node_step~ b p) r input origin bind_to = rw (has~ p) (then~ R (lower_rel_element~ r) λ spec. then~ R (lower_props~ p) λ props. then~ R (push~ R _) λ k. gives~ R _ _ _ (chain~ none~))

    reach~ : {c d : Chain} {n m : NodeStep} → Chain~ c d → NodeStep~ n m → (bind : ℕ) {p q : Option RelStep} → Option~ RelStep~ p q → (l : Option (ℕ × ℕ)) → Action~ R (λ a b. Chain~ a b) (reach c n bind p l) (reach d m bind q l)
    unfolding reach
    reach~ c n bind none~ l = start_node~ c n bind
    reach~ c n bind (some~ r) None = start_node~ c n bind
    reach~ c n bind (some~ r) (Some l) = expand_to~ c n r l.0 l.1 bind

    reach_from~ : {c d : Chain} {n m : NodeStep} → Chain~ c d → NodeStep~ n m → (bind : ℕ) → Action~ R (λ a b. Chain~ a b) (reach c n bind c.pending c.last) (reach d m bind d.pending d.last)
    reach_from~ (chain~ w) n bind = reach~ (chain~ w) n bind w _

    lower_node~ : {c d : Chain} {n m : NodeStep} → Chain~ c d → NodeStep~ n m → Action~ R (λ a b. Chain~ a b) (lower_element c (of_node n)) (lower_element d (of_node m))
    unfolding lower_element
    lower_node~ c (node_step~ b p) = then~ R (endpoint_var~ R one b) λ bind. reach_from~ c (node_step~ b p) bind

    lower_element~ : {c d : Chain} {s t : Step} → Chain~ c d → Step~ s t → Action~ R (λ a b. Chain~ a b) (lower_element c s) (lower_element d t)
    unfolding lower_element
    lower_element~ (chain~ w) (of_rel~ r) = gives~ R _ _ _ (chain~ (some~ r))
    lower_element~ (chain~ w) (of_node~ n) = lower_node~ (chain~ w) n

    lower_elements~ : {c d : Chain} {ss ts : List Step} → Chain~ c d → List~ Step~ ss ts → Action~ R (λ a b. Chain~ a b) (lower_elements c ss) (lower_elements d ts)
    unfolding lower_elements
    lower_elements~ c []~ = gives~ R _ _ _ c
    lower_elements~ c (s ∷~ ss) = bind~ R (lower_element~ c s) λ a b w. lower_elements~ w ss

    bind_path~ : {a b : Option ℕ} → Option~ R a b → (root : ℕ) (path : List ℕ) → Does~ R (bind_path a root path) (bind_path b root path)
    unfolding bind_path
    bind_path~ none~ root path = ret~ R root
    bind_path~ (some~ r) root path = then~ R (map_var~ R one _ _ r) λ bind. push~ R _

    end_chain~ : {a b : Option ℕ} → Option~ R a b → (c d : Chain) → Chain~ c d → Does~ R (or_source_all (root_of c.last) >>= (λ root. bind_path a root c.path)) (or_source_all (root_of d.last) >>= (λ root. bind_path b root d.path))
    end_chain~ n c d (chain~ {last = last} {path = path} w) = then~ R (or_source_all~ R (root_of last)) λ root. bind_path~ n root path

    lower_chain~ : {a b : Option ℕ} {ss ts : List Step} → Option~ R a b → List~ Step~ ss ts → Does~ R (lower_chain a ss) (lower_chain b ts)
    unfolding lower_chain
    lower_chain~ n ss = bind~ R (lower_elements~ (chain~ none~) ss) λ c d w. end_chain~ n c d w

    lower_shortest_path_part~ : {m n : Option ℕ} → Option~ R m n → (all : Bool) {a b : NodeStep} {r s : RelStep} {x y : NodeStep} → NodeStep~ a b → RelStep~ r s → NodeStep~ x y → Does~ R (lower_shortest_path_part m all a r x) (lower_shortest_path_part n all b s y)
    unfolding lower_shortest_path_part
    lower_shortest_path_part~ n all (node_step~ a p) r (node_step~ b q) =
        then~ R (endpoint_var~ R one a) λ bind_from.
        then~ R (push~ R _) λ k.
        then~ R (filter_by_props~ k p) λ input.
        then~ R (lower_rel_element~ r) λ spec.
        then~ R (endpoint_var~ R one b) λ bind_to.
        then~ R (endpoint_var~ R one n) λ path.
        push~ R _

    shape_of~ : {ss ts : List Step} → List~ Step~ ss ts → Shape~ (shape_of ss) (shape_of ts)
    unfolding shape_of
    shape_of~ []~ = other~
    shape_of~ (s ∷~ []~) = other~
    shape_of~ (s ∷~ t ∷~ []~) = other~
    shape_of~ (of_rel~ r ∷~ t ∷~ u ∷~ ss) = other~
    shape_of~ (of_node~ a ∷~ of_node~ n ∷~ u ∷~ ss) = other~
    shape_of~ (of_node~ a ∷~ of_rel~ r ∷~ of_rel~ q ∷~ ss) = other~
    shape_of~ (of_node~ a ∷~ of_rel~ r ∷~ of_node~ b ∷~ []~) = node_rel_node~ a r b
    shape_of~ (of_node~ a ∷~ of_rel~ r ∷~ of_node~ b ∷~ s ∷~ ss) = other~

    lower_shaped~ : {m n : Option ℕ} → Option~ R m n → (all : Bool) {ss ts : List Step} → List~ Step~ ss ts → {x y : Shape} → Shape~ x y → Does~ R (lower_shaped m all ss x) (lower_shaped n all ts y)
    unfolding lower_shaped
    lower_shaped~ n all ss (node_rel_node~ a r b) = lower_shortest_path_part~ n all a r b
    lower_shaped~ n all ss other~ = lower_chain~ n ss

    pub lower_pattern_part~ : {a b : Option ℕ} → Option~ R a b → (shortest : ℕ) {ss ts : List Step} → List~ Step~ ss ts → Does~ R (lower_pattern_part a shortest ss) (lower_pattern_part b shortest ts)
    unfolding lower_pattern_part
    lower_pattern_part~ n zero ss = lower_chain~ n ss
    lower_pattern_part~ n (suc k) ss = lower_shaped~ n (eqb k 1) ss (shape_of~ ss)

  lower_further~ : {ps qs : List (Lowering ℕ)} (root : ℕ) → List~ (λ m n. Does~ R m n) ps qs → Does~ R (lower_further root ps) (lower_further root qs)
  unfolding lower_further further_part
  lower_further~ root []~ = ret~ R root
  lower_further~ root (p ∷~ ps) = then~ R p λ part. then~ R (ret~ R part) λ both. lower_further~ both ps

  lower_parts~ : {ps qs : List (Lowering ℕ)} → List~ (λ m n. Does~ R m n) ps qs → Does~ R (lower_parts ps) (lower_parts qs)
  unfolding lower_parts
  lower_parts~ []~ = then~ R (fresh~ R) λ bind. push~ R (source bind [])
  lower_parts~ (p ∷~ ps) = then~ R p λ root. lower_further~ root ps

  optional_join~ : (optional : Bool) (current : Option ℕ) (root : ℕ) → Does~ R (optional_join optional current root) (optional_join optional current root)
  unfolding optional_join
  optional_join~ false current root = ret~ R root
  optional_join~ true None root = ret~ R root
  optional_join~ true (Some outer) root = then~ R (copy~ R root) λ inner. push~ R _

  pub lower_match_pattern~ : {ps qs : List (Lowering ℕ)} → List~ (λ m n. Does~ R m n) ps qs → (current : Option ℕ) (optional : Bool) → Does~ R (lower_match_pattern ps current optional) (lower_match_pattern qs current optional)
  unfolding lower_match_pattern
  lower_match_pattern~ ps current optional = then~ R (lower_parts~ ps) λ root. optional_join~ optional current root
