-- A match's root is the last operator, and the one that `match_end` names. Assumes nothing: these are definitions, and lemmas with their proofs.
use Rattle.std.specs.Prelude.{ℕ, zero, suc, Bool, true, false, cond, List, ◌∷◌, ◌≡◌, refl, eqb, length, Option, None, Some}
use Rattle.std.proofs.Common.{ap, subst}
use Rattle.std.proofs.Math.Dec.{eqb-suc-suc}
use Rattle.model.specs.Field.{Fields}
use Rattle.model.specs.Kind.{PatternElement, ReadOp, pattern_part, pattern_element}
use Rattle.model.specs.Record.{Rec, one, op_forms, all_shortest}
use Rattle.model.specs.Tree.{Tree, Trees, node, []ᵗ, ◌∷ᵗ◌, end, ◌▸◌, Many, to_list, fold, fold_of}
use Rattle.model.specs.Lower.{Recs, LowerCtx, Lowering, op, ◌>>=◌, ret, push, source, filter, push_source_all, or_source_all}
use Rattle.model.specs.Lower.{Props, NodeStep, RelStep, of_node, of_rel, props_of, filter_by_props, Chain, start_node, expand_to, reach, lower_element, lower_elements, root_of, bind_path, lower_chain, lower_shortest_path_part, shape_of, lower_shaped, lower_pattern_part, further_part, lower_further, lower_parts, Lowered, element_step, made, lower_pattern}
use Rattle.bounds.specs.Ends.{Ending, ending_of, started, chain_behind, chain_end, element_kinds, node_rel_node, special, named_end, part_end, match_end}

-- the number is that of the last operator, and its first record is such an ending
pub data Newest : Ending → ℕ → List Recs → Type 0 where
  newest : {k : ReadOp} {f : Fields (op_forms k)} {rs : Recs} {ops : List Recs} → Newest (ending_of k f) (length ops) ((op k f ∷ rs) ∷ ops)

-- ── steps ──

-- a step that, begun at operators with Q, gives a result and operators with P
pub record Leads {A : Type 0} (Q : List Recs → Type 0) (P : A → List Recs → Type 0) (m : Lowering A) : Type 0 where
  pub run : (x : LowerCtx) → Q x.ops → P (m x).0 (m x).1.ops

abbrev pub Always : List Recs → Type 0
Always ops = Unit {0}

pub any : {A : Type 0} {Q : List Recs → Type 0} {m : Lowering A} → Leads Q (λ a ops. Always ops) m
any = record { run = λ x h. tt }

pub then : {A B : Type 0} {Q : List Recs → Type 0} {R : A → List Recs → Type 0} {P : B → List Recs → Type 0} {m : Lowering A} {f : A → Lowering B} → Leads Q R m → ((a : A) → Leads (λ ops. R a ops) P (f a)) → Leads Q P (m >>= f)
unfolding ◌>>=◌
then {m} h g = record { run = λ x q. (g (m x).0).run (m x).1 (h.run x q) }

pub given : {A : Type 0} {Q : List Recs → Type 0} {P : A → List Recs → Type 0} {m : Lowering A} → ((ops : List Recs) → Q ops → Leads Always P m) → Leads Q P m
given g = record { run = λ x q. (g x.ops q).run x tt }

pub sure : {A : Type 0} {Q : List Recs → Type 0} {P : A → List Recs → Type 0} {m : Lowering A} → ((ops : List Recs) → Q ops) → Leads Q P m → Leads Always P m
sure q h = record { run = λ x _. h.run x (q x.ops) }

pub gives : {A : Type 0} {P : A → List Recs → Type 0} (a : A) → Leads (λ ops. P a ops) P (ret a)
unfolding ret
gives a = record { run = λ x h. h }

pub pushes : {Q : List Recs → Type 0} (k : ReadOp) (f : Fields (op_forms k)) (rs : Recs) → Leads Q (λ n ops. Newest (ending_of k f) n ops) (push (op k f ∷ rs))
unfolding push
pushes k f rs = record { run = λ x h. newest }

-- ── chains ──

pub data HasProps : Bool → Props → Type 0 where
  without : HasProps false None
  with : {m : Lowering Recs} → HasProps true (Some m)

pub props_of_has : (b : Bool) (m : Many (Lowering Recs) (one b)) → HasProps b (props_of b m)
unfolding props_of
props_of_has false m = without
props_of_has true m = with

-- a node with so many labels, and with props or without
pub record NodeIs (i : ℕ) (p : Bool) (s : NodeStep) : Type 0 where
  pub labels : length s.labels ≡ i
  pub props : HasProps p s.props

pub length_to_list : (A : Type 0) (i : ℕ) (m : Many A i) → length (to_list i m) ≡ i
unfolding to_list
length_to_list A zero m = refl
length_to_list A (suc i) (a, m) = ap suc (length_to_list A i m)

pub filter_by_props_ends : {b : Bool} {o : Props} (i k : ℕ) → HasProps b o → Leads (λ ops. Newest (Ending.Source i) k ops) (λ n ops. Newest (started i b) n ops) (filter_by_props k o)
unfolding started filter_by_props filter
filter_by_props_ends i k without = gives k
filter_by_props_ends i k with = then any λ rs. pushes ReadOp.Filter _ _

pub data Last : ℕ → Option (ℕ × ℕ) → Type 0 where
  last : {n b : ℕ} → Last n (Some (n, b))

pub data NoLast : Option (ℕ × ℕ) → Type 0 where
  no_last : NoLast None

pub data Waits : Bool → Option RelStep → Type 0 where
  no_rel : Waits false None
  waits : {r : RelStep} → Waits true (Some r)

-- a chain whose last operator is the last of all
pub record ChainAt (k : Ending) (w : Bool) (c : Chain) (ops : List Recs) : Type 0 where
  pub number : ℕ
  pub is_last : Last number c.last
  pub newest : Newest k number ops
  pub pending : Waits w c.pending

pub source_ends : {i : ℕ} (b : ℕ) (labels : Recs) → length labels ≡ i → Leads Always (λ n ops. Newest (Ending.Source i) n ops) (push (source b labels))
unfolding source
source_ends b labels e = subst (λ i. Leads Always (λ n ops. Newest (Ending.Source i) n ops) (push (source b labels))) e (pushes ReadOp.Source _ _)

pub start_node_ends : {i : ℕ} {p : Bool} (c : Chain) (s : NodeStep) (b : ℕ) → NodeIs i p s → Leads Always (λ d ops. ChainAt (started i p) false d ops) (start_node c s b)
unfolding start_node ret
start_node_ends {i} c s b h =
    then (source_ends b s.labels h.labels) λ k.
    then (filter_by_props_ends i k h.props) λ root.
    record { run = λ x q. record { number = root; is_last = last; newest = q; pending = no_rel } }

pub expand_to_ends : (c : Chain) (s : NodeStep) (r : RelStep) (input origin b : ℕ) → Leads Always (λ d ops. ChainAt Ending.Expand false d ops) (expand_to c s r input origin b)
unfolding expand_to ret
expand_to_ends c s r input origin b =
    then any λ spec.
    then any λ props.
    then (pushes ReadOp.Expand _ _) λ k.
    record { run = λ x q. record { number = k; is_last = last; newest = q; pending = no_rel } }

-- a node at the start, one behind another, and a rel behind a node
pub element_start : {i : ℕ} {p : Bool} (c : Chain) (s : NodeStep) → NodeIs i p s → NoLast c.last → Leads Always (λ d ops. ChainAt (started i p) false d ops) (lower_element c (of_node s))
unfolding lower_element reach
element_start {i} {p} c s h q = then any λ b. reaches b c.pending q
  where
    reaches : (b : ℕ) (o : Option RelStep) {l : Option (ℕ × ℕ)} → NoLast l → Leads Always (λ d ops. ChainAt (started i p) false d ops) (reach c s b o l)
    reaches b None no_last = start_node_ends c s b h
    reaches b (Some r) no_last = start_node_ends c s b h

pub element_behind : {i : ℕ} {p w : Bool} {n : ℕ} (c : Chain) (s : NodeStep) → NodeIs i p s → Waits w c.pending → Last n c.last → Leads Always (λ d ops. ChainAt (cond w Ending.Expand (started i p)) false d ops) (lower_element c (of_node s))
unfolding lower_element reach
element_behind {i} {p} c s h q l = then any λ b. reaches b q l
  where
    reaches : (b : ℕ) {v : Bool} {m : ℕ} {o : Option RelStep} {l : Option (ℕ × ℕ)} → Waits v o → Last m l → Leads Always (λ d ops. ChainAt (cond v Ending.Expand (started i p)) false d ops) (reach c s b o l)
    reaches b no_rel l = start_node_ends c s b h
    reaches b waits last = expand_to_ends c s _ _ _ b

pub element_rel : {k : Ending} {w : Bool} {c : Chain} (r : RelStep) → Leads (λ ops. ChainAt k w c ops) (λ d ops. ChainAt k true d ops) (lower_element c (of_rel r))
unfolding lower_element ret
element_rel r = record { run = λ x h. record { number = h.number; is_last = h.is_last; newest = h.newest; pending = waits } }

-- a chain's last operator, or none, for which a source of everything comes
pub data Rooted : Ending → Option (ℕ × ℕ) → List Recs → Type 0 where
  unrooted : {ops : List Recs} → Rooted (Ending.Source 0) None ops
  rooted : {k : Ending} {n b : ℕ} {ops : List Recs} → Newest k n ops → Rooted k (Some (n, b)) ops

pub rooted_last : {k : Ending} {n : ℕ} {l : Option (ℕ × ℕ)} {ops : List Recs} → Last n l → Newest k n ops → Rooted k l ops
rooted_last last h = rooted h

pub behind_ends : {i : ℕ} (es : Trees pattern_element i) (k : Ending) (w : Bool) (c : Chain) → Leads (λ ops. ChainAt k w c ops) (λ d ops. Rooted (chain_behind k w es) d.last ops) (lower_elements c (to_list i (fold_of Lowered made es)))
unfolding chain_behind lower_elements fold to_list made element_step ret
behind_ends []ᵗ k w c = record { run = λ x h. rooted_last h.is_last h.newest }
behind_ends (node pattern_element line PatternElement.Rel f kids ∷ᵗ es) k w c = then (element_rel _) λ d. behind_ends es k true d
behind_ends (node pattern_element line PatternElement.Node (_, (j, (p, _))) (labels ▸ props ▸ end) ∷ᵗ es) k w c = given λ ops h. then (element_behind c _ (record { labels = length_to_list Rec j _; props = props_of_has p _ }) h.pending h.is_last) λ d. behind_ends es _ false d

-- before any node: a rel comes to nothing
pub rel_start : (c : Chain) (r : RelStep) → Leads (λ ops. NoLast c.last) (λ d ops. NoLast d.last) (lower_element c (of_rel r))
unfolding lower_element ret
rel_start c r = record { run = λ x h. h }

pub unrooted_none : {l : Option (ℕ × ℕ)} {ops : List Recs} → NoLast l → Rooted (Ending.Source 0) l ops
unrooted_none no_last = unrooted

pub start_ends : {i : ℕ} (es : Trees pattern_element i) (c : Chain) → Leads (λ ops. NoLast c.last) (λ d ops. Rooted (chain_end es) d.last ops) (lower_elements c (to_list i (fold_of Lowered made es)))
unfolding chain_end lower_elements fold to_list made element_step ret
start_ends []ᵗ c = record { run = λ x h. unrooted_none h }
start_ends (node pattern_element line PatternElement.Rel f kids ∷ᵗ es) c = then (rel_start c _) λ d. start_ends es d
start_ends (node pattern_element line PatternElement.Node (_, (j, (p, _))) (labels ▸ props ▸ end) ∷ᵗ es) c = given λ ops h. then (element_start c _ (record { labels = length_to_list Rec j _; props = props_of_has p _ }) h) λ d. behind_ends es _ false d

pub source_all_ends : {Q : List Recs → Type 0} → Leads Q (λ n ops. Newest (Ending.Source 0) n ops) push_source_all
unfolding push_source_all source
source_all_ends = then any λ b. pushes ReadOp.Source _ _

pub rooted_ends : {k : Ending} {l : Option (ℕ × ℕ)} (x : LowerCtx) → Rooted k l x.ops → Newest k (or_source_all (root_of l) x).0 (or_source_all (root_of l) x).1.ops
unfolding or_source_all root_of ret
rooted_ends x unrooted = (source_all_ends {Q = Always}).run x tt
rooted_ends x (rooted h) = h

pub root_ends : {k : Ending} (l : Option (ℕ × ℕ)) → Leads (λ ops. Rooted k l ops) (λ n ops. Newest k n ops) (or_source_all (root_of l))
root_ends l = record { run = λ x h. rooted_ends x h }

pub bind_path_ends : {k : Ending} (o : Option ℕ) (root : ℕ) (path : List ℕ) → Leads (λ ops. Newest k root ops) (λ n ops. Newest (named_end o k) n ops) (bind_path o root path)
unfolding bind_path named_end
bind_path_ends None root path = gives root
bind_path_ends (Some id) root path = then any λ b. pushes ReadOp.BindPath _ _

pub chain_ends : {i : ℕ} (o : Option ℕ) (es : Trees pattern_element i) → Leads Always (λ n ops. Newest (named_end o (chain_end es)) n ops) (lower_chain o (to_list i (fold_of Lowered made es)))
unfolding lower_chain
chain_ends o es = then (sure (λ ops. no_last) (start_ends es _)) λ c. then (root_ends c.last) λ root. bind_path_ends o root c.path

-- ── parts ──

pub shortest_ends : (o : Option ℕ) (all : Bool) (a : NodeStep) (r : RelStep) (b : NodeStep) → Leads Always (λ n ops. Newest (Ending.ShortestPath all) n ops) (lower_shortest_path_part o all a r b)
unfolding lower_shortest_path_part
shortest_ends o all a r b = then any λ bind_from. then any λ k. then any λ input. then any λ spec. then any λ bind_to. then any λ path. pushes ReadOp.ShortestPath _ _

pub shaped_ends : {i : ℕ} (o : Option ℕ) (all : Bool) (es : Trees pattern_element i) → Leads Always (λ n ops. Newest (cond (node_rel_node (element_kinds es)) (Ending.ShortestPath all) (named_end o (chain_end es))) n ops) (lower_shaped o all (to_list i (fold_of Lowered made es)) (shape_of (to_list i (fold_of Lowered made es))))
unfolding node_rel_node element_kinds lower_shaped shape_of fold to_list made element_step
shaped_ends o all []ᵗ = chain_ends o []ᵗ
shaped_ends o all (node pattern_element l k f x ∷ᵗ []ᵗ) = chain_ends o (node pattern_element l k f x ∷ᵗ []ᵗ)
shaped_ends o all (node pattern_element l k f x ∷ᵗ node pattern_element m j g y ∷ᵗ []ᵗ) = chain_ends o (node pattern_element l k f x ∷ᵗ node pattern_element m j g y ∷ᵗ []ᵗ)
shaped_ends o all (node pattern_element l PatternElement.Rel f x ∷ᵗ node pattern_element m j g y ∷ᵗ node pattern_element n i h z ∷ᵗ es) = chain_ends o (node pattern_element l PatternElement.Rel f x ∷ᵗ node pattern_element m j g y ∷ᵗ node pattern_element n i h z ∷ᵗ es)
shaped_ends o all (node pattern_element l PatternElement.Node f x ∷ᵗ node pattern_element m PatternElement.Node g y ∷ᵗ node pattern_element n i h z ∷ᵗ es) = chain_ends o (node pattern_element l PatternElement.Node f x ∷ᵗ node pattern_element m PatternElement.Node g y ∷ᵗ node pattern_element n i h z ∷ᵗ es)
shaped_ends o all (node pattern_element l PatternElement.Node f x ∷ᵗ node pattern_element m PatternElement.Rel g y ∷ᵗ node pattern_element n PatternElement.Rel h z ∷ᵗ es) = chain_ends o (node pattern_element l PatternElement.Node f x ∷ᵗ node pattern_element m PatternElement.Rel g y ∷ᵗ node pattern_element n PatternElement.Rel h z ∷ᵗ es)
shaped_ends o all (node pattern_element l PatternElement.Node f x ∷ᵗ node pattern_element m PatternElement.Rel g y ∷ᵗ node pattern_element n PatternElement.Node h z ∷ᵗ []ᵗ) = shortest_ends o all _ _ _
shaped_ends o all (node pattern_element l PatternElement.Node f x ∷ᵗ node pattern_element m PatternElement.Rel g y ∷ᵗ node pattern_element n PatternElement.Node h z ∷ᵗ node pattern_element q i r w ∷ᵗ es) = chain_ends o (node pattern_element l PatternElement.Node f x ∷ᵗ node pattern_element m PatternElement.Rel g y ∷ᵗ node pattern_element n PatternElement.Node h z ∷ᵗ node pattern_element q i r w ∷ᵗ es)

pub shortness_ends : {i : ℕ} (o : Option ℕ) (shortest : ℕ) (es : Trees pattern_element i) → Leads Always (λ n ops. Newest (cond (special shortest es) (Ending.ShortestPath (eqb shortest all_shortest)) (named_end o (chain_end es))) n ops) (lower_pattern_part o shortest (to_list i (fold_of Lowered made es)))
unfolding special lower_pattern_part
shortness_ends o zero es = chain_ends o es
shortness_ends o (suc n) es = rw (eqb-suc-suc n 1) (shaped_ends o (eqb n 1) es)

pub part_ends : (p : Tree pattern_part) → Leads Always (λ n ops. Newest (part_end p) n ops) (fold Lowered made p)
unfolding part_end fold made
part_ends (node pattern_part line k (o, (shortest, _)) (es ▸ end)) = shortness_ends o shortest es

further_ends : {i : ℕ} (p : Tree pattern_part) (ps : Trees pattern_part i) (root : ℕ) → Leads (λ ops. Newest (part_end p) root ops) (λ n ops. Newest (match_end (p ∷ᵗ ps)) n ops) (lower_further root (lower_pattern ps))
unfolding match_end lower_pattern lower_further further_part
further_ends p []ᵗ root = gives root
further_ends p (q ∷ᵗ ps) root = given λ ops h. then (part_ends q) λ part. then (gives part) λ both. further_ends q ps both

pub parts_ends : {i : ℕ} (ps : Trees pattern_part i) → Leads Always (λ n ops. Newest (match_end ps) n ops) (lower_parts (lower_pattern ps))
unfolding match_end lower_pattern lower_parts source
parts_ends []ᵗ = then any λ b. pushes ReadOp.Source _ _
parts_ends (p ∷ᵗ ps) = then (part_ends p) λ root. further_ends p ps root
