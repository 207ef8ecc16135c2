-- Patterns, out of what was made of their elements: a chain, a special shortest part, the parts of a match. Assumes nothing: these are lemmas with their proofs.
use Rattle.std.specs.Prelude.{ℕ, zero, suc, ◌+◌, ◌*◌, ◌<◌, ◌≤◌, Bool, true, false, List, [], ◌∷◌, eqb, Option, None, Some}
use Rattle.std.proofs.Common.{le_refl, arith}
use Rattle.model.specs.Lower.{Lowering, source, filter}
use Rattle.model.specs.Lower.{Props, lower_props, NodeStep, RelStep, Step, lower_rel_element, node_recs, filter_by_props, Chain, start_node, expand_to, reach, lower_element, lower_elements, root_of, path_elements, bind_path, lower_chain, lower_shortest_path_part, shape_of, lower_shaped, lower_pattern_part, further_part, lower_further, lower_parts, optional_join, lower_match_pattern}
use Rattle.bounds.specs.Earlier.{[]ᵃ, ◌∷ᵃ◌, all_append, Low, raise}
use Rattle.bounds.specs.Bounded.{Post, Bounded, Old, Lows, bind✓, within, ret✓, push✓, copy✓, map_var✓, fresh✓, endpoint_var✓, Before, nothing, operator, before_raise, or_source_all✓}
use Rattle.bounds.specs.Pattern.{Cheap, Each, []ˢ, each, PropsOf, without, with, NodeOf, RelOf, StepOf, is_node, is_rel, PendingOf, no_rel, waits, ChainOf}

pub cheaper : {A : Type 0} {P : Post A} {v w : ℕ} {m : Lowering A} → v ≤ w → Cheap P v m → Cheap P w m
cheaper le h = record { from = λ n. within (h.from n) (omega arith) (omega arith) }

pub more : {A : Type 0} {P : ℕ → A → Type 0} (u : ℕ) {v : ℕ} {a : A} {l : List A} → P u a → Each P v l → Each P (u + v) (a ∷ l)
more u {v} p ps = each (le_refl (u + v)) p ps

-- ── elements ──

pub lower_props✓ : {w : ℕ} {o : Props} {n : ℕ} → PropsOf w o → Bounded n Lows (2 * w) w (lower_props o)
unfolding lower_props
lower_props✓ without = within (ret✓ _ []ᵃ) (omega arith) (omega arith)
lower_props✓ {n} (with m) = m.from n

pub filter_by_props✓ : {n k w : ℕ} {o : Props} → k < n → PropsOf w o → Bounded n Old (2 * w + 1) w (filter_by_props k o)
unfolding filter_by_props filter
filter_by_props✓ lt without = within (ret✓ _ lt) (omega arith) (omega arith)
filter_by_props✓ {n} lt (with m) = within (bind✓ (m.from n) λ rs n' le low. push✓ ((omega arith ∷ᵃ []ᵃ) ∷ᵃ low)) (omega arith) (omega arith)

pub lower_rel_element✓ : {n w : ℕ} {r : RelStep} → RelOf w r → Bounded n (λ s m. Low m s.1) (2 * w) w (lower_rel_element r)
unfolding lower_rel_element
lower_rel_element✓ {r} ok =
    within
    (bind✓ (endpoint_var✓ r.bind) λ b n₁ le₁ _.
    bind✓ (lower_props✓ ok.props) λ ps n₂ le₂ low.
    ret✓ _ ([]ᵃ ∷ᵃ all_append (raise (omega arith) ok.types) low))
    (omega (arith, ok.room)) (omega (arith, ok.room))

-- ── chains ──

pub start_node✓ : {n w : ℕ} {s : NodeStep} (c : Chain) (b : ℕ) (ok : NodeOf w s) → Bounded n (λ d m. ChainOf m 0 d) (2 * w) ok.below (start_node c s b)
unfolding start_node source root_of
start_node✓ c b ok =
    within
    (bind✓ (push✓ ([]ᵃ ∷ᵃ raise (omega arith) ok.labels)) λ k n₁ le₁ lt.
    bind✓ (filter_by_props✓ lt ok.props) λ root n₂ le₂ lt₂.
    ret✓ _ (record { last = operator lt₂; pending = no_rel }))
    (omega (arith, ok.room)) (omega (arith, ok.room))

pub expand_to✓ : {n w p : ℕ} {s : NodeStep} {r : RelStep} (c : Chain) (k origin b : ℕ) (ok : NodeOf w s) → RelOf p r → k < n → Bounded n (λ d m. ChainOf m 0 d) (2 * (p + w)) (p + ok.below) (expand_to c s r k origin b)
unfolding expand_to node_recs root_of
expand_to✓ c k origin b ok rel lt =
    within
    (bind✓ (lower_rel_element✓ rel) λ spec n₁ le₁ low₁.
    bind✓ (lower_props✓ ok.props) λ ps n₂ le₂ low₂.
    bind✓ (push✓ ((omega arith ∷ᵃ []ᵃ) ∷ᵃ all_append (raise le₂ low₁) ([]ᵃ ∷ᵃ all_append (raise (omega arith) ok.labels) low₂))) λ e n₃ le₃ lt₃.
    ret✓ _ (record { last = operator lt₃; pending = no_rel }))
    (omega (arith, ok.room)) (omega (arith, ok.room))

pub reach✓ : {n w p : ℕ} {s : NodeStep} (c : Chain) (b : ℕ) (o : Option RelStep) (l : Option (ℕ × ℕ)) (ok : NodeOf w s) → PendingOf p o → Before n (root_of l) → Bounded n (λ d m. ChainOf m 0 d) (2 * (p + w)) (p + ok.below) (reach c s b o l)
unfolding reach root_of
reach✓ c b None l ok rel last = within (start_node✓ c b ok) (omega arith) (omega arith)
reach✓ c b (Some r) None ok rel last = within (start_node✓ c b ok) (omega arith) (omega arith)
reach✓ c b (Some r) (Some l) ok (waits rel) (operator lt) = expand_to✓ c l.0 l.1 b ok rel lt

pub lower_elements✓ : {n p w : ℕ} {c : Chain} {l : List Step} → ChainOf n p c → Each (λ u s. StepOf u s) w l → Bounded n (λ d m. Before m (root_of d.last)) (2 * (p + w)) (p + w) (lower_elements c l)
unfolding lower_elements lower_element
lower_elements✓ ok []ˢ = within (ret✓ _ ok.last) (omega arith) (omega arith)
lower_elements✓ ok (each {u = u} room (is_rel r) rest) =
    within
    (bind✓ {P = λ d m. ChainOf m u d} (ret✓ _ (record { last = ok.last; pending = waits r })) λ d n' le ok'.
    lower_elements✓ ok' rest)
    (omega arith) (omega arith)
lower_elements✓ {c} ok (each room (is_node {s = s} x) rest) =
    within
    (bind✓
    (bind✓ (endpoint_var✓ s.bind) λ b n₁ le₁ _.
    reach✓ c b c.pending c.last x ok.pending (before_raise le₁ ok.last)) λ d n₂ le₂ ok'.
    lower_elements✓ ok' rest)
    (omega arith) (omega (arith, x.room))

pub path_elements_low : {n : ℕ} (l : List ℕ) → Low n (path_elements l)
unfolding path_elements
path_elements_low [] = []ᵃ
path_elements_low (k ∷ l) = []ᵃ ∷ᵃ path_elements_low l

pub bind_path✓ : {n root : ℕ} (o : Option ℕ) (path : List ℕ) → root < n → Bounded n Old 1 1 (bind_path o root path)
unfolding bind_path
bind_path✓ None path lt = within (ret✓ _ lt) (omega arith) (omega arith)
bind_path✓ (Some id) path lt = bind✓ (map_var✓ id) λ b n' le _. push✓ ((omega arith ∷ᵃ []ᵃ) ∷ᵃ path_elements_low path)

pub lower_chain✓ : {w : ℕ} {l : List Step} (o : Option ℕ) → Each (λ u s. StepOf u s) w l → Cheap Old (suc w) (lower_chain o l)
unfolding lower_chain root_of
lower_chain✓ o steps = record {
  from = λ n.
      within
      (bind✓ (lower_elements✓ {n = n} {p = 0} (record { last = nothing; pending = no_rel }) steps) λ c n₁ le₁ last.
      bind✓ (or_source_all✓ last) λ root n₂ le₂ lt.
      bind_path✓ o c.path lt)
      (omega arith) (omega arith);
}

-- ── special shortest parts ──

pub lower_shortest_path_part✓ : {u v w : ℕ} {a : NodeStep} {r : RelStep} {b : NodeStep} (o : Option ℕ) (all : Bool) → NodeOf u a → RelOf v r → NodeOf w b → Cheap Old (suc (u + v + w)) (lower_shortest_path_part o all a r b)
unfolding lower_shortest_path_part source
lower_shortest_path_part✓ {a} {b} o all x y z = record {
  from = λ n.
      within
      (bind✓ (endpoint_var✓ a.bind) λ bind_from n₁ le₁ _.
      bind✓ (push✓ ([]ᵃ ∷ᵃ raise (omega arith) x.labels)) λ k n₂ le₂ lt₂.
      bind✓ (filter_by_props✓ lt₂ x.props) λ input n₃ le₃ lt₃.
      bind✓ (lower_rel_element✓ y) λ spec n₄ le₄ low.
      bind✓ (endpoint_var✓ b.bind) λ bind_to n₅ le₅ _.
      bind✓ (endpoint_var✓ o) λ path n₆ le₆ _.
      push✓ ((omega arith ∷ᵃ []ᵃ) ∷ᵃ raise (omega arith) low))
      (omega (arith, x.room, y.room, z.room)) (omega (arith, x.room, y.room, z.room));
}

pub lower_shaped✓ : {w : ℕ} {l : List Step} (o : Option ℕ) (all : Bool) → Each (λ u s. StepOf u s) w l → Cheap Old (suc w) (lower_shaped o all l (shape_of l))
unfolding lower_shaped shape_of
lower_shaped✓ o all []ˢ = lower_chain✓ o []ˢ
lower_shaped✓ o all (each l x []ˢ) = lower_chain✓ o (each l x []ˢ)
lower_shaped✓ o all (each l x (each k y []ˢ)) = lower_chain✓ o (each l x (each k y []ˢ))
lower_shaped✓ o all (each l (is_rel x) (each k y (each j z r))) = lower_chain✓ o (each l (is_rel x) (each k y (each j z r)))
lower_shaped✓ o all (each l (is_node x) (each k (is_node y) (each j z r))) = lower_chain✓ o (each l (is_node x) (each k (is_node y) (each j z r)))
lower_shaped✓ o all (each l (is_node x) (each k (is_rel y) (each j (is_rel z) r))) = lower_chain✓ o (each l (is_node x) (each k (is_rel y) (each j (is_rel z) r)))
lower_shaped✓ o all (each l (is_node x) (each k (is_rel y) (each j (is_node z) []ˢ))) = cheaper (omega arith) (lower_shortest_path_part✓ o all x y z)
lower_shaped✓ o all (each l (is_node x) (each k (is_rel y) (each j (is_node z) (each i t r)))) = lower_chain✓ o (each l (is_node x) (each k (is_rel y) (each j (is_node z) (each i t r))))

pub lower_pattern_part✓ : {w : ℕ} {l : List Step} (o : Option ℕ) (shortest : ℕ) → Each (λ u s. StepOf u s) w l → Cheap Old (suc w) (lower_pattern_part o shortest l)
unfolding lower_pattern_part
lower_pattern_part✓ o zero steps = lower_chain✓ o steps
lower_pattern_part✓ o (suc k) steps = lower_shaped✓ o (eqb k 1) steps

-- ── the parts of a match ──

-- with no parts the record around them pays for the source
lower_further✓ : {w n root : ℕ} {l : List (Lowering ℕ)} → root < n → Each (λ u m. Cheap Old u m) w l → Bounded n Old (2 * w) w (lower_further root l)
unfolding lower_further further_part
lower_further✓ lt []ˢ = within (ret✓ _ lt) (omega arith) (omega arith)
lower_further✓ {n = n} lt (each l p ps) = within (bind✓ (p.from n) λ part n₁ le₁ lt₁. bind✓ (ret✓ part lt₁) λ both n₂ le₂ lt₂. lower_further✓ lt₂ ps) (omega arith) (omega arith)

pub lower_parts✓ : {w : ℕ} {l : List (Lowering ℕ)} (n : ℕ) → Each (λ u m. Cheap Old u m) w l → Bounded n Old (2 * w + 1) (w + 1) (lower_parts l)
unfolding lower_parts source
lower_parts✓ n []ˢ = within (bind✓ fresh✓ λ b n' le _. push✓ ([]ᵃ ∷ᵃ []ᵃ)) (omega arith) (omega arith)
lower_parts✓ n (each l p ps) = within (bind✓ (p.from n) λ root n' le lt. lower_further✓ lt ps) (omega arith) (omega arith)

pub optional_join✓ : {n root : ℕ} {o : Option ℕ} (optional : Bool) → Before n o → root < n → Bounded n Old 1 0 (optional_join optional o root)
unfolding optional_join
optional_join✓ false before lt = within (ret✓ _ lt) (omega arith) (omega arith)
optional_join✓ true nothing lt = within (ret✓ _ lt) (omega arith) (omega arith)
optional_join✓ true (operator k) lt = bind✓ (copy✓ _) λ inner n' le low. push✓ ((omega arith ∷ᵃ []ᵃ) ∷ᵃ low)

pub lower_match_pattern✓ : {n w : ℕ} {l : List (Lowering ℕ)} {o : Option ℕ} (optional : Bool) → Each (λ u m. Cheap Old u m) w l → Before n o → Bounded n Old (2 * w + 2) (w + 1) (lower_match_pattern l o optional)
unfolding lower_match_pattern
lower_match_pattern✓ {n} optional parts before = within (bind✓ (lower_parts✓ n parts) λ root n' le lt. optional_join✓ optional (before_raise le before) lt) (omega arith) (omega arith)
