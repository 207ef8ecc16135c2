-- The operator that the lowering ends on, from the tree alone and in the words of document 01; the lowering is not mentioned here. Assumes nothing: these are definitions.
use Rattle.std.specs.Prelude.{ℕ, zero, suc, Bool, true, false, cond, not, ◌&&◌, List, [], ◌∷◌, eqb, Option, None, Some}
use Rattle.model.specs.Text.{Bytes}
use Rattle.model.specs.Field.{Fields}
use Rattle.model.specs.Kind.{Clause, PatternElement, ReadOp, statement, union_arm, clause, pattern_part, pattern_element}
use Rattle.model.specs.Record.{op_forms, all_shortest}
use Rattle.model.specs.Tree.{Tree, Trees, node, []ᵗ, ◌∷ᵗ◌, end, ◌▸◌}

-- an operator's first record without the numbers of operators and variables, and without `path`'s count and `agg`'s counts
pub data Ending : Type 0 where
  Source : (labels : ℕ) → Ending
  Expand Filter Aggregate Skip Limit Distinct Unwind OptionalJoin BindPath : Ending
  Project : (items : ℕ) → Ending
  OrderBy : (keys : ℕ) → Ending
  Union : (all : Bool) → Ending
  With : (items : ℕ) (filter : Bool) → Ending
  ShortestPath : (all : Bool) → Ending
  ProcedureCall : (name : Bytes) (args yields : ℕ) (optional : Bool) → Ending

abbrev pub ending_of : (k : ReadOp) → Fields (op_forms k) → Ending
ending_of ReadOp.Source (_, (labels, _)) = Ending.Source labels
ending_of ReadOp.Expand f = Ending.Expand
ending_of ReadOp.Filter f = Ending.Filter
ending_of ReadOp.Project (_, (items, _)) = Ending.Project items
ending_of ReadOp.Aggregate f = Ending.Aggregate
ending_of ReadOp.OrderBy (_, (keys, _)) = Ending.OrderBy keys
ending_of ReadOp.Skip f = Ending.Skip
ending_of ReadOp.Limit f = Ending.Limit
ending_of ReadOp.Distinct f = Ending.Distinct
ending_of ReadOp.Unwind f = Ending.Unwind
ending_of ReadOp.Union (_, (_, (all, _))) = Ending.Union all
ending_of ReadOp.With (_, (items, (filter, _))) = Ending.With items filter
ending_of ReadOp.OptionalJoin f = Ending.OptionalJoin
ending_of ReadOp.ShortestPath (_, (_, (_, (_, (all, _))))) = Ending.ShortestPath all
ending_of ReadOp.BindPath f = Ending.BindPath
ending_of ReadOp.ProcedureCall (_, (name, (args, (yields, (optional, _))))) = Ending.ProcedureCall name args yields optional

-- ── a match's root ──

-- a node at the start, or with no rel waiting: a source, and a filter if it has props
unfoldable pub started : (labels : ℕ) (props : Bool) → Ending
started labels props = cond props Ending.Filter (Ending.Source labels)

-- behind a node that left `root`; `waits` says that a rel stands since. A later rel changes nothing, and one at the end is dropped.
unfoldable pub chain_behind : {n : ℕ} (root : Ending) (waits : Bool) → Trees pattern_element n → Ending
chain_behind root waits []ᵗ = root
chain_behind root waits (node pattern_element line PatternElement.Rel f kids ∷ᵗ es) = chain_behind root true es
chain_behind root waits (node pattern_element line PatternElement.Node (_, (labels, (props, _))) kids ∷ᵗ es) = chain_behind (cond waits Ending.Expand (started labels props)) false es

-- The check refuses a part that has no elements or begins with a rel: nothing comes of such a rel, and a source of everything of no node.
unfoldable pub chain_end : {n : ℕ} → Trees pattern_element n → Ending
chain_end []ᵗ = Ending.Source 0
chain_end (node pattern_element line PatternElement.Rel f kids ∷ᵗ es) = chain_end es
chain_end (node pattern_element line PatternElement.Node (_, (labels, (props, _))) kids ∷ᵗ es) = chain_behind (started labels props) false es

-- exactly node, rel, node
unfoldable pub element_kinds : {n : ℕ} → Trees pattern_element n → List PatternElement
element_kinds []ᵗ = []
element_kinds (node pattern_element line k f kids ∷ᵗ es) = k ∷ element_kinds es

unfoldable pub node_rel_node : List PatternElement → Bool
node_rel_node [] = false
node_rel_node (a ∷ []) = false
node_rel_node (a ∷ b ∷ []) = false
node_rel_node (PatternElement.Rel ∷ b ∷ c ∷ l) = false
node_rel_node (PatternElement.Node ∷ PatternElement.Node ∷ c ∷ l) = false
node_rel_node (PatternElement.Node ∷ PatternElement.Rel ∷ PatternElement.Rel ∷ l) = false
node_rel_node (PatternElement.Node ∷ PatternElement.Rel ∷ PatternElement.Node ∷ []) = true
node_rel_node (PatternElement.Node ∷ PatternElement.Rel ∷ PatternElement.Node ∷ d ∷ l) = false

-- a shortest part is special only if its elements are exactly those
unfoldable pub special : {n : ℕ} → ℕ → Trees pattern_element n → Bool
special zero es = false
special (suc m) es = node_rel_node (element_kinds es)

-- a named part ends in `path`
unfoldable pub named_end : Option ℕ → Ending → Ending
named_end None root = root
named_end (Some id) root = Ending.BindPath

unfoldable pub part_end : Tree pattern_part → Ending
part_end (node pattern_part line k (named_as, (shortest, _)) (es ▸ end)) = cond (special shortest es) (Ending.ShortestPath (eqb shortest all_shortest)) (named_end named_as (chain_end es))

-- the last part is the root; no parts: a label-less source
unfoldable pub match_end : {n : ℕ} → Trees pattern_part n → Ending
match_end []ᵗ = Ending.Source 0
match_end (p ∷ᵗ []ᵗ) = part_end p
match_end (p ∷ᵗ q ∷ᵗ ps) = match_end (q ∷ᵗ ps)

-- ── clauses ──

unfoldable pub some? : ℕ → Bool
some? zero = false
some? (suc n) = true

-- the latest of an operator, order, skip, limit
unfoldable pub latest : Ending → (keys : ℕ) (skip limit : Bool) → Ending
latest root keys skip limit = cond limit Ending.Limit (cond skip Ending.Skip (cond (some? keys) (Ending.OrderBy keys) root))

-- what a clause leaves as previous operator; `first` says that none precedes it. A `write` is refused before.
unfoldable pub clause_end : (first : Bool) → Tree clause → Option Ending
clause_end first (node clause line Clause.Match (optional, _) (parts ▸ end)) = Some (cond (optional && not first) Ending.OptionalJoin (match_end parts))
clause_end first (node clause line Clause.Where f kids) = Some Ending.Filter
clause_end first (node clause line Clause.With (items, (filter, (keys, (skip, (limit, _))))) kids) = Some (latest (Ending.With items filter) keys skip limit)
clause_end first (node clause line Clause.Return (items, (distinct, (keys, (skip, (limit, _))))) kids) = Some (latest (cond distinct Ending.Distinct (Ending.Project items)) keys skip limit)
clause_end first (node clause line Clause.Unwind f kids) = Some Ending.Unwind
clause_end first (node clause line Clause.Call (name, (args, (yields, (optional, _)))) kids) = Some (Ending.ProcedureCall name args yields optional)
clause_end first (node clause line Clause.Write f kids) = None

-- the last clause; with none, no operator
unfoldable pub clauses_end : {n : ℕ} (first : Bool) → Trees clause n → Option Ending
clauses_end first []ᵗ = None
clauses_end first (c ∷ᵗ []ᵗ) = clause_end first c
clauses_end first (c ∷ᵗ d ∷ᵗ cs) = clauses_end false (d ∷ᵗ cs)

-- ── the statement ──

-- the last arm's `union`; without arms, what the head's last clause leaves
unfoldable pub arms_end : {n : ℕ} → Trees union_arm n → Option Ending → Option Ending
arms_end []ᵗ head = head
arms_end (node union_arm line k (all, _) kids ∷ᵗ []ᵗ) head = Some (Ending.Union all)
arms_end (a ∷ᵗ b ∷ᵗ arms) head = arms_end (b ∷ᵗ arms) head

unfoldable pub ends_on : Tree statement → Option Ending
ends_on (node statement line k f (cs ▸ arms ▸ end)) = arms_end arms (clauses_end true cs)
