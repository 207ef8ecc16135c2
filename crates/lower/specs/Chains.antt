-- What the lowering of a part's elements promises, one after another: the chain so far, as the code has it and as the definition has it. Assumes nothing: these are definitions.
use Rattle.std.specs.Prelude.{◌≡◌, ℕ, suc, ◌+◌, ◌*◌, ◌-◌, ◌≤◌, ◌<◌, Bool, true, false, List, ◌∷◌, ◌++◌, ◌⊎◌, length, Option, None, Some}
use Rattle.words.specs.Count.{Ends}
use Rattle.model.specs.Text.{Bytes}
use Rattle.model.specs.Kind.{pattern_part, pattern_element}
use Rattle.model.specs.Tree.{Tree, Trees, node, ◌∷ᵗ◌, end, ◌▸◌, to_list, fold, fold_of}
use Rattle.model.specs.Lower.{Lowering, Lowered, made, ◌>>=◌, push, source, filter_by_props, Step, RelStep, NodeStep, of_node, of_rel, lower_element, lower_elements, lower_chain, or_source_all, endpoint_var}
use Rattle.model.specs.Lower
use Rattle.words.specs.Words.{cell, option_of, max_records}
use Rattle.words.specs.Held.{Held, HeldOf, size, size_of}
use Rattle.lower.specs.Side.{Side, side}
use Rattle.lower.specs.Render.{Notes, Ops, kept_from}
use Rattle.lower.specs.Shows.{shift}
use Rattle.lower.specs.Rep.{State, Mem, mem, Written, Blank, Future, Rep, To, Rooted, Moved, at_place}
use Rattle.lower.specs.Pieces.{LowersExprs}
use Rattle.context.specs.Tables.{Numbers}
use Rattle.context.specs.declared.At.{At}
use Rattle.context.specs.declared.LowerCtx.{LowerCtx}
use Rattle.context.specs.declared.Numbered.{Numbered}
use Rattle.lower.specs.declared.Chain.{Chain}
use Rattle.lower.specs.declared.LastNode.{LastNode}
use Rattle.lower.specs.declared.PendingRel.{PendingRel}
use Rattle.lower.specs.declared.Element.{Element}
use Rattle.lower.specs.declared.Element.TheVariants as element
use Rattle.lower.specs.declared.Read.{Read}
use Rattle.context.specs.Ops.{Since}
use Rattle.words.specs.Places.{kind_at, node_kind, rel_kind, element_named_at, element_var_at, rel_types_at, rel_props_at, part_shortest_at, part_elements_at, node_labels_at, node_props_at}

-- the last operator and its node's number, as the definition has them
abbrev pub last_of : Option LastNode → Option (ℕ × ℕ)
last_of None = None
last_of (Some l) = Some (l.op, l.number)

-- whether a node stands before
abbrev pub has_last : Option LastNode → Bool
has_last None = false
has_last (Some l) = true

-- the line of the rel that waits
abbrev pub pending_line : Option PendingRel → Option ℕ
pending_line None = None
pending_line (Some p) = Some (suc p.i)

abbrev pub from_of : Option PendingRel → ℕ → ℕ
from_of None next = next
from_of (Some p) next = p.i

-- the record from which on nothing is lowered yet
abbrev pub from : Chain → ℕ
from ch = from_of ch.pending ch.at.i

abbrev pub step_of : Tree pattern_element → Step
step_of t = fold Lowered made t

-- what is read of the element at record i, whose props are counted by word c
pub record ReadAt (a b : List ℕ) (i c : ℕ) (x : Read) : Type 0 where
  pub bind : x.bind ≡ option_of (cell a b i element_named_at) (cell a b i element_var_at)
  pub first : x.first ≡ i + 1 + cell a b i node_labels_at
  pub props : x.props ≡ cell a b i c

-- the rel that waits, whose records end where the next element stands
pub data Waiting (sheet : Bytes) (a b : List ℕ) (d : ℕ) (ch : Chain) (o : Option RelStep) : Type 0 where
  no_rel_law : ch.pending ≡ None → o ≡ None → Waiting sheet a b d ch o
  a_rel : (rel : PendingRel) → ch.pending ≡ Some rel → ReadAt a b rel.i rel_props_at rel.read → (t : Tree pattern_element) (r : RelStep) → Held sheet a b t d rel.i → step_of t ≡ of_rel r → ch.at.i ≡ rel.i + size t → o ≡ Some r → Waiting sheet a b d ch o

-- the chain as the code has it is the one that the definition has
pub record SameChain (sheet : Bytes) (a b : List ℕ) (d : ℕ) (ch : Chain) (c : Lower.Chain) : Type 0 where
  pub last : c.last ≡ last_of ch.last
  pub waiting : Waiting sheet a b d ch c.pending
  pub kept : length c.path ≡ ch.kept

-- the last operator, if there is one, is below n
pub record LastUnder (l : Option LastNode) (n : ℕ) : Type 0 where
  pub op : (x : LastNode) → l ≡ Some x → x.op < n

-- and from n on
pub record LastSince (l : Option LastNode) (n : ℕ) : Type 0 where
  pub op : (x : LastNode) → l ≡ Some x → n ≤ x.op

-- what a chain has whatever the state
pub record ChainInBounds (ch : Chain) : Type 0 where
  pub from : from ch ≤ ch.at.i
  pub next : ch.at.i ≤ max_records
  pub last : LastUnder ch.last ch.ctx.ops
  pub kept : ch.kept ≤ 2 * ch.at.i

-- some rel waits, or none
pub record Anchored (a b : List ℕ) (d : ℕ) (ch : Chain) : Type 0 where
  pub sheet : Bytes
  pub pending : Option RelStep
  pub waiting : Waiting sheet a b d ch pending

-- the written notes behind a chain
abbrev pub passed : ℕ → Chain → Chain → Written → Written
passed base ch ch' W = (base + suc (from ch), base + suc (from ch')) ∷ W

-- one more element, of which the definition has made a step
pub record Chained (S : Side) (W : Written) (d base : ℕ) (ch ch' : Chain) (t : Tree pattern_element) (x : Step) (c : Lower.Chain) (s : State) (m m' : Mem) : Type 0 where
  pub to : To S W (passed base ch ch' W) s (lower_element c x s).1 m m'
  pub same : SameChain S.sheet S.a S.b d ch' (lower_element c x s).0
  pub path : (N : Notes) (A : Ops) → Future (passed base ch ch' W) (lower_element c x s).1 m' N A → {n : ℕ} (ts : Trees pattern_element n) → (lower_element c x s).0.path ++ kept_from (shift N base) (has_last ch'.last) (pending_line ch'.pending) ts ≡ c.path ++ kept_from (shift N base) (has_last ch.last) (pending_line ch.pending) (t ∷ᵗ ts)

pub record LowersElement (a b : List ℕ) (d base : ℕ) (ch ch' : Chain) (os os' rs rs' : List ℕ) : Type 0 where
  pub moved : Moved (from ch) (from ch') (mem ch.ctx os rs) (mem ch'.ctx os' rs')
  pub bounded : ChainInBounds ch'
  pub anchored : Anchored a b d ch'
  pub ahead : ch.at.i ≤ ch'.at.i
  pub stays : (ch'.at.base ≡ ch.at.base) × (ch'.at.left ≡ ch.at.left)
  pub since : (n : ℕ) → n ≤ ch.ctx.ops → LastSince ch.last n → LastSince ch'.last n
  pub next : (sheet : Bytes) (t : Tree pattern_element) → Held sheet a b t d ch.at.i → ch'.at.i ≡ ch.at.i + size t
  pub run : (sheet : Bytes) {first : ℕ} (t : Tree pattern_element) → Held sheet a b t d ch.at.i → (W : Written) (s : State) (c : Lower.Chain) → Rep (side sheet a b first) W s (mem ch.ctx os rs) → SameChain sheet a b d ch c → Blank W (base + suc (from ch)) (base + suc ch'.at.i) → Chained (side sheet a b first) W d base ch ch' t (step_of t) c s (mem ch.ctx os rs) (mem ch'.ctx os' rs')

abbrev pub steps_of : {n : ℕ} → Trees pattern_element n → List Step
steps_of {n} ts = to_list n (fold_of Lowered made ts)

-- n more elements
pub record ChainedAll (S : Side) (W : Written) (d base : ℕ) (ch ch' : Chain) {n : ℕ} (ts : Trees pattern_element n) (c : Lower.Chain) (s : State) (m m' : Mem) : Type 0 where
  pub to : To S W (passed base ch ch' W) s (lower_elements c (steps_of ts) s).1 m m'
  pub same : SameChain S.sheet S.a S.b d ch' (lower_elements c (steps_of ts) s).0
  pub path : (N : Notes) (A : Ops) → Future (passed base ch ch' W) (lower_elements c (steps_of ts) s).1 m' N A → (lower_elements c (steps_of ts) s).0.path ≡ c.path ++ kept_from (shift N base) (has_last ch.last) (pending_line ch.pending) ts

pub record LowersElements (a b : List ℕ) (n d base : ℕ) (ch ch' : Chain) (os os' rs rs' : List ℕ) : Type 0 where
  pub moved : Moved (from ch) (from ch') (mem ch.ctx os rs) (mem ch'.ctx os' rs')
  pub bounded : ChainInBounds ch'
  pub anchored : Anchored a b d ch'
  pub ahead : ch.at.i ≤ ch'.at.i
  pub stays : (ch'.at.base ≡ ch.at.base) × (ch'.at.left ≡ ch.at.left)
  pub since : (n : ℕ) → n ≤ ch.ctx.ops → LastSince ch.last n → LastSince ch'.last n
  pub next : (sheet : Bytes) (ts : Trees pattern_element n) → HeldOf sheet a b ts d ch.at.i → ch'.at.i ≡ ch.at.i + size_of ts
  pub run : (sheet : Bytes) {first : ℕ} (ts : Trees pattern_element n) → HeldOf sheet a b ts d ch.at.i → (W : Written) (s : State) (c : Lower.Chain) → Rep (side sheet a b first) W s (mem ch.ctx os rs) → SameChain sheet a b d ch c → Blank W (base + suc (from ch)) (base + suc ch'.at.i) → ChainedAll (side sheet a b first) W d base ch ch' ts c s (mem ch.ctx os rs) (mem ch'.ctx os' rs')

-- the operators of a node that is numbered, at record i: a source, and a filter by its props
abbrev pub start_l : ℕ → NodeStep → Lowering ℕ
start_l number n = λ s. (push (source number n.labels) >>= λ k. filter_by_props k n.props) s

pub record LowersStart (a b : List ℕ) (d base i number e k : ℕ) (m m' : Mem) : Type 0 where
  pub moved : Moved i e m m'
  pub numbers : m'.ctx.numbers + i + 1 ≤ m.ctx.numbers + e
  pub mapped : m'.ctx.mapped + i + 1 ≤ m.ctx.mapped + e
  pub since : m.ctx.ops ≤ k
  pub low : k < m'.ctx.ops
  pub next : (sheet : Bytes) (t : Tree pattern_element) → Held sheet a b t d i → e ≡ i + size t
  pub run : (sheet : Bytes) {first : ℕ} (t : Tree pattern_element) (n : NodeStep) → Held sheet a b t d i → step_of t ≡ of_node n → (W : Written) (s : State) → Rep (side sheet a b first) W s m → Blank W (base + suc (i + 1)) (base + suc e) → Rooted (side sheet a b first) W (start_l number n) k base (suc (i + 1)) (suc e) s m m'

-- ── a part as a chain ──

-- the operator before, or a source of everything
pub record Sourced (S : Side) (L : Lowering ℕ) (k : ℕ) (W : Written) (s : State) (m m' : Mem) : Type 0 where
  pub to : To S W W s (L s).1 m m'
  pub root : k ≡ (L s).0

-- L leaves operator k, with at most one more than there were; it may copy operator o
pub record OrSource (o : ℕ) (L : Lowering ℕ) (k : ℕ) (m m' : Mem) : Type 0 where
  pub grow : m.ctx.ops ≤ m'.ctx.ops
  pub few : m'.ctx.ops ≤ m.ctx.ops + 1
  pub numbers : m'.ctx.numbers ≡ m.ctx.numbers
  pub mapped : m'.ctx.mapped ≡ m.ctx.mapped
  pub rest : m'.rest ≡ m.rest
  pub in_ops : length m'.ops ≡ length m.ops
  pub low : k < m'.ctx.ops
  pub run : (S : Side) (W : Written) (s : State) → S.first ≤ o → Rep S W s m → Sourced S L k W s m m'

-- the operator before, or a new source of everything, at op, which is from n on if that one is; the next record is as it was passed
pub record SourceLeft (current : Option ℕ) (next next' op : ℕ) (c c' : LowerCtx) (os os' : List ℕ) : Type 0 where
  pub same : next' ≡ next
  pub since : (n : ℕ) → n ≤ c.ops → Since current n → n ≤ op
  pub source : (rest : List ℕ) → OrSource c.ops (or_source_all current) op (mem c os rest) (mem c' os' rest)

unfoldable pub chain_l : Tree pattern_part → Lowering ℕ
chain_l (node pattern_part line k (named_as, (shortest, (n, _))) (ts ▸ end)) = λ s. lower_chain named_as (steps_of ts) s

-- the part at record i is lowered as a chain, whatever its shape
pub record LowersChain (a b : List ℕ) (d base i e k : ℕ) (m m' : Mem) : Type 0 where
  pub moved : Moved i e m m'
  pub since : m.ctx.ops ≤ k
  pub low : k < m'.ctx.ops
  pub next : (sheet : Bytes) (t : Tree pattern_part) → Held sheet a b t d i → e ≡ i + size t
  pub run : (sheet : Bytes) {first : ℕ} (t : Tree pattern_part) → Held sheet a b t d i → (W : Written) (s : State) → Rep (side sheet a b first) W s m → Blank W (base + suc i) (base + suc e) → Rooted (side sheet a b first) W (chain_l t) k base (suc i) (suc e) s m m'

-- a rel's number is noted, and its props are lowered
pub record LowersRel (a b : List ℕ) (d base i e : ℕ) (c : LowerCtx) (os rest : List ℕ) (m' : Mem) : Type 0 where
  pub named : Numbered
  pub between : List ℕ
  pub noted : Numbers (endpoint_var (option_of (cell a b i element_named_at) (cell a b i element_var_at))) (base + (i + 1)) c rest between named
  pub kept : length between ≡ length rest
  pub props : LowersExprs a b (cell a b i rel_props_at) 0 (d - 1) base (i + 1 + cell a b i rel_types_at) e (mem named.ctx os between) m'

-- the element at record i
pub data ElementAt (a b : List ℕ) (i : ℕ) (r : Element) : Type 0 where
  node_at : (x : Read) → r ≡ element.Node x → cell a b i kind_at ≡ node_kind → ReadAt a b i node_props_at x → ElementAt a b i r
  rel_at : (x : Read) → r ≡ element.Rel x → ((cell a b i kind_at ≡ node_kind) → ⊥) → ReadAt a b i rel_props_at x → ElementAt a b i r

-- no element yet, of the part at record i
abbrev pub start_chain : At → LowerCtx → Chain
start_chain at c = record { at = at_place at.base (at.i + 1) at.left; ctx = c; last = None; pending = None; kept = 0 }

-- no rel waits, or there is no operator before
abbrev pub StartsAnew : Chain → Type 0
StartsAnew ch = (ch.pending ≡ None) ⊎ (ch.last ≡ None)

-- so many elements has a special part
abbrev pub special_elements : ℕ
special_elements = 3

-- a shortest part of exactly node, rel, node
pub record Special (a b : List ℕ) (i rel far : ℕ) : Type 0 where
  pub shortest : (cell a b i part_shortest_at ≡ 0) → ⊥
  pub three : cell a b i part_elements_at ≡ special_elements
  pub first : cell a b (i + 1) kind_at ≡ node_kind
  pub second : cell a b rel kind_at ≡ rel_kind
  pub third : cell a b far kind_at ≡ node_kind
  pub first_end : Ends a b (i + 1) rel
  pub second_end : Ends a b rel far
