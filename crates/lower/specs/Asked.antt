-- What the functions of the lowering ask: a tree where they begin, room for what they push and number, and a depth and a pass within their bounds. Assumes nothing: these are definitions.
use Rattle.std.specs.Prelude.{◌≡◌, ℕ, ◌+◌, ◌-◌, ◌≤◌, ◌<◌, List, Some}
use Rattle.model.specs.Kind.{Sort, pattern_part, pattern_element}
use Rattle.words.specs.Words.{cell, max_records}
use Rattle.words.specs.Places.{kind_at, node_kind, rel_kind, node_props_at, rel_props_at}
use Rattle.context.specs.Tables.{second_pass, deepest}
use Rattle.context.specs.declared.At.{At}
use Rattle.lower.specs.Rep.{Mem, mem, RoomFor}
use Rattle.lower.specs.Pieces.{SomeTree, SomeCarried}
use Rattle.lower.specs.Patterns.{SomeTrees}
use Rattle.lower.specs.Chains.{from, ReadAt, ChainInBounds, Anchored, StartsAnew, Special}
use Rattle.lower.specs.declared.Chain.{Chain}
use Rattle.lower.specs.declared.Link.{Link}
use Rattle.lower.specs.declared.Read.{Read}
use Rattle.lower.specs.declared.NodeRelNode.{NodeRelNode}

-- what stands at a place, and room for what is at most so deep
pub record Asked (Stands : Type 0) (at : At) (deep : ℕ) (m : Mem) : Type 0 where
  pub tree : Stands
  pub room : RoomFor deep at.i m
  pub depth : at.left ≤ deepest
  pub pass : at.base ≤ second_pass

-- a tree of a sort
abbrev pub TreeAsked : Sort → (a b : List ℕ) → At → Mem → Type 0
TreeAsked s a b at m = Asked (SomeTree a b s at.left at.i) at at.left m

-- n expressions, each so many records behind the one before it
abbrev pub ExprsAsked : (a b : List ℕ) (n gap : ℕ) → At → Mem → Type 0
ExprsAsked a b n gap at m = Asked (SomeCarried a b n gap at.left at.i) at at.left m

-- n trees behind a record
pub record SomeBehind (a b : List ℕ) (s : Sort) (n d i : ℕ) : Type 0 where
  pub low : i < max_records
  pub trees : SomeTrees a b s n d (i + 1)

abbrev pub BehindAsked : Sort → (a b : List ℕ) (n : ℕ) → At → Mem → Type 0
BehindAsked s a b n at m = Asked (SomeBehind a b s n at.left at.i) at at.left m

-- an element of a kind, which has its number or gets it here: less deep by the one
pub record SomeElement (a b : List ℕ) (kind d i : ℕ) : Type 0 where
  pub tree : SomeTree a b pattern_element d i
  pub is : cell a b i kind_at ≡ kind

abbrev pub ElementAsked : ℕ → (a b : List ℕ) → At → Mem → Type 0
ElementAsked kind a b at m = Asked (SomeElement a b kind at.left at.i) at (at.left - 1) m

-- a node with its number, and a rel, with what was read of them
pub record NodeAsked (a b : List ℕ) (at : At) (node : Read) (m : Mem) : Type 0 where
  pub asked : ElementAsked node_kind a b at m
  pub read : ReadAt a b at.i node_props_at node

pub record RelAsked (a b : List ℕ) (at : At) (rel : Read) (m : Mem) : Type 0 where
  pub asked : ElementAsked rel_kind a b at m
  pub read : ReadAt a b at.i rel_props_at rel

-- a part, and that it is a special one, with what was read of its elements
pub record SpecialAsked (a b : List ℕ) (at : At) (ends : NodeRelNode) (between : Read) (m : Mem) : Type 0 where
  pub part : TreeAsked pattern_part a b at m
  pub special : Special a b at.i ends.rel ends.far
  pub near : ReadAt a b (at.i + 1) node_props_at ends.near
  pub rel : ReadAt a b ends.rel rel_props_at between
  pub to : ReadAt a b ends.far node_props_at ends.to

-- the next element of a chain
pub record ChainAsked (a b : List ℕ) (ch : Chain) (os rs : List ℕ) : Type 0 where
  pub tree : SomeTree a b pattern_element ch.at.left ch.at.i
  pub room : RoomFor ch.at.left (from ch) (mem ch.ctx os rs)
  pub depth : ch.at.left ≤ deepest
  pub pass : ch.at.base ≤ second_pass
  pub bounded : ChainInBounds ch
  pub anchored : Anchored a b ch.at.left ch

-- it is a node, at the start or with no rel pending
pub record StartAsked (a b : List ℕ) (ch : Chain) (node : Read) (os rs : List ℕ) : Type 0 where
  pub chain : ChainAsked a b ch os rs
  pub is : cell a b ch.at.i kind_at ≡ node_kind
  pub read : ReadAt a b ch.at.i node_props_at node
  pub anew : StartsAnew ch

-- it is a node behind a rel
pub record ExpandAsked (a b : List ℕ) (ch : Chain) (link : Link) (os rs : List ℕ) : Type 0 where
  pub chain : ChainAsked a b ch os rs
  pub is : cell a b ch.at.i kind_at ≡ node_kind
  pub read : ReadAt a b ch.at.i node_props_at link.node
  pub waits : ch.pending ≡ Some link.rel
  pub has : ch.last ≡ Some link.origin
