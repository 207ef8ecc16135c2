-- What a special part asks gives for its elements. Assumes nothing.
use Prim.Native.Nat.{ℕ, ◌+◌, ◌-◌}
use native.Mathlib.Omega.{arith}
use mathlib.Core.List.{List}
use Rattle.words.specs.Words.{Roomy}
use Rattle.words.specs.Places.{node_kind, rel_kind}
use Rattle.model.specs.Lower.{Lowering}
use Rattle.context.specs.Tables.{Numbers}
use Rattle.context.specs.declared.At.{At}
use Rattle.context.specs.declared.LowerCtx.{LowerCtx}
use Rattle.lower.specs.declared.Read.{Read}
use Rattle.lower.specs.declared.NodeRelNode.{NodeRelNode}
use Rattle.context.specs.declared.Numbered.{Numbered}
use lib.ListN.{length}
use mathlib.Core.Path.{◌≡◌}
use Rattle.lower.specs.Rep.{Mem, mem, RoomFor}
use Rattle.lower.specs.Chains.{LowersStart, LowersRel}
use Rattle.lower.specs.Asked.{SomeElement, SpecialAsked}
use Rattle.lower.specs.Exprs.{room_after}
use Rattle.lower.proofs.Part
use Rattle.lower.proofs.Room

module _ {a b : List ℕ} {at : At} {ends : NodeRelNode} {between : Read} {m : Mem} (room : Roomy a b) (g : SpecialAsked a b at ends between m) where
  pub first_of_law : SomeElement a b node_kind (at.left - 1) (at.i + 1)
  first_of_law = record { tree = Part.first_some _ _ room g.special.three g.part.tree; is = g.special.first }

  pub rel_of : SomeElement a b rel_kind (at.left - 1) ends.rel
  rel_of = record { tree = Part.some_second _ _ room g.special.three g.special.first_end g.part.tree; is = g.special.second }

  pub far_of : SomeElement a b node_kind (at.left - 1) ends.far
  far_of = record { tree = Part.some_third _ _ room g.special.three g.special.first_end g.special.second_end g.part.tree; is = g.special.third }

-- room behind the first node's number, behind the node, and behind the rel
module _ {a b : List ℕ} {at : At} {ends : NodeRelNode} {between : Read} {place : ℕ} {c : LowerCtx} {os rs rs' : List ℕ} {step : Lowering ℕ} {r : Numbered} (room : Roomy a b) (g : SpecialAsked a b at ends between (mem c os rs)) (n : Numbers step place c rs rs' r) (l : length rs' ≡ length rs) where
  pub near_room : RoomFor (at.left - 1 - 1) (at.i + 1) (mem r.ctx os rs')
  near_room =
      let h = Room.low (first_of_law room g).tree in
      Room.numbered_on g.part.room _ _ n.issued l (omega arith) (omega arith) (omega arith)

  module _ {base number e k : ℕ} {m' : Mem} (p : LowersStart a b (at.left - 1) base (at.i + 1) number e k (mem r.ctx os rs') m') where
    pub rel_room : RoomFor (at.left - 1 - 1) ends.rel m'
    rel_room = Room.room_at (Room.start_ends (first_of_law room g).tree p g.special.first_end) (room_after p.moved near_room)

pub far_room : {a b : List ℕ} {at : At} {ends : NodeRelNode} {between : Read} {base e : ℕ} {c : LowerCtx} {os rs : List ℕ} {m m' : Mem} (room : Roomy a b) (g : SpecialAsked a b at ends between m) → RoomFor (at.left - 1 - 1) ends.rel (mem c os rs) → LowersRel a b (at.left - 1) base ends.rel e c os rs m' → RoomFor (at.left - 1 - 1) ends.far m'
far_room {ends = ends} room g r p =
    let h = Room.rel_ends room g.special.second (rel_of room g).tree p g.special.second_end in
    let l = Room.low (far_of room g).tree in
    Room.after_rel ends.far r p (omega arith) (omega arith)
