-- What the room that there is allows: an operator more, a number more, and the calls below. Assumes nothing.
use mathlib.Core.Path.{◌≡◌, refl, sym, ap, ◌∙◌}
use Prim.Native.Nat.{ℕ, ◌+◌, ◌*◌, ◌-◌, ◌≤◌, ◌<◌}
use native.Mathlib.Omega.{arith}
use mathlib.Core.List.{List}
use lib.ListN.{length, drop}
use Rattle.model.specs.Text.{Bytes}
use Rattle.model.specs.Kind.{Sort, pattern_element}
use mathlib.Core.Bool.{Bool, true, false}
use mathlib.Core.Logic.{◌⊎◌, inl, inr}
use lib.Dec.{eqb}
use borrow.Author.Tests.{eqb-true, eqb-false}
use Rattle.words.specs.Fits.{tree_fits}
use Rattle.lower.specs.Carry.{plain_c, plain_held, plain_size}
use Rattle.lower.proofs.Elements.{a_node, other_element}
use Rattle.lower.proofs.Elements
use Rattle.lower.proofs.Linking.{rel_kind_law, rel_waits}
use Rattle.std.specs.Prelude.{Option, Some}
use Rattle.lower.specs.declared.PendingRel.{PendingRel}
use Rattle.model.specs.Record.{one}
use Rattle.words.specs.Count.{Ends}
use Rattle.lower.specs.Chains.{from_of, from, ReadAt, LowersRel, LowersStart, OrSource, Anchored}
use Rattle.lower.specs.declared.Chain.{Chain}
use Rattle.model.specs.Tree.{Tree}
use Rattle.words.specs.Words.{cell, Roomy, option_of}
use Rattle.words.specs.Held.{Held, size}
use Rattle.context.specs.Tables.{CanPush, Pushed, Issued, CanNumber, Numbers, vars_at, deepest}
use Rattle.context.specs.declared.op.Op.{Op}
use Rattle.context.specs.declared.LowerCtx.{LowerCtx}
use Rattle.context.specs.declared.Numbered.{Numbered}
use Rattle.model.specs.Lower.{Lowering, endpoint_var}
use Rattle.lower.specs.Rep.{at_place, Mem, mem, RoomFor, max_before, pass_operators}
use Rattle.words.specs.Words.{max_records}
use Rattle.context.specs.Tables.{second_pass}
use Rattle.context.specs.declared.At.{At}
pub use Rattle.lower.specs.Standing.{low, deep, fits}
use Rattle.lower.specs.Asked.{Asked, SomeElement, TreeAsked, ElementAsked, ChainAsked}
use Rattle.lower.specs.Pieces.{SomeTree, SomeCarried, LowersExprs}
use Rattle.words.specs.Places.{kind_at, node_kind, rel_kind, element_named_at, element_var_at, node_labels_at, node_props_at, rel_types_at, rel_props_at}

-- the numbers of a place
pub record Bounds (at : At) : Type 0 where
  pub low : at.i < max_records
  pub deep : 1 ≤ at.left
  pub shallow : at.left ≤ deepest
  pub near : at.base ≤ second_pass

pub bounds : {s : Sort} {a b : List ℕ} {at : At} {m : Mem} → TreeAsked s a b at m → Bounds at
bounds g = record { low = low g.tree; deep = deep g.tree; shallow = g.depth; near = g.pass }

pub element_bounds : {kind : ℕ} {a b : List ℕ} {at : At} {m : Mem} → ElementAsked kind a b at m → Bounds at
element_bounds g = record { low = low g.tree.tree; deep = deep g.tree.tree; shallow = g.depth; near = g.pass }

pub chain_bounds : {a b : List ℕ} {ch : Chain} {os rs : List ℕ} → ChainAsked a b ch os rs → Bounds ch.at
chain_bounds g = record { low = low g.tree; deep = deep g.tree; shallow = g.depth; near = g.pass }

-- what is asked for a part of what stands at a place
pub asked_on : {T T' : Type 0} {at : At} {d : ℕ} {m m' : Mem} (i d' e : ℕ) → Asked T at d m → d' ≤ at.left → T' → RoomFor e i m' → Asked T' (at_place at.base i d') e m'
asked_on i d' e g l t r = record { tree = t; room = r; depth = (let h = g.depth in omega arith); pass = g.pass }

module _ {d i : ℕ} {c : LowerCtx} {os rs : List ℕ} (g : RoomFor d i (mem c os rs)) where
  pub can_number : (base place j : ℕ) → base ≤ second_pass → j ≤ max_records → place ≡ base + j → CanNumber c place rs
  can_number base place j lb lj e = record { met = omega (arith, g.met, g.here); low = omega (arith, g.low, g.here); noted = omega arith; long = g.in_rest; index = g.index }

  -- behind a number
  pub numbered : {step : Lowering ℕ} {rs' : List ℕ} {r : Numbered} → Issued step c (drop vars_at rs) (drop vars_at rs') r → length rs' ≡ length rs → 1 ≤ d → RoomFor (d - 1) i (mem r.ctx os rs')
  numbered n l h = record { few = let x = g.few in let y = n.ops in omega arith; low = let x = g.low in let y = n.low in omega arith; met = let x = g.met in let y = n.met in omega arith; here = g.here; in_ops = g.in_ops; in_rest = rw l g.in_rest; index = n.index g.index }

  -- a number at the record itself, and then what is behind it
  pub numbered_on : {step : Lowering ℕ} {rs' : List ℕ} {r : Numbered} (d' j : ℕ) → Issued step c (drop vars_at rs) (drop vars_at rs') r → length rs' ≡ length rs → d' ≤ d → i + 1 ≤ j → j ≤ max_records → RoomFor d' j (mem r.ctx os rs')
  numbered_on d' j n l ld lj h = record { few = let x = g.few in let y = n.ops in omega arith; low = let x = g.low in let y = n.low in omega arith; met = let x = g.met in let y = n.met in omega arith; here = h; in_ops = g.in_ops; in_rest = rw l g.in_rest; index = n.index g.index }

  -- an operator, and then what is behind the record
  pub pushed_on : {x : Op} {c' : LowerCtx} {os' : List ℕ} (d' j : ℕ) → Pushed c c' os os' x → length os' ≡ length os → d' ≤ d → i + 1 ≤ j → j ≤ max_records → RoomFor d' j (mem c' os' rs)
  pushed_on d' j p l ld lj h = record { few = let x = g.few in let y = p.count in omega arith; low = let x = g.low in let y = p.numbers in omega arith; met = let x = g.met in let y = p.mapped in omega arith; here = h; in_ops = rw l g.in_ops; in_rest = g.in_rest; index = rw p.mapped g.index }

pub room_at : {d i j : ℕ} {m : Mem} → i ≡ j → RoomFor d i m → RoomFor d j m
room_at e g = rw e at g

pub prop_some : {a b : List ℕ} {d i : ℕ} → Roomy a b → SomeTree a b pattern_element d i → cell a b i kind_at ≡ rel_kind → (n j : ℕ) → n ≡ cell a b i rel_props_at → j ≡ i + 1 + cell a b i rel_types_at → SomeCarried a b n 0 (d - 1) j
prop_some {a} {b} {d} {i} room x k n j en ej =
    let v = (Elements.a_rel room x.tree x.held k).el in
    rw (en ∙ sym v.flagged, ej ∙ ap (λ (z : ℕ). i + 1 + z) (sym v.many)) (record { sheet = x.sheet; list = plain_c v.props; held = plain_held x.sheet a b v.props (d - 1) _ v.held_props })

pub node_some : {a b : List ℕ} {d i : ℕ} → Roomy a b → SomeTree a b pattern_element d i → cell a b i kind_at ≡ node_kind → (n j : ℕ) → n ≡ cell a b i node_props_at → j ≡ i + 1 + cell a b i node_labels_at → SomeCarried a b n 0 (d - 1) j
node_some {a} {b} {d} {i} room x k n j en ej =
    let v = (a_node room x.tree x.held k).el in
    rw (en ∙ sym v.flagged, ej ∙ ap (λ (z : ℕ). i + 1 + z) (sym v.many)) (record { sheet = x.sheet; list = plain_c v.props; held = plain_held x.sheet a b v.props (d - 1) _ v.held_props })

names_by : {a b : List ℕ} (sheet : Bytes) (room : Roomy a b) (d i : ℕ) (t : Tree pattern_element) → Held sheet a b t d i → i + 1 + cell a b i node_labels_at ≤ max_records
names_by {a} {b} sheet room d i t hd = names_fit (tree_fits sheet a b t d i hd).1 (ltb_kind (eqb (cell a b i kind_at) node_kind) refl)
  where
    names_fit : i + size t ≤ max_records → (cell a b i kind_at ≡ node_kind) ⊎ ((cell a b i kind_at ≡ node_kind) → ⊥) → i + 1 + cell a b i node_labels_at ≤ max_records
    names_fit f (inl k) = let v = (a_node room t hd k).el in let z = v.sized in let y = v.many in omega arith
    names_fit f (inr k) = let v = (Elements.a_rel room t hd (other_element room sheet d i t hd k)).el in let z = v.sized in let y = v.many in omega arith

    ltb_kind : (q : Bool) → eqb (cell a b i kind_at) node_kind ≡ q → (cell a b i kind_at ≡ node_kind) ⊎ ((cell a b i kind_at ≡ node_kind) → ⊥)
    ltb_kind true e = inl (eqb-true _ _ e)
    ltb_kind false e = inr (eqb-false _ _ e)

pub names_low : {a b : List ℕ} {d i : ℕ} → Roomy a b → SomeTree a b pattern_element d i → i + 1 + cell a b i node_labels_at ≤ max_records
names_low {a} {b} {d} {i} room x = names_by x.sheet room d i x.tree x.held

pub rel_done : {a b : List ℕ} {d base i e n j : ℕ} {c : LowerCtx} {os rest rest₁ : List ℕ} {r : Numbered} {m' : Mem} (place : ℕ) → place ≡ base + (i + 1) →
    Numbers (endpoint_var (option_of (cell a b i element_named_at) (cell a b i element_var_at))) place c rest rest₁ r → length rest₁ ≡ length rest → n ≡ cell a b i rel_props_at →
    j ≡ i + 1 + cell a b i rel_types_at → LowersExprs a b n 0 (d - 1) base j e (mem r.ctx os rest₁) m' → LowersRel a b d base i e c os rest m'
rel_done {rest₁ = rest₁} {r = r} place ep nm l en ej p = record { named = r; between = rest₁; noted = rw ep at nm; kept = l; props = rw (en, ej) at p }

-- a rel's end
pub rel_end : {a b : List ℕ} (room : Roomy a b) (d i : ℕ) {base e : ℕ} {c : LowerCtx} {os rest : List ℕ} {m' : Mem} → cell a b i kind_at ≡ rel_kind → LowersRel a b d base i e c os rest m' → (sheet : Bytes) (t : Tree pattern_element) → Held sheet a b t d i → e ≡ i + size t
rel_end {a} {b} room d i {base} {e} {c} {os} {rest} {m'} k p sheet t hd =
    let v = (Elements.a_rel room t hd k).el in
    let x' : LowersExprs a b (one v.p) 0 (d - 1) base (i + 1 + cell a b i node_labels_at) e (mem p.named.ctx os p.between) m' = rw (sym v.flagged) at p.props in
    let q = x'.next sheet (plain_c v.props) (plain_held sheet a b v.props (d - 1) _ (rw v.many at v.held_props)) in
    let z = plain_size v.props in
    let y = v.sized in
    let w = v.many in
    omega arith

-- behind a source of everything, if there is one
module _ {o : ℕ} {L : Lowering ℕ} {k d i : ℕ} {c c' : LowerCtx} {os os' rs : List ℕ} (g : RoomFor d i (mem c os rs)) (q : OrSource o L k (mem c os rs) (mem c' os' rs)) where
  pub source_number : (base place j : ℕ) → base ≤ second_pass → j ≤ max_records → place ≡ base + j → CanNumber c' place rs
  source_number base place j lb lj e = record { met = omega (arith, g.met, g.here, q.mapped); low = omega (arith, g.low, g.here, q.numbers); noted = omega arith; long = g.in_rest; index = rw q.mapped g.index }

  pub source_few : (c'.ops ≤ max_before + pass_operators * max_records + 1) × (k ≤ max_before + pass_operators * max_records)
  source_few = (let x = g.few in let y = g.here in let z = q.few in omega arith, let x = g.few in let y = g.here in let z = q.few in let w = q.low in omega arith)

-- the rel that waits
module _ {a b : List ℕ} {d : ℕ} {ch : Chain} {rel : PendingRel} (room : Roomy a b) (w1 : ch.pending ≡ Some rel) (x : Anchored a b d ch) where
  pub waiting_read : ReadAt a b rel.i rel_props_at rel.read
  waiting_read = (rel_waits w1 x.waiting).read

  pub waiting_rel : SomeElement a b rel_kind d rel.i
  waiting_rel =
      let w = rel_waits w1 x.waiting in
      record { tree = record { sheet = x.sheet; tree = w.tree; held = w.held }; is = rel_kind_law room x.sheet d rel.i w.tree w.step w.held w.is }

  pub waiting_end : {base e : ℕ} {c : LowerCtx} {os rest : List ℕ} {m' : Mem} → LowersRel a b d base rel.i e c os rest m' → e ≡ ch.at.i
  waiting_end p =
      let w = rel_waits w1 x.waiting in
      rel_end room d rel.i waiting_rel.is p x.sheet w.tree w.held ∙ sym w.ends

-- the record from which on nothing is lowered, where a rel waits
pub from_rel : (ch : Chain) {rel : PendingRel} → ch.pending ≡ Some rel → from ch ≡ rel.i
from_rel ch e = ap (λ (p : Option PendingRel). from_of p ch.at.i) e

-- behind a rel
pub after_rel : {a b : List ℕ} {d base i e : ℕ} {c : LowerCtx} {os rest : List ℕ} {m' : Mem} (j : ℕ) → RoomFor (d - 1) i (mem c os rest) → LowersRel a b d base i e c os rest m' → e ≤ j → j ≤ max_records → RoomFor (d - 1) j m'
after_rel j g p le lj =
    let n = p.noted.issued in
    let v = p.props.moved in
    record { few = omega (arith, g.few, n.ops, v.few, v.up); low = omega (arith, g.low, n.low, v.low, v.up); met = omega (arith, g.met, n.met, v.met, v.up); here = lj; in_ops = rw v.in_ops g.in_ops; in_rest = rw (v.in_rest ∙ p.kept) g.in_rest; index = v.index (n.index g.index) }

pub start_ends : {a b : List ℕ} {d base i number e k r : ℕ} {m m' : Mem} → SomeTree a b pattern_element d i → LowersStart a b d base i number e k m m' → Ends a b i r → e ≡ r
start_ends {d = d} x p n = p.next x.sheet x.tree x.held ∙ sym (n.each x.sheet pattern_element d x.tree x.held)

pub rel_ends : {a b : List ℕ} {d base i e r : ℕ} {c : LowerCtx} {os rest : List ℕ} {m' : Mem} → Roomy a b → cell a b i kind_at ≡ rel_kind → SomeTree a b pattern_element d i → LowersRel a b d base i e c os rest m' → Ends a b i r → e ≡ r
rel_ends {d = d} {i = i} room k x p n = rel_end room d i k p x.sheet x.tree x.held ∙ sym (n.each x.sheet pattern_element d x.tree x.held)

-- two numbers running, and an operator behind them
module _ {d i : ℕ} {c : LowerCtx} {os rs : List ℕ} (g : RoomFor d i (mem c os rs)) {step : Lowering ℕ} {rs' : List ℕ} {r : Numbered} (n : Issued step c (drop vars_at rs) (drop vars_at rs') r) where
  pub can_again : i < max_records → length rs' ≡ length rs → (base place j : ℕ) → base ≤ second_pass → j ≤ max_records → place ≡ base + j → CanNumber r.ctx place rs'
  can_again li l base place j lb lj e = record { met = omega (arith, g.met, g.here, n.met); low = omega (arith, g.low, g.here, n.low); noted = omega arith; long = rw l g.in_rest; index = n.index g.index }

pub push_again : {d i : ℕ} {c : LowerCtx} {os rs : List ℕ} {step step₂ : Lowering ℕ} {vs vs' ws ws' : List ℕ} {r r₂ : Numbered} → RoomFor d i (mem c os rs) → Issued step c vs vs' r → Issued step₂ r.ctx ws ws' r₂ → CanPush r₂.ctx os
push_again g n n₂ = record { few = omega (arith, g.few, g.here, n.ops, n₂.ops); long = g.in_ops }
