-- An operator that is pushed if it is wanted: what becomes of the counts, and of the state. Assumes nothing.
use Rattle.std.proofs.Common.{◌≡◌, refl, ◌∙◌, ℕ, ◌+◌, ◌≤◌, ◌<◌, Bool, true, false, not, List, length, eqb, le_refl, arith}
use Rattle.std.proofs.lemmas.Bool.Decides.{nat_tests}
use Rattle.model.specs.Lower.{Recs, Lowering, push}
use Rattle.context.specs.declared.op.Op.{Op}
use Rattle.context.specs.declared.LowerCtx.{LowerCtx}
use Rattle.lower.specs.Side.{Side}
use Rattle.lower.specs.Render.{Notes, Ops}
use Rattle.lower.specs.Shows.{Stored}
use Rattle.lower.specs.Rep.{State, Mem, mem, Written, Future, Rep, Moved}
use Rattle.lower.specs.Chains.{Sourced}
use Rattle.lower.specs.Clauses.{MovedTwice}
use Rattle.lower.specs.State.{to_refl, push_to}
use Rattle.projections.specs.Promises.{PushedIf, none_pushed, one_pushed}
use Rattle.projections.specs.Room.{twice_pushed}

pub record Counted (c c' : LowerCtx) (o o' : List ℕ) : Type 0 where
  pub grow : c.ops ≤ c'.ops
  pub few : c'.ops ≤ c.ops + 1
  pub numbers : c'.numbers ≡ c.numbers
  pub mapped : c'.mapped ≡ c.mapped
  pub same : length o' ≡ length o

pub counted : {w : Bool} {input k : ℕ} {x : Op} {c c' : LowerCtx} {o o' : List ℕ} → PushedIf w x input k c c' o o' → Counted c c' o o'
counted (none_pushed e ek ec eo) = rw (ec, eo) (record { grow = le_refl _; few = omega arith; numbers = refl; mapped = refl; same = refl })
counted (one_pushed e ek p lo) = record { grow = omega (arith, p.count); few = omega (arith, p.count); numbers = p.numbers; mapped = p.mapped; same = lo }

-- the operator, spelled out
pub pushed_if_as : {w : Bool} {input k : ℕ} {x y : Op} {c c' : LowerCtx} {o o' : List ℕ} → x ≡ y → PushedIf w x input k c c' o o' → PushedIf w y input k c c' o o'
pushed_if_as e p = rw e at p

-- the operator that is left is there, if the one before was
pub left_low : {w : Bool} {input k : ℕ} {x : Op} {c c' : LowerCtx} {o o' : List ℕ} → PushedIf w x input k c c' o o' → input < c.ops → k < c'.ops
left_low (none_pushed e ek ec eo) l = rw (ek, ec) l
left_low (one_pushed e ek p lo) l = omega (arith, p.count)

-- behind what has moved, over at least one record if the operator is wanted
pub moved_if : {w : Bool} {x : Op} {i e input k : ℕ} {c : LowerCtx} {os : List ℕ} {m m₁ : Mem} → Moved i e m m₁ → (w ≡ true → i + 1 ≤ e) → PushedIf w x input k m₁.ctx c m₁.ops os → MovedTwice i e m (mem c os m₁.rest)
moved_if p l (none_pushed e ek ec eo) = rw (ec, eo) (record { up = p.up; here = p.here; grow = p.grow; few = omega (arith, p.few, p.up); low = omega (arith, p.low, p.up); met = omega (arith, p.met, p.up); in_ops = p.in_ops; in_rest = p.in_rest; index = p.index })
moved_if p l (one_pushed e ek q lo) = twice_pushed p (l e) q lo

pub pushed_if : {S : Side} {W : Written} {s : State} {w : Bool} {input k : ℕ} {x : Op} {c' : LowerCtx} {o' : List ℕ} (m : Mem) (L : Lowering ℕ) (recs : Recs) →
    Rep S W s m →
    PushedIf w x input k m.ctx c' m.ops o' →
    (w ≡ false → L s ≡ (input, s)) →
    (w ≡ true → L s ≡ push recs s) →
    (w ≡ true → (N : Notes) (A : Ops) → Future W s m N A → Stored S N A m.ctx.ops x recs) →
    Sourced S L k W s m (mem c' o' m.rest)
unfolding push
pushed_if m L recs r (none_pushed e ek ec eo) h h' st = rw (ek, ec, eo) (record { to = rw (h e) (to_refl r); root = rw (h e) })
pushed_if {x = x} {c' = c'} {o' = o'} m L recs r (one_pushed e ek p lo) h h' st = record { to = rw (h' e) (push_to m c' o' x recs r p (st e)); root = rw (h' e) (ek ∙ r.count) }

-- a count of none, and of some
pub none_counted : (n : ℕ) → not (eqb n 0) ≡ false → n ≡ 0
none_counted n e = grind (arith, nat_tests)

pub some_counted : (n : ℕ) → not (eqb n 0) ≡ true → (n ≡ 0) → ⊥
some_counted n e z = grind (arith, nat_tests)
