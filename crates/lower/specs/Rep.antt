-- How the tables stand for a state of the lowering, now and whatever is written behind. Assumes nothing: these are definitions.
use Rattle.std.specs.Prelude.{◌≡◌, ℕ, ◌+◌, ◌*◌, ◌-◌, ◌≤◌, ◌<◌, List, [], ◌∷◌, ◌⊎◌, length, get_or, drop}
use Rattle.model.specs.Call.{work_words}
use Rattle.model.specs.Lower.{Recs, Lowering, at}
use Rattle.model.specs.Lower
use Rattle.words.specs.Words.{max_records}
use Rattle.context.specs.Tables.{state_of, op_at, vars_at, max_stored, Indexed, deepest, Pushed}
use Rattle.context.specs.declared.LowerCtx.{LowerCtx}
use Rattle.context.specs.declared.Tables.{Tables}
use Rattle.context.specs.declared.op.Op.{Op}
use Rattle.context.specs.declared.At.{At}
use Rattle.lower.specs.declared.Reached.{Reached}
use Rattle.lower.specs.declared.Lowered.{Lowered}
use Rattle.lower.specs.Side.{Side}
use Rattle.lower.specs.Render.{Notes, Ops}
use Rattle.lower.specs.Shows.{Stored, shift}

abbrev pub State : Type 0
State = Lower.LowerCtx

-- what the lowering works on
pub record Mem : Type 0 where
  pub ctx : LowerCtx
  pub ops : List ℕ
  pub rest : List ℕ

abbrev pub mem : LowerCtx → List ℕ → List ℕ → Mem
mem c os rs = record { ctx = c; ops = os; rest = rs }

-- the same over the tables
abbrev pub in_tables : LowerCtx → Tables → Mem
in_tables c t = mem c t.ops.now t.rest.now

-- where something is lowered
abbrev pub at_place : (base i left : ℕ) → At
at_place base i left = record { base = base; i = i; left = left }

abbrev pub notes : Mem → Notes
notes m q = get_or m.rest q 0

-- ── what is written ──

-- the notes that are written, by ranges
abbrev pub Written : Type 0
Written = List (ℕ × ℕ)

abbrev pub In : Written → ℕ → Type 0
In [] q = ⊥
In (w ∷ W) q = ((w.0 ≤ q) × (q < w.1)) ⊎ In W q

pub record Sub (W W' : Written) : Type 0 where
  pub at : (q : ℕ) → In W q → In W' q

pub record Blank (W : Written) (lo hi : ℕ) : Type 0 where
  pub at : (q : ℕ) → lo ≤ q → q < hi → In W q → ⊥

-- the written notes are the same
pub record Agree (W : Written) (N N' : Notes) : Type 0 where
  pub at : (q : ℕ) → q < vars_at → In W q → N' q ≡ N q

-- ── the state ──

-- notes and operators as they may be later: what is written stays
pub record Future (W : Written) (s : State) (m : Mem) (N : Notes) (A : Ops) : Type 0 where
  pub notes : Agree W (notes m) N
  pub ops : (k : ℕ) → k < m.ctx.ops → A k ≡ at s.ops k

-- the counts are exact, also past the table's end; those operators from the first on that it has room for are stored
pub record Rep (S : Side) (W : Written) (s : State) (m : Mem) : Type 0 where
  pub count : m.ctx.ops ≡ length s.ops
  pub state : state_of s.ops m.ctx (drop vars_at m.rest) ≡ s
  pub from : S.first ≤ m.ctx.ops
  pub shows : (k : ℕ) → S.first ≤ k → k < m.ctx.ops → k < max_stored → (N : Notes) (A : Ops) → Future W s m N A → Stored S N A k (op_at m.ops k) (at s.ops k)

-- the state s in m has become s' in m'
pub record To (S : Side) (W W' : Written) (s s' : State) (m m' : Mem) : Type 0 where
  pub rep : Rep S W' s' m'
  pub sub : Sub W W'
  pub kept : Agree W (notes m) (notes m')
  pub old : (k : ℕ) → k < m.ctx.ops → at s'.ops k ≡ at s.ops k
  pub grow : m.ctx.ops ≤ m'.ctx.ops

-- ── what is lowered to records ──

pub record Piece : Type 1 where
  pub lower : Lowering Recs
  pub render : Notes → Ops → Recs
  pub below : Notes → (lo hi : ℕ) → Type 0

-- a piece is lowered, whose notes are those from line lo to hi of the pass at base
pub record Ran (S : Side) (W : Written) (P : Piece) (base lo hi : ℕ) (s : State) (m m' : Mem) : Type 0 where
  pub to : To S W ((base + lo, base + hi) ∷ W) s (P.lower s).1 m m'
  pub shown : (N : Notes) (A : Ops) → Future ((base + lo, base + hi) ∷ W) (P.lower s).1 m' N A → P.render (shift N base) A ≡ (P.lower s).0
  pub below : (N : Notes) (A : Ops) → Future ((base + lo, base + hi) ∷ W) (P.lower s).1 m' N A → P.below (shift N base) S.first m'.ctx.ops

-- an operator is pushed in the end, whose number is k
pub record Rooted (S : Side) (W : Written) (L : Lowering ℕ) (k base lo hi : ℕ) (s : State) (m m' : Mem) : Type 0 where
  pub to : To S W ((base + lo, base + hi) ∷ W) s (L s).1 m m'
  pub root : k ≡ (L s).0
  pub low : k < m'.ctx.ops

-- ── safety ──

-- the variables' index is right
abbrev pub Indexes : Mem → Type 0
Indexes m = Indexed m.ctx.mapped (drop vars_at m.rest)

-- Operators and numbers that a lowering may find: those of two sheets with four operators to a record are fewer, and with what one more sheet adds they stay below max_count.
abbrev pub max_before : ℕ
max_before = 30000

-- Variables that a lowering may find at record i, beside one for each record before it: those of a first pass over the same records, and one for each level of a tree that is under way. The statement's record has none in either pass.
abbrev pub max_met : ℕ
max_met = max_records + deepest - 2

-- one pass over a record makes at most so many operators, and one number
abbrev pub pass_operators : ℕ
pass_operators = 2

-- there is room at record i, for what is at most d deep: what a pass makes of each record, and one for each level
pub record RoomFor (d i : ℕ) (m : Mem) : Type 0 where
  pub few : m.ctx.ops + d ≤ max_before + pass_operators * i
  pub low : m.ctx.numbers + d ≤ max_before + i
  pub met : m.ctx.mapped + d ≤ max_met + i
  pub here : i ≤ max_records
  -- Tables says the lengths too. Here they are of the lists alone, since that is what the laws of pushes and numbers speak of: without them each law, and each call of one, would take them beside the room.
  pub in_ops : work_words ≤ length m.ops
  pub in_rest : work_words ≤ length m.rest
  pub index : Indexes m

-- one more operator stands behind what is reached
pub record PushedBehind (s : Reached) (r : Lowered ℕ) (os os' : List ℕ) (x : Op) : Type 0 where
  pub next : r.next ≡ s.next
  pub op : r.op ≡ s.ctx.ops
  pub pushed : Pushed s.ctx r.ctx os os' x

-- what the lowering of records i to e does whatever the state
pub record Moved (i e : ℕ) (m m' : Mem) : Type 0 where
  pub up : i ≤ e
  pub here : e ≤ max_records
  pub grow : m.ctx.ops ≤ m'.ctx.ops
  pub few : m'.ctx.ops + pass_operators * i ≤ m.ctx.ops + pass_operators * e
  pub low : m'.ctx.numbers + i ≤ m.ctx.numbers + e
  pub met : m'.ctx.mapped + i ≤ m.ctx.mapped + e
  pub in_ops : length m'.ops ≡ length m.ops
  pub in_rest : length m'.rest ≡ length m.rest
  pub index : Indexes m → Indexes m'
