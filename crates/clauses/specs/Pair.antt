-- What the lowering of two statements into one plan asks and promises. Assumes nothing: these are definitions.
use Rattle.std.specs.Prelude.{◌≡◌, ℕ, ◌+◌, ◌≤◌, ◌<◌, Bool, List, [], ◌∷◌, length, Option}
use Rattle.model.specs.Call.{work_words, max_depth}
use Rattle.model.specs.Text.{Bytes}
use Rattle.model.specs.Kind.{ReadOp, statement}
use Rattle.model.specs.Tree.{Tree}
use Rattle.model.specs.Lower.{Lowering, ◌>>=◌, op, push, or_source_all, at, lower_pair}
use Rattle.words.specs.Words.{max_records}
use Rattle.words.specs.Held.{Held, HeldSome}
use Rattle.context.specs.Tables.{max_vars}
use Rattle.context.specs.Lent.{SameTables}
use Rattle.context.specs.Ops.{Under}
use Rattle.lower.specs.Side.{Side, side}
use Rattle.context.specs.declared.LowerCtx.{LowerCtx}
use Rattle.lower.specs.Rep.{State, Mem, mem, Written, Rep}
use Rattle.lower.specs.Chains.{Sourced}
use Rattle.projections.specs.Ready.{max_found}
use Rattle.clauses.specs.declared.pair.Operands.{Operands}
use Rattle.clauses.specs.declared.pair.Side.{Side as OneSide}

-- ── two operands and their union ──

-- the union of two operands, a source of everything for each that is missing
unfoldable pub union_of : (left right : Option ℕ) (all : Bool) → Lowering ℕ
union_of left right all = do
  l ← or_source_all left
  r ← or_source_all right
  push (op ReadOp.Union (l, (r, (all, tt))) ∷ [])

-- two operands, operators that there are or none, whose union is stored with record i; there is room for three operators more
pub record UniteAsked (both : Operands) (i : ℕ) (c : LowerCtx) (ops : List ℕ) : Type 0 where
  pub few : c.ops ≤ max_found
  pub long : work_words ≤ length ops
  pub left : Under both.left c.ops
  pub right : Under both.right c.ops
  pub here : i < max_records

-- L leaves operator k, the last one, with at most three more than there were, and no number and no variable more
pub record Unites (L : Lowering ℕ) (k : ℕ) (m m' : Mem) : Type 0 where
  pub grow : m.ctx.ops ≤ k
  pub few : k ≤ m.ctx.ops + 2
  pub count : m'.ctx.ops ≡ k + 1
  pub numbers : m'.ctx.numbers ≡ m.ctx.numbers
  pub mapped : m'.ctx.mapped ≡ m.ctx.mapped
  pub rest : m'.rest ≡ m.rest
  pub in_ops : length m'.ops ≡ length m.ops
  pub run : (S : Side) (W : Written) (s : State) → Rep S W s m → Sourced S L k W s m m'

-- ── two statements ──

-- what a side has behind the lowering of what it had before: the same sheet and records, and tables over the same slices, each as long
pub record SameSide (x x' : OneSide) : Type 0 where
  pub sheet : x'.sheet ≡ x.sheet
  pub records : x'.records ≡ x.records
  pub tables : SameTables x.tables x'.tables

-- a statement on each side
pub record PairAsked (left : Bytes) (la lb : List ℕ) (right : Bytes) (ra rb : List ℕ) : Type 0 where
  pub on_left : HeldSome left la lb statement max_depth 0
  pub on_right : HeldSome right ra rb statement max_depth 0

-- The tables of two sheets stand for the state s: those of the left for its operators before the right's first, as they were when the left was lowered, and those of the right for the others, the counts and the variables.
pub record TwoTables (left : Bytes) (la lb lops lrest : List ℕ) (right : Bytes) (ra rb : List ℕ) (first : ℕ) (s : State) (m : Mem) : Type 0 where
  pub before : State
  pub counted : LowerCtx
  pub count : counted.ops ≡ first
  pub left_written : Written
  pub on_left : Rep (side left la lb 0) left_written before (mem counted lops lrest)
  pub old : (k : ℕ) → k < first → at s.ops k ≡ at before.ops k
  pub right_written : Written
  pub on_right : Rep (side right ra rb first) right_written s m

-- the statements that are held are lowered, the left one from nothing, and the counts stay within the tables' bounds
pub record LowersPair (left : Bytes) (la lb lops lrest : List ℕ) (right : Bytes) (ra rb : List ℕ) (all : Bool) (first : ℕ) (m : Mem) : Type 0 where
  pub met : m.ctx.mapped ≤ max_vars
  pub run : (t u : Tree statement) → Held left la lb t max_depth 0 → Held right ra rb u max_depth 0 → TwoTables left la lb lops lrest right ra rb first (lower_pair t u all) m
