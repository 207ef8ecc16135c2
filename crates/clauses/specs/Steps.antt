-- What the lowering of yields, of clauses and of union arms promises. Assumes nothing: these are definitions.
use Rattle.std.specs.Prelude.{◌≡◌, ℕ, suc, ◌+◌, List, [], ◌∷◌, Option, None, Some}
use Rattle.model.specs.Text.{Bytes}
use Rattle.model.specs.Kind.{ReadOp, clause, union_arm, yield_item}
use Rattle.model.specs.Tree.{Tree, Trees, node, end, ◌▸◌}
use Rattle.model.specs.Lower.{Lowering, ◌>>=◌, ret, push, op, or_source_all, lower_yields, lower_clause, lower_clauses}
use Rattle.words.specs.Held.{HeldOf}
use Rattle.lower.specs.Side.{side}
use Rattle.lower.specs.Render.{render_of}
use Rattle.lower.specs.Rep.{State, Mem, Written, Blank, Rep, Piece, Ran, Moved}
use Rattle.clauses.specs.Turns.{Turn, LowersTurn, LowersTurns}

-- ── yields ──

abbrev pub yields_piece : {n : ℕ} → Trees yield_item n → Piece
yields_piece ts = record { lower = λ s. lower_yields ts s; render = λ N A. render_of N A ts; below = λ N lo k. Unit {0} }

-- some n yields are held, at some depth
pub record SomeYields (a b : List ℕ) (n i : ℕ) : Type 0 where
  pub sheet : Bytes
  pub depth : ℕ
  pub trees : Trees yield_item n
  pub held : HeldOf sheet a b trees depth i

-- the n yields from record i on are numbered; no operator is pushed
pub record LowersYields (a b : List ℕ) (n i e : ℕ) (m m' : Mem) : Type 0 where
  pub moved : Moved i e m m'
  pub same : m'.ctx.ops ≡ m.ctx.ops
  pub next : e ≡ i + n
  pub run : (sheet : Bytes) {first : ℕ} (d : ℕ) (ts : Trees yield_item n) → HeldOf sheet a b ts d i → (W : Written) (s : State) → Rep (side sheet a b first) W s m → Blank W (suc i) (suc e) → Ran (side sheet a b first) W (yields_piece ts) 0 (suc i) (suc e) s m m'

-- ── clauses and arms ──

abbrev pub clause_turn : Turn clause
clause_turn t o = λ s. lower_clause t o s

abbrev pub LowersClauses : (sheet : Bytes) (a b : List ℕ) (n d i e : ℕ) (before after : Option ℕ) (m m' : Mem) → Type 0
LowersClauses = LowersTurns clause clause_turn

-- one round of the definition's `lower_arms`
unfoldable pub lower_arm : Tree union_arm → Option ℕ → Lowering (Option ℕ)
lower_arm (node union_arm line k (all, _) (cs ▸ end)) root = do
  below ← lower_clauses cs None
  left ← or_source_all root
  right ← or_source_all below
  both ← push (op ReadOp.Union (left, (right, (all, tt))) ∷ [])
  ret (Some both)

abbrev pub arm_turn : Turn union_arm
arm_turn t o = λ s. lower_arm t o s

abbrev pub LowersArm : (sheet : Bytes) (a b : List ℕ) (d i e : ℕ) (before after : Option ℕ) (m m' : Mem) → Type 0
LowersArm = LowersTurn union_arm arm_turn

abbrev pub LowersArms : (sheet : Bytes) (a b : List ℕ) (n d i e : ℕ) (before after : Option ℕ) (m m' : Mem) → Type 0
LowersArms = LowersTurns union_arm arm_turn
