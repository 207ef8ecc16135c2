-- What the lowering of patterns promises: a root operator, whichever the trees are. Assumes nothing: these are definitions.
use Rattle.std.specs.Prelude.{◌≡◌, ℕ, suc, ◌+◌, ◌≤◌, ◌<◌, List}
use Rattle.model.specs.Text.{Bytes}
use Rattle.model.specs.Kind.{Sort, pattern_part}
use Rattle.model.specs.Tree.{Tree, Trees, to_list, fold, fold_of}
use Rattle.model.specs.Lower.{Lowering, Lowered, made, lower_parts}
use Rattle.words.specs.Held.{Held, HeldOf, size, size_of}
use Rattle.lower.specs.Side.{side}
use Rattle.lower.specs.Rep.{State, Mem, Written, Blank, Rep, Rooted, Moved}

-- parts one after another; the last one's root counts
abbrev pub parts_l : {n : ℕ} → Trees pattern_part n → Lowering ℕ
parts_l {n} ts = λ s. lower_parts (to_list n (fold_of Lowered made ts)) s

abbrev pub part_l : Tree pattern_part → Lowering ℕ
part_l t = λ s. fold Lowered made t s

pub record SomeTrees (a b : List ℕ) (s : Sort) (n d i : ℕ) : Type 0 where
  pub sheet : Bytes
  pub trees : Trees s n
  pub held : HeldOf sheet a b trees d i

-- the n parts behind record i are lowered, and k is the root
pub record LowersParts (a b : List ℕ) (n d base i e k : ℕ) (m m' : Mem) : Type 0 where
  pub moved : Moved i e m m'
  pub since : m.ctx.ops ≤ k
  pub low : k < m'.ctx.ops
  pub next : (sheet : Bytes) (ts : Trees pattern_part n) → HeldOf sheet a b ts d (i + 1) → e ≡ i + 1 + size_of ts
  pub run : (sheet : Bytes) {first : ℕ} (ts : Trees pattern_part n) → HeldOf sheet a b ts d (i + 1) → (W : Written) (s : State) → Rep (side sheet a b first) W s m → Blank W (base + suc (i + 1)) (base + suc e) → Rooted (side sheet a b first) W (parts_l ts) k base (suc (i + 1)) (suc e) s m m'

pub record LowersPart (a b : List ℕ) (d base i e k : ℕ) (m m' : Mem) : Type 0 where
  pub moved : Moved i e m m'
  pub since : m.ctx.ops ≤ k
  pub low : k < m'.ctx.ops
  pub next : (sheet : Bytes) (t : Tree pattern_part) → Held sheet a b t d i → e ≡ i + size t
  pub run : (sheet : Bytes) {first : ℕ} (t : Tree pattern_part) → Held sheet a b t d i → (W : Written) (s : State) → Rep (side sheet a b first) W s m → Blank W (base + suc i) (base + suc e) → Rooted (side sheet a b first) W (part_l t) k base (suc i) (suc e) s m m'
