-- What the lowering of an expression, and of expressions one after another, promises. Assumes nothing: these are definitions.
use Rattle.std.specs.Prelude.{◌≡◌, ℕ, zero, suc, ◌+◌, List, [], ◌++◌}
use Rattle.model.specs.Text.{Bytes}
use Rattle.model.specs.Kind.{Sort, expr}
use Rattle.model.specs.Tree.{Tree}
use Rattle.model.specs.Lower.{Recs, Lowering, ◌>>=◌, ret, lower_expr}
use Rattle.words.specs.Held.{Held, size}
use Rattle.lower.specs.Side.{side}
use Rattle.lower.specs.Render.{Notes, Ops, render, Below}
use Rattle.lower.specs.Rep.{State, Mem, Written, Blank, Rep, Piece, Ran, Moved}

abbrev pub expr_piece : Tree expr → Piece
expr_piece t = record { lower = λ s. lower_expr t s; render = λ N A. render N A t; below = λ N lo k. Below N lo k t }

-- n expressions, each with the records that stand before it in the plan
pub data Carried : ℕ → Type 0 where
  []ᶜ : Carried zero
  ◌∷ᶜ◌ : {n : ℕ} → Recs × Tree expr → Carried n → Carried (suc n)

infixr 50 ◌∷ᶜ◌
unfoldable pub lower_c : {n : ℕ} → Carried n → Lowering Recs
lower_c []ᶜ = ret []
lower_c (c ∷ᶜ cs) = do
  rs ← lower_expr c.1
  ss ← lower_c cs
  ret ((c.0 ++ rs) ++ ss)

unfoldable pub render_c : Notes → Ops → {n : ℕ} → Carried n → Recs
render_c N A []ᶜ = []
render_c N A (c ∷ᶜ cs) = (c.0 ++ render N A c.1) ++ render_c N A cs

unfoldable pub BelowC : Notes → (lo hi : ℕ) → {n : ℕ} → Carried n → Type 0
BelowC N lo k []ᶜ = Unit {0}
BelowC N lo k (c ∷ᶜ cs) = Below N lo k c.1 × BelowC N lo k cs

-- each stands so many records behind the one before it
unfoldable pub size_c : ℕ → {n : ℕ} → Carried n → ℕ
size_c gap []ᶜ = 0
size_c gap (c ∷ᶜ cs) = gap + size c.1 + size_c gap cs

unfoldable pub HeldC : Bytes → (a b : List ℕ) (gap : ℕ) → {n : ℕ} → Carried n → (d i : ℕ) → Type 0
HeldC sheet a b gap []ᶜ d i = Unit {0}
HeldC sheet a b gap (c ∷ᶜ cs) d i = Held sheet a b c.1 d (i + gap) × HeldC sheet a b gap cs d (i + gap + size c.1)

abbrev pub carried_piece : {n : ℕ} → Carried n → Piece
carried_piece cs = record { lower = λ s. lower_c cs s; render = λ N A. render_c N A cs; below = λ N lo k. BelowC N lo k cs }

-- some tree of a sort is held
pub record SomeTree (a b : List ℕ) (s : Sort) (d i : ℕ) : Type 0 where
  pub sheet : Bytes
  pub tree : Tree s
  pub held : Held sheet a b tree d i

pub record SomeCarried (a b : List ℕ) (n gap d i : ℕ) : Type 0 where
  pub sheet : Bytes
  pub list : Carried n
  pub held : HeldC sheet a b gap list d i

-- the expression at record i is lowered, whichever it is, and e is the record behind it
pub record LowersExpr (a b : List ℕ) (d base i e : ℕ) (m m' : Mem) : Type 0 where
  pub moved : Moved i e m m'
  pub next : (sheet : Bytes) (t : Tree expr) → Held sheet a b t d i → e ≡ i + size t
  pub run : (sheet : Bytes) {first : ℕ} (t : Tree expr) → Held sheet a b t d i → (W : Written) (s : State) → Rep (side sheet a b first) W s m → Blank W (base + suc i) (base + suc e) → Ran (side sheet a b first) W (expr_piece t) base (suc i) (suc e) s m m'

-- n expressions from record i on
pub record LowersExprs (a b : List ℕ) (n gap d base i e : ℕ) (m m' : Mem) : Type 0 where
  pub moved : Moved i e m m'
  pub next : (sheet : Bytes) (cs : Carried n) → HeldC sheet a b gap cs d i → e ≡ i + size_c gap cs
  pub run : (sheet : Bytes) {first : ℕ} (cs : Carried n) → HeldC sheet a b gap cs d i → (W : Written) (s : State) → Rep (side sheet a b first) W s m → Blank W (base + suc i) (base + suc e) → Ran (side sheet a b first) W (carried_piece cs) base (suc i) (suc e) s m m'
