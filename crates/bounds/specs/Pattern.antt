-- Patterns, out of what was made of their elements: a chain, a special shortest part, the parts of a match. Assumes nothing: these are definitions; the lemmas are in proofs/Pattern.
use Rattle.std.specs.Prelude.{ℕ, suc, ◌+◌, ◌*◌, ◌≤◌, List, [], ◌∷◌, Option, None, Some}
use Rattle.model.specs.Lower.{Recs, Lowering}
use Rattle.model.specs.Lower.{Props, NodeStep, RelStep, Step, of_node, of_rel, Chain, root_of}
use Rattle.bounds.specs.Earlier.{Low}
use Rattle.bounds.specs.Bounded.{Post, Bounded, Lows, Before}

-- what is made of w records of a pattern or an expression adds at most two operators and one number for each
pub record Cheap {A : Type 0} (P : Post A) (w : ℕ) (m : Lowering A) : Type 0 where
  pub from : (n : ℕ) → Bounded n P (2 * w) w m

-- things made of at most w records in all
pub data Each {A : Type 0} (P : ℕ → A → Type 0) : ℕ → List A → Type 0 where
  []ˢ : {w : ℕ} → Each P w []
  each : {u v w : ℕ} {a : A} {l : List A} → u + v ≤ w → P u a → Each P v l → Each P w (a ∷ l)

-- ── elements ──

pub data PropsOf (w : ℕ) : Props → Type 0 where
  without : PropsOf w None
  with : {m : Lowering Recs} → Cheap Lows w m → PropsOf w (Some m)

pub record NodeOf (w : ℕ) (s : NodeStep) : Type 0 where
  pub below : ℕ
  pub room : suc below ≤ w
  pub labels : Low 0 s.labels
  pub props : PropsOf below s.props

pub record RelOf (w : ℕ) (s : RelStep) : Type 0 where
  pub below : ℕ
  pub room : suc below ≤ w
  pub types : Low 0 s.types
  pub props : PropsOf below s.props

pub data StepOf (w : ℕ) : Step → Type 0 where
  is_node : {s : NodeStep} → NodeOf w s → StepOf w (of_node s)
  is_rel : {s : RelStep} → RelOf w s → StepOf w (of_rel s)

-- ── chains ──

pub data PendingOf (w : ℕ) : Option RelStep → Type 0 where
  no_rel : PendingOf w None
  waits : {r : RelStep} → RelOf w r → PendingOf w (Some r)

-- a chain whose last operator is below n, with a rel of w records waiting
pub record ChainOf (n w : ℕ) (c : Chain) : Type 0 where
  pub last : Before n (root_of c.last)
  pub pending : PendingOf w c.pending
