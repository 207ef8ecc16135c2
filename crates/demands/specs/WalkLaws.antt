-- The check's verdict is the first faulty line of the sheet, with its span; and what such a verdict has. Assumes nothing: these are definitions; the laws are in proofs/WalkLaws.
use Rattle.std.proofs.Math.Path.{◌≡◌}
use Rattle.std.specs.Prelude.{ℕ, suc, ◌≤◌}
use mathlib.Core.List.{List, ◌∷◌}
use Rattle.model.specs.Text.{Bytes}
use Rattle.model.specs.Field.{Span}
use Rattle.model.specs.Kind.{Expr, expr}
use Rattle.model.specs.Record.{Rec, rec}
use Rattle.model.specs.Refusal.{Refusal}
use Rattle.model.specs.Check.{Verdict, fine, violated}
use Rattle.demands.specs.Walk.{Line, Fault, refusal_at, Meets}

-- ── what is found, if something is ──

-- the first fault of some lines that begin with line n
pub data Walked (n : ℕ) (ls : List Line) : Verdict → Type 0 where
  met_none : (Meets ls → ⊥) → Walked n ls fine
  met : (line : ℕ) (s : Span) (x : Fault) → Meets ls → n ≤ line → Walked n ls (violated (refusal_at line s x))

-- ── the name that is carried ──

-- of some lines that begin with line n, this one has the record r
pub data OnLine (r : Rec) (line : ℕ) : ℕ → List Line → Type 0 where
  this_line : {l : Line} {ls : List Line} → l.this ≡ r → OnLine r line line (l ∷ ls)
  later_line : {n : ℕ} {l : Line} {ls : List Line} → OnLine r line (suc n) ls → OnLine r line n (l ∷ ls)

module _ (outside : Span) (line : ℕ) (s : Span) (x : Bytes) where
  abbrev pub named_fault : Verdict
  named_fault = violated (Refusal.UnresolvedName line s x)

  -- the record of the line has the name
  abbrev pub Named : ℕ → List Line → Type 0
  Named n ls = OnLine (rec expr Expr.Unresolved (x, tt)) line n ls
