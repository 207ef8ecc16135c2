-- The work slices of a call. Assumes nothing: these are definitions.
use Rattle.std.specs.Prelude.{◌≡◌, List, [], ◌∷◌, ℕ, length}
use Rattle.std.specs.Borrow.{MutBor}
use Rattle.statement.specs.declared.work.Work.{Work}

-- the lengths of four slices
abbrev pub sizes : (a b c d : List ℕ) → List ℕ
sizes a b c d = length a ∷ length b ∷ length c ∷ length d ∷ []

-- of a work's slices
abbrev pub lengths : Work → List ℕ
lengths w = sizes w.a.now w.b.now w.c.now w.d.now

-- the same lent slice, as long as before
pub record SameSlice (s s' : MutBor (List ℕ)) : Type 0 where
  pub same : s'.ghost_name ≡ s.ghost_name
  pub long : length s'.now ≡ length s.now

-- what a call leaves of the work that it is lent: the same four slices, each as long as before, so that the next call may be lent it. What words they hold is not promised.
pub record Kept (w w' : Work) : Type 0 where
  pub a : SameSlice w.a w'.a
  pub b : SameSlice w.b w'.b
  pub c : SameSlice w.c w'.c
  pub d : SameSlice w.d w'.d
