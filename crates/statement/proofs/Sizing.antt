-- The figure of the sizing call lies within the bounds that its contract states. Assumes nothing.
use Rattle.std.specs.Prelude.{◌≡◌, ℕ, false, List, Ok}
use Rattle.std.proofs.Common.{arith}
use Rattle.model.specs.Kind.{statement}
use Rattle.model.specs.Tree.{Tree}
use Rattle.model.specs.Refusal.{accepted}
use Rattle.model.specs.Text.{Bytes}
use Rattle.model.specs.Check.{precheck_statement}
use Rattle.model.specs.Call.{short, test_check, checked, max_depth, Sized, figure, Figure, record_count}
use Rattle.bounds.proofs.Counts as Counts
use Rattle.precheck.specs.Answer.{Says}
use Rattle.statement.specs.Tests.{Passes, tree_passes}
use Rattle.statement.specs.Sizing.{figure_of, size_passed}

fits : (t : Tree statement) (n : ℕ) → record_count t ≡ n → Figure t (figure_of n)
fits t n k = let f = Counts.figure t in record { enough = omega (arith, f.enough); few = omega arith }

-- of any tree that the check passes, also of one that no sheet has
pub check_fine : (t : Tree statement) (n : ℕ) → Says (Ok tt) (precheck_statement t) → record_count t ≡ n → Sized (test_check t (precheck_statement t)) (accepted (figure_of n))
check_fine t n s k = rw (tree_passes t s) (figure (fits t n k))

pub size_fine : (work : List ℕ) {sheet : Bytes} {a b : List ℕ} {n : ℕ} → short work ≡ false → Passes sheet a b n → Sized (checked max_depth work sheet) (accepted (figure_of n))
size_fine work {sheet} {n = n} e p = size_passed work sheet e p.tree (accepted (figure_of n)) p.is (figure (fits p.tree n p.count))
