-- `clauses::reading::lower_yields` meets its contract.
use Rattle.std.specs.Prelude.{ℕ, ◌-◌, List}
use Rattle.lower.specs.Rep.{mem}
use Rattle.clauses.specs.Steps.{LowersYields}
use Rattle.clauses.proofs.Yields
use Rattle.clauses.proofs.reading.lower_yields.Given as goal

abbrev pub invariant-loop-at : goal.invariant-loop-at
invariant-loop-at l = Yields.Remaining l.r.a.now l.r.b.now (λ e c' rest'. (os : List ℕ) → LowersYields l.r.a.now l.r.b.now l.n l.fn.from.next e (mem l.fn.from.ctx os l.initial.rest) (mem c' os rest')) (l.next - l.at) l.at l.cur l.rest
