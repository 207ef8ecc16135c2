-- `write_vars` meets its contract. Assumes nothing.
use Rattle.plan_writer.proofs.WholeLaws
use Rattle.plan_writer.proofs.write_vars.Given as goal

abbrev pub invariant-loop-k : goal.invariant-loop-k
invariant-loop-k l = WholeLaws.Listing l.s.rest.now l.n l.initial.page l.k l.page
