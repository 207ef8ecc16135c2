-- `write_ops` meets its contract. Assumes nothing.
use Rattle.plan_writer.proofs.WholeLaws
use Rattle.plan_writer.proofs.write_ops.Given as goal

abbrev pub invariant-loop-k : goal.invariant-loop-k
invariant-loop-k l = WholeLaws.Writing l.s.sheet.now l.s.records.a.now l.s.records.b.now l.s.ops.now l.s.rest.now l.first l.end l.initial.page l.k l.page
