-- `projections::items::split_projections_agg` meets its contract.
use Rattle.std.specs.Prelude.{◌-◌}
use Rattle.context.specs.Lent.{SameTables}
use Rattle.lower.specs.Rep.{in_tables}
use Rattle.projections.specs.Promises.{LowersSplit}
use Rattle.projections.proofs.PartLaws
use Rattle.projections.proofs.items.split_projections_agg.Given as goal

abbrev pub invariant-loop : goal.invariant-loop
invariant-loop l = PartLaws.Remaining l.sheet l.r.a.now l.r.b.now l.n l.at.left (λ e g m'. LowersSplit l.sheet l.r.a.now l.r.b.now l.n l.at.left l.at.i e g (in_tables l.initial.cur.ctx l.initial.tables) m') (l.n - l.counter) l.cur.next l.aggs (in_tables l.cur.ctx l.tables) × SameTables l.initial.tables l.tables
