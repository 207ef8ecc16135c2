-- `clauses::lower_turns` meets its contract.
use Rattle.std.specs.Prelude.{◌-◌}
use Rattle.context.specs.Lent.{SameTables}
use Rattle.lower.specs.Rep.{in_tables}
use Rattle.clauses.specs.Turns.{LowersTurns}
use Rattle.clauses.proofs.Turning
use Rattle.clauses.proofs.lower_turns.Given as goal

abbrev pub invariant-loop : goal.invariant-loop
invariant-loop g l =
    Turning.Remaining
    g.T.InTurn.sort
    g.T.InTurn.turn
    l.sheet
    l.r.a.now
    l.r.b.now
    l.left
    (λ e o m'. LowersTurns g.T.InTurn.sort g.T.InTurn.turn l.sheet l.r.a.now l.r.b.now l.n l.left l.initial.cur.next e l.initial.cur.op o (in_tables l.initial.cur.ctx l.initial.tables) m')
    (l.n - l.counter)
    l.cur.next
    l.cur.op
    (in_tables l.cur.ctx l.tables)
    × SameTables l.initial.tables l.tables
