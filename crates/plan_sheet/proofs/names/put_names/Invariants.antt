-- `put_names` meets its contract. Assumes nothing.
use Prim.Native.Nat.{◌-◌}
use Rattle.plan_sheet.proofs.NameLaws
use Rattle.plan_sheet.proofs.names.put_names.Given as goal

abbrev pub invariant-loop-at : goal.invariant-loop-at
invariant-loop-at l = NameLaws.NamesGoing l.sheet l.r.a.now l.r.b.now l.n l.i l.initial.page (l.next - l.at) l.at l.page
