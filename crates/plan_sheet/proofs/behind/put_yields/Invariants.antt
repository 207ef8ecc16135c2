-- `put_yields` meets its contract. Assumes nothing.
use Prim.Native.Nat.{◌-◌}
use Rattle.plan_sheet.proofs.BehindLaws
use Rattle.plan_sheet.proofs.behind.put_yields.Given as goal

abbrev pub invariant-loop-at : goal.invariant-loop-at
invariant-loop-at l = BehindLaws.YieldsGoing l.sheet l.r.a.now l.r.b.now l.rest l.base l.n l.i l.initial.page (l.end - l.at) l.at l.page
