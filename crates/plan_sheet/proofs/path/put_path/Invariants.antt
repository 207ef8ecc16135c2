-- `put_path` meets its contract. Assumes nothing.
use Prim.Native.Nat.{◌-◌}
use Rattle.plan_sheet.proofs.PathLaws
use Rattle.plan_sheet.proofs.path.put_path.Given as goal

abbrev pub invariant-loop : goal.invariant-loop
invariant-loop l = PathLaws.Walking l.sheet l.r.a.now l.r.b.now l.rest l.base l.n l.i l.initial.page (l.n - l.counter) l.at l.path l.page
