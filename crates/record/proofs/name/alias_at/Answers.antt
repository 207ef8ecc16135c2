-- `record::name::alias_at` meets its contract: a dash, or an equals sign and what `text_at` answers. Assumes nothing.
use native.Mathlib.Omega.{arith}
use mathlib.Core.Path.{refl, sym, ◌∙◌}
use Rattle.record.proofs.PlaceLaws.{dash_some, dash_none}
use Rattle.record.proofs.NameLaws.{alias_absent, alias_spare, alias_neither, alias_name, alias_bad}
use Rattle.record.proofs.name.alias_at.Goals as goal

pub returns-in_err-end-in-61 : goal.returns-in_err-end-in-61
returns-in_err-end-in-61 c = rw c.from_residual-in_err-end-in-61.ensures (alias_bad _ _ c.args.c.fed c.in-61.is _ c.text_at.ensures c.in_err-end-in-61.was)

pub returns-in_ok-end-in-45 : goal.returns-in_ok-end-in-45
returns-in_ok-end-in-45 c =
    let h = dash_some (sym c.dash_end.ensures ∙ c.in_ok-end-in-45.was) in
    rw h.1 (alias_absent _ _ c.args.c.fed c.in-45.is _ refl h.0)

pub returns-in_err-end-in-45 : goal.returns-in_err-end-in-45
returns-in_err-end-in-45 c = rw c.from_residual.ensures (alias_spare _ _ c.args.c.fed c.in-45.is _ refl (dash_none _ (sym c.dash_end.ensures ∙ c.in_err-end-in-45.was)))

pub returns-in_ok-end-in-61 : goal.returns-in_ok-end-in-61
returns-in_ok-end-in-61 c = alias_name _ _ c.args.c.fed c.in-61.is _ c.text_at.ensures _ c.in_ok-end-in-61.was

pub returns-in_default : goal.returns-in_default
returns-in_default c = alias_neither _ _ c.args.c.fed (λ h. omega arith) (λ h. omega arith)
