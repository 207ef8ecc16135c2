-- `put_synthesised` meets its contract. Assumes nothing.
use Rattle.plan_sheet.proofs.HeadLaws
use Rattle.plan_sheet.proofs.ItemLaws
use mathlib.Core.Path.{sym, ◌∙◌}
use native.Mathlib.Omega.{arith}
use Rattle.std.proofs.lemmas.Bool.Decides.{nat_tests}
use Rattle.plan_sheet.proofs.item.put_synthesised.Goals as goal

pub put_own_name-requires : goal.put_own_name-requires
put_own_name-requires c = ItemLaws.own_in c.args.r.records.now.roomy c.requires (rw c.kind-kind.ensures at c.in-23.is)

pub returns-in-23 : goal.returns-in-23
returns-in-23 c =
    λ h.
    rw
    (ItemLaws.own_named c.args.r.records.now.roomy h (rw c.kind-kind.ensures at c.in-23.is))
    c.put_own_name.ensures

pub returns-in-32 : goal.returns-in-32
returns-in-32 c =
    λ h.
    rw
    (ItemLaws.id_named c.args.r.records.now.roomy h (sym c.kind-kind.ensures ∙ c.in-32.is))
    (rw c.word-id.ensures at c.put_id_name.ensures)

pub returns-in_default : goal.returns-in_default
returns-in_default c =
    λ h.
    rw
    (ItemLaws.none_named
    c.args.r.records.now.roomy
    h
    _
    c.kind-kind.ensures
    (HeadLaws.others c.kind-kind.result ItemLaws.named (grind (arith, nat_tests))))
    c.put_no_name.ensures
