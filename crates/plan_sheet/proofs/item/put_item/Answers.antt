-- `put_item` meets its contract. Assumes nothing.
use Rattle.plan_sheet.proofs.ItemLaws
use mathlib.Core.Path.{sym, ◌∙◌}
use Rattle.plan_sheet.proofs.item.put_item.Goals as goal

pub put_own_name-requires : goal.put_own_name-requires
put_own_name-requires c = ItemLaws.alias_in_law c.args.r.records.now.roomy c.requires (λ e. c.if-alias-ne0.true (c.word-alias.ensures ∙ e))

pub returns-then-alias-ne0 : goal.returns-then-alias-ne0
returns-then-alias-ne0 c =
    λ h.
    rw
    (ItemLaws.alias_named c.args.r.records.now.roomy h (λ e. c.if-alias-ne0.true (c.word-alias.ensures ∙ e)))
    c.put_own_name.ensures

pub returns : goal.returns
returns c =
    λ h.
    rw
    (ItemLaws.plain_named c.args.r.records.now.roomy h (sym c.word-alias.ensures ∙ c.if-alias-ne0.false))
    (c.put_synthesised.ensures h.expr)
