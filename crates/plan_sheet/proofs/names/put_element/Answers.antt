-- `put_element` meets its contract. Assumes nothing.
use Rattle.plan_sheet.proofs.NameLaws
use mathlib.Core.Path.{sym, ◌∙◌}
use Rattle.plan_sheet.proofs.names.put_element.Goals as goal

pub returns-then-kind-eq-NODE : goal.returns-then-kind-eq-NODE
returns-then-kind-eq-NODE c = λ h. rw (NameLaws.node_line c.args.r.records.now.roomy h (sym c.kind-kind.ensures ∙ c.if-kind-eq-NODE.true)) c.put_node.ensures

pub put_rel-requires : goal.put_rel-requires
put_rel-requires c = NameLaws.rel_in c.args.r.records.now.roomy c.requires (λ e. c.if-kind-eq-NODE.false (c.kind-kind.ensures ∙ e))

pub returns : goal.returns
returns c = λ h. rw (NameLaws.rel_line c.args.r.records.now.roomy h (λ e. c.if-kind-eq-NODE.false (c.kind-kind.ensures ∙ e))) c.put_rel.ensures
