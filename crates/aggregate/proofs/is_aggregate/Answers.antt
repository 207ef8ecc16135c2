-- `aggregate::is_aggregate` meets its contract. An answer names a place by its type, and `search` finds the way back to it. Assumes nothing.
use Rattle.std.proofs.Common.{sym, ◌∙◌}
use Rattle.aggregate.proofs.CallLaws.{no_call, call_place, call_is}
use Rattle.aggregate.proofs.is_aggregate.Goals as goal

pub returns-then-kind-ne-FN : goal.returns-then-kind-ne-FN
returns-then-kind-ne-FN c = no_call _ _ _ _ c.args.r.records.now.roomy (λ e. c.if-kind-ne-FN.true (c.kind-kind.ensures ∙ e))

pub is_aggregate_func-requires : goal.is_aggregate_func-requires
is_aggregate_func-requires c = call_place _ _ _ _ c.args.r.records.now.roomy _ _ (sym c.kind-kind.ensures ∙ c.if-kind-ne-FN.false) c.count-from.ensures.0 c.count-to.ensures.0 c.requires

pub returns : goal.returns
returns c = call_is _ _ _ _ c.args.r.records.now.roomy _ _ (sym c.kind-kind.ensures ∙ c.if-kind-ne-FN.false) c.count-from.ensures.0 c.count-to.ensures.0 _ c.is_aggregate_func.ensures
