-- `projections::trailers::lower_trailers` meets its contract.
use Rattle.projections.proofs.TrailerLaws.{keys_asked, skip_asked, limit_asked, limit_fits, limit_pushes, trailers_law}
use Rattle.projections.proofs.trailers.lower_trailers.Goals as goal

pub lower_items-s-requires : goal.lower_items-s-requires
lower_items-s-requires c = keys_asked c.requires c.count-keys.ensures.0

pub lower_exprs-t-requires : goal.lower_exprs-t-requires
lower_exprs-t-requires c = skip_asked c.requires c.count-keys.ensures.0 c.lower_items-s.ensures.lowered c.order_by-x.ensures c.push_if-p.ensures c.count-skip.ensures.0

pub lower_exprs-u-requires : goal.lower_exprs-u-requires
lower_exprs-u-requires c =
    let k = c.count-keys.ensures.0 in
    limit_asked c.requires k c.lower_items-s.ensures.lowered c.order_by-x.ensures c.push_if-p.ensures c.count-skip.ensures.0 c.lower_exprs-t.ensures.lowered c.over-y.ensures c.push_if-q.ensures c.count-limit.ensures.0

pub over-z-requires : goal.over-z-requires
over-z-requires c =
    let k = c.count-keys.ensures.0 in
    limit_fits c.requires k c.lower_items-s.ensures.lowered c.order_by-x.ensures c.push_if-p.ensures c.count-skip.ensures.0 c.lower_exprs-t.ensures.lowered c.over-y.ensures c.push_if-q.ensures

pub push_if-requires : goal.push_if-requires
push_if-requires c =
    let k = c.count-keys.ensures.0 in
    limit_pushes c.requires k c.lower_items-s.ensures.lowered c.order_by-x.ensures c.push_if-p.ensures c.count-skip.ensures.0 c.lower_exprs-t.ensures.lowered c.over-y.ensures c.push_if-q.ensures c.count-limit.ensures.0 c.lower_exprs-u.ensures.lowered

pub returns-clause-lowered : goal.returns-clause-lowered
returns-clause-lowered c =
    let k = c.count-keys.ensures.0 in
    let n = c.count-limit.ensures.0 in
    trailers_law c.requires k c.lower_items-s.ensures.lowered c.order_by-x.ensures c.push_if-p.ensures c.count-skip.ensures.0 c.lower_exprs-t.ensures.lowered c.over-y.ensures c.push_if-q.ensures n c.lower_exprs-u.ensures.lowered c.over-z.ensures c.push_if.ensures
