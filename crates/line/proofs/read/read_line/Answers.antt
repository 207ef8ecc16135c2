-- `line::read::read_line` meets its contract: the keyword, then the fields. Assumes nothing.
use lib.ListN.{length-set}
use Rattle.line.proofs.PlaceLaws.{fed_at}
use Rattle.words.specs.Sorts.{sort_low}
use Rattle.line.proofs.LineLaws.{line_keyless, line_unnamed, fields_long, line_got, line_not}
use Rattle.line.proofs.read.read_line.Goals as goal

pub returns-in_err-key : goal.returns-in_err-key
returns-in_err-key c = rw c.from_residual.ensures (line_keyless _ _ _ (sort_low c.args.sort) _ c.in_err-key.was c.read_keyword-key.ensures _ c.requires)

pub returns-in_err-k : goal.returns-in_err-k
returns-in_err-k c = rw c.from_residual-in_err-k.ensures (line_unnamed _ _ _ _ (sort_low c.args.sort) c.read_keyword-key.ensures.ends _ (c.kind_named.ensures _ (rw c.in_ok-key.was at c.read_keyword-key.ensures.packed)) c.in_err-k.was _ c.requires)

pub invariant_of-fields : goal.invariant_of-fields
invariant_of-fields c = record { fed = fed_at _ _ _ c.args.p.cursor.fed c.read_keyword-key.ensures.ends }

pub read_fields-requires : goal.read_fields-requires
read_fields-requires c = record { stop = c.read_keyword-key.ensures.ends.stop; words = rw (length-set, length-set) c.requires }

pub returns-in_err-e : goal.returns-in_err-e
returns-in_err-e c = rw c.from_residual-in_err-e.ensures (line_not _ _ _ _ (sort_low c.args.sort) c.read_keyword-key.ensures.ends _ (c.kind_named.ensures _ (rw c.in_ok-key.was at c.read_keyword-key.ensures.packed)) _ c.in_ok-k.was c.args.part.now _ c.requires _ c.read_fields.ensures c.in_err-e.was)

pub children_of-requires : goal.children_of-requires
children_of-requires c = fields_long _ _ _ _ c.args.p.cursor.fed c.read_keyword-key.ensures.ends _ _ _ c.read_fields.ensures

pub returns : goal.returns
returns c = line_got _ _ _ _ (sort_low c.args.sort) c.read_keyword-key.ensures.ends _ (c.kind_named.ensures _ (rw c.in_ok-key.was at c.read_keyword-key.ensures.packed)) _ c.in_ok-k.was c.args.part.now _ c.requires _ c.read_fields.ensures _ c.in_ok-e.was _ c.children_of.ensures
