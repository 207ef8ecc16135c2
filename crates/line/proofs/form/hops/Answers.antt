-- `line::form::hops` meets its contract. Assumes nothing.
use Rattle.line.proofs.PlaceLaws.{fed_behind}
use Rattle.line.proofs.FormLaws.{hops_first, hops_second, hops_is, hops_not}
use Rattle.line.proofs.form.hops.Goals as goal

pub returns-then-sheet-r-ne9 : goal.returns-then-sheet-r-ne9
returns-then-sheet-r-ne9 c = hops_first _ _ _ c.piece_end-r.ensures c.if-sheet-r-ne9.true

pub invariant_of-piece_end : goal.invariant_of-piece_end
invariant_of-piece_end c = record { fed = fed_behind _ _ _ c.args.p.cursor.fed c.piece_end-r.ensures c.if-sheet-r-ne9.false }

pub returns-then-sheet-t-ne9 : goal.returns-then-sheet-t-ne9
returns-then-sheet-t-ne9 c = hops_second _ _ _ c.piece_end-r.ensures c.if-sheet-r-ne9.false _ c.piece_end-t.ensures c.if-sheet-t-ne9.true

pub invariant_of-piece_end-2 : goal.invariant_of-piece_end-2
invariant_of-piece_end-2 c = record { fed = fed_behind _ _ _ (fed_behind _ _ _ c.args.p.cursor.fed c.piece_end-r.ensures c.if-sheet-r-ne9.false) c.piece_end-t.ensures c.if-sheet-t-ne9.false }

pub returns-then-not-length : goal.returns-then-not-length
returns-then-not-length c = hops_not _ _ _ c.piece_end-r.ensures c.if-sheet-r-ne9.false _ c.piece_end-t.ensures c.if-sheet-t-ne9.false _ c.piece_end-end.ensures _ c.length.ensures c.if-not-length.true

pub returns : goal.returns
returns c = hops_is _ _ _ c.piece_end-r.ensures c.if-sheet-r-ne9.false _ c.piece_end-t.ensures c.if-sheet-t-ne9.false _ c.piece_end-end.ensures _ c.length.ensures c.if-not-length.false
