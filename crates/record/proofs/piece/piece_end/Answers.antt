-- `record::piece::piece_end` meets its contract: the first separator of what is behind the place ends the piece. Assumes nothing.
use Rattle.record.proofs.PlaceLaws.{first_ends, first_none}
use Rattle.record.proofs.piece.piece_end.Goals as goal

pub returns-in-Some : goal.returns-in-Some
returns-in-Some c = first_ends _ _ c.args.c.fed (rw c.in-Some.is at c.piece_len.ensures)

pub returns-in-None : goal.returns-in-None
returns-in-None c = absurd (first_none _ _ c.args.c.fed (rw c.in-None.is at c.piece_len.ensures))
