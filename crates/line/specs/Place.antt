-- Places in a sheet: the pieces of a line that are left from a place on, and where the first of them ends. Assumes nothing: these are definitions.
use Rattle.std.specs.Prelude.{◌≡◌, ℕ, ◌≤◌, ◌<◌, cond, List, [], ltb, length, get_or}
use Rattle.model.specs.Call.{max_bytes}
use Rattle.std.proofs.Math.Seq.{slice}
use Rattle.model.specs.Text.{Bytes, tab}
use Rattle.laws.specs.TextLaws.{Free}
use Rattle.record.specs.Place.{Fed}
use Rattle.words.specs.Words.{pieces_of}

-- place p is in a line of a sheet, which is so short that its places are words
pub record InLine (sheet : Bytes) (p : ℕ) : Type 0 where
  pub fed : Fed sheet p
  pub short : length sheet ≤ max_bytes

-- the pieces from place p on of a line that ends before place e; none if p is behind e
unfoldable pub pieces_at : Bytes → ℕ → ℕ → List Bytes
pieces_at sheet p e = cond (ltb e p) [] (pieces_of (slice p e sheet))

-- the first piece from p on ends before r: at a tab, or at the line's end
pub record PieceAt (sheet : Bytes) (p e r : ℕ) : Type 0 where
  pub from : p ≤ r
  pub to : r ≤ e
  pub free : Free tab (slice p r sheet)
  pub stop : r < e → get_or sheet r 0 ≡ tab
