-- `lines_end` meets its contract. Assumes nothing.
use mathlib.Core.Path.{◌≡◌}
use Prim.Native.Nat.{◌+◌}
use borrow.Author.Rules.{rules}
use Rattle.std.specs.Prelude.{MatchOption}
use Rattle.sheet.specs.LineLaws.{lines_end_law}
use Rattle.sheet.proofs.reader.lines_end.Goals as goal

pub returns : goal.returns
returns c =
    let behind : MatchOption c.last_feed.result (c.map_or.result ≡ 0) (λ z. c.map_or.result ≡ z + 1) = search rules in
    lines_end_law _ _ _ c.last_feed.ensures behind
