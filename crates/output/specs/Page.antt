-- What putting a text into a page does to it. Assumes nothing: these are definitions.
use Rattle.std.specs.Prelude.{◌≡◌, ℕ, ◌+◌, ◌<◌, ◌≤◌, min, length}
use Rattle.std.specs.Borrow.{MutBor}
use Rattle.std.proofs.lemmas.List.Edits.{sets}
use Rattle.model.specs.Text.{Bytes}
use Rattle.output.specs.declared.Page.{Page}

-- the page of a lent slice and a cursor in it
abbrev pub on : MutBor Bytes → ℕ → Page
on p o = record { bytes = p; out = o }

-- the largest cursor, which stands for itself and all that is more
abbrev pub most : ℕ
most = 18446744073709551615

-- n bytes more are inside the slice
pub record Fits (n : ℕ) (g : Page) : Type 0 where
  pub inside : g.out + n ≤ length g.bytes.now
  pub small : g.out + n < most

-- the contract of every writer, by which the text t takes the page g to g': the slice is the same and as long; the cursor goes on by the text's length, up to `most`, and a text that fits is stored. What one that does not fit leaves inside the slice is not promised.
pub record Puts (t : Bytes) (g g' : Page) : Type 0 where
  pub same : g'.bytes.ghost_name ≡ g.bytes.ghost_name
  pub long : length g'.bytes.now ≡ length g.bytes.now
  pub moved : min g'.out most ≡ min (g.out + length t) most
  pub stored : Fits (length t) g → g'.bytes.now ≡ sets g.bytes.now g.out t
