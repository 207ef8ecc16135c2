-- Where a tree stands: within the records, and with a depth left; and the numbers of a place fit into words. Assumes nothing.
use Rattle.std.specs.Prelude.{ℕ, ◌≤◌, ◌<◌, List}
use Rattle.std.proofs.Common.{arith}
use Rattle.model.specs.Text.{Bytes}
use Rattle.model.specs.Kind.{Sort}
use Rattle.model.specs.Tree.{Tree, node}
use Rattle.words.specs.Words.{max_records}
use Rattle.words.specs.Held.{Held}
use Rattle.context.specs.Tables.{second_pass, deepest}
use Rattle.context.specs.Ops.{Fits}
use Rattle.lower.specs.Rep.{at_place}
use Rattle.lower.specs.Pieces.{SomeTree}

deep_by : {s : Sort} (sheet : Bytes) (a b : List ℕ) (t : Tree s) (d i : ℕ) → Held sheet a b t d i → (i < max_records) × (1 ≤ d)
unfolding Held
deep_by sheet a b (node s line k f kids) d i h = (h.1.low, h.2)

pub tree_deep : (sheet : Bytes) (a b : List ℕ) {s : Sort} (t : Tree s) (d i : ℕ) → Held sheet a b t d i → 1 ≤ d
tree_deep sheet a b t d i h = (deep_by sheet a b t d i h).1

pub low : {a b : List ℕ} {s : Sort} {d i : ℕ} → SomeTree a b s d i → i < max_records
low {a} {b} {d = d} {i = i} x = (deep_by x.sheet a b x.tree d i x.held).0

pub deep : {a b : List ℕ} {s : Sort} {d i : ℕ} → SomeTree a b s d i → 1 ≤ d
deep {a} {b} {d = d} {i = i} x = (deep_by x.sheet a b x.tree d i x.held).1

pub fits : {base i d : ℕ} → base ≤ second_pass → i ≤ max_records → d ≤ deepest → Fits (at_place base i d)
fits lb li ld = record { base = omega arith; i = omega arith; left = omega arith }
