-- Where the count of a group of children stands. Assumes nothing: these are definitions.
use Rattle.std.specs.Prelude.{◌≡◌, ℕ, ◌<◌, List, get_or}
use Rattle.words.specs.Words.{record_words}
use Rattle.words.specs.Table.{group_source, count_of}
use Rattle.line.specs.declared.group.Counted.{Counted}

-- the count, by the words of a record
abbrev pub count_by : List ℕ → Counted → ℕ
count_by ws (Counted.Fixed n) = n
count_by ws (Counted.InWord c) = get_or ws c 0

-- a word that has it is one of the record's
abbrev pub OfRecord : Counted → Type 0
OfRecord (Counted.Fixed n) = Unit {0}
OfRecord (Counted.InWord c) = c < record_words

-- the count of group g of every record of kind n stands there
pub record CountedAt (n g : ℕ) (r : Counted) : Type 0 where
  pub is : (ws : List ℕ) → count_by ws r ≡ count_of ws (group_source n g)
  pub among : OfRecord r
