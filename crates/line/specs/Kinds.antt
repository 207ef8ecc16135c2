-- What a keyword names, as the number of a kind. Assumes nothing: these are definitions.
use Rattle.std.specs.Prelude.{◌≡◌, ℕ, zero, suc, ◌+◌, ◌-◌, true, cond, eqb, get_or, Option, None, Some}
use Rattle.std.proofs.Math.Seq.{slice}
use Rattle.model.specs.Text.{Bytes, same}
use Rattle.model.specs.Kind.{Sort, Kind}
use Rattle.model.specs.Record.{kinds, kind_named}
use Rattle.record.specs.Place.{Ends}
use Rattle.words.specs.Words.{kind_of}
use Rattle.words.specs.Table.{packed, first, keys}
use Rattle.words.specs.TableLaws.{short}
use Rattle.line.specs.declared.kind.Keyword.{Keyword}

-- a number that tells a text from every short one
pub record Packed (s : Bytes) (n : ℕ) : Type 0 where
  pub tells : (w : Bytes) → short w ≡ true → eqb n (packed w) ≡ same s w

-- the number that tells a keyword, of its word: 0 where it is longer than every keyword
abbrev pub told : Option ℕ → ℕ
told (Some n) = n
told None = 0

-- the piece at place p ends where it is said to, and its text is told by its word
pub record KeywordAt (s : Bytes) (p : ℕ) (k : Keyword) : Type 0 where
  pub ends : Ends s p k.end
  pub packed : Packed (slice p k.end s) (told k.word)

-- the kind that an answer stands for
abbrev pub kind_found : (s : Sort) → Option ℕ → Option (Kind s)
kind_found s (Some n) = kind_of s n
kind_found s None = None

-- a number that is answered is one of the sort's kinds
abbrev pub Known : Option ℕ → (s : Sort) → Type 0
Known (Some n) s = (k : Kind s) × (kind_of s n ≡ Some k)
Known None s = Unit {0}

-- the answer is the kind that the definition finds
pub record Named (s : Sort) (w : Bytes) (r : Option ℕ) : Type 0 where
  pub is : kind_named s w (kinds s) ≡ kind_found s r
  pub known : Known r s

-- ── by the number of a keyword ──

-- the first of n kinds from kind k on whose keyword has a number
unfoldable pub keyed_from : (x k n : ℕ) → Option ℕ
keyed_from x k zero = None
keyed_from x k (suc n) = cond (eqb (get_or keys k 0) x) (Some k) (keyed_from x (k + 1) n)

-- among those of a sort
unfoldable pub keyed : (sort x : ℕ) → Option ℕ
keyed sort x = keyed_from x (get_or first sort 0) (get_or first (sort + 1) 0 - get_or first sort 0)
