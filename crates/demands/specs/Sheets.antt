-- What the demands call a sheet: the words of document 01's section on refusals. Assumes nothing: these are definitions, and laws with their proofs.
use Rattle.std.specs.Prelude.{◌≡◌, ℕ, ◌≤◌, false, List, length, None}
use Rattle.std.proofs.Common.{◌∙◌, le-ltb}
use Rattle.model.specs.Text.{Bytes}
use Rattle.model.specs.Kind.{statement}
use Rattle.model.specs.Tree.{Tree}
use Rattle.model.specs.Sheet.{Place, got, read_sheet, first_write}
use Rattle.model.specs.Check.{precheck_statement}
use Rattle.model.specs.Refusal.{Answer}
use Rattle.model.specs.Call.{short, then, test_work, test_bytes, test_reading, test_write, test_check, checked, max_bytes, max_depth}

-- well-formed: the sheet passes the tests 2 to 4, and t is its tree
pub record WellFormed (sheet : Bytes) (t : Tree statement) : Type 0 where
  pub bytes : length sheet ≤ max_bytes
  pub behind : Place
  pub reads : read_sheet max_depth sheet ≡ got t behind

-- read-only: it passes the test 5
abbrev pub ReadOnly : Tree statement → Type 0
ReadOnly t = first_write t ≡ None

-- each work slice has at least 16,384 words
abbrev pub LongWork : List ℕ → Type 0
LongWork work = short work ≡ false

abbrev pub answer : (number line start end kind length : ℕ) → Answer
answer n l s e k m = record { number = n; line = l; start = s; end = e; kind = k; length = m }

-- what the tests 1 to 4 leave of a call with a well-formed sheet, and what test 5 leaves of one that is read-only too
pub checked_from : (work : List ℕ) {sheet : Bytes} {t : Tree statement} → LongWork work → WellFormed sheet t → checked max_depth work sheet ≡ then (test_write t (first_write t)) λ u. test_check u (precheck_statement u)
unfolding checked then test_work test_bytes test_reading
checked_from work {sheet} w h = rw (w, le-ltb max_bytes (length sheet) h.bytes, h.reads)

pub checked_is : (work : List ℕ) {sheet : Bytes} {t : Tree statement} → LongWork work → WellFormed sheet t → ReadOnly t → checked max_depth work sheet ≡ test_check t (precheck_statement t)
unfolding then test_write
checked_is work w h r = checked_from work w h ∙ rw r
