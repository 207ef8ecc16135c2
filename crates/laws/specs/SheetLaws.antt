-- A sheet is read as a tree exactly if it is the spelling of the tree's records, these fit and are not too many, and the tree is not too deep. Assumes nothing: each law is proved.
use Rattle.std.specs.Prelude.{◌≡◌, ◌↔◌, List, [], ◌∷◌, ℕ, suc, ◌≤◌, length}
use Rattle.std.proofs.Common.{sym, ◌∙◌, ap, append-nil, arith}
use Rattle.model.specs.Text.{Bytes, split, behind, join, line_feed}
use Rattle.model.specs.Kind.{statement}
use Rattle.model.specs.Record.{spell_recs}
use Rattle.model.specs.Tree.{Tree, records}
use Rattle.model.specs.Sheet.{max_lines, Place, got, then_read, at_end, read_sheet}
use Rattle.laws.specs.TextLaws.{Each, join_split}
use Rattle.laws.specs.RecordLaws.{Fits, join_ahead, lines_all, nothing}
use Rattle.laws.specs.TreeLaws.{depth, numbered}
use Rattle.laws.specs.ReadingLaws.{Yields, yields, refuses, got_value, yielded, then, TookTree, tree_takes}
use Rattle.laws.specs.SpelledLaws.{place, tree_got}

-- the sheet of a tree, which may be d deep
pub record WellFormed (d : ℕ) (sheet : Bytes) (t : Tree statement) : Type 0 where
  pub spelled : sheet ≡ spell_recs (records t)
  -- its lines are numbered from 1 on
  pub numbers : numbered t 1 ≡ t
  pub fit : Each Fits (records t)
  pub few : length (records t) ≤ max_lines
  pub deep : depth t ≤ d

-- behind its last line
abbrev pub ending : Tree statement → Place
ending t = place (suc (length (records t))) nothing

abbrev start : Bytes → Place
start sheet = place 1 (split line_feed sheet)

-- ── what is read is well-formed ──

taken : (d : ℕ) (sheet : Bytes) (t : Tree statement) (line : ℕ) → TookTree d (start sheet) t (place line nothing) → WellFormed d sheet t × (place line nothing ≡ ending t)
unfolding join behind
taken d sheet t line h =
    let r = h.took in
    let spelled : sheet ≡ spell_recs (records t) = sym (join_split line_feed sheet) ∙ ap (λ p. join line_feed p) r.lines ∙ join_ahead (records t) nothing ∙ append-nil (spell_recs (records t)) in
    let few : length (records t) ≤ max_lines = omega (arith, r.line, r.few (omega arith)) in
    (record { spelled = spelled; numbers = h.numbers; fit = r.fit; few = few; deep = h.depth }, ap (λ l. place l nothing) (omega (arith, r.line)))

-- nothing is left behind a tree that is read
at_end_law : (d : ℕ) (sheet : Bytes) (t : Tree statement) (line : ℕ) (text : Bytes) (more : List Bytes) → TookTree d (start sheet) t (record { line = line; text = text; more = more }) → Yields (λ u q. WellFormed d sheet u × (q ≡ ending u)) (at_end t line text more)
unfolding at_end
at_end_law d sheet t line [] [] h = yields (taken d sheet t line h)
at_end_law d sheet t line [] (m ∷ ms) h = refuses
at_end_law d sheet t line (b ∷ text) more h = refuses

pub sheet_sound : (d : ℕ) (sheet : Bytes) (t : Tree statement) (q : Place) → read_sheet d sheet ≡ got t q → WellFormed d sheet t × (q ≡ ending t)
unfolding read_sheet
sheet_sound d sheet t q e = yielded (λ u q. WellFormed d sheet u × (q ≡ ending u)) (then (tree_takes d statement (start sheet)) (λ u p h. at_end_law d sheet u p.line p.text p.more h)) t q e

-- ── what is well-formed is read ──

-- the records of any tree spell a sheet of the tree, numbered anew
pub spelled_got : (d : ℕ) (t : Tree statement) → Each Fits (records t) → length (records t) ≤ max_lines → depth t ≤ d → read_sheet d (spell_recs (records t)) ≡ got (numbered t 1) (ending t)
unfolding read_sheet then_read at_end
spelled_got d t fit few deep = rw (lines_all (records t), tree_got t d 1 nothing deep fit (omega arith)) (ap (λ l. got (numbered t 1) (place l nothing)) (omega arith))

pub sheet_complete : (d : ℕ) (sheet : Bytes) (t : Tree statement) → WellFormed d sheet t → read_sheet d sheet ≡ got t (ending t)
sheet_complete d sheet t w = ap (λ s. read_sheet d s) w.spelled ∙ spelled_got d t w.fit w.few w.deep ∙ ap (λ u. got u (ending t)) w.numbers

-- both at once
pub sheet_exact : (d : ℕ) (sheet : Bytes) (t : Tree statement) → (read_sheet d sheet ≡ got t (ending t)) ↔ WellFormed d sheet t
sheet_exact d sheet t = (λ e. (sheet_sound d sheet t (ending t) e).0, λ w. sheet_complete d sheet t w)

-- a sheet spells one tree
pub sheet_unique : (d : ℕ) (sheet : Bytes) (t u : Tree statement) → WellFormed d sheet t → WellFormed d sheet u → t ≡ u
sheet_unique d sheet t u v w = got_value (sym (sheet_complete d sheet t v) ∙ sheet_complete d sheet u w)
