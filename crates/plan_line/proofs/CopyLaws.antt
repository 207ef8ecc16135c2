-- A record's line by the two words that say where it stands. Assumes nothing: every law is proved.
use mathlib.Core.Path.{◌≡◌, sym, ◌∙◌}
use Prim.Native.Nat.{ℕ, ◌+◌, ◌-◌, ◌≤◌, ◌<◌}
use native.Mathlib.Omega.{arith}
use mathlib.Core.List.{List}
use lib.ListN.{length, get_or}
use lib.Seq.{slice, length-slice}
use Rattle.model.specs.Text.{Bytes}
use Rattle.model.specs.Record.{rec, spell_rec}
use Rattle.output.specs.declared.Page.{Page}
use Rattle.output.specs.Page.{Puts}
use Rattle.words.specs.Words.{cell, part, two32}
use Rattle.words.proofs.GroupLaws.{part_cell}
use Rattle.words.specs.Places.{line_start_at, line_end_at}
use Rattle.plan_line.specs.Copy.{SomeRecord, Copied, LineBytes, TextBytes}

module _ (a b : List ℕ) (i : ℕ) {x y : ℕ} (ex : x ≡ cell a b i line_start_at) (ey : y ≡ cell a b i line_end_at) where
  start_is : x ≡ get_or (part a b i) line_start_at 0
  start_is = ex ∙ sym (part_cell a b i line_start_at (omega arith))

  end_is : y ≡ get_or (part a b i) line_end_at 0
  end_is = ey ∙ sym (part_cell a b i line_end_at (omega arith))

  pub line_in : {sheet : Bytes} → SomeRecord sheet a b i → (x ≤ y) × (y ≤ length sheet)
  line_in h = rw (start_is, end_is) (h.at.line.from, h.at.line.to)

  pub copied : (sheet : Bytes) {p q : Page} → Puts (slice x y sheet) p q → Copied sheet a b i p q
  copied sheet put = record { line = λ s k f h. rw h.line.spelled at (rw (start_is, end_is) at put) }

  -- its length is the distance of the two
  pub line_long : {r : ℕ} → r ≡ y - x → y < two32 → LineBytes a b i r
  line_long {r} e few =
      record {
        long = λ sheet s k f h.
            let some : SomeRecord sheet a b i = record { sort = s; kind = k; fields = f; at = h } in
            let spelled : slice x y sheet ≡ spell_rec (rec s k f) = rw (start_is, end_is) h.line.spelled in
            rw (← spelled) (e ∙ sym (length-slice x y sheet (line_in some).1));
        few = omega arith;
      }

-- and so a text's
pub text_long : (a b : List ℕ) (i c : ℕ) {x y r : ℕ} → x ≡ cell a b i c → y ≡ cell a b i (c + 1) → r ≡ y - x → y < two32 → TextBytes a b i c r
text_long a b i c ex ey e few =
    record {
      long = λ sheet h. rw (ex, ey) at e ∙ sym (length-slice (cell a b i c) (cell a b i (c + 1)) sheet h.to);
      few = omega arith;
    }
