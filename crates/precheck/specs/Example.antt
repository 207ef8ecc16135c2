-- The promise can be met: words that are all 0, but for the end of the one line, hold the statement of no clauses. Assumes nothing.
use Rattle.std.specs.Prelude.{refl, ℕ, List, [], ◌∷◌, ◌++◌, replicate}
use Rattle.std.proofs.Common.{arith}
use Rattle.model.specs.Text.{Bytes, bytes, bytes_from, tab, line_feed, decimal, digits, join, behind}
use Rattle.model.specs.Field.{spell, spell_fields}
use Rattle.model.specs.Call.{work_words, max_depth}
use Rattle.model.specs.Kind.{statement}
use Rattle.model.specs.Record.{kinds, keyword, spell_rec}
use Rattle.model.specs.Tree.{node, []ᵗ, end, ◌▸◌}
use Rattle.words.specs.Words.{part, decode, rec_of, kind_of, nth, first_kind, fields_of, field_of}
use Rattle.words.specs.Places.{line_end_at}
use Rattle.words.specs.Held.{Held, HeldSome}

unfoldable pub zeros : List ℕ
zeros = replicate work_words 0

-- the line ends behind its ninth byte
unfoldable pub line_words : List ℕ
line_words = replicate line_end_at 0 ++ (9 ∷ replicate work_words 0)

unfoldable pub empty_sheet : Bytes
empty_sheet = bytes "stmt" ++ (tab ∷ decimal 0) ++ (tab ∷ decimal 0) ++ (line_feed ∷ [])

pub promise_met : HeldSome empty_sheet line_words zeros statement max_depth 0
unfolding zeros line_words empty_sheet bytes bytes_from decimal digits join behind spell spell_fields keyword spell_rec Held part decode rec_of kind_of nth first_kind kinds fields_of field_of
promise_met =
    record {
      tree = node statement 1 tt (0, (0, tt)) ([]ᵗ ▸ []ᵗ ▸ end);
      is = (
        refl,
        record {
          low = omega arith;
          is = refl;
          flags = (tt, (tt, tt));
          texts = (tt, (tt, tt));
          line = record { from = omega arith; to = omega arith; spelled = refl };
          kids = refl;
        },
        omega arith,
        (tt, (tt, tt)),
      );
    }
