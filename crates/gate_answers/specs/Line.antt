-- What the programs of the gate print of an answer. Assumes nothing: these are definitions.
use Rattle.std.specs.Prelude.{[], ◌∷◌, ◌++◌, ℕ}
use Rattle.model.specs.Text.{Bytes}
use Rattle.model.specs.Refusal.{Answer}
use Rattle.values.specs.Text.{values_text}

-- room for the values
abbrev pub line_bytes : ℕ
line_bytes = 160

-- so much of a plan is printed
abbrev pub shown_bytes : ℕ
shown_bytes = 2048

abbrev pub blank : ℕ
blank = 32

-- the word `answer`
abbrev pub answer_word : Bytes
answer_word = 97 ∷ 110 ∷ 115 ∷ 119 ∷ 101 ∷ 114 ∷ []

-- the word, each value behind a blank, and a line feed
abbrev pub answer_line : Answer → Bytes
answer_line a = (answer_word ++ values_text blank a) ++ (10 ∷ [])
