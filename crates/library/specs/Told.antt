-- What an exported call leaves in the answer slice, and what it returns. Assumes nothing: these are definitions.
use Rattle.std.specs.Prelude.{◌≡◌, Bool, true, false, List, ◌∷◌, ℕ, ◌<◌, ◌≤◌, length, drop}
use Rattle.model.specs.Refusal.{Answer}
use Rattle.model.specs.Call.{Outcome}

-- an answer has so many words
abbrev pub answer_words : ℕ
answer_words = 6

-- number, line, start, end, kind and length, and behind them what stood there
abbrev pub noted : Answer → List ℕ → List ℕ
noted x w = x.number ∷ x.line ∷ x.start ∷ x.end ∷ x.kind ∷ x.length ∷ drop answer_words w

-- true, and an answer that may be given; or false, and nothing written, if six words have no room
abbrev pub Told : (Answer → Type 0) → (before after : List ℕ) → Bool → Type 0
Told Given before after true = (answer_words ≤ length before) × ((x : Answer) × (Given x × (after ≡ noted x before)))
Told Given before after false = (length before < answer_words) × (after ≡ before)

-- true, and an outcome's answer and plan slice; or false, and nothing written
abbrev pub Lowers : Outcome → (slice slice' before after : List ℕ) → Bool → Type 0
Lowers o slice slice' before after true = (answer_words ≤ length before) × ((slice' ≡ o.slice) × (after ≡ noted o.answer before))
Lowers o slice slice' before after false = (length before < answer_words) × ((slice' ≡ slice) × (after ≡ before))
