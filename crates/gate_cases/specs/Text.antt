-- What a text of a list of cases stands for. Assumes nothing: these are definitions.
use Rattle.std.specs.Prelude.{◌≡◌, ◌==◌, cond, [], ◌∷◌, ◌++◌, ℕ, zero, suc, ◌+◌, ◌-◌, ltb, length, take, drop, Option, None, Some}
use Rattle.std.specs.List.{position_or_len}
use Rattle.model.specs.Text.{Bytes}
use Rattle.model.specs.Field.{Form, read}
use Rattle.model.specs.Call.{max_bytes}

-- a text so many times
unfoldable pub again : ℕ → Bytes → Bytes
again zero t = []
again (suc n) t = again n t ++ t

-- where a byte stands next, or where the text ends; behind a text it stands everywhere
unfoldable pub place : ℕ → ℕ → Bytes → ℕ
place b at t = cond (ltb (length t) at) at (at + position_or_len (λ x. x == b) (drop at t))

-- a text is cut at the first such byte: what stands before it, and behind it
abbrev pub Cut : ℕ → (text before behind : Bytes) → Type 0
Cut b t before behind = (t ≡ before ++ (b ∷ behind)) × (length before ≡ place b 0 t)

-- a text where the byte does not stand
abbrev pub Uncut : ℕ → Bytes → Type 0
Uncut b t = place b 0 t ≡ length t

abbrev pub line_feed : ℕ
line_feed = 10

-- no text, or one that ends with a line
abbrev pub WholeLines : Bytes → Type 0
WholeLines [] = Unit {0}
WholeLines (b ∷ t) = (lines : Bytes) × (b ∷ t ≡ lines ++ (line_feed ∷ []))

abbrev pub star : ℕ
star = 42

-- the bytes from one place up to another
abbrev pub between : ℕ → ℕ → Bytes → Bytes
between from to t = take (to - from) (drop from t)

-- a head, a part so many times, a tail, where the number is one; otherwise the text as it is
unfoldable pub repeated : (text head part tail : Bytes) → Option ℕ → Bytes
repeated text head part tail None = text
repeated text head part tail (Some n) = (head ++ again n part) ++ tail

-- the sheet of a text whose stars stand at these three places
unfoldable pub parted : (head number part : ℕ) → Bytes → Bytes
parted head number part t =
    cond (ltb part (length t))
    (repeated t (between 0 head t) (between (number + 1) part t) (between (part + 1) (length t) t) (read (Form.num max_bytes) (between (head + 1) number t ∷ [])))
    t

unfoldable pub sheet_of : Bytes → Bytes
sheet_of t =
    let head = place star 0 t in
    let number = place star (head + 1) t in
    parted head number (place star (number + 1) t) t
