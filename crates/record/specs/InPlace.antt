-- What the readers in place answer: what the definition reads of the piece at a place, and where the piece ends. Assumes nothing: these are definitions.
use Rattle.std.specs.Prelude.{ℕ, ◌+◌, [], ◌∷◌, Option, None, Some}
use Rattle.model.specs.Text.{Bytes}
use Rattle.model.specs.Field.{Form, read}
use Rattle.record.specs.declared.piece.Piece.{Piece}
use Rattle.record.specs.Answer.{is_read, alias_of}
use Rattle.record.specs.Number.{digits_on}
use Rattle.record.specs.Place.{ReadAt}

-- ── an answer without its place, and its place ──

abbrev pub value_in : {A : Type 0} → Option (Piece A) → Option A
value_in None = None
value_in (Some q) = Some q.value

abbrev pub end_in : {A : Type 0} → Option (Piece A) → Option ℕ
end_in None = None
end_in (Some q) = Some q.end

-- ── what is read ──

-- digits that follow a number v
abbrev pub DigitsAt : (limit v : ℕ) → Bytes → ℕ → Option (Piece ℕ) → Type 0
DigitsAt limit v s p a = ReadAt s p (λ t. digits_on limit v t) (value_in a) (end_in a)

abbrev pub NumberAt : ℕ → Bytes → ℕ → Option (Piece ℕ) → Type 0
NumberAt limit s p a = ReadAt s p (λ t. read (Form.num limit) (t ∷ [])) (value_in a) (end_in a)

abbrev pub OptNumberAt : ℕ → Bytes → ℕ → Option (Piece (Option ℕ)) → Type 0
OptNumberAt limit s p a = ReadAt s p (λ t. read (Form.num_or_absent limit) (t ∷ [])) (value_in a) (end_in a)

abbrev pub NameAt : Bytes → ℕ → Option ℕ → Type 0
NameAt s p a = ReadAt s p (λ t. is_read (read Form.text (t ∷ []))) (is_read a) a

-- the name of an alias begins behind its sign
abbrev pub AliasReadAt : Bytes → ℕ → Option (Piece (Option ℕ)) → Type 0
AliasReadAt s p a = ReadAt s p (λ t. alias_of (p + 1) (read Form.alias (t ∷ []))) (value_in a) (end_in a)
