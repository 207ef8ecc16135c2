-- What is told of what the definition reads, where not all of it is. Assumes nothing: these are definitions.
use Rattle.std.specs.Prelude.{ℕ, Bool, true, false, Option, None, Some}
use Rattle.model.specs.Text.{Bytes}

abbrev pub is_read : {A : Type 0} → Option A → Bool
is_read None = false
is_read (Some a) = true

abbrev pub flag_of : Option Bool → Option ℕ
flag_of None = None
flag_of (Some false) = Some 0
flag_of (Some true) = Some 1

-- whether there is an alias, and where the name begins if it names
abbrev pub alias_of : ℕ → Option (Option Bytes) → Option (Option ℕ)
alias_of at None = None
alias_of at (Some None) = Some None
alias_of at (Some (Some t)) = Some (Some at)
