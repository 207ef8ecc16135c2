-- The text of a line of numbers, of one with a name before them, and of a signed number's. Assumes nothing: these are definitions.
use Rattle.std.specs.Prelude.{◌≡◌, ℕ, suc, ◌+◌, ◌≤◌, List, [], ◌∷◌, ◌++◌, map, ℤ, length, Option}
use Rattle.model.specs.Text.{Bytes, tab, line_feed, behind, decimal, signed, max_digits}
use Rattle.model.specs.Field.{spell_option}
use Rattle.plan_line.specs.declared.keyword.Keyword.{Keyword}
use Rattle.plan_line.specs.Keywords.{word}

unfoldable pub numbers_text : List ℕ → Bytes
numbers_text ns = behind tab (map (λ n. decimal n) ns)

unfoldable pub row_text : Keyword → List ℕ → Bytes
row_text k ns = word k ++ (numbers_text ns ++ (line_feed ∷ []))

-- the name as a sheet spells it
unfoldable pub named_text : Keyword → Bytes → List ℕ → Bytes
named_text k name ns = word k ++ ((tab ∷ name) ++ (numbers_text ns ++ (line_feed ∷ [])))

-- a signed number
unfoldable pub int_text : ℤ → Bytes
int_text z = word Keyword.Int ++ ((tab ∷ signed z) ++ (line_feed ∷ []))

-- a rel's types, direction, length (as a sheet spells it) and props
unfoldable pub rel_text : ℕ → ℕ → Bytes → ℕ → Bytes
rel_text types direction length props = word Keyword.Rel ++ ((tab ∷ decimal types) ++ ((tab ∷ decimal direction) ++ ((tab ∷ length) ++ ((tab ∷ decimal props) ++ (line_feed ∷ [])))))

-- a procedure's input or none, its name (as a sheet spells it), arguments, yields and whether it is optional
unfoldable pub call_text : Option ℕ → Bytes → ℕ → ℕ → ℕ → Bytes
call_text input name args yields optional = word Keyword.Call ++ ((tab ∷ spell_option input) ++ ((tab ∷ name) ++ (numbers_text (args ∷ yields ∷ optional ∷ []) ++ (line_feed ∷ []))))

-- ── how many bytes they have ──

-- a number with the tab before it has r
pub record NumberBytes (n r : ℕ) : Type 0 where
  pub long : r ≡ suc (length (decimal n))
  pub few : r ≤ suc max_digits

-- numbers, each with its tab, and the line feed
abbrev pub numbers_length : List ℕ → ℕ
numbers_length [] = 1
numbers_length (n ∷ ns) = suc (length (decimal n)) + numbers_length ns
