-- A row's entry is a digit of the row's number, row by row, by computation; behind the last row all are 0. Assumes nothing.
use mathlib.Core.Path.{◌≡◌, refl}
use Prim.Native.Nat.{ℕ, ◌*◌, ◌-◌, ◌/◌, ◌%◌, ◌^◌, ◌<◌}
use mathlib.Core.Bool.{Bool, true, false}
use mathlib.Core.List.{List, []}
use borrow.Author.Tests.{eqb-true, ltb-true, ltb-false}
use lib.Dec.{eqb, ltb}
use lib.ListN.{get_or}
use Rattle.std.proofs.lemmas.List.{get_or_past}
use Rattle.std.proofs.Math.Nat.{zero-div}
use Rattle.words.specs.Places.{kind_count}
use Rattle.words.specs.Table.{field_count, entry_count, codes, groups, in_digits}
use Rattle.words.specs.TableLaws.{passes_to, passes_at}

code_test : ℕ → ℕ → Bool
code_test n g = eqb (in_digits (get_or codes n []) / 2 ^ (24 - 4 * g) % 16) (get_or (get_or codes n []) g 0)

group_test : ℕ → ℕ → Bool
group_test n j = eqb (in_digits (get_or groups n []) / 2 ^ (36 - 4 * j) % 16) (get_or (get_or groups n []) j 0)

-- of no kind
no_digit : (l : List ℕ) (d g : ℕ) → l ≡ [] → in_digits l / d % 16 ≡ get_or l g 0
no_digit l d g e = rw (e, zero-div d)

pub code_digit : (r n g : ℕ) → r ≡ in_digits (get_or codes n []) → g < field_count → r / 2 ^ (24 - 4 * g) % 16 ≡ get_or (get_or codes n []) g 0
unfolding code_test passes_to
code_digit r n g e k = rw e (go (ltb n kind_count) refl)
  where
    go : (t : Bool) → ltb n kind_count ≡ t → in_digits (get_or codes n []) / 2 ^ (24 - 4 * g) % 16 ≡ get_or (get_or codes n []) g 0
    go true q = eqb-true _ _ (passes_at (code_test n) field_count (passes_at (λ m. passes_to (code_test m) field_count) kind_count refl n (ltb-true n kind_count q)) g k)
    go false q = no_digit (get_or codes n []) (2 ^ (24 - 4 * g)) g (get_or_past codes n [] (ltb-false n kind_count q))

pub group_digit : (r n j : ℕ) → r ≡ in_digits (get_or groups n []) → j < entry_count → r / 2 ^ (36 - 4 * j) % 16 ≡ get_or (get_or groups n []) j 0
unfolding group_test passes_to
group_digit r n j e k = rw e (go (ltb n kind_count) refl)
  where
    go : (t : Bool) → ltb n kind_count ≡ t → in_digits (get_or groups n []) / 2 ^ (36 - 4 * j) % 16 ≡ get_or (get_or groups n []) j 0
    go true q = eqb-true _ _ (passes_at (group_test n) entry_count (passes_at (λ m. passes_to (group_test m) entry_count) kind_count refl n (ltb-true n kind_count q)) j k)
    go false q = no_digit (get_or groups n []) (2 ^ (36 - 4 * j)) j (get_or_past groups n [] (ltb-false n kind_count q))
