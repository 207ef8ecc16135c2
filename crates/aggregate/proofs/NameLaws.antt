-- The library's comparison without regard to case, over the ten names, is the definition's. Assumes nothing: every law is proved.
use Rattle.std.proofs.Common.{◌≡◌, ℕ, Bool, true, List, [], ◌∷◌, map, refl, arith, eqb}
use Rattle.std.specs.List.{list_any}
use Rattle.std.specs.Char.{to_ascii_lowercase}
use Rattle.std.specs.Str.{str_eq_ignore_ascii_case}
use borrow.Author.Tests.{eqb-true}
use Rattle.std.proofs.lemmas.Bool.Decides.{nat_tests}
use Rattle.model.specs.Text.{Bytes, bytes, bytes_from, same, same_by}
use Rattle.model.specs.Lower.{lowercase, among, aggregates}
use Rattle.laws.specs.TextLaws.{and_left, and_right, every}

abbrev pub lowered : Bytes → Bytes
lowered s = map (λ b. lowercase b) s

lowercase-std : (b : ℕ) → to_ascii_lowercase b ≡ lowercase b
unfolding lowercase
lowercase-std b = grind (arith, nat_tests)

-- a text whose letters are small
abbrev small : Bytes → Bool
small u = every (λ c. eqb (lowercase c) c) u

same_small : (s u : Bytes) → small u ≡ true → str_eq_ignore_ascii_case s u ≡ same (lowered s) u
unfolding same same_by every
same_small [] [] h = refl
same_small [] (c ∷ u) h = refl
same_small (b ∷ s) [] h = refl
same_small (b ∷ s) (c ∷ u) h =
    rw (lowercase-std b, lowercase-std c, eqb-true (lowercase c) c (and_left _ _ h), same_small s u (and_right (eqb (lowercase c) c) _ h))

any_among : (s : Bytes) (us : List Bytes) → every (λ u. small u) us ≡ true → list_any (λ u. str_eq_ignore_ascii_case s u) us ≡ among (lowered s) us
unfolding among every
any_among s [] h = refl
any_among s (u ∷ us) h = rw (same_small s u (and_left _ _ h), any_among s us (and_right (small u) _ h))

names_small : every (λ u. small u) aggregates ≡ true
unfolding every lowercase aggregates bytes bytes_from
names_small = refl

pub named : (s : Bytes) → list_any (λ u. str_eq_ignore_ascii_case s u) aggregates ≡ among (lowered s) aggregates
named s = any_among s aggregates names_small
