-- The sorts of records as the code has them, their numbers, and the sorts of the definitions that they are. Assumes nothing.
use Rattle.std.specs.Prelude.{◌≡◌, refl, ℕ, zero, suc, ◌<◌, List, [], ◌∷◌, get_or}
use Rattle.std.proofs.Common.{arith}
use Rattle.model.specs.Kind
use Rattle.words.specs.declared.sort.Sort.{Sort}
use Rattle.words.specs.declared.sort.Sort.TheVariants.{Statement, UnionArm, Clause, Projection, OrderItem, PatternPart, PatternElement, Name, YieldItem, Entry, Expr}
use Rattle.words.specs.Places.{statement_sort, union_arm_sort, clause_sort, projection_sort, order_item_sort, pattern_part_sort, pattern_element_sort, name_sort, yield_item_sort, entry_sort, expr_sort, sort_count}
use Rattle.words.specs.Table.{sorts, sort_of}

abbrev pub sort_number : Sort → ℕ
sort_number Statement = statement_sort
sort_number UnionArm = union_arm_sort
sort_number Clause = clause_sort
sort_number Projection = projection_sort
sort_number OrderItem = order_item_sort
sort_number PatternPart = pattern_part_sort
sort_number PatternElement = pattern_element_sort
sort_number Name = name_sort
sort_number YieldItem = yield_item_sort
sort_number Entry = entry_sort
sort_number Expr = expr_sort

abbrev pub numbered : List Sort
numbered = Statement ∷ UnionArm ∷ Clause ∷ Projection ∷ OrderItem ∷ PatternPart ∷ PatternElement ∷ Name ∷ YieldItem ∷ Entry ∷ []

-- the sort of a number, an expression from the last on
unfoldable pub sort_at : ℕ → Sort
sort_at n = get_or numbered n Expr

-- the definitions' sort that it is
abbrev pub sort_is : Sort → Kind.Sort
sort_is s = sort_of (sort_number s)

pub sort_low : (s : Sort) → sort_number s < sort_count
sort_low Statement = omega arith
sort_low UnionArm = omega arith
sort_low Clause = omega arith
sort_low Projection = omega arith
sort_low OrderItem = omega arith
sort_low PatternPart = omega arith
sort_low PatternElement = omega arith
sort_low Name = omega arith
sort_low YieldItem = omega arith
sort_low Entry = omega arith
sort_low Expr = omega arith

-- the sort of a number is the definitions' sort of that number
pub sort_at_is : (n : ℕ) → sort_is (sort_at n) ≡ sort_of n
unfolding sort_at sort_of sorts
sort_at_is zero = refl
sort_at_is (suc zero) = refl
sort_at_is (suc (suc zero)) = refl
sort_at_is (suc (suc (suc zero))) = refl
sort_at_is (suc (suc (suc (suc zero)))) = refl
sort_at_is (suc (suc (suc (suc (suc zero))))) = refl
sort_at_is (suc (suc (suc (suc (suc (suc zero)))))) = refl
sort_at_is (suc (suc (suc (suc (suc (suc (suc zero))))))) = refl
sort_at_is (suc (suc (suc (suc (suc (suc (suc (suc zero)))))))) = refl
sort_at_is (suc (suc (suc (suc (suc (suc (suc (suc (suc zero))))))))) = refl
sort_at_is (suc (suc (suc (suc (suc (suc (suc (suc (suc (suc zero)))))))))) = refl
sort_at_is (suc (suc (suc (suc (suc (suc (suc (suc (suc (suc (suc n))))))))))) = refl
