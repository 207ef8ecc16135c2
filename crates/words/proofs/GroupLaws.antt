-- The table of children: a record's groups of it are the definition's groups, but for groups of none and for neighbours of one sort, which add up. Assumes nothing.
use Rattle.std.specs.Prelude.{◌≡◌, refl, ℕ, zero, suc, ◌+◌, ◌*◌, ◌-◌, ◌/◌, ◌%◌, ◌<◌, ◌≤◌, Bool, true, false, cond, ◌&&◌, List, [], ◌∷◌, ◌++◌, eqb, ltb, leb, length, get_or, take, replicate, Some}
use Rattle.std.proofs.Common.{sym, ap, ◌∙◌, add-zero, mod-eq_of_lt, append_assoc, arith, ltb-true, le-ltb, leb-true, ltb-false, eqb-true, get_or-take, get_or-drop, length-append}
use Rattle.std.proofs.Math.Nat.{mul-add-div_right, mul-add-mod_self_right, div-eq_of_lt}
use Rattle.std.proofs.Math.Seq.{slice}
use Rattle.std.proofs.lemmas.List.{get_or_past, length-replicate, replicate-append-replicate}
use Rattle.words.specs.Places.{kind_count, sort_count, with_kind, return_kind, node_kind, rel_kind, slice_kind, case_kind, list_predicate_kind}
use Rattle.model.specs.Text.{Bytes}
use Rattle.model.specs.Kind.{Sort, Kind, Clause, PatternElement, Same, Expr, clause, pattern_element, expr}
use Rattle.model.specs.Record.{Group, one, forms, kinds, sames, children}
use Rattle.words.specs.Words.{part, cell, first_kind, kind_of, field_of, fields_of, record_words, first_records}
use Rattle.words.specs.Held.{Flags, total}
use Rattle.words.specs.Table.{group_count, group_entries, source_count, groups, group_numbers, sorts, sort_of, group_sort, group_source, groups_from, groups_of}
use Rattle.words.specs.GroupLaws.{sorts_of, GroupRow}
use Rattle.words.specs.TableLaws.{and_left, and_right, passes_to, passes_at, Rows, done, ◌▸◌, kind_row}

-- ── entries of the table ──

-- group by group, the sort is one of eleven and the source is a count or a field
entry_test : ℕ → Bool
entry_test i = ltb (group_sort (i / group_count) (i % group_count)) sort_count && ltb (group_source (i / group_count) (i % group_count)) source_count

-- of no kind a row has no entry
no_kind : (n j : ℕ) → kind_count ≤ n → get_or (get_or groups n []) j 0 ≡ 0
no_kind n j h = ap (λ l. get_or l j 0) (get_or_past groups n [] h)

known_low : (n g : ℕ) → n < kind_count → g < group_count → (group_sort n g < sort_count) × (group_source n g < source_count)
unfolding entry_test passes_to
known_low n g h k =
    let over : (n * group_count + g) / group_count ≡ n = mul-add-div_right (omega arith) n g ∙ rw (div-eq_of_lt k) (add-zero n) in
    let left : (n * group_count + g) % group_count ≡ g = mul-add-mod_self_right n group_count g ∙ mod-eq_of_lt k in
    let test : (ltb (group_sort n g) sort_count && ltb (group_source n g) source_count) ≡ true = rw (over, left) at (passes_at entry_test (kind_count * group_count) refl (n * group_count + g) (omega arith)) in
    (ltb-true (group_sort n g) sort_count (and_left _ _ test), ltb-true (group_source n g) source_count (and_right (ltb (group_sort n g) sort_count) _ test))

pub entries_low : (n g : ℕ) → g < group_count → (group_sort n g < sort_count) × (group_source n g < source_count)
entries_low n g k = go (ltb n kind_count) refl
  where
    go : (t : Bool) → ltb n kind_count ≡ t → (group_sort n g < sort_count) × (group_source n g < source_count)
    go true q = known_low n g (ltb-true n kind_count q) k
    go false q = (rw (no_kind n (g * group_entries) (ltb-false n kind_count q)) (omega arith), rw (no_kind n (g * group_entries + 1) (ltb-false n kind_count q)) (omega arith))

-- kind by kind, the groups behind its last are groups of none
behind_test : ℕ → Bool
behind_test i = cond (ltb (i % group_count) (get_or group_numbers (i / group_count) 0)) true (eqb (group_source (i / group_count) (i % group_count)) 0)

known_behind : (n g : ℕ) → n < kind_count → get_or group_numbers n 0 ≤ g → g < group_count → group_source n g ≡ 0
unfolding behind_test passes_to
known_behind n g h b k =
    let over : (n * group_count + g) / group_count ≡ n = mul-add-div_right (omega arith) n g ∙ rw (div-eq_of_lt k) (add-zero n) in
    let left : (n * group_count + g) % group_count ≡ g = mul-add-mod_self_right n group_count g ∙ mod-eq_of_lt k in
    let test : cond (ltb g (get_or group_numbers n 0)) true (eqb (group_source n g) 0) ≡ true = rw (over, left) at (passes_at behind_test (kind_count * group_count) refl (n * group_count + g) (omega arith)) in
    eqb-true (group_source n g) 0 (rw (le-ltb g (get_or group_numbers n 0) b) at test)

pub none_behind : (n g : ℕ) → get_or group_numbers n 0 ≤ g → g < group_count → group_source n g ≡ 0
none_behind n g b k = go (ltb n kind_count) refl
  where
    go : (t : Bool) → ltb n kind_count ≡ t → group_source n g ≡ 0
    go true q = known_behind n g (ltb-true n kind_count q) b k
    go false q = no_kind n (g * group_entries + 1) (ltb-false n kind_count q)

number_test : ℕ → Bool
number_test n = leb (get_or group_numbers n 0) group_count

pub groups_few : (n : ℕ) → get_or group_numbers n 0 ≤ group_count
unfolding number_test passes_to
groups_few n = go (ltb n kind_count) refl
  where
    go : (t : Bool) → ltb n kind_count ≡ t → get_or group_numbers n 0 ≤ group_count
    go true q = leb-true _ group_count (passes_at number_test kind_count refl n (ltb-true n kind_count q))
    go false q = rw (get_or_past group_numbers n 0 (ltb-false n kind_count q)) (omega arith)

-- word c of a record's sixteen
pub part_cell : (a b : List ℕ) (i c : ℕ) → c < record_words → get_or (part a b i) c 0 ≡ cell a b i c
unfolding part
part_cell a b i c h = go (ltb i first_records)
  where
    words_at : (k : ℕ) (l : List ℕ) → get_or (slice k (k + record_words) l) c 0 ≡ get_or l (k + c) 0
    words_at k l = get_or-drop k (take (k + record_words) l) c 0 ∙ get_or-take (k + record_words) l (k + c) 0 (omega arith)

    go : (t : Bool) → get_or (cond t (slice (i * record_words) (i * record_words + record_words) a) (slice ((i - first_records) * record_words) ((i - first_records) * record_words + record_words) b)) c 0 ≡ cond t (get_or a (i * record_words + c) 0) (get_or b ((i - first_records) * record_words + c) 0)
    go true = words_at (i * record_words) a
    go false = words_at ((i - first_records) * record_words) b

-- ── what the groups ask for ──

-- the sorts that groups ask for are as many as the groups count
sorts_total : (gs : List Group) → length (sorts_of gs) ≡ total gs
unfolding sorts_of
sorts_total [] = refl
sorts_total (g ∷ gs) = length-append (replicate g.1 g.0) (sorts_of gs) ∙ rw (length-replicate g.1 g.0, sorts_total gs)

one_flag : (x : ℕ) → x ≤ 1 → one (eqb x 1) ≡ x
one_flag zero h = refl
one_flag (suc zero) h = refl
one_flag (suc (suc x)) h = absurd (omega arith)

twice : (n : ℕ) → n * 2 ≡ n + n
twice n = omega arith

-- a count that is a sum
added : (m n : ℕ) (s : Sort) (l : List Sort) → replicate (m + n) s ++ l ≡ replicate m s ++ (replicate n s ++ l)
added m n s l = rw (← replicate-append-replicate) (append_assoc (replicate m s) (replicate n s) l)

-- ── the kinds that have flags among their counts ──

with_groups : GroupRow clause with_kind Clause.With
unfolding sort_of groups_of groups_from sorts_of fields_of field_of
with_groups sheet ws h = rw (one_flag _ h.1.0, one_flag _ h.1.1.1.0, one_flag _ h.1.1.1.1.0)

return_groups : GroupRow clause return_kind Clause.Return
unfolding sort_of groups_of groups_from sorts_of fields_of field_of
return_groups sheet ws h = rw (one_flag _ h.1.1.1.0, one_flag _ h.1.1.1.1.0)

node_groups : GroupRow pattern_element node_kind PatternElement.Node
unfolding sort_of groups_of groups_from sorts_of fields_of field_of
node_groups sheet ws h = rw (one_flag _ h.1.1.0)

rel_groups : GroupRow pattern_element rel_kind PatternElement.Rel
unfolding sort_of groups_of groups_from sorts_of fields_of field_of
rel_groups sheet ws h = rw (one_flag _ h.1.1.1.1.0)

slice_groups : GroupRow expr slice_kind (Expr.Over Same.Slice)
unfolding sort_of groups_of groups_from sorts_of fields_of field_of
slice_groups sheet ws h = rw (one_flag _ h.0, one_flag _ h.1.0, added, added)

case_groups : GroupRow expr case_kind (Expr.Over Same.Case)
unfolding sort_of groups_of groups_from sorts_of fields_of field_of
case_groups sheet ws h = rw (one_flag _ h.0, one_flag _ h.1.1.0, twice, added, added, added)

listp_groups : GroupRow expr list_predicate_kind Expr.ListPredicate
unfolding sort_of groups_of groups_from sorts_of fields_of field_of
listp_groups sheet ws h = rw (one_flag _ h.1.1.0)

-- ── all kinds ──

group_rows : (m : ℕ) → m < sort_count → Rows (sort_of m) (λ n k. GroupRow (sort_of m) n k) (first_kind (sort_of m)) (kinds (sort_of m))
unfolding sorts sort_of first_kind kinds sames groups_of groups_from sorts_of fields_of field_of
group_rows zero l = (λ sheet ws h. refl) ▸ done
group_rows (suc zero) l = (λ sheet ws h. refl) ▸ done
group_rows (suc (suc zero)) l = (λ sheet ws h. refl) ▸ (λ sheet ws h. refl) ▸ with_groups ▸ return_groups ▸ (λ sheet ws h. refl) ▸ (λ sheet ws h. refl) ▸ (λ sheet ws h. refl) ▸ done
group_rows (suc (suc (suc zero))) l = (λ sheet ws h. refl) ▸ done
group_rows (suc (suc (suc (suc zero)))) l = (λ sheet ws h. refl) ▸ done
group_rows (suc (suc (suc (suc (suc zero))))) l = (λ sheet ws h. refl) ▸ done
group_rows (suc (suc (suc (suc (suc (suc zero)))))) l = node_groups ▸ rel_groups ▸ done
group_rows (suc (suc (suc (suc (suc (suc (suc zero))))))) l = (λ sheet ws h. refl) ▸ done
group_rows (suc (suc (suc (suc (suc (suc (suc (suc zero)))))))) l = (λ sheet ws h. refl) ▸ done
group_rows (suc (suc (suc (suc (suc (suc (suc (suc (suc zero))))))))) l = (λ sheet ws h. refl) ▸ done
group_rows (suc (suc (suc (suc (suc (suc (suc (suc (suc (suc zero)))))))))) l =
    (λ sheet ws h. refl) ▸ (λ sheet ws h. refl) ▸ (λ sheet ws h. refl) ▸ (λ sheet ws h. refl) ▸ (λ sheet ws h. refl) ▸ (λ sheet ws h. refl) ▸
    (λ sheet ws h. refl) ▸ (λ sheet ws h. refl) ▸ slice_groups ▸ (λ sheet ws h. refl) ▸ (λ sheet ws h. refl) ▸ (λ sheet ws h. refl) ▸
    case_groups ▸ (λ sheet ws h. refl) ▸ (λ sheet ws h. refl) ▸ (λ sheet ws h. refl) ▸ (λ sheet ws h. refl) ▸ (λ sheet ws h. refl) ▸
    (λ sheet ws h. refl) ▸ listp_groups ▸ (λ sheet ws h. refl) ▸ (λ sheet ws h. refl) ▸ done
group_rows (suc (suc (suc (suc (suc (suc (suc (suc (suc (suc (suc n))))))))))) l = absurd (omega arith)

-- the groups of a kind by its number
pub groups_are : (m : ℕ) → m < sort_count → (n : ℕ) (k : Kind (sort_of m)) → kind_of (sort_of m) n ≡ Some k → GroupRow (sort_of m) n k
groups_are m h n k e = kind_row (sort_of m) (λ n k. GroupRow (sort_of m) n k) (group_rows m h) n k e

-- and how many children they count
pub children_are : (m : ℕ) → m < sort_count → (n : ℕ) (k : Kind (sort_of m)) → kind_of (sort_of m) n ≡ Some k → (sheet : Bytes) (ws : List ℕ) → Flags (forms (sort_of m) k) ws 0 → total (groups_of n ws) ≡ total (children (sort_of m) k (fields_of (forms (sort_of m) k) sheet ws 0))
children_are m h n k e sheet ws flags = sym (sorts_total (groups_of n ws)) ∙ ap length (groups_are m h n k e sheet ws flags) ∙ sorts_total _

-- the groups behind a kind's last count none
pub none_counted : (n : ℕ) (ws : List ℕ) (g k : ℕ) → get_or group_numbers n 0 ≤ g → g + k ≤ group_count → total (groups_from n ws g k) ≡ 0
unfolding groups_from
none_counted n ws g zero b l = refl
none_counted n ws g (suc k) b l =
    let none : group_source n g ≡ 0 = none_behind n g b (omega arith) in
    let later : total (groups_from n ws (suc g) k) ≡ 0 = none_counted n ws (suc g) k (omega arith) (omega arith) in
    rw (none, later)
