-- What the steps of a line come to: the room below a record, a write, room for its groups, and the groups that are due then. Assumes nothing.
use Rattle.std.specs.Prelude.{◌≡◌, refl, ℕ, zero, suc, ◌+◌, ◌-◌, ◌<◌, ◌≤◌, Bool, true, false, cond, List, ◌∷◌, ◌++◌, eqb, Some}
use Rattle.std.proofs.Common.{sym, ◌∙◌, subst, arith, eqb-true, ne_eqb}
use Rattle.words.specs.Places.{write_kind, entry_kind, entry_sort, sort_count}
use Rattle.model.specs.Text.{Bytes}
use Rattle.model.specs.Kind.{Sort, Kind}
use Rattle.model.specs.Record.{forms, kinds, sames, children, beside}
use Rattle.words.specs.Words.{kind_of, first_kind, fields_of}
use Rattle.words.specs.Held.{Flags}
use Rattle.words.specs.Table.{sorts, sort_of, group_sort, groups_from, groups_of, group_count}
use Rattle.words.specs.Sorts.{sort_number, sort_is, sort_low}
use Rattle.words.specs.declared.sort.Sort
use Rattle.words.specs.declared.sort.Sort.TheVariants.{Statement, UnionArm, Clause, Projection, OrderItem, PatternPart, PatternElement, Name, YieldItem, Entry, Expr}
use Rattle.words.specs.TableLaws.{Rows, done, ◌▸◌, kind_row}
use Rattle.words.proofs.GroupLaws.{groups_are}
use Rattle.sheet.specs.Due.{Due, due, due_of, room_below}
use Rattle.sheet.specs.Writes.{writes}
use Rattle.sheet.specs.Stack.{Alike, alike_trans, alike_behind, alike_groups, slack, allowed, entry_slack, max_room}
use Rattle.sheet.specs.Dues.{dues, Top, Groups, Space}

-- ── the room below ──

-- entries alone have children beside them
pub beside_entry : (n : ℕ) → n < sort_count → beside (sort_of n) ≡ eqb n entry_sort
unfolding sort_of sorts
beside_entry zero h = refl
beside_entry (suc zero) h = refl
beside_entry (suc (suc zero)) h = refl
beside_entry (suc (suc (suc zero))) h = refl
beside_entry (suc (suc (suc (suc zero)))) h = refl
beside_entry (suc (suc (suc (suc (suc zero))))) h = refl
beside_entry (suc (suc (suc (suc (suc (suc zero)))))) h = refl
beside_entry (suc (suc (suc (suc (suc (suc (suc zero))))))) h = refl
beside_entry (suc (suc (suc (suc (suc (suc (suc (suc zero)))))))) h = refl
beside_entry (suc (suc (suc (suc (suc (suc (suc (suc (suc zero))))))))) h = refl
beside_entry (suc (suc (suc (suc (suc (suc (suc (suc (suc (suc zero)))))))))) h = refl
beside_entry (suc (suc (suc (suc (suc (suc (suc (suc (suc (suc (suc n))))))))))) h = absurd (omega arith)

room_same : (s : Sort) (d : ℕ) → beside s ≡ true → 0 < d → d ≡ room_below s d
unfolding room_below
room_same s zero e h = refl
room_same s (suc d) e h = rw e

room_less : (s : Sort) (d : ℕ) → beside s ≡ false → 0 < d → d - 1 ≡ room_below s d
unfolding room_below
room_less s zero e h = absurd (omega arith)
room_less s (suc d) e h = rw e (omega arith)

pub room_entry : (s : Sort.Sort) (d : ℕ) → 0 < d → s ≡ Entry → d ≡ room_below (sort_is s) d
room_entry s d h e = room_same (sort_is s) d (beside_entry (sort_number s) (sort_low s) ∙ rw e) h

entry_alone : (s : Sort.Sort) → (s ≡ Entry → ⊥) → sort_number s ≡ entry_sort → ⊥
entry_alone Statement h e = omega arith
entry_alone UnionArm h e = omega arith
entry_alone Clause h e = omega arith
entry_alone Projection h e = omega arith
entry_alone OrderItem h e = omega arith
entry_alone PatternPart h e = omega arith
entry_alone PatternElement h e = omega arith
entry_alone Name h e = omega arith
entry_alone YieldItem h e = omega arith
entry_alone Entry h e = h refl
entry_alone Expr h e = omega arith

pub room_other : (s : Sort.Sort) (d : ℕ) → 0 < d → (s ≡ Entry → ⊥) → d - 1 ≡ room_below (sort_is s) d
room_other s d h e = room_less (sort_is s) d (beside_entry (sort_number s) (sort_low s) ∙ ne_eqb (sort_number s) entry_sort (entry_alone s e)) h

-- ── a write ──

write_rows : (m : ℕ) → m < sort_count → Rows (sort_of m) (λ n k. writes (sort_of m) k ≡ eqb n write_kind) (first_kind (sort_of m)) (kinds (sort_of m))
unfolding sorts sort_of first_kind kinds sames
write_rows zero l = refl ▸ done
write_rows (suc zero) l = refl ▸ done
write_rows (suc (suc zero)) l = refl ▸ refl ▸ refl ▸ refl ▸ refl ▸ refl ▸ refl ▸ done
write_rows (suc (suc (suc zero))) l = refl ▸ done
write_rows (suc (suc (suc (suc zero)))) l = refl ▸ done
write_rows (suc (suc (suc (suc (suc zero))))) l = refl ▸ done
write_rows (suc (suc (suc (suc (suc (suc zero)))))) l = refl ▸ refl ▸ done
write_rows (suc (suc (suc (suc (suc (suc (suc zero))))))) l = refl ▸ done
write_rows (suc (suc (suc (suc (suc (suc (suc (suc zero)))))))) l = refl ▸ done
write_rows (suc (suc (suc (suc (suc (suc (suc (suc (suc zero))))))))) l = refl ▸ done
write_rows (suc (suc (suc (suc (suc (suc (suc (suc (suc (suc zero)))))))))) l = refl ▸ refl ▸ refl ▸ refl ▸ refl ▸ refl ▸ refl ▸ refl ▸ refl ▸ refl ▸ refl ▸ refl ▸ refl ▸ refl ▸ refl ▸ refl ▸ refl ▸ refl ▸ refl ▸ refl ▸ refl ▸ refl ▸ done
write_rows (suc (suc (suc (suc (suc (suc (suc (suc (suc (suc (suc n))))))))))) l = absurd (omega arith)

-- one kind alone is a write
pub writes_kind : (m : ℕ) → m < sort_count → (n : ℕ) (k : Kind (sort_of m)) → kind_of (sort_of m) n ≡ Some k → writes (sort_of m) k ≡ eqb n write_kind
writes_kind m h n k e = kind_row (sort_of m) (λ n k. writes (sort_of m) k ≡ eqb n write_kind) (write_rows m h) n k e

-- ── room for the groups ──

slack_low : (s : Sort) → slack s ≤ entry_slack
slack_low s = at (beside s)
  where
    at : (t : Bool) → cond t entry_slack 0 ≤ entry_slack
    at true = omega arith
    at false = omega arith

entry_row : Rows (sort_of entry_sort) (λ n k. n ≡ entry_kind) (first_kind (sort_of entry_sort)) (kinds (sort_of entry_sort))
unfolding sorts sort_of first_kind kinds
entry_row = refl ▸ done

entry_groups : (g : ℕ) → g < group_count → slack (sort_of (group_sort entry_kind g)) ≡ 0
unfolding sort_of sorts
entry_groups zero h = refl
entry_groups (suc zero) h = refl
entry_groups (suc (suc zero)) h = refl
entry_groups (suc (suc (suc zero))) h = refl
entry_groups (suc (suc (suc (suc zero)))) h = refl
entry_groups (suc (suc (suc (suc (suc g))))) h = absurd (omega arith)

entry_number : (m n : ℕ) (k : Kind (sort_of m)) → m ≡ entry_sort → kind_of (sort_of m) n ≡ Some k → n ≡ entry_kind
entry_number m n k e q = subst (λ z. (k : Kind (sort_of z)) → kind_of (sort_of z) n ≡ Some k → n ≡ entry_kind) (sym e) (λ k q. kind_row (sort_of entry_sort) (λ n k. n ≡ entry_kind) entry_row n k q) k q

-- an entry's groups are none of entries
entry_slack_law : (m n g : ℕ) (k : Kind (sort_of m)) → m ≡ entry_sort → kind_of (sort_of m) n ≡ Some k → g < group_count → slack (sort_of (group_sort n g)) ≡ 0
entry_slack_law m n g k e q h = let z : n ≡ entry_kind = entry_number m n k e q in rw z (entry_groups g h)

-- the numbers: m groups lie below the one of room d and slack x, of which r are left or one more; t is the slack of a new one, whose room is e
numbers_beside : (m r d t : ℕ) → m + 1 + entry_slack ≤ allowed d → r ≤ suc m → 0 < d → t ≡ 0 → r + group_count + t ≤ allowed d
numbers_beside m r d t h l z e = omega arith

numbers_below : (m r d t : ℕ) → m + 1 + 0 ≤ allowed d → r ≤ suc m → 0 < d → d ≤ max_room → t ≤ entry_slack → r + group_count + t ≤ allowed (d - 1)
numbers_below m r d t h l z k e = omega arith

-- ── the line's groups on the stack ──

-- a record of sort number s and kind number n, of the topmost group, is read; m groups lie below that one, and r with it if it has more
module _ (s : ℕ) (low_sort : s < sort_count) (c d m r n : ℕ) (top : Top (sort_of s) c d m) (high : r ≤ suc m) (room : 0 < d) (k : Kind (sort_of s)) (named : kind_of (sort_of s) n ≡ Some k) where
  each_fits : (t : Bool) → beside (sort_of s) ≡ t → (e : ℕ) → e ≡ room_below (sort_of s) d → (g : ℕ) → g < group_count → r + group_count + slack (sort_of (group_sort n g)) ≤ allowed e
  each_fits true q e z g h =
      let entry_is : s ≡ entry_sort = eqb-true s entry_sort (sym (beside_entry s low_sort) ∙ q) in
      let low : m + 1 + entry_slack ≤ allowed d = rw q at top.low in
      rw (z, ← (room_same (sort_of s) d q room)) (numbers_beside m r d _ low high room (entry_slack_law s n g k entry_is named h))
  each_fits false q e z g h =
      let low : m + 1 + 0 ≤ allowed d = rw q at top.low in
      rw (z, ← (room_less (sort_of s) d q room)) (numbers_below m r d _ low high room top.room (slack_low (sort_of (group_sort n g))))

  room_low : (t : Bool) → beside (sort_of s) ≡ t → room_below (sort_of s) d ≤ max_room
  room_low true q = rw (← (room_same (sort_of s) d q room)) top.room
  room_low false q = rw (← (room_less (sort_of s) d q room)) (omega (arith, top.room))

  pub space : (e : ℕ) → e ≡ room_below (sort_of s) d → Space n r e
  space e q = record { room = rw q (room_low (beside (sort_of s)) refl); each = each_fits (beside (sort_of s)) refl e q }

-- the children are due, and then what was due before
pub due_now :
    (s : ℕ)
    → s < sort_count
    → (c d n : ℕ) (k : Kind (sort_of s))
    → kind_of (sort_of s) n ≡ Some k
    → (st : List Due) (w' w'' : List ℕ) (m' m'' e : ℕ) (sheet : Bytes) (ws : List ℕ)
    → Flags (forms (sort_of s) k) ws 0
    → e ≡ room_below (sort_of s) d
    → Alike (dues w' m') (due (sort_of s) c d ∷ st)
    → Groups w' w'' n ws 0 group_count m' e m''
    → Alike (dues w'' m'') (due_of (room_below (sort_of s) d) (children (sort_of s) k (fields_of (forms (sort_of s) k) sheet ws 0)) ++ (due (sort_of s) c d ∷ st))
unfolding groups_of
due_now s low c d n k named st w' w'' m' m'' e sheet ws flags q left g =
    rw (← q)
    (alike_trans g.is
    (alike_trans (alike_behind (due_of e (groups_from n ws 0 group_count)) left)
    (alike_groups e (groups_from n ws 0 group_count) (children (sort_of s) k (fields_of (forms (sort_of s) k) sheet ws 0)) _ (groups_are s low n k named sheet ws flags))))
