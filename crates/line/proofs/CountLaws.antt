-- Where the count of a group stands, by its source in the table, and all groups of a record together. Assumes nothing.
use mathlib.Core.Path.{◌≡◌, refl}
use Prim.Native.Nat.{ℕ, zero, suc, ◌+◌, ◌*◌, ◌-◌, ◌<◌, ◌≤◌}
use mathlib.Core.Bool.{Bool, true, false, cond}
use mathlib.Core.List.{List}
use native.Mathlib.Numerals.{add-one}
use native.Mathlib.Omega.{arith}
use borrow.Author.Tests.{le-ltb}
use lib.Dec.{ltb}
use lib.ListN.{get_or}
use Rattle.words.specs.Words.{two32}
use Rattle.words.specs.Held.{total}
use Rattle.words.specs.Table.{source_count, fixed_sources, source_shift, count_of, group_count, group_numbers, group_source, groups_from, groups_of}
use Rattle.words.proofs.GroupLaws.{entries_low, groups_few, none_counted}
use Rattle.line.specs.LineRead.{Alike}
use Rattle.line.specs.Group.{CountedAt}
use Rattle.line.specs.declared.group.Counted.{Counted}

-- the source of group g says where its count stands
module _ (n g c : ℕ) (e : c ≡ group_source n g) where
  pub count_word : fixed_sources ≤ c → c < source_count → CountedAt n g (Counted.InWord (c + c - source_shift))
  count_word h k = record { is = λ ws. rw (← e, le-ltb c fixed_sources h); among = omega arith }

-- ── all groups ──

-- what the first g groups count, and what the others do, is all
pub record Adding (n : ℕ) (ws : List ℕ) (g sum : ℕ) : Type 0 where
  pub low : g ≤ get_or group_numbers n 0
  pub few : sum ≤ g * two32
  pub all : sum + total (groups_from n ws g (group_count - g)) ≡ total (groups_of n ws)

module _ (n : ℕ) (ws : List ℕ) where
  pub add_none : Adding n ws 0 0
  unfolding groups_of
  add_none = record { low = omega arith; few = omega arith; all = omega arith }

  in_table : (g : ℕ) → g < get_or group_numbers n 0 → g < group_count
  in_table g h = omega (arith, groups_few n)

  one_group : (g k : ℕ) → group_count - g ≡ suc k → total (groups_from n ws g (group_count - g)) ≡ count_of ws (group_source n g) + total (groups_from n ws (suc g) k)
  unfolding groups_from
  one_group g k e = rw e

  pub add_one_group : (g sum c : ℕ) → g < get_or group_numbers n 0 → (c ≡ count_of ws (group_source n g)) × (c < two32) → Adding n ws g sum → Adding n ws (g + 1) (sum + c)
  add_one_group g sum c h q a =
      let l : g < group_count = in_table g h in
      let e : group_count - g ≡ suc (group_count - (g + 1)) = omega arith in
      let s : total (groups_from n ws g (group_count - g)) ≡ count_of ws (group_source n g) + total (groups_from n ws (g + 1) (group_count - (g + 1))) = rw (add-one g) (one_group g (group_count - suc g) (omega arith)) in
      record { low = omega arith; few = omega (arith, a.few, q.1); all = omega (arith, a.all, s, q.0) }

  pub add_all : (g sum : ℕ) → get_or group_numbers n 0 ≤ g → Adding n ws g sum → sum ≡ total (groups_of n ws)
  add_all g sum h a =
      let l : g ≤ group_count = omega (arith, a.low, groups_few n) in
      let z : total (groups_from n ws g (group_count - g)) ≡ 0 = none_counted n ws g (group_count - g) h (omega arith) in
      omega (arith, a.all, z)

  -- words that differ behind the fields alone count the same
  same_group : (g : ℕ) (vs : List ℕ) → Alike ws vs → g < group_count → count_of vs (group_source n g) ≡ count_of ws (group_source n g)
  same_group g vs al l = go (ltb (group_source n g) fixed_sources) refl
    where
      go : (t : Bool) → ltb (group_source n g) fixed_sources ≡ t → cond t (group_source n g) (get_or vs (group_source n g + group_source n g - source_shift) 0) ≡ cond t (group_source n g) (get_or ws (group_source n g + group_source n g - source_shift) 0)
      go true q = refl
      go false q = al (group_source n g + group_source n g - source_shift) (omega (arith, (entries_low n g l).1))

  same_groups : (vs : List ℕ) → Alike ws vs → (g k : ℕ) → g + k ≤ group_count → total (groups_from n vs g k) ≡ total (groups_from n ws g k)
  unfolding groups_from
  same_groups vs al g zero l = refl
  same_groups vs al g (suc k) l = rw (same_group g vs al (omega arith), same_groups vs al (suc g) k (omega arith))

  pub same_total : (vs : List ℕ) → Alike ws vs → total (groups_of n vs) ≡ total (groups_of n ws)
  unfolding groups_of
  same_total vs al = same_groups vs al 0 group_count (omega arith)
