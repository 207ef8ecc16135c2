-- The due groups that words hold, the top first, and what the steps of the stack do to them. Assumes nothing.
use Rattle.std.specs.Prelude.{◌≡◌, refl, ℕ, zero, suc, ◌+◌, ◌*◌, ◌-◌, ◌<◌, ◌≤◌, Bool, true, false, List, [], ◌∷◌, ◌++◌, eqb, length, get_or, set}
use Rattle.std.proofs.Common.{◌∙◌, ap, arith, eqb-true, length-set, get_or-set_same, get_or-set_other}
use Rattle.std.proofs.lemmas.Bool.{eqb-false}
use Rattle.model.specs.Call.{work_words}
use Rattle.words.specs.Places.{sort_count}
use Rattle.model.specs.Kind.{Sort}
use Rattle.words.proofs.GroupLaws.{groups_few, none_behind}
use Rattle.words.specs.Table.{group_numbers, sort_of, group_sort, group_source, count_of, groups_from, group_count}
use Rattle.sheet.specs.Due.{Due, due, due_of}
use Rattle.sheet.specs.Stack.{Alike, alike_refl, alike_sym, alike_trans, alike_under, alike_none, slack, due_words, due_count_at, due_room_at, allowed, max_room}

-- at most this many groups are ever due
abbrev pub max_due : ℕ
max_due = allowed 0

-- group m
abbrev pub group : List ℕ → ℕ → Due
group w m = due (sort_of (get_or w (m * due_words) 0)) (get_or w (m * due_words + due_count_at) 0) (get_or w (m * due_words + due_room_at) 0)

unfoldable pub dues : List ℕ → ℕ → List Due
dues w zero = []
dues w (suc m) = group w m ∷ dues w m

pub dues_length : (w : List ℕ) (m : ℕ) → length (dues w m) ≡ m
unfolding dues
dues_length w zero = refl
dues_length w (suc m) = ap suc (dues_length w m)

-- words behind group m do not matter
dues_same : (w w' : List ℕ) (m : ℕ) → ((j : ℕ) → j < m * due_words → get_or w' j 0 ≡ get_or w j 0) → dues w' m ≡ dues w m
unfolding dues
dues_same w w' zero h = refl
dues_same w w' (suc m) h = rw (h (m * due_words) (omega arith), h (m * due_words + due_count_at) (omega arith), h (m * due_words + due_room_at) (omega arith), dues_same w w' m (λ j l. h j (omega arith)))

-- group j is due: some records of a sort, low enough for their room
pub record Fits (w : List ℕ) (j : ℕ) : Type 0 where
  pub sort : get_or w (j * due_words) 0 < sort_count
  pub count : 0 < get_or w (j * due_words + due_count_at) 0
  pub room : get_or w (j * due_words + due_room_at) 0 ≤ max_room
  pub low : j + 1 + slack (sort_of (get_or w (j * due_words) 0)) ≤ allowed (get_or w (j * due_words + due_room_at) 0)

-- the stack as it stands: m groups, and room for all that can come to be due with them
pub record Stacked (w : List ℕ) (m : ℕ) : Type 0 where
  pub long : work_words ≤ length w
  pub each : (j : ℕ) → j < m → Fits w j

-- ── the topmost group ──

-- what is so of a group on top of m others
pub record Top (s : Sort) (n d m : ℕ) : Type 0 where
  pub count : 0 < n
  pub room : d ≤ max_room
  pub low : m + 1 + slack s ≤ allowed d

-- the topmost of m groups: n records of a sort, each with room d
pub record Topmost (w : List ℕ) (m : ℕ) (s : Sort) (n d : ℕ) : Type 0 where
  pub top : Top s n d (m - 1)
  pub is : dues w m ≡ due s n d ∷ dues w (m - 1)

-- one of its records is read: it has one less, and is gone at none
pub record Taken (w w' : List ℕ) (m m' : ℕ) (s : Sort) (n d : ℕ) : Type 0 where
  pub topmost : Topmost w m s n d
  pub same : length w' ≡ length w
  pub low : m - 1 ≤ m'
  pub high : m' ≤ suc (m - 1)
  pub left : Alike (dues w' m') (due s (n - 1) d ∷ dues w (m - 1))

-- what is due when nothing is left
pub none_due_is : (w : List ℕ) (m : ℕ) → m ≡ 0 → dues w m ≡ []
unfolding dues
none_due_is w m e = rw e

module _ (w : List ℕ) (m : ℕ) (h : 0 < m) (s : Stacked w m) where
  top_low : m - 1 < max_due
  top_low = let t = s.each (m - 1) (omega arith) in omega (arith, t.low)

  top_fits : Top (group w (m - 1)).sort (group w (m - 1)).count (group w (m - 1)).room (m - 1)
  top_fits = let t = s.each (m - 1) (omega arith) in record { count = t.count; room = t.room; low = t.low }

top_is : (w : List ℕ) (m : ℕ) → 0 < m → dues w m ≡ group w (m - 1) ∷ dues w (m - 1)
unfolding dues
top_is w zero h = absurd (omega arith)
top_is w (suc m) h = let e : suc m - 1 ≡ m = omega arith in rw e

pub topmost : {w : List ℕ} {m : ℕ} → 0 < m → Stacked w m → Topmost w m (sort_of (get_or w ((m - 1) * due_words) 0)) (get_or w ((m - 1) * due_words + due_count_at) 0) (get_or w ((m - 1) * due_words + due_room_at) 0)
topmost {w} {m} h s = record { top = top_fits w m h s; is = top_is w m h }

pub taken_last : {w : List ℕ} {m : ℕ} → 0 < m → Stacked w m → get_or w ((m - 1) * due_words + due_count_at) 0 ≡ 1 → Taken w w m (m - 1) (sort_of (get_or w ((m - 1) * due_words) 0)) (get_or w ((m - 1) * due_words + due_count_at) 0) (get_or w ((m - 1) * due_words + due_room_at) 0)
taken_last {w} {m} h s e = record { topmost = topmost h s; same = refl; low = omega arith; high = omega arith; left = rw e (alike_sym (alike_none (group w (m - 1)).sort (group w (m - 1)).room (dues w (m - 1)))) }

module _ {w : List ℕ} {m : ℕ} (h : 0 < m) (s : Stacked w m) (more : get_or w ((m - 1) * due_words + due_count_at) 0 ≡ 1 → ⊥) where
  -- one less
  abbrev pub lessened : List ℕ
  lessened = set w ((m - 1) * due_words + due_count_at) (get_or w ((m - 1) * due_words + due_count_at) 0 - 1)

  lessened_count : get_or lessened ((m - 1) * due_words + due_count_at) 0 ≡ get_or w ((m - 1) * due_words + due_count_at) 0 - 1
  lessened_count = let few = top_low w m h s in get_or-set_same w ((m - 1) * due_words + due_count_at) (get_or w ((m - 1) * due_words + due_count_at) 0 - 1) 0 (omega (arith, s.long))

  lessened_other : (j : ℕ) → (j ≡ (m - 1) * due_words + due_count_at → ⊥) → get_or lessened j 0 ≡ get_or w j 0
  lessened_other j n = get_or-set_other w ((m - 1) * due_words + due_count_at) j (get_or w ((m - 1) * due_words + due_count_at) 0 - 1) 0 (omega arith)

  pub taken_more : Taken w lessened m m (sort_of (get_or w ((m - 1) * due_words) 0)) (get_or w ((m - 1) * due_words + due_count_at) 0) (get_or w ((m - 1) * due_words + due_room_at) 0)
  taken_more =
      let x = lessened_other ((m - 1) * due_words) (omega arith) in
      let y = lessened_other ((m - 1) * due_words + due_room_at) (omega arith) in
      let below : dues lessened (m - 1) ≡ dues w (m - 1) = dues_same w lessened (m - 1) (λ j l. lessened_other j (omega arith)) in
      let same : dues lessened m ≡ due (group w (m - 1)).sort ((group w (m - 1)).count - 1) (group w (m - 1)).room ∷ dues w (m - 1) = top_is lessened m h ∙ rw (x, lessened_count, y, below) in
      record { topmost = topmost h s; same = length-set w ((m - 1) * due_words + due_count_at) (get_or w ((m - 1) * due_words + due_count_at) 0 - 1); low = omega arith; high = omega arith; left = rw same (alike_refl _) }

-- ── pushing ──

-- a group on top
pub record Pushed (w w' : List ℕ) (m m' : ℕ) (sort : Sort) (count room : ℕ) : Type 0 where
  pub same : length w' ≡ length w
  pub more : m' ≡ suc m
  pub is : dues w' m' ≡ due sort count room ∷ dues w m

-- a group's words
fits_same : (w w' : List ℕ) (j : ℕ) → ((x : ℕ) → x < suc j * due_words → get_or w' x 0 ≡ get_or w x 0) → Fits w j → Fits w' j
fits_same w w' j h f =
    let s = h (j * due_words) (omega arith) in
    let c = h (j * due_words + due_count_at) (omega arith) in
    let d = h (j * due_words + due_room_at) (omega arith) in
    record { sort = rw s f.sort; count = rw c f.count; room = rw d f.room; low = rw (s, d) f.low }

-- the three words of a group
abbrev pub written : List ℕ → ℕ → ℕ → ℕ → ℕ → List ℕ
written w m s n d = set (set (set w (m * due_words) s) (m * due_words + due_count_at) n) (m * due_words + due_room_at) d

module _ (w : List ℕ) (m s n d : ℕ) (h : Stacked w m) (few : m < max_due) where
  written_long : length (written w m s n d) ≡ length w
  written_long = length-set (set (set w (m * due_words) s) (m * due_words + due_count_at) n) (m * due_words + due_room_at) d ∙ length-set (set w (m * due_words) s) (m * due_words + due_count_at) n ∙ length-set w (m * due_words) s

  written_below : (j : ℕ) → j < m * due_words → get_or (written w m s n d) j 0 ≡ get_or w j 0
  written_below j l =
      get_or-set_other (set (set w (m * due_words) s) (m * due_words + due_count_at) n) (m * due_words + due_room_at) j d 0 (omega arith)
      ∙ get_or-set_other (set w (m * due_words) s) (m * due_words + due_count_at) j n 0 (omega arith)
      ∙ get_or-set_other w (m * due_words) j s 0 (omega arith)

  written_room : get_or (written w m s n d) (m * due_words + due_room_at) 0 ≡ d
  written_room = get_or-set_same (set (set w (m * due_words) s) (m * due_words + due_count_at) n) (m * due_words + due_room_at) d 0 (omega (arith, h.long, length-set (set w (m * due_words) s) (m * due_words + due_count_at) n, length-set w (m * due_words) s))

  written_count : get_or (written w m s n d) (m * due_words + due_count_at) 0 ≡ n
  written_count =
      get_or-set_other (set (set w (m * due_words) s) (m * due_words + due_count_at) n) (m * due_words + due_room_at) (m * due_words + due_count_at) d 0 (omega arith)
      ∙ get_or-set_same (set w (m * due_words) s) (m * due_words + due_count_at) n 0 (omega (arith, h.long, length-set w (m * due_words) s))

  written_sort : get_or (written w m s n d) (m * due_words) 0 ≡ s
  written_sort =
      get_or-set_other (set (set w (m * due_words) s) (m * due_words + due_count_at) n) (m * due_words + due_room_at) (m * due_words) d 0 (omega arith)
      ∙ get_or-set_other (set w (m * due_words) s) (m * due_words + due_count_at) (m * due_words) n 0 (omega arith)
      ∙ get_or-set_same w (m * due_words) s 0 (omega (arith, h.long))

  push_is : dues (written w m s n d) (suc m) ≡ due (sort_of s) n d ∷ dues w m
  unfolding dues
  push_is = rw (written_sort, written_count, written_room) (ap (λ l. due (sort_of s) n d ∷ l) (dues_same w (written w m s n d) m written_below))

  written_fits : 0 < n → s < sort_count → d ≤ max_room → m + 1 + slack (sort_of s) ≤ allowed d → Fits (written w m s n d) m
  written_fits z l r p = record { sort = rw written_sort l; count = rw written_count z; room = rw written_room r; low = rw (written_sort, written_room) p }

pub pushed_stacked : {w : List ℕ} {m s n d m' : ℕ} → Stacked w m → m' ≡ suc m → 0 < n → s < sort_count → d ≤ max_room → m + 1 + slack (sort_of s) ≤ allowed d → Stacked (written w m s n d) m'
pushed_stacked {w} {m} {s} {n} {d} {m'} h e z l r p = record { long = omega (arith, written_long w m s n d h few, h.long); each = λ j k. at j k (eqb j m) refl }
  where
    few : m < max_due
    few = omega arith

    at : (j : ℕ) → j < m' → (t : Bool) → eqb j m ≡ t → Fits (written w m s n d) j
    at j k true q = rw (eqb-true j m q) (written_fits w m s n d h few z l r p)
    at j k false q =
        let other = eqb-false j m q in
        let low : j < m = omega arith in
        fits_same w (written w m s n d) j (λ x y. written_below w m s n d h few x (omega arith)) (h.each j low)

pub pushed : {w : List ℕ} {m n d m' : ℕ} (s : ℕ) → Stacked w m → m' ≡ suc m → m + 1 + slack (sort_of s) ≤ allowed d → Pushed w (written w m s n d) m m' (sort_of s) n d
pushed {w} {m} {n} {d} {m'} s h e p = let few : m < max_due = omega arith in record { same = written_long w m s n d h few; more = e; is = rw e (push_is w m s n d h few) }

-- ── a record's groups ──

-- k groups from group g on, on top of m others
pub record Groups (w w' : List ℕ) (n : ℕ) (ws : List ℕ) (g k m d r : ℕ) : Type 0 where
  pub same : length w' ≡ length w
  pub low : m ≤ r
  pub high : r ≤ m + k
  pub is : Alike (dues w' r) (due_of d (groups_from n ws g k) ++ dues w m)

-- there is room for every group of a kind
pub record Space (n m d : ℕ) : Type 0 where
  pub room : d ≤ max_room
  pub each : (g : ℕ) → g < group_count → m + group_count + slack (sort_of (group_sort n g)) ≤ allowed d

-- ── all groups of a record ──

groups_none : (w : List ℕ) (n : ℕ) (ws : List ℕ) (m d : ℕ) → Groups w w n ws group_count 0 m d m
unfolding groups_from due_of
groups_none w n ws m d = record { same = refl; low = omega arith; high = omega arith; is = alike_refl (dues w m) }

groups_pushed : (w w' w'' : List ℕ) (n : ℕ) (ws : List ℕ) (g k m d r r' : ℕ) → Groups w w' n ws (suc g) k m d r → Pushed w' w'' r r' (sort_of (group_sort n g)) (count_of ws (group_source n g)) d → Groups w w'' n ws g (suc k) m d r'
unfolding groups_from due_of
groups_pushed w w' w'' n ws g k m d r r' p q =
    record {
      same = q.same ∙ p.same;
      low = omega (arith, p.low, q.more);
      high = omega (arith, p.high, q.more);
      is = rw q.is (alike_under (due (sort_of (group_sort n g)) (count_of ws (group_source n g)) d) p.is);
    }

-- a group of none is passed over
groups_passed : (w w' : List ℕ) (n : ℕ) (ws : List ℕ) (g k m d r : ℕ) → Groups w w' n ws (suc g) k m d r → count_of ws (group_source n g) ≡ 0 → Groups w w' n ws g (suc k) m d r
unfolding groups_from due_of
groups_passed w w' n ws g k m d r p e = record { same = p.same; low = p.low; high = omega (arith, p.high); is = alike_trans p.is (rw e (alike_sym (alike_none (sort_of (group_sort n g)) d _))) }

-- the groups behind a kind's last are passed over
groups_behind : (w : List ℕ) (n : ℕ) (ws : List ℕ) (m d k : ℕ) → get_or group_numbers n 0 + k ≤ group_count → Groups w w n ws (group_count - k) k m d m
groups_behind w n ws m d zero h = groups_none w n ws m d
groups_behind w n ws m d (suc k) h =
    let g : ℕ = group_count - suc k in
    let after : group_count - k ≡ suc g = omega arith in
    let before : Groups w w n ws (group_count - k) k m d m = groups_behind w n ws m d k (omega arith) in
    let none : count_of ws (group_source n g) ≡ 0 = rw (none_behind n g (omega arith) (omega arith)) in
    groups_passed w w n ws g k m d m (rw after at before) none

-- before the first step, from the end of a kind's groups
pub begun : {w : List ℕ} {n : ℕ} {ws : List ℕ} {m d g : ℕ} → g ≡ get_or group_numbers n 0 → (g ≤ group_count) × Groups w w n ws g (group_count - g) m d m
begun {w} {n} {ws} {m} {d} {g} q =
    let few : g ≤ group_count = rw q (groups_few n) in
    let e : group_count - (group_count - g) ≡ g = omega arith in
    (few, rw e at (groups_behind w n ws m d (group_count - g) (omega arith)))

-- ── the loop over a record's groups, from the last to the first ──

module _ {w w' : List ℕ} {n : ℕ} {ws : List ℕ} {m d r : ℕ} where
  pub groups_step : {w'' : List ℕ} {g r' : ℕ} → 0 < g → g ≤ group_count → Groups w w' n ws g (group_count - g) m d r → Pushed w' w'' r r' (sort_of (group_sort n (g - 1))) (count_of ws (group_source n (g - 1))) d → Groups w w'' n ws (g - 1) (group_count - (g - 1)) m d r'
  groups_step {w'' = w''} {g = zero} {r' = r'} h l p q = absurd (omega arith)
  groups_step {w'' = w''} {g = suc g} {r' = r'} h l p q =
      let e : suc g - 1 ≡ g = omega arith in
      let k : group_count - (suc g - 1) ≡ suc (group_count - suc g) = omega arith in
      rw (k, e) (groups_pushed w w' w'' n ws g (group_count - suc g) m d r r' p (rw e at q))

  pub groups_pass : {g : ℕ} → 0 < g → g ≤ group_count → Groups w w' n ws g (group_count - g) m d r → count_of ws (group_source n (g - 1)) ≡ 0 → Groups w w' n ws (g - 1) (group_count - (g - 1)) m d r
  groups_pass {g = zero} h l p z = absurd (omega arith)
  groups_pass {g = suc g} h l p z =
      let e : suc g - 1 ≡ g = omega arith in
      let k : group_count - (suc g - 1) ≡ suc (group_count - suc g) = omega arith in
      rw (k, e) (groups_passed w w' n ws g (group_count - suc g) m d r p (rw e at z))
