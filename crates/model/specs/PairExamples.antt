-- Pairs worked through: two sheets as bytes, and the plan sheet or the refusal that the rules give. The expected side is typed from the rules.
use Rattle.std.specs.Prelude.{◌≡◌, refl, ℕ, zero, suc, Bool, true, false, List, [], ◌∷◌, ◌++◌, map, length, replicate, drop}
use Prim.Native.String.{String}
use Rattle.model.specs.Lower
use Rattle.model.specs.Pair
use Rattle.model.specs.Text.{Bytes, bytes}
use Rattle.model.specs.Refusal.{Answer, accepted, plain_refusal}
use Rattle.model.specs.Call.{Outcome, work_words}
use Rattle.model.specs.Pair.{pair_call}
use Rattle.model.specs.Examples.{compute}

-- the call with eight work slices that are long enough, opened down to what computes
unfoldable pub compute_pair : Bytes → Bytes → Bool → Bytes → Outcome
unfolding compute Lower.forget_vars Lower.lower_union_pair Lower.lower_pair Pair.then_sides Pair.on_side Pair.each Pair.checked_sides Pair.planned_pair Pair.sides_outcome Pair.pair_call
compute_pair left right all slice = pair_call (replicate 8 work_words) left right all slice

-- the plan slice before each call
unfoldable pub pair_page : Bytes
pair_page = replicate 200 255

-- number, line, span and kind
abbrev pub refusal : (number line start end kind : ℕ) → Answer
refusal n l s e k = record { number = n; line = l; start = s; end = e; kind = k; length = 0 }

-- two sheets, and what the call gives; the flag is for all
pub data PairRow : Type 0 where
  plans : (left right : Bytes) (all : Bool) (plan : String) → PairRow
  refuses : (left right : Bytes) → Answer → PairRow

unfoldable pub asked_pair : PairRow → Outcome
unfolding compute_pair pair_page
asked_pair (plans left right all plan) = compute_pair left right all pair_page
asked_pair (refuses left right a) = compute_pair left right false pair_page

unfoldable pub expected_pair : PairRow → Outcome
unfolding bytes pair_page
expected_pair (plans left right all plan) = record { answer = accepted (length (bytes plan)); slice = bytes plan ++ drop (length (bytes plan)) pair_page }
expected_pair (refuses left right a) = record { answer = a; slice = pair_page }

-- ── sheets that are accepted ──

abbrev pub none : Bytes
none = bytes "stmt\t0\t0\n"

-- MATCH (a:Book), with the id 7
abbrev pub book : Bytes
book = bytes "stmt\t1\t0\nmatch\t0\t1\t0\t9\npart\t-\t0\t1\nnode\t7\t1\t0\t6\t14\nname\tBook\n"

-- MATCH (a:Loan), with the same id
abbrev pub loan : Bytes
loan = bytes "stmt\t1\t0\nmatch\t0\t1\t0\t9\npart\t-\t0\t1\nnode\t7\t1\t0\t6\t14\nname\tLoan\n"

-- M1
abbrev pub titles : Bytes
titles = bytes "stmt\t2\t0\nmatch\t0\t1\t0\t14\npart\t-\t0\t1\nnode\t7\t1\t0\t6\t14\nname\tBook\nreturn\t1\t0\t0\t0\t0\t15\t29\nitem\t-\nprop\ttitle\nvar\t7\n"

-- M10
abbrev pub arms : Bytes
arms = bytes "stmt\t0\t1\narm\t0\t0\n"

-- OPTIONAL MATCH (), and a leading WHERE
abbrev pub maybe : Bytes
maybe = bytes "stmt\t1\t0\nmatch\t1\t1\t0\t9\npart\t-\t0\t1\nnode\t-\t0\t0\t6\t14\n"

abbrev pub filtered : Bytes
filtered = bytes "stmt\t1\t0\nwhere\t0\t1\nnull\n"

-- MATCH (a) OPTIONAL MATCH (b)-[r]->(c), whose ids are 1, 2, 3 and 4
abbrev pub copied : Bytes
copied = bytes "stmt\t2\t0\nmatch\t0\t1\t0\t9\npart\t-\t0\t1\nnode\t1\t0\t0\t0\t9\nmatch\t1\t1\t0\t9\npart\t-\t0\t3\nnode\t2\t0\t0\t0\t9\nrel\t3\t0\t0\tone\t-\t-\t0\t0\t9\nnode\t4\t0\t0\t0\t9\n"

-- ── sheets that are refused, at one place on the left and at another on the right ──

-- more than 32,768 bytes
abbrev pub long : Bytes
long = replicate 32769 10

unfoldable pub times : ℕ → Bytes → Bytes
times zero s = []
times (suc n) s = s ++ times n s

-- a line that is no record
abbrev pub bad : Bytes
bad = bytes "stmt\t1\t0\nwhere\t0\t1\nnil\n"

abbrev pub bad' : Bytes
bad' = bytes ""

-- depth 65
abbrev pub deep : Bytes
deep = bytes "stmt\t1\t0\nwhere\t0\t1\n" ++ times 63 (bytes "list\t1\n")

abbrev pub deep' : Bytes
deep' = bytes "stmt\t2\t0\nwhere\t0\t1\nnull\nwhere\t0\t1\n" ++ times 63 (bytes "list\t1\n")

abbrev pub write : Bytes
write = bytes "stmt\t1\t0\nwrite\t0\t1\n"

abbrev pub write' : Bytes
write' = bytes "stmt\t2\t0\nwhere\t0\t1\nnull\nwrite\t0\t1\n"

abbrev pub unres : Bytes
unres = bytes "stmt\t1\t0\nwhere\t3\t8\nunres\tx\n"

abbrev pub unres' : Bytes
unres' = bytes "stmt\t1\t0\nwhere\t5\t7\nlist\t1\nunres\ty\n"

abbrev pub undes : Bytes
undes = bytes "stmt\t1\t0\nwhere\t3\t8\nundes\t2\n"

abbrev pub undes' : Bytes
undes' = bytes "stmt\t1\t0\nwhere\t5\t7\nlist\t1\nundes\t3\n"

-- a part with no elements
abbrev pub part : Bytes
part = bytes "stmt\t1\t0\nmatch\t0\t1\t0\t9\npart\t-\t0\t0\n"

abbrev pub part' : Bytes
part' = bytes "stmt\t1\t0\nmatch\t0\t2\t2\t6\npart\t-\t0\t1\nnode\t-\t0\t0\t2\t3\npart\t-\t0\t0\n"

-- ── the table ──

unfoldable pub pair_table : List PairRow
pair_table =
    -- both empty: the source for the left comes before that for the right
    plans none none false "plan\t3\t0\nsource\t0\t0\nsource\t0\t0\nunion\t0\t1\t0\n"
    ∷ plans none none true "plan\t3\t0\nsource\t0\t0\nsource\t0\t0\nunion\t0\t1\t1\n"
    -- the left empty: its source comes behind the right's operators, and names the next number
    ∷ plans none book false "plan\t3\t1\nsource\t0\t1\nname\tBook\nsource\t1\t0\nunion\t1\t0\t0\nv\t0\t7\n"
    -- the right empty: no variable line
    ∷ plans book none false "plan\t3\t0\nsource\t0\t1\nname\tBook\nsource\t1\t0\nunion\t0\t1\t0\n"
    -- the same id on both sides has two numbers, and the right's is written
    ∷ plans book loan true "plan\t3\t1\nsource\t0\t1\nname\tBook\nsource\t1\t1\nname\tLoan\nunion\t0\t1\t1\nv\t1\t7\n"
    ∷ plans loan book false "plan\t3\t1\nsource\t0\t1\nname\tLoan\nsource\t1\t1\nname\tBook\nunion\t0\t1\t0\nv\t1\t7\n"
    ∷ plans titles titles false "plan\t5\t1\nsource\t0\t1\nname\tBook\nproject\t0\t1\nitem\ttitle\nprop\ttitle\nvar\t0\nsource\t1\t1\nname\tBook\nproject\t2\t1\nitem\ttitle\nprop\ttitle\nvar\t1\nunion\t1\t3\t0\nv\t1\t7\n"
    -- a side with an arm has that arm's union as its root
    ∷ plans arms none true "plan\t5\t0\nsource\t0\t0\nsource\t0\t0\nunion\t0\t1\t0\nsource\t0\t0\nunion\t2\t3\t1\n"
    ∷ plans none arms false "plan\t5\t0\nsource\t0\t0\nsource\t0\t0\nunion\t0\t1\t0\nsource\t0\t0\nunion\t3\t2\t0\n"
    -- the right has no operator before it: an optional match pushes no `optional`, a `where` a source of everything
    ∷ plans book maybe false "plan\t3\t0\nsource\t0\t1\nname\tBook\nsource\t1\t0\nunion\t0\t1\t0\n"
    ∷ plans book filtered false "plan\t4\t0\nsource\t0\t1\nname\tBook\nsource\t1\t0\nfilter\t1\nnull\nunion\t0\t2\t0\n"
    -- operators go on in the right's copies
    ∷ plans book copied false "plan\t6\t4\nsource\t0\t1\nname\tBook\nsource\t1\t0\nsource\t2\t0\nexpand\t2\t2\t4\t3\nrel\t0\t0\tone\t-\t-\t0\nto\t0\t0\noptional\t1\nexpand\t2\t2\t4\t3\nrel\t0\t0\tone\t-\t-\t0\nto\t0\t0\nunion\t0\t4\t0\nv\t1\t1\nv\t2\t2\nv\t3\t4\nv\t4\t3\n"
    -- 2: alone, before a later test on either side, and on both
    ∷ refuses long none (refusal 2 0 0 0 1)
    ∷ refuses none long (refusal 2 0 0 0 2)
    ∷ refuses long bad' (refusal 2 0 0 0 1)
    ∷ refuses bad long (refusal 2 0 0 0 2)
    ∷ refuses deep long (refusal 2 0 0 0 2)
    ∷ refuses write long (refusal 2 0 0 0 2)
    ∷ refuses undes long (refusal 2 0 0 0 2)
    ∷ refuses long long (refusal 2 0 0 0 1)
    -- 3 and 4 are one test
    ∷ refuses bad book (refusal 3 3 0 0 1)
    ∷ refuses book bad' (refusal 3 1 0 0 2)
    ∷ refuses deep book (refusal 4 65 0 0 1)
    ∷ refuses book deep' (refusal 4 67 0 0 2)
    ∷ refuses bad bad' (refusal 3 3 0 0 1)
    ∷ refuses deep deep' (refusal 4 65 0 0 1)
    ∷ refuses bad deep' (refusal 3 3 0 0 1)
    ∷ refuses deep bad' (refusal 4 65 0 0 1)
    ∷ refuses bad write' (refusal 3 3 0 0 1)
    ∷ refuses write bad' (refusal 3 1 0 0 2)
    ∷ refuses deep write' (refusal 4 65 0 0 1)
    ∷ refuses write deep' (refusal 4 67 0 0 2)
    ∷ refuses part bad' (refusal 3 1 0 0 2)
    -- 5
    ∷ refuses write book (refusal 5 2 0 0 1)
    ∷ refuses book write' (refusal 5 4 0 0 2)
    ∷ refuses write write' (refusal 5 2 0 0 1)
    ∷ refuses write unres' (refusal 5 2 0 0 1)
    ∷ refuses unres write' (refusal 5 4 0 0 2)
    ∷ refuses undes write' (refusal 5 4 0 0 2)
    ∷ refuses part write' (refusal 5 4 0 0 2)
    -- 6 to 8 are one test; the kind of 7 is 10 or 20 more than the form's
    ∷ refuses unres book (refusal 6 3 3 8 1)
    ∷ refuses book unres' (refusal 6 4 5 7 2)
    ∷ refuses undes book (refusal 7 3 3 8 12)
    ∷ refuses book undes' (refusal 7 4 5 7 23)
    ∷ refuses part book (refusal 8 3 0 9 1)
    ∷ refuses book part' (refusal 8 5 2 6 2)
    ∷ refuses unres unres' (refusal 6 3 3 8 1)
    ∷ refuses unres undes' (refusal 6 3 3 8 1)
    ∷ refuses undes unres' (refusal 7 3 3 8 12)
    ∷ refuses undes undes' (refusal 7 3 3 8 12)
    ∷ refuses undes part' (refusal 7 3 3 8 12)
    ∷ refuses part undes' (refusal 8 3 0 9 1)
    ∷ refuses part unres' (refusal 8 3 0 9 1)
    ∷ refuses part part' (refusal 8 3 0 9 1)
    ∷ []

pub pairs_worked : map (λ r. asked_pair r) pair_table ≡ map (λ r. expected_pair r) pair_table
unfolding asked_pair expected_pair pair_table times
pairs_worked = refl

-- 1 looks at all eight slices, before 2 on either side
pub short_last : pair_call (replicate 7 work_words ++ (16383 ∷ [])) none long false [] ≡ record { answer = plain_refusal 1; slice = [] }
unfolding compute_pair
short_last = refl

pub short_first : pair_call (16383 ∷ replicate 7 work_words) long none true [] ≡ record { answer = plain_refusal 1; slice = [] }
unfolding compute_pair
short_first = refl

-- the plan of two empty sheets has 43 bytes
pub exactly_full : compute_pair none none false (replicate 43 255) ≡ record { answer = accepted 43; slice = bytes "plan\t3\t0\nsource\t0\t0\nsource\t0\t0\nunion\t0\t1\t0\n" }
unfolding compute_pair bytes
exactly_full = refl

-- 10 is of no side, and comes behind 8
pub one_short : compute_pair none none false (replicate 42 255) ≡ record { answer = plain_refusal 10; slice = replicate 42 255 }
unfolding compute_pair
one_short = refl

pub part_before_room : compute_pair none part' false [] ≡ record { answer = refusal 8 5 2 6 2; slice = [] }
unfolding compute_pair
part_before_room = refl
