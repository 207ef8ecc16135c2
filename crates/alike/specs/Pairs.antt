-- Pairs of sheets, by computation: one that meets the premises of demand 3, and some that show that a premise cannot be dropped. Assumes nothing: each is proved.
use Rattle.std.specs.Prelude.{◌≡◌, refl, ◌↔◌, ℕ, zero, suc, ◌<◌, ◌≤◌, false, List, [], ◌∷◌, ◌++◌, map, length, get_or, drop, None}
use Rattle.std.proofs.Common.{arith, lit≤, lt-ltb}
use Rattle.model.specs.Text.{Bytes, bytes}
use Rattle.model.specs.Kind.{statement}
use Rattle.model.specs.Record.{Rec}
use Rattle.model.specs.Tree.{Tree, node, []ᵗ, end, ◌▸◌, records}
use Rattle.model.specs.Sheet.{Place, Reading, got, refused, read_sheet, first_write}
use Rattle.model.specs.Refusal.{accepted}
use Rattle.model.specs.Call.{Outcome, short, max_bytes, max_depth, then, test_work, test_bytes, checked, planned, outcome, lower_call}
use Rattle.model.specs.Examples.{compute, page}
use Rattle.laws.specs.SheetLaws.{sheet_sound}
use Rattle.alike.specs.Statement.{blank_val, blank_fields, blank, ids_val, ids_fields, ids, NotVar, NamedItem, NamedItems, NamedClause, NamedClauses, NamedArms, Named, TwoSheets}

-- the tree of a reading, and the place behind it
unfoldable pub tree_of : Reading (Tree statement) → Tree statement
tree_of (got t p) = t
tree_of (refused r) = node statement 1 tt (0, (0, tt)) ([]ᵗ ▸ []ᵗ ▸ end)

unfoldable pub place_of : Reading (Tree statement) → Place
place_of (got t p) = p
place_of (refused r) = record { line = 1; text = []; more = [] }

-- ── a pair that meets the premises: M1, and M1 with another id and other spans ──

unfoldable pub first : Bytes
first = bytes "stmt\t2\t0\nmatch\t0\t1\t0\t14\npart\t-\t0\t1\nnode\t7\t1\t0\t6\t14\nname\tBook\nreturn\t1\t0\t0\t0\t0\t15\t29\nitem\t-\nprop\ttitle\nvar\t7\n"

unfoldable pub second : Bytes
second = bytes "stmt\t2\t0\nmatch\t0\t1\t1\t15\npart\t-\t0\t1\nnode\t4294967295\t1\t0\t7\t15\nname\tBook\nreturn\t1\t0\t0\t0\t0\t16\t30\nitem\t-\nprop\ttitle\nvar\t4294967295\n"

reads_first : read_sheet max_depth first ≡ got (tree_of (read_sheet max_depth first)) (place_of (read_sheet max_depth first))
unfolding compute first tree_of place_of
reads_first = refl

pub reads_second : read_sheet max_depth second ≡ got (tree_of (read_sheet max_depth second)) (place_of (read_sheet max_depth second))
unfolding compute second tree_of place_of
reads_second = refl

unfoldable pub tree_first : Tree statement
tree_first = tree_of (read_sheet max_depth first)

unfoldable pub records_second : List Rec
records_second = records (tree_of (read_sheet max_depth second))

ids_first : ids (records tree_first) ≡ 7 ∷ 7 ∷ []
unfolding compute first tree_of tree_first ids ids_fields ids_val
ids_first = refl

ids_second : ids records_second ≡ 4294967295 ∷ 4294967295 ∷ []
unfolding compute second tree_of records_second ids ids_fields ids_val
ids_second = refl

-- two places with one value each
both_same : (a b i j : ℕ) → i < 2 → j < 2 → (get_or (a ∷ a ∷ []) i 0 ≡ get_or (a ∷ a ∷ []) j 0) ↔ (get_or (b ∷ b ∷ []) i 0 ≡ get_or (b ∷ b ∷ []) j 0)
both_same a b zero zero l m = (λ _. refl, λ _. refl)
both_same a b zero (suc zero) l m = (λ _. refl, λ _. refl)
both_same a b (suc zero) zero l m = (λ _. refl, λ _. refl)
both_same a b (suc zero) (suc zero) l m = (λ _. refl, λ _. refl)
both_same a b (suc (suc i)) j l m = absurd (omega arith)
both_same a b zero (suc (suc j)) l m = absurd (omega arith)
both_same a b (suc zero) (suc (suc j)) l m = absurd (omega arith)

named_first : Named tree_first
unfolding compute first tree_of tree_first Named NamedClauses NamedClause NamedItems NamedItem NotVar NamedArms
named_first = ((tt, ((tt, tt), tt)), tt)

same_first : map (λ r. blank r) (records tree_first) ≡ map (λ r. blank r) records_second
unfolding compute first second tree_of tree_first records_second blank blank_fields blank_val
same_first = refl

only_read : first_write tree_first ≡ None
unfolding compute first tree_of tree_first
only_read = refl

short_first : length first ≤ max_bytes
unfolding compute first
short_first = lit≤ tt

short_second : length second ≤ max_bytes
unfolding compute second
short_second = lit≤ tt

pub met : TwoSheets first second tree_first records_second
unfolding tree_first records_second
met =
    let w = (sheet_sound max_depth second _ _ reads_second).0 in
    record {
      short_s = short_first;
      behind = place_of (read_sheet max_depth first);
      reads = reads_first;
      read_only = only_read;
      named = named_first;
      spelled = w.spelled;
      fit = w.fit;
      same = same_first;
      one_to_one = rw (ids_first, ids_second) (λ i j l m. both_same 7 4294967295 i j l m);
      short_t = short_second;
    }

-- ── premises that cannot be dropped ──

-- a bare variable without an alias: its id shows in an operator line
unfoldable pub bare : Bytes → Outcome
unfolding compute page
bare id = compute (bytes "stmt\t1\t0\nreturn\t1\t0\t0\t0\t0\t0\t9\nitem\t-\nvar\t" ++ id ++ bytes "\n") page

unfoldable pub told : Bytes → Bytes
told id = bytes "plan\t2\t1\nsource\t0\t0\nproject\t0\t1\nitem\t_v" ++ id ++ bytes "\nvar\t0\nv\t0\t" ++ id ++ bytes "\n"

unfoldable pub holds : Bytes → Outcome
holds text = record { answer = accepted (length text); slice = text ++ drop (length text) page }

pub bare_7 : bare (bytes "7") ≡ holds (told (bytes "7"))
unfolding compute page bare told holds
bare_7 = refl

pub bare_8 : bare (bytes "8") ≡ holds (told (bytes "8"))
unfolding compute page bare told holds
bare_8 = refl

-- ids that are equal in one sheet and not in the other: two variables, or one
unfoldable pub nodes : Bytes → Outcome
unfolding compute page
nodes id = compute (bytes "stmt\t1\t0\nmatch\t0\t2\t0\t9\npart\t-\t0\t1\nnode\t4\t0\t0\t1\t2\npart\t-\t0\t1\nnode\t" ++ id ++ bytes "\t0\t0\t3\t4\n") page

pub two_nodes : nodes (bytes "5") ≡ holds (bytes "plan\t2\t2\nsource\t0\t0\nsource\t1\t0\nv\t0\t4\nv\t1\t5\n")
unfolding compute page nodes holds
two_nodes = refl

pub one_node : nodes (bytes "4") ≡ holds (bytes "plan\t2\t1\nsource\t0\t0\nsource\t0\t0\nv\t0\t4\n")
unfolding compute page nodes holds
one_node = refl

-- a sheet that is too long is refused with 2, whatever stands in it
pub too_long : (work : List ℕ) (sheet slice : Bytes) → short work ≡ false → max_bytes < length sheet → (lower_call work sheet slice).answer.number ≡ 2
unfolding lower_call planned checked outcome then test_work test_bytes
too_long work sheet slice w l = rw (w, lt-ltb max_bytes (length sheet) l)
