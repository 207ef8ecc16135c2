-- The sizing call's tests in order, from what the reader and the check answer. Assumes nothing.
use Rattle.std.specs.Prelude.{◌≡◌, refl, ℕ, ◌*◌, ◌<◌, ◌≤◌, Bool, true, false, List, [], ◌∷◌, ltb, length, Ok, Err, ◌||◌, not}
use Rattle.std.specs.List.{list_any}
use Rattle.std.proofs.Common.{sym, ap, ◌∙◌}
use Rattle.std.proofs.Math.Bool.{or-true}
use Rattle.std.proofs.lemmas.Bool.{ltb-false, not-false, not-true}
use borrow.Author.Tests.{lt-ltb, le-ltb}
use Rattle.model.specs.Text.{Bytes}
use Rattle.model.specs.Kind.{statement}
use Rattle.model.specs.Tree.{Tree}
use Rattle.model.specs.Sheet.{read_sheet}
use Rattle.model.specs.Refusal.{Refusal, Answer as Values, values_of}
use Rattle.model.specs.Check.{precheck_statement}
use Rattle.model.specs.Call.{Test, refuse, pass, then, short, test_work, test_bytes, test_reading, test_check, checked, Sized, refusal, work_words, max_bytes, max_depth}
use Rattle.words.specs.Held.{Held, HeldSome}
use Rattle.sheet.specs.Reader.{read_only, Reads}
use Rattle.statement.specs.Work.{sizes}
use Rattle.statement.specs.declared.Fault.{Fault}
use Rattle.precheck.specs.Answer.{Says}
use Rattle.precheck.specs.declared.PlanLowerError.{PlanLowerError}
use Rattle.statement.specs.Answer.{error_answer, fault_answer, Long}
use Rattle.statement.specs.Tests.{sheet_tests, Fails, tree_fails, nameless}

-- ── test 1 ──

-- the test as a search in the lengths
pub short_any : (ws : List ℕ) → short ws ≡ list_any (λ n. ltb n work_words) ws
unfolding short
short_any [] = refl
short_any (w ∷ ws) = ap (λ s. ltb w work_words || s) (short_any ws)

-- one slice is too short
module _ (a b c d : ℕ) where
  pub short_a : a < work_words → short (a ∷ b ∷ c ∷ d ∷ []) ≡ true
  unfolding short
  short_a h = rw (lt-ltb a work_words h)

  pub short_b : b < work_words → short (a ∷ b ∷ c ∷ d ∷ []) ≡ true
  unfolding short
  short_b h = rw (lt-ltb b work_words h) (or-true (ltb a work_words))

  pub short_c : c < work_words → short (a ∷ b ∷ c ∷ d ∷ []) ≡ true
  unfolding short
  short_c h = rw (lt-ltb c work_words h, or-true (ltb b work_words)) (or-true (ltb a work_words))

  pub short_d : d < work_words → short (a ∷ b ∷ c ∷ d ∷ []) ≡ true
  unfolding short
  short_d h = rw (lt-ltb d work_words h, or-true (ltb c work_words), or-true (ltb b work_words)) (or-true (ltb a work_words))

  pub none_short : (work_words ≤ a) × (work_words ≤ b) × (work_words ≤ c) × (work_words ≤ d) → short (a ∷ b ∷ c ∷ d ∷ []) ≡ false
  unfolding short
  none_short h = rw (le-ltb a work_words h.0, le-ltb b work_words h.1, le-ltb c work_words h.2, le-ltb d work_words h.3)

-- the test's outcome, as the code asks for it
module _ (ws : List ℕ) (r : Bool) (h : r ≡ not (short ws)) where
  pub is_long : r ≡ true → short ws ≡ false
  is_long e = not-true (short ws) (sym h ∙ e)

  pub is_short : r ≡ false → short ws ≡ true
  is_short e = not-false (short ws) (sym h ∙ e)

-- four slices that are long enough
pub record Enough (a b c d : List ℕ) : Type 0 where
  pub first : work_words ≤ length a
  pub second : work_words ≤ length b
  pub third : work_words ≤ length c
  pub fourth : work_words ≤ length d

both : (x y : Bool) → (x || y) ≡ false → (x ≡ false) × (y ≡ false)
both true y e = cc
both false y e = (refl, e)

pub enough : (a b c d : List ℕ) → short (sizes a b c d) ≡ false → Enough a b c d
unfolding short
enough a b c d h =
    let p = both (ltb (length a) work_words) _ h in
    let q = both (ltb (length b) work_words) _ p.1 in
    let r = both (ltb (length c) work_words) _ q.1 in
    let s = both (ltb (length d) work_words) _ r.1 in
    record {
      first = ltb-false (length a) work_words p.0;
      second = ltb-false (length b) work_words q.0;
      third = ltb-false (length c) work_words r.0;
      fourth = ltb-false (length d) work_words s.0;
    }

-- the same of the four one by one
pub long_of : (a b c d : List ℕ) (r : Bool) → r ≡ not (short (sizes a b c d)) → Long a b c d r
long_of a b c d true h = let e = enough a b c d (is_long _ true h refl) in (e.first, e.second, e.third, e.fourth)
long_of a b c d false h = is_short _ false h refl

pub long_tells : (a b c d : List ℕ) (r : Bool) → Long a b c d r → r ≡ not (short (sizes a b c d))
long_tells a b c d true l = rw (none_short (length a) (length b) (length c) (length d) l) refl
long_tells a b c d false s = rw s refl

-- ── the tests in order ──

then_assoc : {A B C : Type 0} (m : Test A) (f : A → Test B) (g : B → Test C) → then (then m f) g ≡ then m (λ a. then (f a) g)
unfolding then
then_assoc (refuse a) f g = refl
then_assoc (pass x) f g = refl

pub short_first : (work : List ℕ) (sheet : Bytes) → short work ≡ true → checked max_depth work sheet ≡ refuse Refusal.ShortWork
unfolding checked then test_work
short_first work sheet e = rw e

pub long_second : (work : List ℕ) (sheet : Bytes) → short work ≡ false → max_bytes < length sheet → checked max_depth work sheet ≡ refuse Refusal.LongSheet
unfolding checked then test_work test_bytes
long_second work sheet e h = rw (e, lt-ltb max_bytes (length sheet) h)

pub read_third : (work : List ℕ) (sheet : Bytes) → short work ≡ false → length sheet ≤ max_bytes → checked max_depth work sheet ≡ then (read_only max_depth sheet) (λ t. test_check t (precheck_statement t))
unfolding checked then test_work test_bytes read_only
read_third work sheet e h = rw (e, le-ltb max_bytes (length sheet) h) (sym (then_assoc (test_reading (read_sheet max_depth sheet)) _ _))

-- all behind test 1
pub tests_second : (work : List ℕ) (sheet : Bytes) → short work ≡ false → checked max_depth work sheet ≡ sheet_tests sheet
unfolding checked then test_work sheet_tests read_only
tests_second work sheet e = rw e (ap (λ (m : Test (Tree statement)). then (test_bytes sheet) (λ _. m)) (sym (then_assoc (test_reading (read_sheet max_depth sheet)) _ _)))

-- ── the check ──

-- of any tree, also of one that no sheet has
pub check_refused : (t : Tree statement) (x : PlanLowerError) → Says (Err x) (precheck_statement t) → Sized (test_check t (precheck_statement t)) (error_answer x)
check_refused t x s = let f = tree_fails t x s in rw f.is (rw (sym (nameless (Fault.Refused x) f.unresolved)) refusal)

-- ── the call ──

-- the figure of n records
abbrev pub figure_of : ℕ → ℕ
figure_of n = n * 4

module _ (work : List ℕ) (sheet : Bytes) (e : short work ≡ false) where
  pub size_failed : (f : Fault) → Fails f (sheet_tests sheet) → Sized (checked max_depth work sheet) (fault_answer f)
  size_failed f h = rw (tests_second work sheet e, h.is) (rw (sym (nameless f h.unresolved)) refusal)

  pub size_passed : (t : Tree statement) (x : Values) → sheet_tests sheet ≡ pass t → Sized (pass t) x → Sized (checked max_depth work sheet) x
  size_passed t x q s = rw (tests_second work sheet e, q) s

-- a statement is held, of not too many records; the words are those that were read
module _ (sheet : Bytes) {a b : List ℕ} {n : ℕ} (d : Reads max_depth sheet a b (Ok n)) {a' b' : List ℕ} (e : (a' ≡ a) × (b' ≡ b)) where
  pub held_as : Held sheet a' b' d.0 max_depth 0
  held_as = rw (e.0, e.1) d.3

  pub held_here : HeldSome sheet a' b' statement max_depth 0
  held_here = record { tree = d.0; is = held_as }

  pub held_some : (sheet : Bytes) × HeldSome sheet a' b' statement max_depth 0
  held_some = (sheet, held_here)

-- test 1 alone
pub no_size : (work : List ℕ) (sheet : Bytes) → short work ≡ true → Sized (checked max_depth work sheet) (values_of Refusal.ShortWork)
no_size work sheet e = rw (short_first work sheet e) refusal
