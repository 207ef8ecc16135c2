-- Tests 2 to 8 of a sheet, from what the reader and the check answer. Assumes nothing.
use Rattle.std.specs.Prelude.{◌≡◌, refl, ℕ, ◌<◌, ◌≤◌, Bool, true, false, cond, List, [], ltb, length, Option, None, Some, Result, Ok, Err}
use Rattle.std.proofs.Common.{sym, ap, arith, ◌∙◌}
use Rattle.std.proofs.lemmas.Bool.{ltb-true, ltb-false}
use borrow.Author.Tests.{lt-ltb, le-ltb}
use Rattle.model.specs.Text.{Bytes}
use Rattle.model.specs.Kind.{statement}
use Rattle.model.specs.Tree.{Tree}
use Rattle.model.specs.Sheet.{Place, Reading, got, refused, read_sheet, first_write}
use Rattle.model.specs.Refusal.{values_of}
use Rattle.model.specs.Check.{precheck_statement}
use Rattle.model.specs.Call.{Test, refuse, pass, then, test_bytes, test_reading, test_write, test_check, record_count, max_bytes, max_depth}
use Rattle.words.specs.Words.{max_records}
use Rattle.words.specs.Held.{Held, HeldSome}
use Rattle.laws.specs.SheetLaws.{sheet_sound}
use Rattle.precheck.specs.Answer.{Says}
use Rattle.precheck.specs.declared.PlanLowerError.{PlanLowerError}
use Rattle.sheet.specs.Reader.{read_only, refusal_of as read_refusal, Reads}
use Rattle.sheet.specs.declared.reader.ReadError.{ReadError}
use Rattle.statement.specs.declared.Fault.{Fault}
use Rattle.statement.specs.Answer.{fault_of, fault_answer}

-- ── what is tested, and what is promised of it ──

-- the tests in order
unfoldable pub sheet_tests : Bytes → Test (Tree statement)
sheet_tests sheet = then (test_bytes sheet) λ _. then (read_only max_depth sheet) λ t. test_check t (precheck_statement t)

-- a test that refuses a sheet for a fault, with some name
pub record Fails {A : Type 0} (f : Fault) (m : Test A) : Type 0 where
  pub unresolved : Bytes
  pub is : m ≡ refuse (fault_of f unresolved)

-- the tree that comes through, which the words hold, and its number of records
pub record Passes (sheet : Bytes) (a b : List ℕ) (n : ℕ) : Type 0 where
  pub tree : Tree statement
  pub is : sheet_tests sheet ≡ pass tree
  pub count : record_count tree ≡ n
  pub held : Held sheet a b tree max_depth 0
  pub few : n ≤ max_records

abbrev pub TestsSheet : Bytes → List ℕ → List ℕ → Result ℕ Fault → Type 0
TestsSheet sheet a b (Ok n) = Passes sheet a b n
TestsSheet sheet a b (Err f) = Fails f (sheet_tests sheet)

-- test 2
abbrev pub bytes_of : Bytes → Result (Unit {0}) Fault
bytes_of sheet = cond (ltb max_bytes (length sheet)) (Err Fault.LongSheet) (Ok tt)

-- the records are not too many
written : (u t : Tree statement) (o : Option ℕ) → test_write u o ≡ pass t → u ≡ t
unfolding test_write
written u t None e = cc
written u t (Some l) e = let z : ◌≡◌ {A = ℕ} 0 1 = cc in absurd (omega arith)

passed : (sheet : Bytes) (t : Tree statement) (r : Reading (Tree statement)) → then (test_reading r) (λ t. test_write t (first_write t)) ≡ pass t → (p : Place) × (r ≡ got t p)
unfolding then test_reading
passed sheet t (got u p) e = (p, ap (λ v. got v p) (written u t (first_write u) e))
passed sheet t (refused x) e = let z : ◌≡◌ {A = ℕ} 0 1 = cc in absurd (omega arith)

pub held_few : (sheet : Bytes) (a b : List ℕ) {n : ℕ} → Reads max_depth sheet a b (Ok n) → n ≤ max_records
unfolding read_only record_count
held_few sheet a b d =
    let g = passed sheet d.0 (read_sheet max_depth sheet) d.1 in
    omega (arith, (sheet_sound max_depth sheet d.0 g.0 g.1).0.few, d.2)

-- ── tests 6 to 8, of any tree ──

module _ (t : Tree statement) where
  pub tree_fails : (x : PlanLowerError) → Says (Err x) (precheck_statement t) → Fails (Fault.Refused x) (test_check t (precheck_statement t))
  unfolding test_check
  tree_fails x s = record { unresolved = s.unresolved; is = rw s.is refl }

  pub tree_passes : Says (Ok tt) (precheck_statement t) → test_check t (precheck_statement t) ≡ pass t
  unfolding test_check
  tree_passes s = rw s refl

-- ── test 2 ──

module _ (sheet : Bytes) where
  pub not_long : {r : Result (Unit {0}) Fault} {x : Unit {0}} → r ≡ bytes_of sheet → r ≡ Ok x → length sheet ≤ max_bytes
  not_long e z = go (ltb max_bytes (length sheet)) refl (sym e ∙ z)
    where
      go : (b : Bool) {x : Unit {0}} → ltb max_bytes (length sheet) ≡ b → cond {A = Result (Unit {0}) Fault} b (Err Fault.LongSheet) (Ok tt) ≡ Ok x → length sheet ≤ max_bytes
      go true k z = cc
      go false k z = ltb-false max_bytes (length sheet) k

  pub too_long : {r : Result (Unit {0}) Fault} {f : Fault} → r ≡ bytes_of sheet → r ≡ Err f → (max_bytes < length sheet) × (f ≡ Fault.LongSheet)
  too_long e z = go (ltb max_bytes (length sheet)) refl (sym e ∙ z)
    where
      go : (b : Bool) {f : Fault} → ltb max_bytes (length sheet) ≡ b → cond {A = Result (Unit {0}) Fault} b (Err Fault.LongSheet) (Ok tt) ≡ Err f → (max_bytes < length sheet) × (f ≡ Fault.LongSheet)
      go true k z = (ltb-true max_bytes (length sheet) k, cc)
      go false k z = cc

  pub long_fails : {r : Result (Unit {0}) Fault} {f : Fault} → r ≡ bytes_of sheet → r ≡ Err f → Fails f (sheet_tests sheet)
  unfolding sheet_tests then test_bytes
  long_fails e z =
      let l = too_long e z in
      rw l.1 (record { unresolved = []; is = rw (lt-ltb max_bytes (length sheet) l.0) refl })

  -- ── tests 3 to 8, of a sheet that is not too long ──

  module _ (h : length sheet ≤ max_bytes) where
    pub unread_fails : (x : ReadError) → read_only max_depth sheet ≡ refuse (read_refusal x) → Fails (Fault.Unread x) (sheet_tests sheet)
    unfolding sheet_tests then test_bytes
    unread_fails x q = record { unresolved = []; is = rw (le-ltb max_bytes (length sheet) h, q) refl }

    module _ {t : Tree statement} (q : read_only max_depth sheet ≡ pass t) where
      pub check_fails : (x : PlanLowerError) → Says (Err x) (precheck_statement t) → Fails (Fault.Refused x) (sheet_tests sheet)
      unfolding sheet_tests then test_bytes
      check_fails x s = let f = tree_fails t x s in record { unresolved = f.unresolved; is = rw (le-ltb max_bytes (length sheet) h, q) f.is }

      pub check_passes : Says (Ok tt) (precheck_statement t) → sheet_tests sheet ≡ pass t
      unfolding sheet_tests then test_bytes
      check_passes s = rw (le-ltb max_bytes (length sheet) h, q) (tree_passes t s)

  pub all_pass : {a b : List ℕ} {n : ℕ} → length sheet ≤ max_bytes → (d : Reads max_depth sheet a b (Ok n)) → Says (Ok tt) (precheck_statement d.0) → Passes sheet a b n
  all_pass {a} {b} h d s = record { tree = d.0; is = check_passes h d.1 s; count = d.2; held = d.3; few = held_few sheet a b d }

-- what passed, by another name of the words
pub passed_as : {sheet : Bytes} {a b a' b' : List ℕ} {n : ℕ} → (a' ≡ a) × (b' ≡ b) → Passes sheet a b n → Passes sheet a' b' n
passed_as e p = rw (e.0, e.1) p

pub passed_held : {sheet : Bytes} {a b : List ℕ} {n : ℕ} → Passes sheet a b n → HeldSome sheet a b statement max_depth 0
passed_held p = record { tree = p.tree; is = p.held }

-- ── no value tells the name ──

pub nameless : (f : Fault) (unresolved : Bytes) → values_of (fault_of f unresolved) ≡ fault_answer f
nameless Fault.LongSheet unresolved = refl
nameless (Fault.Unread e) unresolved = refl
nameless (Fault.Refused (PlanLowerError.UnresolvedName line span)) unresolved = refl
nameless (Fault.Refused (PlanLowerError.UndesugaredExpr line span kind)) unresolved = refl
nameless (Fault.Refused (PlanLowerError.EmptyPatternPart line span)) unresolved = refl
