-- The laws of the tests on two sheets: what the code finds is what the definition's tests say. Assumes nothing: these are laws with their proofs.
use Rattle.std.specs.Prelude.{◌≡◌, refl, ℕ, List, [], Option, None, Some, Result, Ok, Err}
use Rattle.std.proofs.Common.{subst, ◌∙◌, arith}
use Rattle.model.specs.Text.{Bytes}
use Rattle.model.specs.Kind.{statement}
use Rattle.model.specs.Tree.{Tree}
use Rattle.model.specs.Refusal.{Refusal}
use Rattle.model.specs.Sheet.{Reading, got, refused, read_sheet, first_write}
use Rattle.model.specs.Side.{left_side, right_side}
use Rattle.model.specs.Check.{violated, precheck_statement}
use Rattle.model.specs.Call.{Test, refuse, pass, then, test_reading, test_write, test_check, max_depth}
use Rattle.model.specs.Pair.{refuse_side, pass_side, then_sides, on_side, each}
use Rattle.words.specs.Held.{HeldSome}
use Rattle.precheck.specs.Answer.{Says, error_of}
use Rattle.precheck.specs.declared.PlanLowerError.{PlanLowerError}
use Rattle.sheet.specs.Reader.{read_only, Reads}
use Rattle.sheet.specs.declared.reader.ReadError.{ReadError}
use Rattle.statement.specs.declared.Fault.{Fault}
use Rattle.sides.specs.declared.Side.{Side}
use Rattle.sides.specs.declared.SideFault.{SideFault}
use Rattle.statement.specs.Answer.{fault_of}
use Rattle.demands.proofs.WriteFound.{WriteFound, write_found}
use Rattle.sides.specs.Sides.{Found, Tested, each_of, read_of, FailsOn, CheckFinds, ChecksSheet, check_sides, read_sides, BothRead, ReadBoth, BothTested, TestedBoth}

-- ── a test on two sides ──

module _ {A B : Type 0} (f : A → Test B) (x y : A) where
  each_left : (r : Refusal) → f x ≡ refuse r → each f left_side 2 (x, (y, tt)) ≡ refuse_side (record { side = left_side; refusal = r })
  unfolding each on_side then_sides
  each_left r e = rw e

  module _ (x' : B) (e : f x ≡ pass x') where
    each_right : (r : Refusal) → f y ≡ refuse r → each f left_side 2 (x, (y, tt)) ≡ refuse_side (record { side = right_side; refusal = r })
    unfolding each on_side then_sides
    each_right r e' = rw (e, e')

    each_both : (y' : B) → f y ≡ pass y' → each f left_side 2 (x, (y, tt)) ≡ pass_side (x', (y', tt))
    unfolding each on_side then_sides
    each_both y' e' = rw (e, e')

-- ── the reader's answers ──

-- test 5 refuses with 5 alone, so a refusal with another number is the reading's
abbrev OfWrite : Refusal → Type 0
OfWrite (Refusal.WriteClause line) = Unit {0}
OfWrite Refusal.ShortWork = ⊥
OfWrite Refusal.LongSheet = ⊥
OfWrite (Refusal.BadLine line) = ⊥
OfWrite (Refusal.BigTree line) = ⊥
OfWrite (Refusal.UnresolvedName line span name) = ⊥
OfWrite (Refusal.UndesugaredExpr line span kind) = ⊥
OfWrite (Refusal.EmptyPatternPart line span) = ⊥
OfWrite Refusal.PlanFull = ⊥
OfWrite Refusal.NoRoom = ⊥

write_refuses : (t : Tree statement) (o : Option ℕ) (x : Refusal) → test_write t o ≡ refuse x → OfWrite x
unfolding test_write
write_refuses t None x e = let z : ◌≡◌ {A = ℕ} 0 1 = cc in absurd (omega arith)
write_refuses t (Some line) x e = let z : Refusal.WriteClause line ≡ x = cc in subst (λ y. OfWrite y) z tt

unread : (r : Reading (Tree statement)) (x : Refusal) → (OfWrite x → ⊥) → then (test_reading r) (λ t. test_write t (first_write t)) ≡ refuse x → test_reading r ≡ refuse x
unfolding then test_reading
unread (got t p) x never e = absurd (never (write_refuses t (first_write t) x e))
unread (refused y) x never e = e

module _ (sheet : Bytes) where
  bad_unread : (line : ℕ) → read_only max_depth sheet ≡ refuse (Refusal.BadLine line) → test_reading (read_sheet max_depth sheet) ≡ refuse (Refusal.BadLine line)
  unfolding read_only
  bad_unread line e = unread (read_sheet max_depth sheet) (Refusal.BadLine line) (λ z. z) e

  big_unread : (line : ℕ) → read_only max_depth sheet ≡ refuse (Refusal.BigTree line) → test_reading (read_sheet max_depth sheet) ≡ refuse (Refusal.BigTree line)
  unfolding read_only
  big_unread line e = unread (read_sheet max_depth sheet) (Refusal.BigTree line) (λ z. z) e

-- a tree that comes through was read, and has no `write`
write_passes : (t u : Tree statement) (o : Option ℕ) → test_write t o ≡ pass u → (t ≡ u) × (o ≡ None)
unfolding test_write
write_passes t u None e = let z : t ≡ u = cc in (z, refl)
write_passes t u (Some line) e = let z : ◌≡◌ {A = ℕ} 0 1 = cc in absurd (omega arith)

reads_only : (r : Reading (Tree statement)) (u : Tree statement) → then (test_reading r) (λ t. test_write t (first_write t)) ≡ pass u → (test_reading r ≡ pass u) × (first_write u ≡ None)
unfolding then test_reading
reads_only (got t p) u e = let h = write_passes t u (first_write t) e in (rw h.0, rw h.0 at h.1)
reads_only (refused y) u e = let z : ◌≡◌ {A = ℕ} 0 1 = cc in absurd (omega arith)

read_only_law : (sheet : Bytes) (t : Tree statement) → read_only max_depth sheet ≡ pass t → (test_reading (read_sheet max_depth sheet) ≡ pass t) × (first_write t ≡ None)
unfolding read_only
read_only_law sheet t e = reads_only (read_sheet max_depth sheet) t e

-- ── tests 3 to 5 on both ──

abbrev read : Bytes → Test (Tree statement)
read sheet = test_reading (read_sheet max_depth sheet)

-- a fault of the reading, and then one of test 5
module _ (left right : Bytes) where
  left_unread : (f : Fault) → read left ≡ refuse (fault_of f []) → FailsOn (record { side = Side.Left; fault = f }) (read_sides left right)
  unfolding read_sides then_sides
  left_unread f e = record { unresolved = []; is = rw (each_left read left right (fault_of f []) e) }

  module _ (t : Tree statement) (e : read left ≡ pass t) where
    right_unread : (f : Fault) → read right ≡ refuse (fault_of f []) → FailsOn (record { side = Side.Right; fault = f }) (read_sides left right)
    unfolding read_sides then_sides
    right_unread f e' = record { unresolved = []; is = rw (each_right read left right t e (fault_of f []) e') }

    module _ (u : Tree statement) (e' : read right ≡ pass u) where
      left_writes : (l : ℕ) → first_write t ≡ Some l → FailsOn (record { side = Side.Left; fault = Fault.Unread (ReadError.WriteClause l) }) (read_sides left right)
      unfolding read_sides then_sides test_write
      left_writes l w = record { unresolved = []; is = rw (each_both read left right t e u e', each_left (λ t. test_write t (first_write t)) t u (Refusal.WriteClause l) (rw w)) }

      module _ (w : first_write t ≡ None) where
        right_writes : (l : ℕ) → first_write u ≡ Some l → FailsOn (record { side = Side.Right; fault = Fault.Unread (ReadError.WriteClause l) }) (read_sides left right)
        unfolding read_sides then_sides test_write
        right_writes l w' = record { unresolved = []; is = rw (each_both read left right t e u e', each_right (λ t. test_write t (first_write t)) t u t (rw w) (Refusal.WriteClause l) (rw w')) }

        none_writes : first_write u ≡ None → read_sides left right ≡ check_sides (t, (u, tt))
        unfolding read_sides then_sides test_write
        none_writes w' = rw (each_both read left right t e u e', each_both (λ t. test_write t (first_write t)) t u t (rw w) u (rw w'))

-- a sheet with a write was read, as a tree that has it
found : (sheet : Bytes) (a b : List ℕ) (l : ℕ) → Reads max_depth sheet a b (Err (ReadError.WriteClause l)) → WriteFound (read_sheet max_depth sheet) l
unfolding read_only
found sheet a b l e = write_found max_depth sheet l e

module _ (left right : Bytes) (la lb ra rb : List ℕ) where
  pub read_law : (l r : Result ℕ ReadError) → Reads max_depth left la lb l → Reads max_depth right ra rb r → ReadBoth left la lb right ra rb (read_of l r)
  read_law (Err (ReadError.BadLine l)) r p q = left_unread left right (Fault.Unread (ReadError.BadLine l)) (bad_unread left l p)
  read_law (Err (ReadError.BigTree l)) r p q = left_unread left right (Fault.Unread (ReadError.BigTree l)) (big_unread left l p)
  read_law (Ok n) (Err (ReadError.BadLine l)) p q = right_unread left right p.0 (read_only_law left p.0 p.1).0 (Fault.Unread (ReadError.BadLine l)) (bad_unread right l q)
  read_law (Ok n) (Err (ReadError.BigTree l)) p q = right_unread left right p.0 (read_only_law left p.0 p.1).0 (Fault.Unread (ReadError.BigTree l)) (big_unread right l q)
  read_law (Err (ReadError.WriteClause n)) (Err (ReadError.BadLine l)) p q = let x = found left la lb n p in right_unread left right x.tree x.reads (Fault.Unread (ReadError.BadLine l)) (bad_unread right l q)
  read_law (Err (ReadError.WriteClause n)) (Err (ReadError.BigTree l)) p q = let x = found left la lb n p in right_unread left right x.tree x.reads (Fault.Unread (ReadError.BigTree l)) (big_unread right l q)
  read_law (Err (ReadError.WriteClause n)) (Ok k) p q = let x = found left la lb n p in left_writes left right x.tree x.reads q.0 (read_only_law right q.0 q.1).0 n x.first
  read_law (Err (ReadError.WriteClause n)) (Err (ReadError.WriteClause k)) p q =
      let x = found left la lb n p in
      let y = found right ra rb k q in
      left_writes left right x.tree x.reads y.tree y.reads n x.first
  read_law (Ok n) (Err (ReadError.WriteClause k)) p q =
      let x = read_only_law left p.0 p.1 in
      let y = found right ra rb k q in
      right_writes left right p.0 x.0 y.tree y.reads x.1 k y.first
  read_law (Ok n) (Ok k) p q =
      let x = read_only_law left p.0 p.1 in
      let y = read_only_law right q.0 q.1 in
      record { held = record { tree = p.0; tree₂ = q.0; on_left = p.3; on_right = q.3 }; passes = none_writes left right p.0 x.0 q.0 y.0 x.1 y.1 }

-- ── tests 6 to 8 on both ──

-- the check's verdict
module _ (t : Tree statement) where
  pub check_fine : Says (Ok tt) (precheck_statement t) → CheckFinds (Ok tt) t
  unfolding test_check
  check_fine h = rw h

  refused_with : (x : PlanLowerError) (unresolved : Bytes) → precheck_statement t ≡ violated (error_of x unresolved) → test_check t (precheck_statement t) ≡ refuse (error_of x unresolved)
  unfolding test_check
  refused_with x unresolved e = rw e

  pub check_refused : (x : PlanLowerError) → Says (Err x) (precheck_statement t) → CheckFinds (Err (Fault.Refused x)) t
  check_refused x h = record { unresolved = h.unresolved; is = refused_with x h.unresolved h.is }

module _ {left right : Bytes} {la lb ra rb : List ℕ} (b : BothRead left la lb right ra rb) where
  abbrev t : Tree statement
  t = b.held.tree

  abbrev u : Tree statement
  u = b.held.tree₂

  pub checks_law : (x y : Found) → CheckFinds x t → CheckFinds y u → TestedBoth left la lb right ra rb (each_of x y)
  unfolding check_sides
  checks_law (Err f) y p q = record { unresolved = p.unresolved; is = b.passes ∙ each_left (λ t. test_check t (precheck_statement t)) t u _ p.is }
  checks_law (Ok x) (Err f) p q = record { unresolved = q.unresolved; is = b.passes ∙ each_right (λ t. test_check t (precheck_statement t)) t u t p _ q.is }
  checks_law (Ok x) (Ok y) p q = record { held = b.held; passes = b.passes ∙ each_both (λ t. test_check t (precheck_statement t)) t u t p u q }

-- ── at what the code found ──

module _ (left right : Bytes) (la lb ra rb : List ℕ) where
  read_at : {r : Tested} (l l' : Result ℕ ReadError) → r ≡ read_of l l' → Reads max_depth left la lb l → Reads max_depth right ra rb l' → ReadBoth left la lb right ra rb r
  read_at {r} l l' e p q = rw e (read_law left right la lb ra rb l l' p q)

  module _ {r : Tested} (l l' : Result ℕ ReadError) (e : r ≡ read_of l l') (p : Reads max_depth left la lb l) (q : Reads max_depth right ra rb l') where
    pub read_passed : {x : Unit {0}} → r ≡ Ok x → BothRead left la lb right ra rb
    read_passed z = rw z at (read_at l l' e p q)

    pub read_failed : {f : SideFault} → r ≡ Err f → FailsOn f (read_sides left right)
    read_failed z = rw z at (read_at l l' e p q)

  -- of what the words held when they were read
  pub checked_at : {r : Tested} {la' lb' ra' rb' : List ℕ} (x y : Found) → r ≡ each_of x y → (la' ≡ la) × (lb' ≡ lb) → (ra' ≡ ra) × (rb' ≡ rb) → BothRead left la lb right ra rb → ChecksSheet la' lb' x → ChecksSheet ra' rb' y → TestedBoth left la lb right ra rb r
  checked_at {r} x y e l r' b p q = rw e (checks_law b x y (p left b.held.tree (rw (l.0, l.1) b.held.on_left)) (q right b.held.tree₂ (rw (r'.0, r'.1) b.held.on_right)))

  -- what is asked of the check
  pub left_held : {la' lb' : List ℕ} → (la' ≡ la) × (lb' ≡ lb) → BothRead left la lb right ra rb → (sheet : Bytes) × HeldSome sheet la' lb' statement max_depth 0
  left_held e b = rw (e.0, e.1) (left, record { tree = b.held.tree; is = b.held.on_left })

  pub right_held : {ra' rb' : List ℕ} → (ra' ≡ ra) × (rb' ≡ rb) → BothRead left la lb right ra rb → (sheet : Bytes) × HeldSome sheet ra' rb' statement max_depth 0
  right_held e b = rw (e.0, e.1) (right, record { tree = b.held.tree₂; is = b.held.on_right })

  pub tested_passed : {r : Tested} {x : Unit {0}} → r ≡ Ok x → TestedBoth left la lb right ra rb r → BothTested left la lb right ra rb
  tested_passed e h = rw e at h

  pub tested_failed : {r : Tested} {f : SideFault} → r ≡ Err f → TestedBoth left la lb right ra rb r → FailsOn f (read_sides left right)
  tested_failed e h = rw e at h
