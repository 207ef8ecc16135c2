-- The call with two sheets: its tests in order, from what both sides' tests, the lowering and the writer answer. Assumes nothing: these are laws with their proofs.
use Rattle.std.proofs.Math.Path.{◌≡◌}
use Rattle.std.specs.Prelude.{refl, ℕ, ◌<◌, ◌≤◌, Bool, true, false, ◌||◌, List, [], ◌∷◌, ◌++◌, cond, ltb, Option, ok_or, Result, Ok, Err}
use Rattle.std.proofs.Common.{sym, ap, subst, ◌∙◌, arith}
use Rattle.std.proofs.Math.Bool.{or-true, or_assoc}
use Rattle.std.proofs.lemmas.Bool.{ltb-true, ltb-false}
use borrow.Author.Tests.{lt-ltb, le-ltb}
use Rattle.std.proofs.Math.ListN.{length}
use Rattle.model.specs.Text.{Bytes}
use Rattle.model.specs.Refusal.{Refusal as Refuses, Answer as Values}
use Rattle.model.specs.Side.{side_values, whole_call, left_side, right_side}
use Rattle.model.specs.Lower.{at, lower_pair}
use Rattle.model.specs.Call.{short, test_work, test_bytes, test_plan, Outcome, max_bytes, max_depth, max_plan, work_words}
use Rattle.model.specs.Pair.{refuse_side, then_sides, on_side, each, checked_sides, planned_pair, sides_outcome, pair_call}
use Rattle.context.specs.Tables.{max_vars}
use Rattle.lower.specs.Rep.{State, mem}
use Rattle.clauses.specs.Pair.{PairAsked, LowersPair}
use Rattle.clauses.specs.declared.pair.Sides.{Sides}
use Rattle.plan_sheet.specs.Due.{Tabled}
use Rattle.plan_writer.specs.PairPromise.{tabled_as}
use Rattle.plan_writer.specs.Pair.{SideTables, side_tables, PairTables, WrotePair}
use Rattle.plan_writer.specs.Pair
use Rattle.plan_writer.specs.declared.pair.Counts.{Counts}
use Rattle.precheck.specs.declared.PlanLowerError.{PlanLowerError}
use Rattle.statement.specs.declared.Fault.{Fault}
use Rattle.statement.specs.declared.Refusal.{Refusal}
use Rattle.statement.specs.Tests.{bytes_of}
use Rattle.statement.specs.PlanTest.{full_of, plan_full, plan_fits, as_written}
use Rattle.sheet.specs.declared.reader.ReadError.{ReadError}
use Rattle.sides.specs.declared.Side.{Side}
use Rattle.sides.specs.declared.SideFault.{SideFault}
use Rattle.union_pair.specs.PairAnswer.{fault_values, pair_answer_of}
use Rattle.sides.specs.Fault.{on_side_of}
use Rattle.sides.specs.Sides.{Tested, each_of, FailsOn, BothTested, read_sides, check_sides}
use Rattle.union_pair.specs.PairCall.{PairGives, Stand, LoweredBoth, behind_bytes}

-- ── test 9, and the plan ──

-- how many operators there are, the right's first one, and how many variables
abbrev pub counts_of : Sides → Counts
counts_of sides = record { first = sides.first; ops = sides.ctx.ops; mapped = sides.ctx.mapped }

module _ {L R : SideTables} {sides : Sides} {s : State} (t : Stand L R sides s) where
  ops_count : sides.ctx.ops ≡ length s.ops
  ops_count = t.on_right.count

  numbers_count : sides.ctx.numbers ≡ s.scope.next_var
  numbers_count = ap (λ (z : State). z.scope.next_var) t.on_right.state

  module _ (ops : sides.ctx.ops ≤ max_plan) (met : sides.ctx.mapped ≤ max_vars) where
    left_tabled : Tabled L.sheet L.a L.b L.ops L.rest 0 sides.first (λ k. at s.ops k)
    left_tabled =
        let n = t.count in
        let few : t.counted.ops ≤ max_plan = omega (arith, n, t.on_right.from) in
        rw n at (tabled_as (λ k. at s.ops k) t.on_left few (λ k l. t.old k (omega arith)))

    pub pair_tables : PairTables L R (counts_of sides) s
    pair_tables = record {
      count = ops_count;
      begun = t.on_right.from;
      on_left = left_tabled;
      on_right = tabled_as (λ k. at s.ops k) t.on_right ops (λ k l. refl);
      vars = ap (λ (x : State). x.scope.vars) t.on_right.state;
      few = met;
    }

  -- test 9, by its outcome
  module _ {f : Result (Unit {0}) (Refusal SideFault)} (e : f ≡ full_of sides.ctx.ops sides.ctx.numbers) where
    pub full : (slice : Bytes) {x : Refusal SideFault} → f ≡ Err x → PairGives slice slice (Err x) (on_side whole_call (test_plan s))
    unfolding on_side sides_outcome
    full slice z = let p = plan_full s ops_count numbers_count e z in rw (p.0, p.1) refl

    pub answered : {u : Unit {0}} → f ≡ Ok u → sides.ctx.mapped ≤ max_vars → (slice slice' : Bytes) (p : Option ℕ) → WrotePair L R (counts_of sides) slice slice' p → (x : Result ℕ (Refusal SideFault)) → x ≡ ok_or p Refusal.NoRoom → PairGives slice slice' x (on_side whole_call (test_plan s))
    unfolding on_side sides_outcome
    answered z met slice slice' p w x q =
        let g = plan_fits s ops_count numbers_count e z in
        rw (g.1, q, as_written fault_values p) (w s (pair_tables g.0 met))

    pub few_operators : {u : Unit {0}} → f ≡ Ok u → sides.ctx.ops ≤ max_plan
    few_operators z = (plan_fits s ops_count numbers_count e z).0

pub asked : {L R : SideTables} {sides : Sides} {f : Result (Unit {0}) (Refusal SideFault)} {u : Unit {0}} → LoweredBoth L R sides → f ≡ full_of sides.ctx.ops sides.ctx.numbers → f ≡ Ok u → Pair.PairAsked L R (counts_of sides)
asked l e z = record { state = l.state; tables = pair_tables l.stand (few_operators l.stand e z) l.met }

-- ── the lowering of both ──

-- what both sheets' words hold, by another name of the words
pub tested_as : {left right : Bytes} {la lb ra rb la' lb' ra' rb' : List ℕ} → (la' ≡ la) × (lb' ≡ lb) → (ra' ≡ ra) × (rb' ≡ rb) → BothTested left la lb right ra rb → BothTested left la' lb' right ra' rb'
tested_as e f b = rw (e.0, e.1, f.0, f.1) b

module _ {left right : Bytes} {la lb ra rb : List ℕ} (b : BothTested left la lb right ra rb) where
  pub lowering_asked : PairAsked left la lb right ra rb
  lowering_asked = record { on_left = record { tree = b.held.tree; is = b.held.on_left }; on_right = record { tree = b.held.tree₂; is = b.held.on_right } }

  module _ {all : Bool} {los lrs ros rrs : List ℕ} {sides : Sides} (l : LowersPair left la lb los lrs right ra rb all sides.first (mem sides.ctx ros rrs)) where
    pub stands : Stand (side_tables left la lb los lrs) (side_tables right ra rb ros rrs) sides (lower_pair b.held.tree b.held.tree₂ all)
    stands = l.run b.held.tree b.held.tree₂ b.held.on_left b.held.on_right

    pub lowered : LoweredBoth (side_tables left la lb los lrs) (side_tables right ra rb ros rrs) sides
    lowered = record { met = l.met; state = lower_pair b.held.tree b.held.tree₂ all; stand = stands }

-- ── the tests in order ──

-- no value tells the name
nameless : (side : Side) (f : Fault) (unresolved : Bytes) → side_values (on_side_of (record { side = side; fault = f }) unresolved) ≡ fault_values (record { side = side; fault = f })
nameless side Fault.LongSheet unresolved = refl
nameless side (Fault.Unread (ReadError.BadLine l)) unresolved = refl
nameless side (Fault.Unread (ReadError.BigTree l)) unresolved = refl
nameless side (Fault.Unread (ReadError.WriteClause l)) unresolved = refl
nameless side (Fault.Refused (PlanLowerError.UnresolvedName line span)) unresolved = refl
nameless side (Fault.Refused (PlanLowerError.UndesugaredExpr line span kind)) unresolved = refl
nameless side (Fault.Refused (PlanLowerError.EmptyPatternPart line span)) unresolved = refl

module _ (left right : Bytes) (all : Bool) (slice : Bytes) where
  pub failed : (f : SideFault) → FailsOn f (read_sides left right) → PairGives slice slice (Err (Refusal.OfSheet f)) (behind_bytes left right all)
  unfolding sides_outcome then_sides
  failed f h = rw h.is (ap (λ (a : Values). record { answer = a; slice = slice }) (sym (nameless f.side f.fault h.unresolved)))

  pub passed : {la lb ra rb : List ℕ} {slice' : Bytes} (b : BothTested left la lb right ra rb) (x : Result ℕ (Refusal SideFault)) → PairGives slice slice' x (on_side whole_call (test_plan (lower_pair b.held.tree b.held.tree₂ all))) → PairGives slice slice' x (behind_bytes left right all)
  unfolding then_sides
  passed b x g = rw b.passes g

module _ (work : List ℕ) (left right : Bytes) (all : Bool) where
  pub pair_short : short work ≡ true → planned_pair max_depth work left right all ≡ refuse_side (record { side = whole_call; refusal = Refuses.ShortWork })
  unfolding planned_pair checked_sides on_side then_sides test_work
  pair_short e = rw e

  module _ (e : short work ≡ false) where
    pub long_left : max_bytes < length left → planned_pair max_depth work left right all ≡ refuse_side (record { side = left_side; refusal = Refuses.LongSheet })
    unfolding planned_pair checked_sides each on_side then_sides test_work test_bytes
    long_left h = rw (e, lt-ltb max_bytes (length left) h)

    module _ (a : length left ≤ max_bytes) where
      pub long_right : max_bytes < length right → planned_pair max_depth work left right all ≡ refuse_side (record { side = right_side; refusal = Refuses.LongSheet })
      unfolding planned_pair checked_sides each on_side then_sides test_work test_bytes
      long_right h = rw (e, le-ltb max_bytes (length left) a, lt-ltb max_bytes (length right) h)

      pub behind_bytes_law : length right ≤ max_bytes → planned_pair max_depth work left right all ≡ behind_bytes left right all
      unfolding planned_pair checked_sides read_sides check_sides each on_side then_sides test_work test_bytes
      behind_bytes_law h = rw (e, le-ltb max_bytes (length left) a, le-ltb max_bytes (length right) h)

-- ── test 1 ──

short_append : (v w : List ℕ) → short (v ++ w) ≡ (short v || short w)
unfolding short
short_append [] w = refl
short_append (n ∷ v) w = rw (short_append v w) (sym (or_assoc (ltb n work_words) (short v) (short w)))

pub one_short : (v w : List ℕ) → short v ≡ true → short (v ++ w) ≡ true
one_short v w e = short_append v w ∙ rw e

pub other_short : (v w : List ℕ) → short w ≡ true → short (v ++ w) ≡ true
other_short v w e = short_append v w ∙ rw e (or-true (short v))

pub none_short : (v w : List ℕ) → short v ≡ false → short w ≡ false → short (v ++ w) ≡ false
none_short v w e f = short_append v w ∙ rw (e, f)

-- ── the call ──

module _ (work : List ℕ) (left right : Bytes) (all : Bool) (plan : Bytes) where
  -- the call's answer and slice
  abbrev pub Answers : Result ℕ (Refusal SideFault) → Bytes → Type 0
  Answers x slice = ◌≡◌ {A = Outcome} (record { answer = pair_answer_of x; slice = slice }) (pair_call work left right all plan)

  pub refused_first : short work ≡ true → Answers (Err Refusal.ShortWork) plan
  unfolding pair_call sides_outcome
  refused_first e = rw (pair_short work left right all e)

  module _ (e : short work ≡ false) where
    left_long : max_bytes < length left → Answers (Err (Refusal.OfSheet (record { side = Side.Left; fault = Fault.LongSheet }))) plan
    unfolding pair_call sides_outcome
    left_long l = rw (long_left work left right all e l)

    right_long : length left ≤ max_bytes → max_bytes < length right → Answers (Err (Refusal.OfSheet (record { side = Side.Right; fault = Fault.LongSheet }))) plan
    unfolding pair_call sides_outcome
    right_long a l = rw (long_right work left right all e a l)

    pub called : (length left ≤ max_bytes) × (length right ≤ max_bytes) → (slice : Bytes) (x : Result ℕ (Refusal SideFault)) → PairGives plan slice x (behind_bytes left right all) → Answers x slice
    unfolding pair_call
    called l slice x q = rw (behind_bytes_law work left right all e l.0 l.1) q

    pub one_long : {r : Tested} {f : SideFault} → r ≡ each_of (bytes_of left) (bytes_of right) → r ≡ Err f → Answers (Err (Refusal.OfSheet f)) plan
    one_long q z = go (ltb max_bytes (length left)) (ltb max_bytes (length right)) refl refl (sym q ∙ z)
      where
        go : (b d : Bool) {f : SideFault} → ltb max_bytes (length left) ≡ b → ltb max_bytes (length right) ≡ d → each_of (cond b (Err Fault.LongSheet) (Ok tt)) (cond d (Err Fault.LongSheet) (Ok tt)) ≡ Err f → Answers (Err (Refusal.OfSheet f)) plan
        go true d {f} k m z = let y : record { side = Side.Left; fault = Fault.LongSheet } ≡ f = cc in subst (λ (x : SideFault). Answers (Err (Refusal.OfSheet x)) plan) y (left_long (ltb-true max_bytes (length left) k))
        go false true {f} k m z = let y : record { side = Side.Right; fault = Fault.LongSheet } ≡ f = cc in subst (λ (x : SideFault). Answers (Err (Refusal.OfSheet x)) plan) y (right_long (ltb-false max_bytes (length left) k) (ltb-true max_bytes (length right) m))
        go false false k m z = cc

-- test 2 on both, passed
pub both_short : (left right : Bytes) {r : Tested} {x : Unit {0}} → r ≡ each_of (bytes_of left) (bytes_of right) → r ≡ Ok x → (length left ≤ max_bytes) × (length right ≤ max_bytes)
both_short left right q z = go (ltb max_bytes (length left)) (ltb max_bytes (length right)) refl refl (sym q ∙ z)
  where
    go : (b d : Bool) {x : Unit {0}} → ltb max_bytes (length left) ≡ b → ltb max_bytes (length right) ≡ d → each_of (cond b (Err Fault.LongSheet) (Ok tt)) (cond d (Err Fault.LongSheet) (Ok tt)) ≡ Ok x → (length left ≤ max_bytes) × (length right ≤ max_bytes)
    go true d k m z = cc
    go false true k m z = cc
    go false false k m z = (ltb-false max_bytes (length left) k, ltb-false max_bytes (length right) m)

-- what test 2 found, of what it is made of
pub bytes_each : (left right : Bytes) {l r : Result (Unit {0}) Fault} {o : Tested} → o ≡ each_of l r → l ≡ bytes_of left → r ≡ bytes_of right → o ≡ each_of (bytes_of left) (bytes_of right)
bytes_each left right e p q = rw (sym p, sym q) e
