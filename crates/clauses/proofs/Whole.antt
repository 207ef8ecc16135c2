-- The whole statement, from any state on and from nothing. Assumes nothing.
use mathlib.Core.Path.{◌≡◌, refl, sym, ap, ◌∙◌}
use Prim.Native.Nat.{ℕ, suc, ◌-◌, ◌≤◌}
use native.Mathlib.Nat.{le_refl}
use native.Mathlib.Omega.{arith}
use mathlib.Core.List.{List, []}
use Rattle.std.specs.Prelude.{Option, None}
use lib.ListN.{length, drop}
use Rattle.model.specs.Call.{work_words, max_depth}
use Rattle.model.specs.Text.{Bytes}
use Rattle.model.specs.Kind.{statement, clause, union_arm}
use Rattle.model.specs.Tree.{Tree, Trees}
use Rattle.model.specs.Lower.{lower_clauses, lower_arms, empty, lower_statement}
use Rattle.model.specs.Lower
use Rattle.words.specs.Words.{Roomy, cell}
use Rattle.words.specs.Places.{stmt_clauses_at, stmt_arms_at}
use Rattle.words.specs.Held.{Held, HeldSome, HeldMany, size}
use Rattle.context.specs.Tables.{vars_of, vars_at}
use Rattle.context.specs.IndexLaws.{none_indexed}
use Rattle.context.specs.declared.LowerCtx.{LowerCtx}
use Rattle.lower.specs.Side.{Side, side}
use Rattle.lower.specs.Rep.{State, Mem, mem, Written, Rep}
use Rattle.lower.specs.Clauses.{both_passes, BothBlank, Leaves}
use Rattle.projections.specs.Ready.{max_start, Ready}
use Rattle.lower.specs.State.{to_then, to_wider}
use Rattle.projections.specs.Room.{twice_then}
use Rattle.projections.specs.Passes.{sub_turns, both_within, both_behind}
use Rattle.clauses.specs.Turns.{in_turn}
use Rattle.clauses.specs.Steps.{clause_turn, arm_turn, LowersClauses, LowersArms}
use Rattle.clauses.specs.Statement.{forget, forgetting, StatementAsked, LowersFrom, Represented, LowersStatement}
use Rattle.clauses.proofs.Opened.{IsStatement, a_statement}
use Rattle.clauses.proofs.Turning.{clauses_turns, arms_turns}

-- ── from any state on ──

whole_def : {n n' : ℕ} (cs : Trees clause n) (arms : Trees union_arm n') (o : Option ℕ) (s : State) → (in_turn clause_turn cs None s).0 ≡ o → lower_arms arms (lower_clauses cs None s).0 (lower_clauses cs None s).1 ≡ in_turn arm_turn arms o (in_turn clause_turn cs None s).1
whole_def cs arms o s e = rw (clauses_turns cs None s, e, arms_turns arms o (in_turn clause_turn cs None s).1)

module _ {sheet : Bytes} {a b : List ℕ} {d : ℕ} {m : Mem} (room : Roomy a b) (g : StatementAsked sheet a b d m) where
  pub some_clauses : {n : ℕ} → n ≡ cell a b 0 stmt_clauses_at → HeldMany sheet a b clause n (d - 1) 1
  some_clauses en = let v = a_statement room g.held.tree g.held.is in rw (en ∙ sym v.many) (record { trees = v.clauses; are = v.held_clauses })

  pub deep : 1 ≤ d
  deep = (a_statement room g.held.tree g.held.is).deep

  module _ {n j : ℕ} {o : Option ℕ} {m₁ : Mem} (en : n ≡ cell a b 0 stmt_clauses_at) (cl : LowersClauses sheet a b n (d - 1) 1 j None o m m₁) where
    clauses_as : (t : Tree statement) (v : IsStatement sheet a b d t) → LowersClauses sheet a b v.n (d - 1) 1 j None o m m₁
    clauses_as t v = rw (en ∙ sym v.many) at cl

    pub some_arms : {n' : ℕ} → n' ≡ cell a b 0 stmt_arms_at → HeldMany sheet a b union_arm n' (d - 1) j
    some_arms en' =
        let v = a_statement room g.held.tree g.held.is in
        rw (en' ∙ sym v.armed, (clauses_as g.held.tree v).next v.clauses v.held_clauses) (record { trees = v.arms; are = v.held_arms })

    module _ {n' e : ℕ} {o' : Option ℕ} {m₂ : Mem} (en' : n' ≡ cell a b 0 stmt_arms_at) (ar : LowersArms sheet a b n' (d - 1) j e o o' m₁ m₂) where
      arms_as : (t : Tree statement) (v : IsStatement sheet a b d t) → LowersArms sheet a b v.n' (d - 1) j e o o' m₁ m₂
      arms_as t v = rw (en' ∙ sym v.armed) at ar

      from_next : (t : Tree statement) → Held sheet a b t d 0 → e ≡ size t
      from_next t hd =
          let v = a_statement room t hd in
          let x = (clauses_as t v).next v.clauses v.held_clauses in
          let y = (arms_as t v).next v.arms (rw x v.held_arms) in
          let z = v.sized in
          omega arith

      from_run : {first : ℕ} (t : Tree statement) → Held sheet a b t d 0 → (W : Written) (s : State) → Rep (side sheet a b first) W s m → BothBlank W (suc 1) (suc e) → Leaves (side sheet a b first) W (λ s. Lower.lower t s) o' (suc 1) (suc e) s m m₂
      from_run t hd W s r bl =
          let v = a_statement room t hd in
          let u = cl.moved.up in
          let u' = ar.moved.up in
          let x = (clauses_as t v).run v.clauses v.held_clauses W s r (both_within (omega arith) (omega arith) bl) in
          let y = (arms_as t v).run v.arms (rw ((clauses_as t v).next v.clauses v.held_clauses) v.held_arms) _ _ x.to.rep (both_behind 1 j e u u' ar.moved.here bl) in
          let D = v.lower s ∙ whole_def v.clauses v.arms o s x.gives in
          record { to = rw D (to_wider (sub_turns 1 j e u u') (to_then x.to y.to)); gives = ap (λ (z : Option ℕ × State). z.0) D ∙ y.gives }

      pub from_law : LowersFrom sheet a b d e o' m m₂
      from_law = record { moved = twice_then cl.moved ar.moved; stands = ar.stands; next = from_next; run = from_run }

-- ── with no variables ──

-- tables that stand for a state stand for it without its variables too, once none is counted
pub forgets : {S : Side} {W : Written} {s : State} {m : Mem} → Rep S W s m → Rep S W (forget s) (mem (forgetting m.ctx) m.ops m.rest)
unfolding vars_of
forgets r = record { count = r.count; state = rw (ap (λ (z : State). z.scope.next_var) r.state); from = r.from; shows = λ k o h h' N A f. r.shows k o h h' N A (record { notes = f.notes; ops = f.ops }) }

-- ── from nothing ──

abbrev pub start : LowerCtx
start = record { ops = 0; numbers = 0; mapped = 0 }

-- both slices are as long as tables are
abbrev pub Long : (os rs : List ℕ) → Type 0
Long os rs = (work_words ≤ length os) × (work_words ≤ length rs)

-- with no variables there is room for a statement, also behind another one
pub start_ready : (c : LowerCtx) (os rs : List ℕ) → c.ops ≤ max_start → c.numbers ≤ max_start → work_words ≤ length os → work_words ≤ length rs → Ready 1 (mem (forgetting c) os rs)
start_ready c os rs lc ln lo lr = record { few = omega arith; low = omega arith; met = omega arith; here = omega arith; in_ops = lo; in_rest = lr; index = none_indexed (drop vars_at rs) }

-- so behind one statement from nothing, over tables of its own
pub ready_behind : {sheet : Bytes} {a b : List ℕ} {d e : ℕ} {o : Option ℕ} {os rs : List ℕ} {m : Mem} (os' rs' : List ℕ) → LowersFrom sheet a b d e o (mem start os rs) m → work_words ≤ length os' → work_words ≤ length rs' → Ready 1 (mem (forgetting m.ctx) os' rs')
ready_behind {m = m} os' rs' p lo lr = let v = p.moved in start_ready m.ctx os' rs' (omega (arith, v.few, v.here)) (omega (arith, v.low, v.here)) lo lr

-- what a statement wants there
pub asked : {sheet : Bytes} {a b : List ℕ} (c : LowerCtx) (os rs : List ℕ) → HeldSome sheet a b statement max_depth 0 → c.ops ≤ max_start → c.numbers ≤ max_start → Long os rs → StatementAsked sheet a b max_depth (mem (forgetting c) os rs)
asked c os rs h lc ln l = record {
  held = h;
  ready = start_ready c os rs lc ln l.0 l.1;
  depth = omega arith;
}

-- Tables of another sheet, whatever they hold, stand for a state without its variables: the operators that they hold begin behind those that there are.
pub begins : (sheet : Bytes) (a b os rs : List ℕ) {S : Side} {W : Written} {s : State} {m : Mem} → Rep S W s m → Rep (side sheet a b m.ctx.ops) [] (forget s) (mem (forgetting m.ctx) os rs)
unfolding vars_of
begins sheet a b os rs r = record { count = r.count; state = rw (ap (λ (z : State). z.scope.next_var) r.state); from = le_refl _; shows = λ k o h. absurd (omega arith) }

pub start_rep : (sheet : Bytes) (a b os rs : List ℕ) → Rep (side sheet a b 0) [] empty (mem start os rs)
unfolding empty vars_of
start_rep sheet a b os rs = record { count = refl; state = refl; from = le_refl _; shows = λ k o h. absurd (omega arith) }

pub start_blank : (lo hi : ℕ) → BothBlank [] lo hi
start_blank lo hi = record { first = record { at = λ q a b i. i }; second = record { at = λ q a b i. i } }

module _ {sheet : Bytes} {a b : List ℕ} {e : ℕ} {o : Option ℕ} {os rs : List ℕ} {m : Mem} (p : LowersFrom sheet a b max_depth e o (mem start os rs) m) where
  whole_run : (t : Tree statement) → Held sheet a b t max_depth 0 → Represented sheet a b t m
  unfolding lower_statement
  whole_run t hd =
      let x = p.run t hd [] empty (start_rep sheet a b os rs) (start_blank (suc 1) (suc e)) in
      record { written = both_passes (suc 1) (suc e) []; rep = x.to.rep }

  pub whole_law : LowersStatement sheet a b m
  whole_law =
      let v = p.moved in
      record { met = omega (arith, v.met, v.here); few = omega (arith, v.few, v.here); run = whole_run }
