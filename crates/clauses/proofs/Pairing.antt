-- Two statements into one plan: the union of two operands; the left from nothing, the right behind it over tables of its own, and their union in the right's table. Assumes nothing.
use mathlib.Core.Path.{◌≡◌, refl, ap, ◌∙◌}
use Prim.Native.Nat.{ℕ, suc, ◌≤◌}
use native.Mathlib.Omega.{arith}
use mathlib.Core.Bool.{Bool}
use mathlib.Core.List.{List, []}
use Rattle.std.specs.Prelude.{Option}
use Rattle.model.specs.Call.{max_depth}
use Rattle.model.specs.Text.{Bytes}
use Rattle.model.specs.Kind.{statement}
use Rattle.model.specs.Tree.{Tree}
use Rattle.model.specs.Lower.{Recs, ◌>>=◌, op, push, or_source_all, without_vars, forget_vars, empty, lower_union_pair, lower_pair}
use Rattle.model.specs.Lower
use Rattle.words.specs.Held.{Held}
use Rattle.context.specs.Tables.{max_vars}
use Rattle.lower.specs.Rep.{State, Mem, mem}
use Rattle.lower.specs.Clauses.{both_passes}
use Rattle.clauses.specs.Statement.{forget, forgetting, StatementAsked, LowersFrom}
use Rattle.clauses.specs.Pair.{union_of, Unites, PairAsked, TwoTables, LowersPair}
use Rattle.clauses.proofs.Whole.{Long, start, begins, start_rep, start_blank}
use Rattle.clauses.proofs.Whole

-- ── two statements ──

-- the step that forgets the variables is the one that the model names
pub forget_is : (s : State) → forget s ≡ without_vars s
forget_is s = refl

-- the definition, its union apart
pair_def : (t u : Tree statement) (all : Bool) (o o' : Option ℕ) (s s' : State) → Lower.lower t empty ≡ (o, s) → Lower.lower u (without_vars s) ≡ (o', s') → lower_pair t u all ≡ (union_of o o' all s').1
unfolding lower_pair lower_union_pair forget_vars union_of ◌>>=◌ Lower.push
pair_def t u all o o' s s' e e' = rw (e, e')

-- what a lowering leaves, as a pair
leaves : (L : Lower.Lowering (Option ℕ)) {o : Option ℕ} (s : State) → (L s).0 ≡ o → L s ≡ (o, (L s).1)
leaves L {o} s e = ap (λ (x : Option ℕ). (x, (L s).1)) e

module _ {left right : Bytes} {la lb los lrs ra rb ros rrs : List ℕ} (g : PairAsked left la lb right ra rb) where
  module _ {e : ℕ} {o : Option ℕ} {m₁ : Mem} (p : LowersFrom left la lb max_depth e o (mem start los lrs) m₁) where
    pub right_asked : Long ros rrs → StatementAsked right ra rb max_depth (mem (forgetting m₁.ctx) ros rrs)
    right_asked l = let v = p.moved in Whole.asked m₁.ctx ros rrs g.on_right (omega (arith, v.few, v.here)) (omega (arith, v.low, v.here)) l

    module _ {e' : ℕ} {o' : Option ℕ} {m₂ : Mem} (q : LowersFrom right ra rb max_depth e' o' (mem (forgetting m₁.ctx) ros rrs) m₂) where
      pub met_behind : m₂.ctx.mapped ≤ max_vars
      met_behind = let w = q.moved in omega (arith, w.met, w.here)

      module _ (all : Bool) {k : ℕ} {m₃ : Mem} (z : Unites (union_of o o' all) k m₂ m₃) where
        pair_run : (t u : Tree statement) → Held left la lb t max_depth 0 → Held right ra rb u max_depth 0 → TwoTables left la lb m₁.ops m₁.rest right ra rb m₁.ctx.ops (lower_pair t u all) m₃
        pair_run t u ht hu =
            let x = p.run t ht [] empty (start_rep left la lb los lrs) (start_blank (suc 1) (suc e)) in
            let y = q.run u hu [] _ (begins right ra rb ros rrs x.to.rep) (start_blank (suc 1) (suc e')) in
            let w = z.run _ _ _ y.to.rep in
            let D = pair_def t u all o o' (Lower.lower t empty).1 _ (leaves (λ s. Lower.lower t s) _ x.gives) (leaves (λ s. Lower.lower u s) _ y.gives) in
            record {
              before = (Lower.lower t empty).1;
              counted = m₁.ctx;
              count = refl;
              left_written = both_passes (suc 1) (suc e) [];
              on_left = x.to.rep;
              old = λ j h. rw D (w.to.old j (omega (arith, q.moved.grow)) ∙ y.to.old j h);
              right_written = both_passes (suc 1) (suc e') [];
              on_right = rw D w.to.rep;
            }

        pub pair_law : LowersPair left la lb m₁.ops m₁.rest right ra rb all m₁.ctx.ops m₃
        pair_law = record {
          met = rw z.mapped met_behind;
          run = pair_run;
        }
