-- A union arm: its clauses from nothing, then both operands, then the union. Assumes nothing.
use mathlib.Core.Path.{◌≡◌, sym, ap, ◌∙◌}
use Prim.Native.Nat.{ℕ, suc, ◌+◌, ◌-◌}
use native.Mathlib.Omega.{arith}
use mathlib.Core.Bool.{Bool}
use mathlib.Core.List.{List, [], ◌∷◌}
use Rattle.std.specs.Prelude.{Option, None, Some}
use lib.Dec.{eqb}
use lib.ListN.{length}
use Rattle.model.specs.Text.{Bytes}
use Rattle.model.specs.Kind.{ReadOp, clause, union_arm}
use Rattle.model.specs.Tree.{Tree, Trees}
use Rattle.model.specs.Lower.{◌>>=◌, ret, push, op, or_source_all, lower_clauses}
use Rattle.words.specs.Words.{Roomy, cell}
use Rattle.words.specs.Held.{Held, HeldSome, HeldMany}
use Rattle.words.specs.Places.{arm_all_at, arm_clauses_at}
use Rattle.lower.specs.Side.{side}
use Rattle.lower.specs.Rep.{State, Mem, Written, Rep}
use Rattle.lower.specs.Clauses.{BothBlank, Leaves}
use Rattle.lower.specs.State.{to_then, to_wider}
use Rattle.clauses.specs.Pair.{union_of, Unites}
use Rattle.clauses.specs.Turns.{in_turn}
use Rattle.clauses.specs.Steps.{clause_turn, lower_arm, LowersClauses, LowersArm}
use Rattle.projections.specs.Passes.{sub_before, both_next}
use Rattle.clauses.proofs.Opened.{an_arm}
use Rattle.clauses.proofs.Turning.{clauses_turns}

pub some_clauses : {sheet : Bytes} {a b : List ℕ} {n d i : ℕ} → Roomy a b → n ≡ cell a b i arm_clauses_at → HeldSome sheet a b union_arm d i → HeldMany sheet a b clause n (d - 1) (i + 1)
some_clauses room en x = let v = an_arm room x.tree x.is in rw (en ∙ sym v.many) (record { trees = v.clauses; are = v.held })

-- the definition, step by step
arm_def : {n : ℕ} (cs : Trees clause n) (o below : Option ℕ) (all : Bool) {k : ℕ} (s s₁ : State) → lower_clauses cs None s ≡ (below, s₁) → k ≡ (union_of o below all s₁).0 → ◌≡◌ {A = Option ℕ × State} ((lower_clauses cs None >>= λ below. or_source_all o >>= λ left. or_source_all below >>= λ right. push (op ReadOp.Union (left, (right, (all, tt))) ∷ []) >>= λ both. ret (Some both)) s) (Some k, (union_of o below all s₁).1)
unfolding union_of ◌>>=◌ push ret
arm_def cs o below all s s₁ e is = rw (e, is)

-- clauses that leave an operator
left_by : {n : ℕ} (cs : Trees clause n) (below : Option ℕ) (s : State) → (in_turn clause_turn cs None s).0 ≡ below → lower_clauses cs None s ≡ (below, (in_turn clause_turn cs None s).1)
left_by cs below s e = clauses_turns cs None s ∙ ap (λ (x : Option ℕ). (x, (in_turn clause_turn cs None s).1)) e

module _ {sheet : Bytes} {a b : List ℕ} {n e k all : ℕ} {below : Option ℕ} {m m₁ m₂ : Mem}
    (d i : ℕ) (o : Option ℕ) (room : Roomy a b) (en : n ≡ cell a b i arm_clauses_at) (ea : all ≡ cell a b i arm_all_at)
    (cl : LowersClauses sheet a b n (d - 1) (i + 1) e None below m m₁)
    (un : Unites (union_of o below (eqb all 1)) k m₁ m₂) where
  arm_run : {first : ℕ} (t : Tree union_arm) → Held sheet a b t d i → (W : Written) (s : State) → Rep (side sheet a b first) W s m → BothBlank W (suc i) (suc e) → Leaves (side sheet a b first) W (λ s. lower_arm t o s) (Some k) (suc i) (suc e) s m m₂
  arm_run t hd W s r bl =
      let v = an_arm room t hd in
      let q : Bool = eqb (cell a b i arm_all_at) 1 in
      let cl' : LowersClauses sheet a b v.n (d - 1) (i + 1) e None below m m₁ = rw (en ∙ sym v.many) at cl in
      let un' : Unites (union_of o below q) k m₁ m₂ = rw ea at un in
      let x = cl'.run v.clauses v.held W s r (both_next i e bl) in
      let s₁ : State = (in_turn clause_turn v.clauses None s).1 in
      let w = un'.run _ _ s₁ x.to.rep in
      let D : ◌≡◌ {A = Option ℕ × State} (lower_arm t o s) (Some k, (union_of o below q s₁).1) = v.lower o s ∙ arm_def v.clauses o below q s s₁ (left_by v.clauses below s x.gives) w.root in
      record { to = rw D (to_wider (sub_before i e) (to_then x.to w.to)); gives = ap (λ (z : Option ℕ × State). z.0) D }

  pub arm_law : LowersArm sheet a b d i e o (Some k) m m₂
  arm_law =
      let v = cl.moved in
      record {
        moved = record {
          up = omega (arith, v.up);
          here = v.here;
          grow = omega (arith, v.grow, un.grow, un.count);
          few = omega (arith, v.few, un.few, un.count);
          low = omega (arith, v.low, un.numbers);
          met = omega (arith, v.met, un.mapped);
          in_ops = un.in_ops ∙ v.in_ops;
          in_rest = ap length un.rest ∙ v.in_rest;
          index = λ z. rw (un.mapped, un.rest) (v.index z);
        };
        stands = omega (arith, un.count);
        next = λ t hd. (
            let w = an_arm room t hd in
            let y : LowersClauses sheet a b w.n (d - 1) (i + 1) e None below m m₁ = rw (en ∙ sym w.many) at cl in
            let z = y.next w.clauses w.held in
            let f = w.sized in
            omega arith);
        run = arm_run;
      }
