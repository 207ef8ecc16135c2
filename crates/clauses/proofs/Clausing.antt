-- A clause by its kind: one that reads leaves an operator, one that writes what was before it. Assumes nothing.
use mathlib.Core.Path.{◌≡◌, refl, ap}
use Prim.Native.Nat.{ℕ, suc, ◌+◌, ◌<◌}
use native.Mathlib.Nat.{le_refl}
use native.Mathlib.Omega.{arith}
use mathlib.Core.List.{List, [], ◌∷◌}
use Rattle.std.specs.Prelude.{Option}
use Rattle.model.specs.Text.{Bytes}
use Rattle.model.specs.Kind.{clause}
use Rattle.model.specs.Tree.{Tree}
use Rattle.model.specs.Lower.{lower_clause}
use Rattle.words.specs.Words.{Roomy, cell, max_records}
use Rattle.words.specs.Held.{Held}
use Rattle.words.specs.Numbers.{Others}
use Rattle.words.specs.Places.{match_kind, where_kind, with_kind, return_kind, unwind_kind, call_kind, write_kind, kind_at}
use Rattle.lower.specs.Side.{side}
use Rattle.lower.specs.Rep.{State, Mem, Written, Rep}
use Rattle.lower.specs.Clauses.{Stands, Leaves, LowersClause}
use Rattle.lower.specs.State.{to_refl, to_wider}
use Rattle.projections.specs.Asked.{ClauseAsked}
use Rattle.projections.specs.Room.{some_tree}
use Rattle.projections.specs.Passes.{sub_both}
use Rattle.clauses.specs.Asked.{ReadingAsked}
use Rattle.clauses.proofs.Opened.{a_write, call_kind_law}

-- what the function of one kind asks
pub asked : {sheet : Bytes} {a b : List ℕ} {k : ℕ} {d i : ℕ} {current : Option ℕ} {m : Mem} → ReadingAsked sheet a b d i current m → cell a b i kind_at ≡ k → ClauseAsked k a b d i current m
asked g e = record { tree = some_tree g.held; kind = e; ready = g.ready; depth = g.depth; stands = g.stands }

-- the one kind that is left
pub a_call_left : {sheet : Bytes} {a b : List ℕ} {d i : ℕ} {current : Option ℕ} {m : Mem} {n : ℕ} → Roomy a b → ReadingAsked sheet a b d i current m → n ≡ cell a b i kind_at → Others n (unwind_kind ∷ return_kind ∷ with_kind ∷ where_kind ∷ match_kind ∷ []) → cell a b i kind_at ≡ call_kind
a_call_left {sheet} {d = d} {i = i} room g e o = call_kind_law sheet d i room g.held.tree g.held.is (rw e at o) g.reads

module _ (sheet : Bytes) {a b : List ℕ} (d i : ℕ) (o : Option ℕ) (m : Mem) (room : Roomy a b) (k8 : cell a b i kind_at ≡ write_kind) (li : i < max_records) (st : Stands o m) where
  write_run : {first : ℕ} (t : Tree clause) → Held sheet a b t d i → (W : Written) (s : State) → Rep (side sheet a b first) W s m → Leaves (side sheet a b first) W (λ s. lower_clause t o s) o (suc i) (suc (i + 1)) s m m
  write_run t hd W s r = let e = (a_write sheet d i room t hd k8).lower o s in record { to = rw e (to_wider sub_both (to_refl r)); gives = ap (λ (x : Option ℕ × State). x.0) e }

  pub write_law : LowersClause sheet a b d i (i + 1) o o m m
  write_law = record {
    moved = record { up = omega arith; here = omega arith; grow = le_refl _; few = omega arith; low = omega arith; met = omega arith; in_ops = refl; in_rest = refl; index = λ x. x };
    stands = st;
    next = λ t hd. (let z = (a_write sheet d i room t hd k8).sized in omega arith);
    run = λ t hd W s r bl. write_run t hd W s r;
  }
