-- The arms of the lowering of an expression, by the number of its kind. Assumes nothing.
use mathlib.Core.Path.{◌≡◌, refl, ap, ◌∙◌}
use Prim.Native.Nat.{ℕ, suc, ◌+◌, ◌-◌, ◌≤◌}
use native.Mathlib.Nat.{le_refl}
use native.Mathlib.Omega.{arith}
use mathlib.Core.List.{List, ◌∷◌, append-nil}
use Rattle.model.specs.Text.{Bytes}
use Rattle.model.specs.Field.{Fields}
use Rattle.model.specs.Kind.{Same, Expr, PlanExpr, expr}
use Rattle.model.specs.Record.{Rec, expr_forms}
use Rattle.model.specs.Tree.{Tree, node, end, ◌▸◌, fold}
use Rattle.model.specs.Lower.{Recs, made, ◌>>=◌, ret, over, expr_step, lower_expr, plan_expr_rec}
use Rattle.words.specs.Words.{Roomy, cell, max_records}
use Rattle.words.specs.Held.{Held, RecordAt, size}
use Rattle.words.specs.Cells.{shown}
use Rattle.words.specs.Count.{count_at}
use Rattle.lower.specs.Side.{side}
use Rattle.lower.specs.Render.{Ops, render, render_of, recs_over, expr_recs, expr_rest, Below, below_in, copies_below}
use Rattle.lower.specs.Render
use Rattle.lower.specs.Shows.{shift}
use Rattle.lower.specs.Rep.{State, Mem, Written, Sub, Ran}
use Rattle.lower.specs.Pieces.{expr_piece, Carried, []ᶜ, lower_c, render_c, BelowC, size_c, HeldC, carried_piece, SomeTree, SomeCarried, LowersExpr, LowersExprs}
use Rattle.lower.specs.State.{sub_more, sub_within, blank_within, to_wider}
use Rattle.words.specs.Numbers.{expr_number, expr_number_law}
use Rattle.words.specs.Kinds.{Opens, by_expr}
use Rattle.words.proofs.Counting.{counted}
use Rattle.lower.specs.Exprs.{moved_within, narrow}
use Rattle.lower.specs.Carry.{plain_c, plain_lower, plain_size, plain_held, plain_render, plain_below, entries_c, entries_lower, entries_size, entries_held, entries_render, entries_below}
use Rattle.words.specs.Places.{kind_at, var_kind, map_kind, pat_kind, list_predicate_kind}

-- ── the number of the kind ──

pub number_at : {sheet : Bytes} {a b : List ℕ} {i : ℕ} {k : Expr} {f : Fields (expr_forms k)} → Roomy a b → RecordAt sheet a b i expr k f → cell a b i kind_at ≡ expr_number k
number_at {k = k} room h = expr_number_law _ k (shown room h).kind

-- ── a record over expressions, with nothing noted at it ──

-- the tree is a record over so many expressions, each so many records behind the one before it
pub record Headed (sheet : Bytes) (a b : List ℕ) (gap d i : ℕ) (t : Tree expr) : Type 0 where
  pub n : ℕ
  pub list : Carried n
  pub total : count_at a b i ≡ n
  pub held : HeldC sheet a b gap list (d - 1) (i + 1)
  pub sized : size t ≡ suc (size_c gap list)
  pub head : Rec
  pub lower : (s : State) → lower_expr t s ≡ (head ∷ (lower_c list s).0, (lower_c list s).1)
  pub shown : (N : Render.Notes) (A : Ops) → render N A t ≡ head ∷ render_c N A list
  pub below : (N : Render.Notes) (lo k : ℕ) → BelowC N lo k list → Below N lo k t

module _ {sheet : Bytes} {a b : List ℕ} {d i : ℕ} (room : Roomy a b) where
  pub plainly : (t : Tree expr) → Held sheet a b t d i → ((cell a b i kind_at ≡ var_kind) → ⊥) → ((cell a b i kind_at ≡ map_kind) → ⊥) → ((cell a b i kind_at ≡ pat_kind) → ⊥) → ((cell a b i kind_at ≡ list_predicate_kind) → ⊥) → Headed sheet a b 0 d i t
  unfolding Held size expr_number lower_expr fold made expr_step over ◌>>=◌ ret render recs_over expr_recs expr_rest Below below_in copies_below lower_c render_c size_c HeldC
  plainly (node expr line (Expr.Over h) f (ts ▸ end)) hd no-var no-map no-pat no-predicate = record {
    n = _;
    list = plain_c ts;
    total = counted hd.1 (d - 1) (ts ▸ end) hd.3 ∙ (omega arith);
    held = plain_held sheet a b ts (d - 1) (i + 1) hd.3.0;
    sized = let e = plain_size ts in omega arith;
    head = plan_expr_rec (PlanExpr.Over h) f;
    lower = λ s. rw (plain_lower ts s);
    shown = λ N A. ap (λ (x : Recs). plan_expr_rec (PlanExpr.Over h) f ∷ x) (append-nil (render_of N A ts) ∙ plain_render N A ts);
    below = λ N lo k b. (plain_below N lo k ts b, tt);
  }
  plainly (node expr line Expr.Var f kids) hd no-var no-map no-pat no-predicate = absurd (no-var (number_at room hd.1))
  plainly (node expr line Expr.Map f kids) hd no-var no-map no-pat no-predicate = absurd (no-map (number_at room hd.1))
  plainly (node expr line Expr.Call (func, (n, (distinct, t))) (ts ▸ end)) hd no-var no-map no-pat no-predicate = record {
    n = n;
    list = plain_c ts;
    total = counted hd.1 (d - 1) (ts ▸ end) hd.3 ∙ (omega arith);
    held = plain_held sheet a b ts (d - 1) (i + 1) hd.3.0;
    sized = let e = plain_size ts in omega arith;
    head = plan_expr_rec PlanExpr.Call (func, (n, tt));
    lower = λ s. rw (plain_lower ts s);
    shown = λ N A. ap (λ (x : Recs). plan_expr_rec PlanExpr.Call (func, (n, tt)) ∷ x) (append-nil (render_of N A ts) ∙ plain_render N A ts);
    below = λ N lo k b. (plain_below N lo k ts b, tt);
  }
  plainly (node expr line Expr.PatternPredicate f kids) hd no-var no-map no-pat no-predicate = absurd (no-pat (number_at room hd.1))
  plainly (node expr line Expr.ListPredicate f kids) hd no-var no-map no-pat no-predicate = absurd (no-predicate (number_at room hd.1))
  plainly (node expr line Expr.Unresolved f end) hd no-var no-map no-pat no-predicate = record { n = 0; list = []ᶜ; total = counted hd.1 (d - 1) end hd.3; held = tt; sized = refl; head = plan_expr_rec (PlanExpr.Over Same.Null) tt; lower = λ s. refl; shown = λ N A. refl; below = λ N lo k b. tt }
  plainly (node expr line Expr.Undesugared f end) hd no-var no-map no-pat no-predicate = record { n = 0; list = []ᶜ; total = counted hd.1 (d - 1) end hd.3; held = tt; sized = refl; head = plan_expr_rec (PlanExpr.Over Same.Null) tt; lower = λ s. refl; shown = λ N A. refl; below = λ N lo k b. tt }

  mapped_of : Opens sheet a b d i expr (λ t. Headed sheet a b 1 d i t) Expr.Map
  unfolding Held size lower_expr fold made expr_step over ◌>>=◌ ret render recs_over expr_recs expr_rest Below below_in copies_below
  mapped_of line (n, t) (ts ▸ end) hd = record {
    n = n;
    list = entries_c ts;
    total = counted hd.1 (d - 1) (ts ▸ end) hd.3 ∙ (omega arith);
    held = entries_held sheet a b ts (d - 1) (i + 1) hd.3.0;
    sized = let e = entries_size ts in omega arith;
    head = plan_expr_rec PlanExpr.Map (n, tt);
    lower = λ s. rw (entries_lower ts s);
    shown = λ N A. ap (λ (x : Recs). plan_expr_rec PlanExpr.Map (n, tt) ∷ x) (append-nil (render_of N A ts) ∙ entries_render N A ts);
    below = λ N lo k b. (entries_below N lo k ts b, tt);
  }

  pub mapped : (t : Tree expr) → Held sheet a b t d i → cell a b i kind_at ≡ map_kind → Headed sheet a b 1 d i t
  unfolding expr_number
  mapped t hd e = by_expr sheet d i room (λ t. Headed sheet a b 1 d i t) Expr.Map mapped_of t hd e

-- a record over its expressions is lowered by lowering them
headed_run : {sheet : Bytes} {a b : List ℕ} {first : ℕ} {gap d base i e : ℕ} {m m' : Mem} (t : Tree expr) (o : Headed sheet a b gap d i t) (W : Written) (s : State) → Ran (side sheet a b first) W (carried_piece o.list) base (suc (i + 1)) (suc e) s m m' → Ran (side sheet a b first) W (expr_piece t) base (suc i) (suc e) s m m'
headed_run {base = base} {i = i} {e = e} t o W s p =
    let u : Sub ((base + suc (i + 1), base + suc e) ∷ W) ((base + suc i, base + suc e) ∷ W) = sub_within (omega arith) (le_refl _) (sub_more (base + suc i, base + suc e) W) in
    record {
      to = rw (o.lower s) (to_wider u p.to);
      shown = λ N A f. rw (o.shown (shift N base) A, o.lower s) (ap (λ (x : Recs). o.head ∷ x) (p.shown N A (narrow u (rw (o.lower s) at f))));
      below = λ N A f. o.below (shift N base) _ _ (p.below N A (narrow u (rw (o.lower s) at f)));
    }

-- what follows from lowering the expressions behind a record, if every tree there is a record over them
pub headed_law : {a b : List ℕ} {n gap d base i e : ℕ} {m m' : Mem} → ((sheet : Bytes) (t : Tree expr) → Held sheet a b t d i → Headed sheet a b gap d i t) → n ≡ count_at a b i → i + 1 ≤ max_records → LowersExprs a b n gap (d - 1) base (i + 1) e m m' → LowersExpr a b d base i e m m'
headed_law {a} {b} {n} {gap} {d} {base} {i} {e} {m} {m'} see en l p = record {
  moved = moved_within (omega arith) (le_refl _) p.moved.here p.moved;
  next = λ sheet t hd.
      let o = see sheet t hd in
      let p' : LowersExprs a b o.n gap (d - 1) base (i + 1) e m m' = rw (en ∙ o.total) at p in
      let z = p'.next sheet o.list o.held in
      let w = o.sized in
      omega arith;
  run = λ sheet t hd W s r bl.
      let o = see sheet t hd in
      let p' : LowersExprs a b o.n gap (d - 1) base (i + 1) e m m' = rw (en ∙ o.total) at p in
      headed_run t o W s (p'.run sheet o.list o.held W s r (blank_within (omega arith) (le_refl _) bl));
}

-- what the lowering of the expressions behind a record requires
pub headed_some : {a b : List ℕ} {n gap d i : ℕ} → ((sheet : Bytes) (t : Tree expr) → Held sheet a b t d i → Headed sheet a b gap d i t) → n ≡ count_at a b i → SomeTree a b expr d i → SomeCarried a b n gap (d - 1) (i + 1)
headed_some see en x = let o = see x.sheet x.tree x.held in rw (en ∙ o.total) (record { sheet = x.sheet; list = o.list; held = o.held })
