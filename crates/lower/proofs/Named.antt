-- The arms of the lowering of an expression at which something is noted: a variable, a list predicate, a pattern. Assumes nothing.
use mathlib.Core.Path.{◌≡◌, refl, ap, ◌∙◌}
use Prim.Native.Nat.{ℕ, suc, ◌+◌, ◌-◌, ◌≤◌, ◌<◌}
use native.Mathlib.Nat.{le_refl, le_trans}
use native.Mathlib.Omega.{arith}
use mathlib.Core.List.{List, ◌∷◌, append-nil}
use mathlib.Core.Logic.{inl}
use lib.ListN.{length}
use Rattle.model.specs.Text.{Bytes}
use Rattle.model.specs.Field.{Fields}
use Rattle.model.specs.Kind.{Expr, PlanExpr, expr, pattern_part}
use Rattle.model.specs.Record.{Rec, expr_forms}
use Rattle.model.specs.Tree.{Tree, Trees, end, ◌▸◌, fold}
use Rattle.model.specs.Lower.{Recs, made, ◌>>=◌, ret, map_var, over, expr_step, lower_expr, lower_match_pattern, optional_join, copy, at, plan_expr_rec}
use Rattle.words.specs.Words.{Roomy, cell, fields_of, field_of, max_records}
use Rattle.words.specs.Held.{Held, HeldOf, size, size_of}
use Rattle.context.specs.Tables.{Numbers, NoteWritten, second_pass}
use Rattle.context.specs.declared.LowerCtx.{LowerCtx}
use Rattle.context.specs.declared.Numbered.{Numbered}
use Rattle.words.specs.Cells.{shown}
use Rattle.words.specs.Count.{count_at, is_leaf}
use Rattle.lower.specs.Side.{side}
use Rattle.lower.specs.Render.{Ops, render, render_of, recs_over, expr_recs, expr_rest, Below, below_in, copies_below}
use Rattle.lower.specs.Render
use Rattle.lower.specs.Shows.{shift}
use Rattle.lower.specs.Rep.{State, Mem, mem, Written, Sub, Blank, Future, Rep, Ran}
use Rattle.lower.specs.Pieces.{expr_piece, Carried, []ᶜ, lower_c, render_c, BelowC, size_c, HeldC, carried_piece, SomeTree, SomeCarried, LowersExpr, LowersExprs}
use Rattle.lower.specs.Patterns.{parts_l, SomeTrees, LowersParts}
use Rattle.lower.specs.State.{sub_more, sub_within, blank_within, blank_before, blank_behind, back, to_then, to_wider, Given, number_to, note_to}
use Rattle.words.specs.Numbers.{expr_number}
use Rattle.words.proofs.Counting.{counted, leaf_count}
use Rattle.lower.specs.Exprs.{narrow}
use Rattle.lower.specs.Carry.{plain_c, plain_lower, plain_size, plain_held, plain_render, plain_below}
use Rattle.words.specs.Kinds.{Opens, by_expr}
use Rattle.words.specs.Places.{kind_at, var_kind, pat_kind, list_predicate_kind, var_id_at, list_predicate_var_at}

-- ── a variable that is numbered at the record, before the expressions behind it ──

pub record Naming (sheet : Bytes) (a b : List ℕ) (d i id : ℕ) (t : Tree expr) : Type 0 where
  pub n : ℕ
  pub list : Carried n
  pub total : count_at a b i ≡ n
  pub held : HeldC sheet a b 0 list (d - 1) (i + 1)
  pub sized : size t ≡ suc (size_c 0 list)
  pub head : ℕ → Rec
  pub lower : (s : State) → lower_expr t s ≡ (head (map_var id s).0 ∷ (lower_c list (map_var id s).1).0, (lower_c list (map_var id s).1).1)
  pub shown : (N : Render.Notes) (A : Ops) → render N A t ≡ head (N (suc i)) ∷ render_c N A list
  pub below : (N : Render.Notes) (lo k : ℕ) → BelowC N lo k list → Below N lo k t

module _ {sheet : Bytes} {a b : List ℕ} {d i : ℕ} (room : Roomy a b) where
  variable_of : Opens sheet a b d i expr (λ t. Naming sheet a b d i (cell a b i var_id_at) t) Expr.Var
  unfolding Held size lower_expr fold made expr_step ◌>>=◌ ret render recs_over expr_recs expr_rest Below below_in copies_below lower_c render_c size_c HeldC fields_of field_of
  variable_of line (id, t) end hd =
      let ei : id ≡ cell a b i var_id_at = ap (λ (x : Fields (expr_forms Expr.Var)). x.0) (shown room hd.1).fields in
      record { n = 0; list = []ᶜ; total = counted hd.1 (d - 1) end hd.3; held = tt; sized = refl; head = λ x. plan_expr_rec PlanExpr.Var (x, tt); lower = λ s. rw ei; shown = λ N A. rw hd.0; below = λ N lo k b. tt }

  pub variable : (t : Tree expr) → Held sheet a b t d i → cell a b i kind_at ≡ var_kind → Naming sheet a b d i (cell a b i var_id_at) t
  unfolding expr_number
  variable t hd e = by_expr sheet d i room (λ t. Naming sheet a b d i (cell a b i var_id_at) t) Expr.Var variable_of t hd e

  predicate_of : Opens sheet a b d i expr (λ t. Naming sheet a b d i (cell a b i list_predicate_var_at) t) Expr.ListPredicate
  unfolding Held size lower_expr fold made expr_step over ◌>>=◌ ret render recs_over expr_recs expr_rest Below below_in copies_below fields_of field_of
  predicate_of line (kind, (id, (pred, t))) (ts ▸ end) hd =
      let ei : id ≡ cell a b i list_predicate_var_at = ap (λ (x : Fields (expr_forms Expr.ListPredicate)). x.1.0) (shown room hd.1).fields in
      record {
        n = _;
        list = plain_c ts;
        total = counted hd.1 (d - 1) (ts ▸ end) hd.3 ∙ (omega arith);
        held = plain_held sheet a b ts (d - 1) (i + 1) hd.3.0;
        sized = let e = plain_size ts in omega arith;
        head = λ x. plan_expr_rec PlanExpr.ListPredicate (kind, (x, (pred, tt)));
        lower = λ s. rw (ei, plain_lower ts (map_var (cell a b i list_predicate_var_at) s).1);
        shown = λ N A. rw hd.0 (ap (λ (x : Recs). plan_expr_rec PlanExpr.ListPredicate (kind, (N (suc i), (pred, tt))) ∷ x) (append-nil (render_of N A ts) ∙ plain_render N A ts));
        below = λ N lo k b. (plain_below N lo k ts b, tt);
      }

  pub predicate : (t : Tree expr) → Held sheet a b t d i → cell a b i kind_at ≡ list_predicate_kind → Naming sheet a b d i (cell a b i list_predicate_var_at) t
  unfolding expr_number
  predicate t hd e = by_expr sheet d i room (λ t. Naming sheet a b d i (cell a b i list_predicate_var_at) t) Expr.ListPredicate predicate_of t hd e

naming_run : {sheet : Bytes} {a b : List ℕ} {first : ℕ} {d base i e id : ℕ} {m m' : Mem} (t : Tree expr) (o : Naming sheet a b d i id t) (W : Written) (s : State) (rest' : List ℕ) (r : Numbered) →
    base ≤ second_pass → i < max_records → i + 1 ≤ e → Given (side sheet a b first) W s (map_var id) (base + suc i) m rest' r → Ran (side sheet a b first) ((base + suc i, base + suc i + 1) ∷ W)
    (carried_piece o.list) base (suc (i + 1)) (suc e) (map_var id s).1 (mem r.ctx m.ops rest') m' → Ran (side sheet a b first) W (expr_piece t) base (suc i) (suc e) s m m'
naming_run {base = base} {i = i} {e = e} {id = id} {m = m} t o W s rest' r lb li le g p =
    let u : Sub ((base + suc (i + 1), base + suc e) ∷ (base + suc i, base + suc i + 1) ∷ W) ((base + suc i, base + suc e) ∷ W) = sub_within (omega arith) (le_refl _) (sub_within (le_refl _) (omega arith) (sub_more (base + suc i, base + suc e) W)) in
    record {
      to = rw (o.lower s) (to_wider u (to_then g.to p.to));
      shown = λ N A f.
          let f' = narrow u (rw (o.lower s) at f) in
          let z : N (base + suc i) ≡ (map_var id s).0 = (back p.to f').notes.at (base + suc i) (omega arith) (inl (omega arith, omega arith)) ∙ g.noted ∙ g.number in
          rw (o.shown (shift N base) A, o.lower s, z) (ap (λ (x : Recs). o.head (map_var id s).0 ∷ x) (p.shown N A f'));
      below = λ N A f. o.below (shift N base) _ _ (p.below N A (narrow u (rw (o.lower s) at f)));
    }

module _ {a b : List ℕ} {n d base i e id place : ℕ} {c : LowerCtx} {os rest rest' : List ℕ} {r : Numbered} {m' : Mem} (see : (sheet : Bytes) (t : Tree expr) → Held sheet a b t d i →
    Naming sheet a b d i id t) (en : n ≡ count_at a b i) (lb : base ≤ second_pass) (li : i < max_records) (ep : place ≡ base + (i + 1)) (nm : Numbers (map_var id) place c rest rest' r)
    (lr : length rest' ≡ length rest) (p : LowersExprs a b n 0 (d - 1) base (i + 1) e (mem r.ctx os rest') m') where
  naming_next : (sheet : Bytes) (t : Tree expr) → Held sheet a b t d i → e ≡ i + size t
  naming_next sheet t hd =
      let o = see sheet t hd in
      let p' : LowersExprs a b o.n 0 (d - 1) base (i + 1) e (mem r.ctx os rest') m' = rw (en ∙ o.total) at p in
      let z = p'.next sheet o.list o.held in
      let w = o.sized in
      omega arith

  pub naming_law : LowersExpr a b d base i e (mem c os rest) m'
  naming_law = record {
    moved =
        let v = p.moved in
        let w = nm.issued in
        record { up = omega (arith, v.up); here = v.here; grow = omega (arith, v.grow, w.ops); few = omega (arith, v.few, w.ops); low = omega (arith, v.low, w.low); met = omega (arith, v.met, w.met); in_ops = v.in_ops; in_rest = v.in_rest ∙ lr; index = λ x. v.index (w.index x) };
    next = naming_next;
    run = λ sheet {first} t hd W s q bl.
        let o = see sheet t hd in
        let u = p.moved.up in
        let p' : LowersExprs a b o.n 0 (d - 1) base (i + 1) e (mem r.ctx os rest') m' = rw (en ∙ o.total) at p in
        let ep' : place ≡ base + suc i = omega arith in
        let g : Given (side sheet a b first) W s (map_var id) (base + suc i) (mem c os rest) rest' r = number_to (map_var id) (base + suc i) (mem c os rest) rest' r q (rw ep' at nm) (blank_within (le_refl _) (omega arith) bl) in
        naming_run t o W s rest' r lb li u g (p'.run sheet o.list o.held _ _ g.to.rep (blank_behind (omega arith) (blank_within (omega arith) (le_refl _) bl)));
  }

pub naming_some : {a b : List ℕ} {n d i id : ℕ} → ((sheet : Bytes) (t : Tree expr) → Held sheet a b t d i → Naming sheet a b d i id t) → n ≡ count_at a b i → SomeTree a b expr d i → SomeCarried a b n 0 (d - 1) (i + 1)
naming_some see en x = let o = see x.sheet x.tree x.held in rw (en ∙ o.total) (record { sheet = x.sheet; list = o.list; held = o.held })

-- ── a pattern: its parts, and then the note of its root ──

pub record Matched (sheet : Bytes) (a b : List ℕ) (d i : ℕ) (t : Tree expr) : Type 0 where
  pub n : ℕ
  pub parts : Trees pattern_part n
  pub total : count_at a b i ≡ n
  pub held : HeldOf sheet a b parts (d - 1) (i + 1)
  pub sized : size t ≡ suc (size_of parts)
  pub lower : (s : State) → lower_expr t s ≡ (plan_expr_rec PlanExpr.Exists tt ∷ at (parts_l parts s).1.ops (parts_l parts s).0, (parts_l parts s).1)
  pub shown : (N : Render.Notes) (A : Ops) → render N A t ≡ plan_expr_rec PlanExpr.Exists tt ∷ A (N (suc i))
  pub below : (N : Render.Notes) (lo k : ℕ) → lo ≤ N (suc i) → N (suc i) < k → Below N lo k t

module _ {sheet : Bytes} {a b : List ℕ} {d i : ℕ} (room : Roomy a b) where
  pattern_of : Opens sheet a b d i expr (λ t. Matched sheet a b d i t) Expr.PatternPredicate
  unfolding Held size lower_expr fold made expr_step lower_match_pattern optional_join copy ◌>>=◌ ret render recs_over expr_recs expr_rest Below below_in copies_below fields_of field_of
  pattern_of line (n, t) (ts ▸ end) hd = record {
    n = n;
    parts = ts;
    total = counted hd.1 (d - 1) (ts ▸ end) hd.3 ∙ (omega arith);
    held = hd.3.0;
    sized = omega arith;
    lower = λ s. refl;
    shown = λ N A. rw hd.0;
    below = λ N lo k l h. rw hd.0 (l, h);
  }

  pub pattern : (t : Tree expr) → Held sheet a b t d i → cell a b i kind_at ≡ pat_kind → Matched sheet a b d i t
  unfolding expr_number
  pattern t hd e = by_expr sheet d i room (λ t. Matched sheet a b d i t) Expr.PatternPredicate pattern_of t hd e

module _ {a b : List ℕ} {n d base i e k place : ℕ} {rest' : List ℕ} {m m₁ : Mem} (see : (sheet : Bytes) (t : Tree expr) → Held sheet a b t d i → Matched sheet a b d i t)
    (en : n ≡ count_at a b i) (lb : base ≤ second_pass) (li : i < max_records) (ep : place ≡ base + (i + 1)) (p : LowersParts a b n (d - 1) base i e k m m₁)
    (nt : NoteWritten place k m₁.rest rest') (lr : length rest' ≡ length m₁.rest) where
  pattern_next : (sheet : Bytes) (t : Tree expr) → Held sheet a b t d i → e ≡ i + size t
  pattern_next sheet t hd =
      let o = see sheet t hd in
      let p' : LowersParts a b o.n (d - 1) base i e k m m₁ = rw (en ∙ o.total) at p in
      let z = p'.next sheet o.parts o.held in
      let w = o.sized in
      omega arith

  pattern_run : (sheet : Bytes) {first : ℕ} (t : Tree expr) → Held sheet a b t d i → (W : Written) (s : State) → Rep (side sheet a b first) W s m → Blank W (base + suc i) (base + suc e) → Ran (side sheet a b first) W (expr_piece t) base (suc i) (suc e) s m (mem m₁.ctx m₁.ops rest')
  pattern_run sheet {first} t hd W s q bl =
      let o = see sheet t hd in
      let v = p.moved.up in
      let p' : LowersParts a b o.n (d - 1) base i e k m m₁ = rw (en ∙ o.total) at p in
      let v' = p'.next sheet o.parts o.held in
      let ep' : place ≡ base + suc i = omega arith in
      let nt' : NoteWritten (base + suc i) k m₁.rest rest' = rw ep' at nt in
      let g = p'.run sheet o.parts o.held W s q (blank_within (omega arith) (le_refl _) bl) in
      let h = note_to (base + suc i) k m₁ rest' g.to.rep nt' (blank_before (omega arith) (blank_within (le_refl _) (omega arith) bl)) in
      let u : Sub ((base + suc i, base + suc i + 1) ∷ (base + suc (i + 1), base + suc e) ∷ W) ((base + suc i, base + suc e) ∷ W) = sub_within (le_refl _) (omega arith) (sub_within (omega arith) (le_refl _) (sub_more (base + suc i, base + suc e) W)) in
      let noted : (N : Render.Notes) (A : Ops) → Future ((base + suc i, base + suc e) ∷ W) (parts_l o.parts s).1 (mem m₁.ctx m₁.ops rest') N A → N (base + suc i) ≡ k = λ N A f. f.notes.at (base + suc i) (omega arith) (inl (omega arith, omega arith)) ∙ nt'.noted.here in
      record {
        to = rw (o.lower s) (to_wider u (to_then g.to h));
        shown = λ N A f.
            let f' = rw (o.lower s) at f in
            rw (o.shown (shift N base) A, o.lower s, noted N A f') (ap (λ (x : Recs). plan_expr_rec PlanExpr.Exists tt ∷ x) (f'.ops k p.low ∙ ap (λ (x : ℕ). at (parts_l o.parts s).1.ops x) g.root));
        below = λ N A f. (let z = noted N A (rw (o.lower s) at f) in o.below (shift N base) first m₁.ctx.ops (rw z (le_trans q.from p.since)) (rw z p.low));
      }

  pub pattern_law : LowersExpr a b d base i e m (mem m₁.ctx m₁.ops rest')
  pattern_law = record {
    moved = let v = p.moved in record { up = v.up; here = v.here; grow = v.grow; few = v.few; low = v.low; met = v.met; in_ops = v.in_ops; in_rest = lr ∙ v.in_rest; index = λ x. rw nt.vars (v.index x) };
    next = pattern_next;
    run = pattern_run;
  }

pub pattern_some : {a b : List ℕ} {n d i : ℕ} → ((sheet : Bytes) (t : Tree expr) → Held sheet a b t d i → Matched sheet a b d i t) → n ≡ count_at a b i → SomeTree a b expr d i → SomeTrees a b pattern_part n (d - 1) (i + 1)
pattern_some see en x = let o = see x.sheet x.tree x.held in rw (en ∙ o.total) (record { sheet = x.sheet; trees = o.parts; held = o.held })

-- a variable has no expressions behind it
pub count_none : {a b : List ℕ} {d i : ℕ} → Roomy a b → SomeTree a b expr d i → cell a b i kind_at ≡ var_kind → 0 ≡ count_at a b i
unfolding is_leaf
count_none {a} {b} {d} {i} room x e = leaf_count x.sheet a b d i (cell a b i kind_at) x.tree room x.held refl (ap (λ (k : ℕ). is_leaf k) e)
