-- A `call`: its arguments, then its yields, behind the operator before if there is one. Assumes nothing.
use mathlib.Core.Path.{◌≡◌, refl, sym, ap, ◌∙◌}
use Prim.Native.Nat.{ℕ, suc, ◌+◌, ◌-◌, ◌≤◌}
use native.Mathlib.Nat.{le_refl}
use native.Mathlib.Omega.{arith}
use mathlib.Core.List.{List, ◌∷◌, ◌++◌}
use Rattle.std.specs.Prelude.{Option, Some, None}
use lib.ListN.{length}
use Rattle.model.specs.Text.{Bytes}
use Rattle.model.specs.Field.{Fields}
use Rattle.model.specs.Kind.{Clause, ReadOp, clause, expr, yield_item}
use Rattle.model.specs.Record.{forms}
use Rattle.model.specs.Tree.{Tree, Trees}
use Rattle.model.specs.Lower.{Recs, ◌>>=◌, ret, push, op, lower_exprs, lower_yields, lower_clause}
use Rattle.words.specs.Words.{Roomy, cell, max_records}
use Rattle.words.specs.Held.{Held, HeldOf, RecordAt, size_of}
use Rattle.words.specs.Places.{call_kind, call_args_at, call_yields_at}
use Rattle.context.specs.Tables.{Pushed, deepest}
use Rattle.context.specs.Ops.{procedure_call_op, input_if}
use Rattle.context.specs.declared.LowerCtx.{LowerCtx}
use Rattle.lower.specs.Side.{side}
use Rattle.lower.specs.Render.{Notes, Ops, render_of, BelowOf}
use Rattle.lower.specs.Shows.{shift, Stored, shows_call}
use Rattle.lower.specs.Rep.{State, Mem, mem, at_place, Written, Sub, Rep}
use Rattle.lower.specs.Pieces.{SomeCarried, lower_c, LowersExprs}
use Rattle.lower.specs.Carry.{plain_c, plain_size, plain_held, plain_render, plain_below}
use Rattle.lower.specs.Clauses.{BothBlank, both_passes, Leaves, LowersClause}
use Rattle.lower.specs.State.{sub_within, blank_within, blank_behind, back, to_then, push_to}
use Rattle.lower.specs.Below.{below_of_more}
use Rattle.words.specs.Fits.{tree_fits}
use Rattle.projections.specs.Items.{exprs_lower}
use Rattle.projections.specs.Asked.{ClauseAsked}
use Rattle.projections.specs.Passes.{sub_first}
use Rattle.clauses.specs.Asked.{YieldsAsked}
use Rattle.clauses.specs.Steps.{SomeYields, LowersYields}
use Rattle.clauses.proofs.Opened.{a_call}
use Rattle.clauses.proofs.Yields.{yields_size}
use Rattle.clauses.proofs.Matching.{leaves}

less_deep : (d : ℕ) → d ≤ deepest → d - 1 ≤ deepest
less_deep d h = omega arith

-- a call, as it is stored
module _ {sheet : Bytes} {a b : List ℕ} {first : ℕ} {N : Notes} {A : Ops} {k : ℕ} (i d : ℕ) (f : Fields (forms clause Clause.Call)) (args : Trees expr f.1.0) (yields : Trees yield_item f.1.1.0) (rs ss : Recs)
    (sh : d ≤ deepest) (is : RecordAt sheet a b i clause Clause.Call f)
    (ha : HeldOf sheet a b args d (i + 1)) (hy : HeldOf sheet a b yields d (i + 1 + size_of args))
    (bl : BelowOf (shift N 0) first k args) (e : render_of (shift N 0) A args ≡ rs) (e' : render_of (shift N 0) A yields ≡ ss) where
  call_stored : (current : Option ℕ) → Stored (side sheet a b first) N A k (procedure_call_op (at_place 0 i d) current) (op ReadOp.ProcedureCall (current, (f.0, (f.1.0, (f.1.1.0, (f.1.1.1.0, tt))))) ∷ (rs ++ ss))
  unfolding procedure_call_op input_if
  call_stored None = record {
    bounded = record { shallow = sh; near = omega arith; low = is.low; far = λ e. absurd (omega arith); flagged = λ e. absurd (omega arith) };
    shows = shows_call refl (record { fields = f; at = is; args = args; yields = yields; held_args = ha; held_yields = hy; below = bl; is = rw (e, e') });
  }
  call_stored (Some input) = record {
    bounded = record { shallow = sh; near = omega arith; low = is.low; far = λ e. absurd (omega arith); flagged = λ e. absurd (omega arith) };
    shows = shows_call refl (record { fields = f; at = is; args = args; yields = yields; held_args = ha; held_yields = hy; below = bl; is = rw (e, e') });
  }

-- the definition, step by step, over arguments as they are carried
module _ (f : Fields (forms clause Clause.Call)) (args : Trees expr f.1.0) (yields : Trees yield_item f.1.1.0) (o : Option ℕ) (s : State) where
  abbrev argued : State
  argued = (lower_c (plain_c args) s).1

  abbrev yielded : State
  yielded = (lower_yields yields argued).1

  abbrev called : Recs
  called = op ReadOp.ProcedureCall (o, (f.0, (f.1.0, (f.1.1.0, (f.1.1.1.0, tt))))) ∷ ((lower_c (plain_c args) s).0 ++ (lower_yields yields argued).0)

  call_def : ◌≡◌ {A = Option ℕ × State} ((lower_exprs args >>= λ rs. lower_yields yields >>= λ ss. push (op ReadOp.ProcedureCall (o, (f.0, (f.1.0, (f.1.1.0, (f.1.1.1.0, tt))))) ∷ (rs ++ ss)) >>= λ k. ret (Some k)) s) (Some (length yielded.ops), (push called yielded).1)
  unfolding ◌>>=◌ push ret
  call_def = rw (exprs_lower args s)

module _ {a b : List ℕ} {d i : ℕ} {current : Option ℕ} {m : Mem} (room : Roomy a b) (g : ClauseAsked call_kind a b d i current m) where
  pub some_args : {n : ℕ} → n ≡ cell a b i call_args_at → SomeCarried a b n 0 (d - 1) (i + 1)
  some_args en = let v = a_call room g.tree.tree g.tree.held g.kind in rw (en ∙ sym v.many) (record { sheet = g.tree.sheet; list = plain_c v.args; held = plain_held g.tree.sheet a b v.args (d - 1) (i + 1) v.held_args })

  -- where its yields begin
  pub args_end : {n e : ℕ} {m₁ : Mem} → n ≡ cell a b i call_args_at → LowersExprs a b n 0 (d - 1) 0 (i + 1) e m m₁ → (sheet : Bytes) (t : Tree clause) (hd : Held sheet a b t d i) → e ≡ i + 1 + size_of (a_call room t hd g.kind).args
  args_end {n} {e} {m₁} en p sheet t hd =
      let v = a_call room t hd g.kind in
      let p' : LowersExprs a b v.fields.1.0 0 (d - 1) 0 (i + 1) e m m₁ = rw (en ∙ sym v.many) at p in
      let q = p'.next sheet (plain_c v.args) (plain_held sheet a b v.args (d - 1) (i + 1) v.held_args) in
      let z = plain_size v.args in
      omega arith

  some_yields : {n n' e : ℕ} {m₁ : Mem} → n ≡ cell a b i call_args_at → n' ≡ cell a b i call_yields_at → LowersExprs a b n 0 (d - 1) 0 (i + 1) e m m₁ → SomeYields a b n' e
  some_yields en en' p = let v = a_call room g.tree.tree g.tree.held g.kind in rw (en' ∙ sym v.yielded, args_end en p g.tree.sheet g.tree.tree g.tree.held) (record { sheet = g.tree.sheet; depth = d - 1; trees = v.yields; held = v.held_yields })

  yields_fit : {n n' e : ℕ} {m₁ : Mem} → n ≡ cell a b i call_args_at → n' ≡ cell a b i call_yields_at → LowersExprs a b n 0 (d - 1) 0 (i + 1) e m m₁ → e + n' ≤ max_records
  yields_fit en en' p =
      let v = a_call room g.tree.tree g.tree.held g.kind in
      let q = args_end en p g.tree.sheet g.tree.tree g.tree.held in
      let f = (tree_fits g.tree.sheet a b g.tree.tree d i g.tree.held).1 in
      let z = v.sized in
      let y = yields_size v.yields in
      let w = v.yielded in
      omega arith

  pub asked_yields : {n n' e : ℕ} {m₁ : Mem} → n ≡ cell a b i call_args_at → n' ≡ cell a b i call_yields_at → LowersExprs a b n 0 (d - 1) 0 (i + 1) e m m₁ → YieldsAsked a b n' e m₁.ctx m₁.rest
  asked_yields en en' p =
      let f = yields_fit en en' p in
      let r = g.ready in
      let v = p.moved in
      record {
        some = some_yields en en' p;
        fits = f;
        met = omega (arith, f, r.met, v.met, v.up, r.here);
        low = omega (arith, f, r.low, v.low, v.up, r.here);
        in_rest = rw v.in_rest r.in_rest;
        index = v.index r.index;
      }

module _ {a b : List ℕ} {d i : ℕ} {current : Option ℕ} {n n' j e : ℕ} {c : LowerCtx} {os : List ℕ} {m m₁ m₂ : Mem}
    (room : Roomy a b) (g : ClauseAsked call_kind a b d i current m) (en : n ≡ cell a b i call_args_at) (en' : n' ≡ cell a b i call_yields_at)
    (x : LowersExprs a b n 0 (d - 1) 0 (i + 1) j m m₁) (y : LowersYields a b n' j e m₁ m₂)
    (pc : Pushed m₂.ctx c m₂.ops os (procedure_call_op (at_place 0 i (d - 1)) current)) (lo : length os ≡ length m₂.ops) where
  call_run : (sheet : Bytes) {first : ℕ} (t : Tree clause) → Held sheet a b t d i → (W : Written) (s : State) → Rep (side sheet a b first) W s m → BothBlank W (suc i) (suc e) → Leaves (side sheet a b first) W (λ s. lower_clause t current s) (Some m₂.ctx.ops) (suc i) (suc e) s m (mem c os m₂.rest)
  call_run sheet {first} t hd W s r bl =
      let v = a_call room t hd g.kind in
      let o : Option ℕ = current in
      let up = x.moved.up in
      let up' = y.moved.up in
      let x' : LowersExprs a b v.fields.1.0 0 (d - 1) 0 (i + 1) j m m₁ = rw (en ∙ sym v.many) at x in
      let y' : LowersYields a b v.fields.1.1.0 j e m₁ m₂ = rw (en' ∙ sym v.yielded) at y in
      let p = x'.run sheet (plain_c v.args) (plain_held sheet a b v.args (d - 1) (i + 1) v.held_args) W s r (blank_within (omega arith) (omega arith) bl.first) in
      let q = y'.run sheet (d - 1) v.yields (rw (args_end room g en x sheet t hd) v.held_yields) _ (argued v.fields v.args v.yields o s) p.to.rep (blank_behind (omega arith) (blank_within (omega arith) (le_refl _) bl.first)) in
      let recs : Recs = called v.fields v.args v.yields o s in
      let s₂ : State = yielded v.fields v.args v.yields o s in
      let w = push_to m₂ c os (procedure_call_op (at_place 0 i (d - 1)) current) recs q.to.rep pc
      (λ N A f. call_stored i (d - 1) v.fields v.args v.yields _ _ (less_deep d g.depth) v.at v.held_args v.held_yields
      (below_of_more (shift N 0) first m₁.ctx.ops m₂.ctx.ops q.to.grow v.args (plain_below (shift N 0) first m₁.ctx.ops v.args (p.below N A (back q.to f))))
      (plain_render (shift N 0) A v.args ∙ p.shown N A (back q.to f)) (q.shown N A f) current) in
      let u : Sub ((0 + suc j, 0 + suc e) ∷ (0 + suc (i + 1), 0 + suc j) ∷ W) (both_passes (suc i) (suc e) W) = sub_within (omega arith) (omega arith) (sub_first (omega arith) (omega arith)) in
      leaves t o m₂.ctx.ops s (push recs s₂).1 (v.lower o s ∙ call_def v.fields v.args v.yields o s ∙ ap (λ (z : ℕ). (Some z, (push recs s₂).1)) (sym q.to.rep.count)) (to_then p.to (to_then q.to w)) u

  pub call_law : (sheet : Bytes) → LowersClause sheet a b d i e current (Some m₂.ctx.ops) m (mem c os m₂.rest)
  call_law sheet =
      let v = x.moved in
      let w = y.moved in
      record {
        moved = record {
          up = omega (arith, v.up, w.up);
          here = w.here;
          grow = omega (arith, v.grow, w.grow, pc.count);
          few = omega (arith, v.few, v.up, w.few, w.up, pc.count);
          low = omega (arith, v.low, v.up, w.low, w.up, pc.numbers);
          met = omega (arith, v.met, v.up, w.met, w.up, pc.mapped);
          in_ops = lo ∙ w.in_ops ∙ v.in_ops;
          in_rest = w.in_rest ∙ v.in_rest;
          index = λ z. rw pc.mapped (w.index (v.index z));
        };
        stands = omega (arith, pc.count);
        next = λ t hd. (let o = a_call room t hd g.kind in let p = args_end room g en x sheet t hd in let q = y.next in let z = o.sized in let f = yields_size o.yields in let g = o.yielded in omega arith);
        run = call_run sheet;
      }
