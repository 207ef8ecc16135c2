-- A `where`: a filter by its expression, behind the operator before or a source of everything. Assumes nothing.
use mathlib.Core.Path.{◌≡◌, refl, sym, ap, ◌∙◌}
use Prim.Native.Nat.{ℕ, suc, ◌+◌, ◌-◌}
use native.Mathlib.Omega.{arith}
use mathlib.Core.List.{List}
use Rattle.std.specs.Prelude.{Option, Some}
use lib.ListN.{length}
use Rattle.model.specs.Text.{Bytes}
use Rattle.model.specs.Kind.{clause, expr}
use Rattle.model.specs.Tree.{Tree}
use Rattle.model.specs.Lower.{Recs, ◌>>=◌, ret, push, filter, or_source_all, lower_expr, lower_clause}
use Rattle.words.specs.Words.{Roomy}
use Rattle.words.specs.Held.{Held}
use Rattle.words.specs.Places.{where_kind}
use Rattle.context.specs.Tables.{Pushed}
use Rattle.context.specs.Ops.{filter_op}
use Rattle.context.specs.declared.LowerCtx.{LowerCtx}
use Rattle.lower.specs.Side.{side}
use Rattle.lower.specs.Shows.{shift, shows_filter}
use Rattle.lower.specs.Rep.{State, Mem, mem, at_place, Written, Rep}
use Rattle.lower.specs.Pieces.{SomeTree, LowersExpr}
use Rattle.lower.specs.Clauses.{BothBlank, Leaves, LowersClause}
use Rattle.lower.specs.State.{blank_within, back, to_then, push_to, filter_is}
use Rattle.lower.specs.Below.{below_more}
use Rattle.words.specs.Fits.{tree_low}
use Rattle.projections.specs.Asked.{ClauseAsked}
use Rattle.projections.specs.Passes.{sub_first}
use Rattle.lower.specs.Chains.{OrSource}
use Rattle.clauses.proofs.Opened.{a_where}
use Rattle.clauses.proofs.Matching.{leaves}

pub some_predicate : {a b : List ℕ} {d i : ℕ} {current : Option ℕ} {m : Mem} → Roomy a b → ClauseAsked where_kind a b d i current m → SomeTree a b expr (d - 1) (i + 1)
some_predicate room g = let v = a_where room g.tree.tree g.tree.held g.kind in record { sheet = g.tree.sheet; tree = v.tree; held = v.held }

-- the definition, step by step
where_def : (tree : Tree expr) (o : Option ℕ) (s : State) → ◌≡◌ {A = Option ℕ × State} ((lower_expr tree >>= λ rs. or_source_all o >>= λ input. push (filter input rs) >>= λ k. ret (Some k)) s) (Some (length (or_source_all o (lower_expr tree s).1).1.ops), (push (filter (or_source_all o (lower_expr tree s).1).0 (lower_expr tree s).0) (or_source_all o (lower_expr tree s).1).1).1)
unfolding ◌>>=◌ push ret
where_def tree o s = refl

module _ {a b : List ℕ} {d i : ℕ} {current : Option ℕ} {k e : ℕ} {c : LowerCtx} {os : List ℕ} {m m₁ m₂ : Mem}
    (room : Roomy a b) (g : ClauseAsked where_kind a b d i current m)
    (x : LowersExpr a b (d - 1) 0 (i + 1) e m m₁)
    (sr : OrSource m₁.ctx.ops (or_source_all current) k m₁ m₂)
    (pf : Pushed m₂.ctx c m₂.ops os (filter_op (at_place 0 (i + 1) (d - 1)) k)) (lo : length os ≡ length m₂.ops) where
  where_run : (sheet : Bytes) {first : ℕ} (t : Tree clause) → Held sheet a b t d i → (W : Written) (s : State) → Rep (side sheet a b first) W s m → BothBlank W (suc i) (suc e) → Leaves (side sheet a b first) W (λ s. lower_clause t current s) (Some m₂.ctx.ops) (suc i) (suc e) s m (mem c os m₂.rest)
  where_run sheet {first} t hd W s r bl =
      let v = a_where room t hd g.kind in
      let sh = g.depth in
      let y = x.run sheet v.tree v.held W s r (blank_within (omega arith) (omega arith) bl.first) in
      let z = sr.run _ _ _ y.to.rep.from y.to.rep in
      let s₂ : State = (or_source_all current (lower_expr v.tree s).1).1 in
      let recs : Recs = filter (or_source_all current (lower_expr v.tree s).1).0 (lower_expr v.tree s).0 in
      let w = push_to m₂ c os (filter_op (at_place 0 (i + 1) (d - 1)) k) recs z.to.rep pf
      (λ N A f. record {
        bounded = record { shallow = omega arith; near = omega arith; low = tree_low sheet a b v.tree (d - 1) (i + 1) v.held; far = λ e. absurd (omega arith); flagged = λ e. absurd (omega arith) };
        shows = shows_filter refl (record {
          tree = v.tree;
          held = v.held;
          below = below_more (shift N 0) first m₁.ctx.ops m₂.ctx.ops sr.grow v.tree (y.below N A (back z.to f));
          is = filter_is k _ _ _ z.root (y.shown N A (back z.to f));
        });
      }) in
      leaves t current m₂.ctx.ops s (push recs s₂).1 (v.lower current s ∙ where_def v.tree current s ∙ ap (λ (q : ℕ). (Some q, (push recs s₂).1)) (sym z.to.rep.count)) (to_then y.to (to_then z.to w)) (sub_first (omega arith) (omega arith))

  pub where_law : (sheet : Bytes) → LowersClause sheet a b d i e current (Some m₂.ctx.ops) m (mem c os m₂.rest)
  where_law sheet =
      let v = x.moved in
      record {
        moved = record {
          up = omega (arith, v.up);
          here = v.here;
          grow = omega (arith, v.grow, sr.grow, pf.count);
          few = omega (arith, v.few, v.up, sr.few, pf.count);
          low = omega (arith, v.low, v.up, sr.numbers, pf.numbers);
          met = omega (arith, v.met, v.up, sr.mapped, pf.mapped);
          in_ops = lo ∙ sr.in_ops ∙ v.in_ops;
          in_rest = ap length sr.rest ∙ v.in_rest;
          index = λ z. rw (pf.mapped, sr.mapped, sr.rest) (v.index z);
        };
        stands = omega (arith, pf.count);
        next = λ t hd. (let w = a_where room t hd g.kind in let y = x.next sheet w.tree w.held in let z = w.sized in omega arith);
        run = where_run sheet;
      }
