-- An `unwind`: behind the operator before or a source of everything, its expression, then its variable. Assumes nothing.
use mathlib.Core.Path.{◌≡◌, refl, sym, ap, ◌∙◌}
use Prim.Native.Nat.{ℕ, suc, ◌+◌, ◌-◌}
use native.Mathlib.Nat.{le_refl}
use native.Mathlib.Omega.{arith}
use mathlib.Core.List.{List, ◌∷◌}
use Rattle.std.specs.Prelude.{Option, Some}
use lib.ListN.{length}
use Rattle.model.specs.Text.{Bytes}
use Rattle.model.specs.Kind.{ReadOp, clause, expr}
use Rattle.model.specs.Tree.{Tree}
use Rattle.model.specs.Lower.{Recs, ◌>>=◌, ret, push, op, or_source_all, map_var, lower_expr, lower_clause}
use Rattle.words.specs.Words.{Roomy, cell}
use Rattle.words.specs.Held.{Held}
use Rattle.words.specs.Places.{unwind_kind, unwind_var_at}
use Rattle.context.specs.Tables.{Pushed, Numbers}
use Rattle.context.specs.Ops.{unwind_op}
use Rattle.context.specs.declared.LowerCtx.{LowerCtx}
use Rattle.context.specs.declared.Numbered.{Numbered}
use Rattle.lower.specs.Side.{side}
use Rattle.lower.specs.Shows.{shift, shows_unwind}
use Rattle.lower.specs.Rep.{State, Mem, mem, at_place, Written, Sub, Rep}
use Rattle.lower.specs.Pieces.{SomeTree, LowersExpr}
use Rattle.lower.specs.Chains.{OrSource}
use Rattle.lower.specs.Clauses.{BothBlank, both_passes, Leaves, LowersClause}
use Rattle.lower.specs.State.{sub_within, blank_within, blank_before, back, to_then, push_to, Given, number_to}
use Rattle.lower.specs.Below.{below_more}
use Rattle.words.specs.Fits.{tree_low}
use Rattle.projections.specs.Asked.{ClauseAsked}
use Rattle.projections.specs.Passes.{sub_first}
use Rattle.clauses.proofs.Opened.{an_unwind}
use Rattle.clauses.proofs.Matching.{leaves}

pub some_list : {a b : List ℕ} {d i : ℕ} {current : Option ℕ} {m : Mem} → Roomy a b → ClauseAsked unwind_kind a b d i current m → SomeTree a b expr (d - 1) (i + 1)
some_list room g = let v = an_unwind room g.tree.tree g.tree.held g.kind in record { sheet = g.tree.sheet; tree = v.tree; held = v.held }

unwind_is : (k k' x x' : ℕ) (rs rs' : Recs) → k ≡ k' → x ≡ x' → rs ≡ rs' → ◌≡◌ {A = Recs} (op ReadOp.Unwind (k', (x', tt)) ∷ rs') (op ReadOp.Unwind (k, (x, tt)) ∷ rs)
unwind_is k k' x x' rs rs' e e' e'' = rw (e, e', e'')

-- the states of the definition, step by step
module _ (id : ℕ) (tree : Tree expr) (o : Option ℕ) (s : State) where
  abbrev sourced : State
  sourced = (or_source_all o s).1

  abbrev listed : State
  listed = (lower_expr tree sourced).1

  abbrev bound : State
  bound = (map_var id listed).1

  abbrev unwound : Recs
  unwound = op ReadOp.Unwind ((or_source_all o s).0, ((map_var id listed).0, tt)) ∷ (lower_expr tree sourced).0

  unwind_def : ◌≡◌ {A = Option ℕ × State} ((or_source_all o >>= λ input. lower_expr tree >>= λ rs. map_var id >>= λ bind. push (op ReadOp.Unwind (input, (bind, tt)) ∷ rs) >>= λ k. ret (Some k)) s) (Some (length bound.ops), (push unwound bound).1)
  unfolding ◌>>=◌ push ret
  unwind_def = refl

module _ {a b : List ℕ} {d i : ℕ} {current : Option ℕ} {k e : ℕ} {c : LowerCtx} {os rest₃ : List ℕ} {r₃ : Numbered} {m m₁ m₂ : Mem}
    (room : Roomy a b) (asked : ClauseAsked unwind_kind a b d i current m)
    (sr : OrSource m.ctx.ops (or_source_all current) k m m₁)
    (x : LowersExpr a b (d - 1) 0 (i + 1) e m₁ m₂)
    (nm : Numbers (map_var (cell a b i unwind_var_at)) (i + 1) m₂.ctx m₂.rest rest₃ r₃) (lr : length rest₃ ≡ length m₂.rest)
    (pu : Pushed r₃.ctx c m₂.ops os (unwind_op (at_place 0 (i + 1) (d - 1)) k r₃.number)) (lo : length os ≡ length m₂.ops) where
  unwind_run : (sheet : Bytes) {first : ℕ} (t : Tree clause) → Held sheet a b t d i → (W : Written) (s : State) → Rep (side sheet a b first) W s m → BothBlank W (suc i) (suc e) → Leaves (side sheet a b first) W (λ s. lower_clause t current s) (Some r₃.ctx.ops) (suc i) (suc e) s m (mem c os rest₃)
  unwind_run sheet {first} t hd W s r bl =
      let v = an_unwind room t hd asked.kind in
      let sh = asked.depth in
      let o : Option ℕ = current in
      let id : ℕ = cell a b i unwind_var_at in
      let up = x.moved.up in
      let ep : i + 1 ≡ suc i = omega arith in
      let z = sr.run _ W s r.from r in
      let y = x.run sheet v.tree v.held W (sourced id v.tree o s) z.to.rep (blank_within (omega arith) (omega arith) bl.first) in
      let W₂ : Written = (0 + suc (i + 1), 0 + suc e) ∷ W in
      let g : Given (side sheet a b first) W₂ (listed id v.tree o s) (map_var id) (suc i) m₂ rest₃ r₃ = number_to (map_var id) (suc i) m₂ rest₃ r₃ y.to.rep (rw ep at nm) (blank_before (omega arith) (blank_within (le_refl _) (omega arith) bl.first)) in
      let recs : Recs = unwound id v.tree o s in
      let s₃ : State = bound id v.tree o s in
      let w = push_to (mem r₃.ctx m₂.ops rest₃) c os (unwind_op (at_place 0 (i + 1) (d - 1)) k r₃.number) recs g.to.rep pu
      (λ N A f. record {
        bounded = record { shallow = omega arith; near = omega arith; low = tree_low sheet a b v.tree (d - 1) (i + 1) v.held; far = λ e. absurd (omega arith); flagged = λ e. absurd (omega arith) };
        shows = shows_unwind refl (record {
          tree = v.tree;
          held = v.held;
          below = below_more (shift N 0) first m₂.ctx.ops r₃.ctx.ops g.to.grow v.tree (y.below N A (back g.to f));
          is = unwind_is k _ r₃.number _ _ _ z.root g.number (y.shown N A (back g.to f));
        });
      }) in
      let u : Sub ((suc i, suc i + 1) ∷ W₂) (both_passes (suc i) (suc e) W) = sub_within (le_refl _) (omega arith) (sub_first (omega arith) (omega arith)) in
      leaves t o r₃.ctx.ops s (push recs s₃).1 (v.lower o s ∙ unwind_def id v.tree o s ∙ ap (λ (q : ℕ). (Some q, (push recs s₃).1)) (sym g.to.rep.count)) (to_then z.to (to_then y.to (to_then g.to w))) u

  pub unwind_law : (sheet : Bytes) → LowersClause sheet a b d i e current (Some r₃.ctx.ops) m (mem c os rest₃)
  unwind_law sheet =
      let v = x.moved in
      let n = nm.issued in
      record {
        moved = record {
          up = omega (arith, v.up);
          here = v.here;
          grow = omega (arith, v.grow, sr.grow, n.ops, pu.count);
          few = omega (arith, v.few, v.up, sr.few, n.ops, pu.count);
          low = omega (arith, v.low, v.up, sr.numbers, n.low, pu.numbers);
          met = omega (arith, v.met, v.up, sr.mapped, n.met, pu.mapped);
          in_ops = lo ∙ v.in_ops ∙ sr.in_ops;
          in_rest = lr ∙ v.in_rest ∙ ap length sr.rest;
          index = λ z. rw pu.mapped (n.index (v.index (rw (sr.mapped, sr.rest) z)));
        };
        stands = omega (arith, pu.count);
        next = λ t hd. (let w = an_unwind room t hd asked.kind in let y = x.next sheet w.tree w.held in let z = w.sized in omega arith);
        run = unwind_run sheet;
      }
