-- A `with`: the operator before it, its items and its predicate, its own operator, and what trails it. Assumes nothing.
use mathlib.Core.Path.{◌≡◌, refl, sym, ap, ◌∙◌}
use Prim.Native.Nat.{ℕ, suc, ◌+◌, ◌-◌, ◌≤◌}
use native.Mathlib.Nat.{le_refl}
use native.Mathlib.Omega.{arith}
use mathlib.Core.List.{List, ◌∷◌, ◌++◌}
use Rattle.std.specs.Prelude.{Some, Option}
use lib.ListN.{length}
use Rattle.model.specs.Text.{Bytes}
use Rattle.model.specs.Kind.{clause}
use Rattle.model.specs.Record.{Rec, one}
use Rattle.model.specs.Tree.{Tree}
use Rattle.model.specs.Lower.{Recs, or_source_all, lower_clause}
use Rattle.words.specs.Words.{Roomy, cell}
use Rattle.words.specs.Held.{Held, HeldOf, size, size_of}
use Rattle.words.specs.Places.{with_kind, items_at, with_filter_at}
use Rattle.context.specs.Tables.{Pushed}
use Rattle.context.specs.Ops.{with_op}
use Rattle.context.specs.declared.LowerCtx.{LowerCtx}
use Rattle.lower.specs.Side.{side}
use Rattle.lower.specs.Shows.{shift, shows_with}
use Rattle.lower.specs.Rep.{State, Mem, mem, at_place, Written, Sub, Rep}
use Rattle.lower.specs.Pieces.{SomeCarried, LowersExprs}
use Rattle.lower.specs.Chains.{OrSource}
use Rattle.lower.specs.Clauses.{MovedTwice, both_passes, BothBlank, Leaves, LowersClause}
use Rattle.lower.specs.Carry.{plain_c, plain_size, plain_held, plain_render, plain_below}
use Rattle.lower.specs.State.{sub_within, blank_within, blank_behind, back, to_then, to_wider, push_to}
use Rattle.words.specs.Fits.{tree_low}
use Rattle.lower.specs.Below.{carried_more}
use Rattle.projections.specs.Items.{items_c, items_size, items_held, items_render, items_below}
use Rattle.projections.specs.Promises.{SomeTail, LowersTail}
use Rattle.projections.specs.Asked.{ClauseAsked}
use Rattle.projections.specs.Room.{twice_then}
use Rattle.projections.specs.Passes.{sub_both}
use Rattle.projections.proofs.Opened.{IsWith, a_with, with_recs}

-- items, then a predicate
shown_both : (head : Rec) (rs rs' ss ss' : Recs) → rs ≡ rs' → ss ≡ ss' → head ∷ (rs' ++ ss') ≡ head ∷ (rs ++ ss)
shown_both head rs rs' ss ss' e e' = rw (e, e')

-- the notes of items, predicate and trailers are among the clause's own
with_sub : (i j p q e : ℕ) (W : Written) → i + 1 ≤ j → j ≤ p → p ≡ q → p ≤ e → Sub ((0 + suc q, 0 + suc e) ∷ (0 + suc j, 0 + suc p) ∷ (0 + suc (i + 1), 0 + suc j) ∷ W) (both_passes (suc i) (suc e) W)
with_sub i j p q e W l₁ l₂ eq l₃ = sub_within (omega arith) (omega arith) (sub_within (omega arith) (omega arith) (sub_within (omega arith) (omega arith) sub_both))

module _ {a b : List ℕ} {d i : ℕ} {current : Option ℕ} {m : Mem} (room : Roomy a b) (g : ClauseAsked with_kind a b d i current m) where
  -- the items
  pub with_items : {n : ℕ} → n ≡ cell a b i items_at → SomeCarried a b n 1 (d - 1 - 1) (i + 1)
  with_items en =
      let v = a_with room g.tree.tree g.tree.held g.kind in
      rw (en ∙ sym v.counted) (record { sheet = g.tree.sheet; list = items_c v.items; held = items_held g.tree.sheet a b v.items (d - 1) (i + 1) v.held_items })

  module _ {n j : ℕ} {m₁ m₂ : Mem} (en : n ≡ cell a b i items_at) (it : LowersExprs a b n 1 (d - 1 - 1) 0 (i + 1) j m₁ m₂) where
    items_as : (x : ℕ) → x ≡ cell a b i items_at → LowersExprs a b x 1 (d - 1 - 1) 0 (i + 1) j m₁ m₂
    items_as x e = rw (en ∙ sym e) at it

    items_end : (sheet : Bytes) (t : Tree clause) (v : IsWith sheet a b d i t) → j ≡ i + 1 + size_of v.items
    items_end sheet t v =
        let x = (items_as v.n v.counted).next sheet (items_c v.items) (items_held sheet a b v.items (d - 1) (i + 1) v.held_items) in
        let y = items_size v.items in
        omega arith

    predicate_held : (sheet : Bytes) (t : Tree clause) (v : IsWith sheet a b d i t) → HeldOf sheet a b v.predicate (d - 1) j
    predicate_held sheet t v = rw (items_end sheet t v) v.held_predicate

    -- the predicate
    pub with_predicate : {l : ℕ} → l ≡ cell a b i with_filter_at → SomeCarried a b l 0 (d - 1) j
    with_predicate el =
        let v = a_with room g.tree.tree g.tree.held g.kind in
        rw (el ∙ sym v.flagged) (record { sheet = g.tree.sheet; list = plain_c v.predicate; held = plain_held g.tree.sheet a b v.predicate (d - 1) j (predicate_held g.tree.sheet g.tree.tree v) })

    module _ {l p : ℕ} {m₃ : Mem} (el : l ≡ cell a b i with_filter_at) (pr : LowersExprs a b l 0 (d - 1) 0 j p m₂ m₃) where
      predicate_as : (x : ℕ) → x ≡ cell a b i with_filter_at → LowersExprs a b x 0 (d - 1) 0 j p m₂ m₃
      predicate_as x e = rw (el ∙ sym e) at pr

      predicate_end : (sheet : Bytes) (t : Tree clause) (v : IsWith sheet a b d i t) → p ≡ i + 1 + size_of v.items + size_of v.predicate
      predicate_end sheet t v =
          let x = (predicate_as (one v.filtered) v.flagged).next sheet (plain_c v.predicate) (plain_held sheet a b v.predicate (d - 1) j (predicate_held sheet t v)) in
          let y = plain_size v.predicate in
          let z = items_end sheet t v in
          omega arith

      -- what trails
      pub with_tail : SomeTail a b (d - 1) i p
      with_tail =
          let v = a_with room g.tree.tree g.tree.held g.kind in
          rw (predicate_end g.tree.sheet g.tree.tree v) (record { sheet = g.tree.sheet; tail = v.tail })

      module _ {k₀ : ℕ} {c : LowerCtx} {os : List ℕ} (sr : OrSource m.ctx.ops (or_source_all current) k₀ m m₁) (ps : Pushed m₃.ctx c m₃.ops os (with_op (at_place 0 i (d - 1)) k₀)) (lo : length os ≡ length m₃.ops) where
        pub with_moved : MovedTwice i p m (mem c os m₃.rest)
        with_moved =
            let x = it.moved in
            let y = pr.moved in
            record {
              up = omega (arith, x.up, y.up);
              here = y.here;
              grow = omega (arith, sr.grow, x.grow, y.grow, ps.count);
              few = omega (arith, sr.few, x.few, y.few, ps.count, x.up, y.up);
              low = omega (arith, sr.numbers, x.low, y.low, ps.numbers, x.up, y.up);
              met = omega (arith, sr.mapped, x.met, y.met, ps.mapped, x.up, y.up);
              in_ops = lo ∙ y.in_ops ∙ x.in_ops ∙ sr.in_ops;
              in_rest = y.in_rest ∙ x.in_rest ∙ ap length sr.rest;
              index = λ z. rw ps.mapped (y.index (x.index (rw (sr.mapped, sr.rest) z)));
            }

        module _ {e k : ℕ} {m₅ : Mem} (tl : LowersTail a b (d - 1) m₃.ctx.ops i p e k (mem c os m₃.rest) m₅) where
          with_next : (sheet : Bytes) (t : Tree clause) → Held sheet a b t d i → e ≡ i + size t
          with_next sheet t hd =
              let v = a_with room t hd g.kind in
              let tl' : LowersTail a b (d - 1) m₃.ctx.ops i (i + 1 + size_of v.items + size_of v.predicate) e k (mem c os m₃.rest) m₅ = rw (predicate_end sheet t v) at tl in
              let x = tl'.next sheet v.tail in
              let y = v.sized in
              omega arith

          with_run : (sheet : Bytes) {first : ℕ} (t : Tree clause) → Held sheet a b t d i → (W : Written) (s : State) → Rep (side sheet a b first) W s m → BothBlank W (suc i) (suc e) → Leaves (side sheet a b first) W (λ s. lower_clause t current s) (Some k) (suc i) (suc e) s m m₅
          with_run sheet {first} t hd W s r bl =
              let v = a_with room t hd g.kind in
              let P : ℕ = i + 1 + size_of v.items + size_of v.predicate in
              let ep : p ≡ P = predicate_end sheet t v in
              let tl' : LowersTail a b (d - 1) m₃.ctx.ops i P e k (mem c os m₃.rest) m₅ = rw ep at tl in
              let u₁ = it.moved.up in
              let u₂ = pr.moved.up in
              let u₃ = tl.moved.up in
              let s₁ : State = (or_source_all current s).1 in
              let x₀ = sr.run _ W s r.from r in
              let x₁ = (items_as v.n v.counted).run sheet (items_c v.items) (items_held sheet a b v.items (d - 1) (i + 1) v.held_items) W s₁ x₀.to.rep (blank_within (omega arith) (omega arith) bl.first) in
              let x₂ = (predicate_as (one v.filtered) v.flagged).run sheet (plain_c v.predicate) (plain_held sheet a b v.predicate (d - 1) j (predicate_held sheet t v)) _ _ x₁.to.rep (blank_behind (le_refl _) (blank_within (omega arith) (omega arith) bl.first)) in
              let x₃ = push_to m₃ c os (with_op (at_place 0 i (d - 1)) k₀) (with_recs v.filtered v.items v.predicate k₀ s₁) x₂.to.rep ps
              (λ N A f. record {
                bounded = record { shallow = omega (arith, g.depth); near = omega arith; low = tree_low sheet a b t d i hd; far = λ e. absurd (omega arith); flagged = λ e. absurd (omega arith) };
                shows = shows_with refl (record {
                  count = v.n;
                  filtered = v.filtered;
                  items = v.items;
                  predicate = v.predicate;
                  counted = v.counted;
                  flagged = v.flagged;
                  held_items = v.held_items;
                  held_predicate = v.held_predicate;
                  below_items = items_below (shift N 0) first m₃.ctx.ops v.items (carried_more (shift N 0) first m₂.ctx.ops m₃.ctx.ops x₂.to.grow (items_c v.items) (x₁.below N A (back x₂.to f)));
                  below_predicate = plain_below (shift N 0) first m₃.ctx.ops v.predicate (x₂.below N A f);
                  is = shown_both _ _ _ _ _ (items_render (shift N 0) A v.items ∙ x₁.shown N A (back x₂.to f)) (plain_render (shift N 0) A v.predicate ∙ x₂.shown N A f);
                });
              }) in
              let x₄ = tl'.run sheet v.tail _ _ x₃.rep (blank_behind (omega arith) (blank_behind (omega arith) (blank_within (omega arith) (omega arith) bl.first))) in
              let D = v.def current s k₀ m₃.ctx.ops x₀.root x₂.to.rep.count in
              record {
                to = rw D (to_wider (with_sub i j p P e W u₁ u₂ ep u₃) (to_then x₀.to (to_then x₁.to (to_then x₂.to (to_then x₃ x₄.to)))));
                gives = rw D (ap (λ (z : ℕ). Some z) (sym x₄.root));
              }

          pub with_law : (sheet : Bytes) → LowersClause sheet a b d i e current (Some k) m m₅
          with_law sheet = record { moved = twice_then with_moved tl.moved; stands = tl.low; next = with_next sheet; run = with_run sheet }
