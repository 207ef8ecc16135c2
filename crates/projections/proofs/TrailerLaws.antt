-- Order, skip and limit: an operator over sort keys or over one expression, or none, and the three one behind the other. Assumes nothing.
use Rattle.std.proofs.Common.{◌≡◌, refl, sym, ap, subst, ◌∙◌, ℕ, suc, ◌+◌, ◌-◌, ◌≤◌, ◌<◌, Bool, true, false, cond, not, List, ◌∷◌, eqb, le_refl, append-nil, arith}
use Rattle.model.specs.Text.{Bytes}
use Rattle.model.specs.Kind.{Sort, ReadOp, expr, order_item}
use Rattle.model.specs.Record.{Rec}
use Rattle.model.specs.Tree.{Tree, Trees, []ᵗ, ◌∷ᵗ◌}
use Rattle.model.specs.Lower.{Recs, Lowering, ◌>>=◌, ret, push, op, lower_expr, order_by, over_expr, lower_trailers}
use Rattle.words.specs.Words.{cell, max_records}
use Rattle.words.specs.Held.{Held, HeldOf, size_of}
use Rattle.words.specs.Places.{keys_at, skip_at, limit_at}
use Rattle.words.specs.Fits.{trees_fits}
use Rattle.context.specs.Tables.{CanPush, deepest}
use Rattle.context.specs.Ops.{Fits, order_by_op, skip_op, limit_op}
use Rattle.context.specs.declared.LowerCtx.{LowerCtx}
use Rattle.context.specs.declared.op.Op.{Op}
use Rattle.lower.specs.Side.{side}
use Rattle.lower.specs.Render.{Notes, Ops, render, Below}
use Rattle.lower.specs.Shows.{shift, Stored, shows_order, shows_skip, shows_limit}
use Rattle.lower.specs.Rep.{State, Mem, mem, at_place, Written, Blank, Rep, Rooted}
use Rattle.lower.specs.Pieces.{Carried, lower_c, render_c, BelowC, size_c, HeldC, SomeCarried, LowersExprs}
use Rattle.lower.specs.Patterns.{SomeTrees}
use Rattle.lower.specs.Carry.{plain_c, plain_size, plain_held}
use Rattle.lower.specs.State.{sub_more, sub_within, blank_within, blank_behind, to_then, to_wider}
use Rattle.projections.specs.Items.{keys_c, keys_lower, keys_size, keys_held, keys_render, keys_below}
use Rattle.projections.specs.Ready.{Ready}
use Rattle.projections.specs.Asked.{ItemsAsked, TailAsked}
use Rattle.projections.specs.Promises.{PushedIf, LowersOver, order_l, skip_l, limit_l, Tail, tail_size, SomeTail, LowersTail}
use Rattle.lower.specs.Asked.{ExprsAsked}
use Rattle.lower.specs.Exprs.{room_after, can_push}
use Rattle.projections.specs.Room.{twice_then, ready_room, ready_after, fits}
use Rattle.projections.proofs.Pushing.{none_counted, some_counted, left_low, moved_if, pushed_if, pushed_if_as}

-- ── trees that an operator stands over, or none ──

-- The n trees from record i on are lowered as expressions one after another, and then an operator x is pushed that shows them behind a record of its own; where there are none, `input` is left.
record Trails {s : Sort} {n : ℕ} (a b : List ℕ) (gap deep d i input : ℕ) (head : Rec) (x : Op) (cs : Trees s n → Carried n) (L : Trees s n → Lowering ℕ) : Type 0 where
  none : n ≡ 0 → (ts : Trees s n) (st : State) → L ts st ≡ (input, (lower_c (cs ts) st).1)
  over : ((n ≡ 0) → ⊥) → (ts : Trees s n) (st : State) → L ts st ≡ push (head ∷ (lower_c (cs ts) st).0) (lower_c (cs ts) st).1
  sized : (ts : Trees s n) → size_of ts ≡ size_c gap (cs ts)
  held : (sheet : Bytes) (ts : Trees s n) → HeldOf sheet a b ts d i → HeldC sheet a b gap (cs ts) deep i
  shown : ((n ≡ 0) → ⊥) → (sheet : Bytes) {first : ℕ} (ts : Trees s n) → HeldOf sheet a b ts d i → (N : Notes) (A : Ops) (k : ℕ) (rs : Recs) → BelowC (shift N 0) first k (cs ts) → render_c (shift N 0) A (cs ts) ≡ rs → Stored (side sheet a b first) N A k x (head ∷ rs)

module _ {s : Sort} {a b : List ℕ} {n gap deep d i input e e' k : ℕ} {head : Rec} {x : Op} {c : LowerCtx} {os : List ℕ} {m m₁ : Mem} {cs : Trees s n → Carried n} {L : Trees s n → Lowering ℕ}
    (tr : Trails a b gap deep d i input head x cs L)
    (g : SomeTrees a b s n d i) (here : i ≤ max_records) (stands : input < m.ctx.ops)
    (ex : LowersExprs a b n gap deep 0 i e m m₁)
    (pi : PushedIf (not (eqb n 0)) x input k m₁.ctx c m₁.ops os)
    (end : e' ≡ e) where
  trail_next : (sheet : Bytes) (ts : Trees s n) → HeldOf sheet a b ts d i → e ≡ i + size_of ts
  trail_next sheet ts hd = let x = ex.next sheet (cs ts) (tr.held sheet ts hd) in let y = tr.sized ts in omega arith

  trail_up : not (eqb n 0) ≡ true → i + 1 ≤ e
  trail_up q =
      let y = trail_next g.sheet g.trees g.held in
      let f = (trees_fits g.sheet a b g.trees d i here g.held).0 in
      let z = some_counted n q in
      omega arith

  trail_low : k < c.ops
  trail_low = left_low pi (let g = ex.moved.grow in omega arith)

  trail_def : (w : Bool) → not (eqb n 0) ≡ w → (ts : Trees s n) (st : State) → L ts st ≡ cond w (push (head ∷ (lower_c (cs ts) st).0) (lower_c (cs ts) st).1) (input, (lower_c (cs ts) st).1)
  trail_def false q ts st = tr.none (none_counted n q) ts st
  trail_def true q ts st = tr.over (some_counted n q) ts st

  trail_run : (sheet : Bytes) {first : ℕ} (ts : Trees s n) → HeldOf sheet a b ts d i → (W : Written) (st : State) → Rep (side sheet a b first) W st m → Blank W (0 + suc i) (0 + suc e) → Rooted (side sheet a b first) W (L ts) k 0 (suc i) (suc e) st m (mem c os m₁.rest)
  trail_run sheet ts hd W st r bl =
      let w : Bool = not (eqb n 0) in
      let rs : Recs = (lower_c (cs ts) st).0 in
      let y = ex.run sheet (cs ts) (tr.held sheet ts hd) W st r bl in
      let z = pushed_if m₁ (λ v. cond w (push (head ∷ rs) v) (input, v)) (head ∷ rs) y.to.rep pi (λ q. rw q) (λ q. rw q)
      (λ q N A f. tr.shown (some_counted n q) sheet ts hd N A m₁.ctx.ops rs (y.below N A f) (y.shown N A f)) in
      let D = trail_def w refl ts st in
      record { to = rw D (to_then y.to z.to); root = rw D z.root; low = trail_low }

  trail_law : LowersOver a b n d i e' k L m (mem c os m₁.rest)
  trail_law = rw end (record { moved = moved_if ex.moved trail_up pi; low = trail_low; next = trail_next; run = trail_run })

-- ── sort keys ──

keys_some : {a b : List ℕ} {n d i : ℕ} → SomeTrees a b order_item n d i → SomeCarried a b n 1 (d - 1) i
keys_some {a} {b} {d = d} {i = i} x = record { sheet = x.sheet; list = keys_c x.trees; held = keys_held x.sheet a b x.trees d i x.held }

no_keys : {n : ℕ} (input : ℕ) (ts : Trees order_item n) (s : State) → n ≡ 0 → order_by input ts s ≡ (input, (lower_c (keys_c ts) s).1)
unfolding order_by ret lower_c keys_c
no_keys input []ᵗ s e = refl
no_keys input (t ∷ᵗ ts) s e = absurd (omega arith)

order_def : {n : ℕ} (input : ℕ) (ts : Trees order_item n) (s : State) → ((n ≡ 0) → ⊥) → order_by input ts s ≡ push (op ReadOp.OrderBy (input, (n, tt)) ∷ (lower_c (keys_c ts) s).0) (lower_c (keys_c ts) s).1
unfolding order_by ◌>>=◌
order_def input []ᵗ s h = absurd (h refl)
order_def input (t ∷ᵗ ts) s h = rw (keys_lower (t ∷ᵗ ts) s)

order_trails : (a b : List ℕ) (n d i input : ℕ) → d ≤ deepest → i ≤ max_records → Trails a b 1 (d - 1) d i input (op ReadOp.OrderBy (input, (n, tt))) (order_by_op (at_place 0 i d) input n) (λ ts. keys_c ts) (order_l n input)
order_trails a b n d i input deep here = record {
  none = λ q ts s. no_keys input ts s q;
  over = λ q ts s. order_def input ts s q;
  sized = λ ts. keys_size ts;
  held = λ sheet ts hd. keys_held sheet a b ts d i hd;
  shown = λ q sheet {first} ts hd N A k rs below is. (let f = trees_fits sheet a b ts d i here hd in record {
    bounded = record { shallow = deep; near = omega arith; low = omega arith; far = λ e. absurd (omega arith); flagged = λ e. absurd (omega arith) };
    shows = shows_order refl (record {
      keys = ts;
      held = hd;
      below = keys_below (shift N 0) first k ts below;
      is = ap (λ (x : Recs). op ReadOp.OrderBy (input, (n, tt)) ∷ x) (sym is ∙ sym (keys_render (shift N 0) A ts));
    });
  });
}

-- ── one expression ──

expr_some : {a b : List ℕ} {n d i : ℕ} → SomeTrees a b expr n d i → SomeCarried a b n 0 d i
expr_some {a} {b} {d = d} {i = i} x = record { sheet = x.sheet; list = plain_c x.trees; held = plain_held x.sheet a b x.trees d i x.held }

no_expr : {n : ℕ} (input : ℕ) (r : Rec) (ts : Trees expr n) (s : State) → n ≡ 0 → over_expr r input ts s ≡ (input, (lower_c (plain_c ts) s).1)
unfolding over_expr ret lower_c plain_c
no_expr input r []ᵗ s e = refl
no_expr input r (t ∷ᵗ ts) s e = absurd (omega arith)

-- exactly one
record Single {n : ℕ} (ts : Trees expr n) : Type 0 where
  tree : Tree expr
  lower : (r : Rec) (input : ℕ) (s : State) → over_expr r input ts s ≡ push (r ∷ (lower_c (plain_c ts) s).0) (lower_c (plain_c ts) s).1
  held : (sheet : Bytes) (a b : List ℕ) (d i : ℕ) → HeldOf sheet a b ts d i → Held sheet a b tree d i
  below : (N : Notes) (lo k : ℕ) → BelowC N lo k (plain_c ts) → Below N lo k tree
  shown : (N : Notes) (A : Ops) → render_c N A (plain_c ts) ≡ render N A tree

single : {n : ℕ} (ts : Trees expr n) → n ≤ 1 → ((n ≡ 0) → ⊥) → Single ts
unfolding Held over_expr ◌>>=◌ ret plain_c lower_c BelowC render_c
single []ᵗ l h = absurd (h refl)
single (t ∷ᵗ []ᵗ) l h = record {
  tree = t;
  lower = λ r input s. ap (λ (z : Recs). push (r ∷ z) (lower_expr t s).1) (sym (append-nil (lower_expr t s).0));
  held = λ sheet a b d i hd. hd.0;
  below = λ N lo k h. h.0;
  shown = λ N A. append-nil (render N A t);
}
single (t ∷ᵗ u ∷ᵗ ts) l h = absurd (omega arith)

module _ (a b : List ℕ) (n d i input : ℕ) (deep : d ≤ deepest) (here : i ≤ max_records) (one : n ≤ 1) where
  over_trails : (head : Rec) (x : Op) →
      ((sheet : Bytes) (first : ℕ) (t : Tree expr) → Held sheet a b t d i → i < max_records → (N : Notes) (A : Ops) (k : ℕ) (rs : Recs) → Below (shift N 0) first k t → render (shift N 0) A t ≡ rs → Stored (side sheet a b first) N A k x (head ∷ rs)) →
      Trails a b 0 d d i input head x (λ (ts : Trees expr n). plain_c ts) (λ ts s. over_expr head input ts s)
  over_trails head x st = record {
    none = λ q ts s. no_expr input head ts s q;
    over = λ q ts s. (single ts one q).lower head input s;
    sized = λ ts. plain_size ts;
    held = λ sheet ts hd. plain_held sheet a b ts d i hd;
    shown = λ q sheet {first} ts hd N A k rs below is. (
        let f = trees_fits sheet a b ts d i here hd in
        let o = single ts one q in
        st sheet first o.tree (o.held sheet a b d i hd) (omega arith) N A k rs (o.below (shift N 0) first k below) (sym (o.shown (shift N 0) A) ∙ is));
  }

  skip_trails : Trails a b 0 d d i input (op ReadOp.Skip (input, tt)) (skip_op (at_place 0 i d) input) (λ (ts : Trees expr n). plain_c ts) (skip_l n input)
  skip_trails = over_trails _ _ (λ sheet first t hd low N A k rs below is. record {
    bounded = record { shallow = deep; near = omega arith; low = low; far = λ e. absurd (omega arith); flagged = λ e. absurd (omega arith) };
    shows = shows_skip refl (record { tree = t; held = hd; below = below; is = ap (λ (z : Recs). op ReadOp.Skip (input, tt) ∷ z) (sym is) });
  })

  limit_trails : Trails a b 0 d d i input (op ReadOp.Limit (input, tt)) (limit_op (at_place 0 i d) input) (λ (ts : Trees expr n). plain_c ts) (limit_l n input)
  limit_trails = over_trails _ _ (λ sheet first t hd low N A k rs below is. record {
    bounded = record { shallow = deep; near = omega arith; low = low; far = λ e. absurd (omega arith); flagged = λ e. absurd (omega arith) };
    shows = shows_limit refl (record { tree = t; held = hd; below = below; is = ap (λ (z : Recs). op ReadOp.Limit (input, tt) ∷ z) (sym is) });
  })

-- ── the three ──

module _ {a b : List ℕ} {n d i j : ℕ} where
  tail_keys : n ≡ cell a b i keys_at → SomeTail a b d i j → SomeTrees a b order_item n d j
  tail_keys e x = let t = x.tail in rw (e ∙ sym t.keys_counted) (record { sheet = x.sheet; trees = t.keys; held = t.held_keys })

  skip_one : n ≡ cell a b i skip_at → SomeTail a b d i j → n ≤ 1
  skip_one e x = let t = x.tail in rw (e ∙ sym t.skip_counted) t.skip_one

  limit_one : n ≡ cell a b i limit_at → SomeTail a b d i j → n ≤ 1
  limit_one e x = let t = x.tail in rw (e ∙ sym t.limit_counted) t.limit_one

trailers_def : {x y z : ℕ} (input k₁ k₂ : ℕ) (keys : Trees order_item x) (skip : Trees expr y) (limit : Trees expr z) (s : State) →
    k₁ ≡ (order_by input keys s).0 →
    k₂ ≡ (over_expr (op ReadOp.Skip (k₁, tt)) k₁ skip (order_by input keys s).1).0 →
    lower_trailers input keys skip limit s ≡ over_expr (op ReadOp.Limit (k₂, tt)) k₂ limit (over_expr (op ReadOp.Skip (k₁, tt)) k₁ skip (order_by input keys s).1).1
unfolding lower_trailers ◌>>=◌
trailers_def input k₁ k₂ keys skip limit s e₁ e₂ = rw (e₂, e₁)

module _ {a b : List ℕ} {n₁ e₁ k₁ : ℕ} {m m₁ : Mem} (d input i j : ℕ) (c₁ : n₁ ≡ cell a b i keys_at) (p : LowersOver a b n₁ d j e₁ k₁ (order_l n₁ input) m m₁) where
  keys_as : (n : ℕ) → n ≡ cell a b i keys_at → LowersOver a b n d j e₁ k₁ (order_l n input) m m₁
  keys_as n e = subst (λ (x : ℕ). LowersOver a b x d j e₁ k₁ (order_l x input) m m₁) (c₁ ∙ sym e) p

  keys_end : (sheet : Bytes) (t : Tail sheet a b d i j) → e₁ ≡ j + size_of t.keys
  keys_end sheet t = (keys_as t.keys_count t.keys_counted).next sheet t.keys t.held_keys

  skip_some : {n₂ : ℕ} → n₂ ≡ cell a b i skip_at → SomeTail a b d i j → SomeTrees a b expr n₂ d e₁
  skip_some c₂ x = let t = x.tail in rw (c₂ ∙ sym t.skip_counted, keys_end x.sheet t) (record { sheet = x.sheet; trees = t.skip; held = t.held_skip })

  held_skip : (sheet : Bytes) (t : Tail sheet a b d i j) → HeldOf sheet a b t.skip d e₁
  held_skip sheet t = rw (keys_end sheet t) t.held_skip

  module _ {n₂ e₂ : ℕ} (c₂ : n₂ ≡ cell a b i skip_at) (nx : (sheet : Bytes) (ts : Trees expr n₂) → HeldOf sheet a b ts d e₁ → e₂ ≡ e₁ + size_of ts) where
    skip_end : (sheet : Bytes) (t : Tail sheet a b d i j) → e₂ ≡ j + size_of t.keys + size_of t.skip
    skip_end sheet t = subst (λ (x : ℕ). (ts : Trees expr x) → HeldOf sheet a b ts d e₁ → e₂ ≡ e₁ + size_of ts) (c₂ ∙ sym t.skip_counted) (nx sheet) t.skip (held_skip sheet t) ∙ ap (λ (x : ℕ). x + size_of t.skip) (keys_end sheet t)

    limit_some : {n₃ : ℕ} → n₃ ≡ cell a b i limit_at → SomeTail a b d i j → SomeTrees a b expr n₃ d e₂
    limit_some c₃ x = let t = x.tail in rw (c₃ ∙ sym t.limit_counted, skip_end x.sheet t) (record { sheet = x.sheet; trees = t.limit; held = t.held_limit })

  module _ {n₂ e₂ k₂ : ℕ} {m₂ : Mem} (c₂ : n₂ ≡ cell a b i skip_at) (q : LowersOver a b n₂ d e₁ e₂ k₂ (skip_l n₂ k₁) m₁ m₂) where
    skip_as : (n : ℕ) → n ≡ cell a b i skip_at → LowersOver a b n d e₁ e₂ k₂ (skip_l n k₁) m₁ m₂
    skip_as n e = subst (λ (x : ℕ). LowersOver a b x d e₁ e₂ k₂ (skip_l x k₁) m₁ m₂) (c₂ ∙ sym e) q

    module _ {n₃ e₃ k₃ : ℕ} {m₃ : Mem} (c₃ : n₃ ≡ cell a b i limit_at) (l : LowersOver a b n₃ d e₂ e₃ k₃ (limit_l n₃ k₂) m₂ m₃) where
      limit_as : (n : ℕ) → n ≡ cell a b i limit_at → LowersOver a b n d e₂ e₃ k₃ (limit_l n k₂) m₂ m₃
      limit_as n e = subst (λ (x : ℕ). LowersOver a b x d e₂ e₃ k₃ (limit_l x k₂) m₂ m₃) (c₃ ∙ sym e) l

      held_limit : (sheet : Bytes) (t : Tail sheet a b d i j) → HeldOf sheet a b t.limit d e₂
      held_limit sheet t = rw (skip_end c₂ q.next sheet t) t.held_limit

      tail_next : (sheet : Bytes) (t : Tail sheet a b d i j) → e₃ ≡ j + tail_size t
      tail_next sheet t =
          let x = (limit_as t.limit_count_law t.limit_counted).next sheet t.limit (held_limit sheet t) in
          let y = skip_end c₂ q.next sheet t in
          omega arith

      tail_run : (sheet : Bytes) {first : ℕ} (t : Tail sheet a b d i j) → (W : Written) (s : State) → Rep (side sheet a b first) W s m → Blank W (0 + suc j) (0 + suc e₃) → Rooted (side sheet a b first) W (λ s. lower_trailers input t.keys t.skip t.limit s) k₃ 0 (suc j) (suc e₃) s m m₃
      tail_run sheet t W s r bl =
          let u₁ = p.moved.up in
          let u₂ = q.moved.up in
          let u₃ = l.moved.up in
          let x = (keys_as t.keys_count t.keys_counted).run sheet t.keys t.held_keys W s r (blank_within (le_refl _) (omega arith) bl) in
          let y = (skip_as t.skip_count t.skip_counted).run sheet t.skip (held_skip sheet t) _ _ x.to.rep (blank_behind (le_refl _) (blank_within (omega arith) (omega arith) bl)) in
          let z = (limit_as t.limit_count_law t.limit_counted).run sheet t.limit (held_limit sheet t) _ _ y.to.rep (blank_behind (le_refl _) (blank_behind (omega arith) (blank_within (omega arith) (omega arith) bl))) in
          let D = trailers_def input k₁ k₂ t.keys t.skip t.limit s x.root y.root in
          record {
            to = rw D (to_wider (sub_within (omega arith) (omega arith) (sub_within (omega arith) (omega arith) (sub_within (omega arith) (omega arith) (sub_more (0 + suc j, 0 + suc e₃) W)))) (to_then x.to (to_then y.to z.to)));
            root = rw D z.root;
            low = l.low;
          }

      tail_law : LowersTail a b d input i j e₃ k₃ m m₃
      tail_law = record { moved = twice_then p.moved (twice_then q.moved l.moved); low = l.low; next = tail_next; run = tail_run }

-- ── the three as the code has them, each behind the one before ──

module _ {a b : List ℕ} {d i j input n₁ : ℕ} {m : Mem} (g : TailAsked a b d i j input m) (cn₁ : n₁ ≡ cell a b i keys_at) where
  pub keys_asked : ItemsAsked a b (at_place 0 j d) n₁ m
  keys_asked = record { items = keys_some (tail_keys cn₁ g.tail); room = ready_room g.ready (le_refl _) g.ready.here g.depth; depth = g.depth; pass = omega arith }

  module _ {j₁ e₁ k₁ : ℕ} {x₁ : Op} {c₁ : LowerCtx} {os₁ : List ℕ} {m₁ : Mem} (it₁ : LowersExprs a b n₁ 1 (d - 1) 0 j e₁ m m₁) (ex₁ : x₁ ≡ order_by_op (at_place 0 j d) input n₁) (pi₁ : (j₁ ≡ e₁) × PushedIf (not (eqb n₁ 0)) x₁ input k₁ m₁.ctx c₁ m₁.ops os₁) where
    ordered : LowersOver a b n₁ d j j₁ k₁ (order_l n₁ input) m (mem c₁ os₁ m₁.rest)
    ordered = trail_law (order_trails a b n₁ d j input g.depth g.ready.here) (tail_keys cn₁ g.tail) g.ready.here g.stands it₁ (pushed_if_as ex₁ pi₁.1) pi₁.0

    ready₁ : Ready j₁ (mem c₁ os₁ m₁.rest)
    ready₁ = ready_after ordered.moved g.ready

    module _ {n₂ : ℕ} (cn₂ : n₂ ≡ cell a b i skip_at) where
      skips : SomeTrees a b expr n₂ d j₁
      skips = skip_some d input i j cn₁ ordered cn₂ g.tail

      pub skip_asked : ExprsAsked a b n₂ 0 (at_place 0 j₁ d) (mem c₁ os₁ m₁.rest)
      skip_asked = record { tree = expr_some skips; room = ready_room ready₁ (le_refl _) ready₁.here g.depth; depth = g.depth; pass = omega arith }

      module _ {j₂ e₂ k₂ : ℕ} {x₂ : Op} {c₂ : LowerCtx} {os₂ : List ℕ} {m₂ : Mem} (it₂ : LowersExprs a b n₂ 0 d 0 j₁ e₂ (mem c₁ os₁ m₁.rest) m₂) (ex₂ : x₂ ≡ skip_op (at_place 0 j₁ d) k₁) (pi₂ : (j₂ ≡ e₂) × PushedIf (not (eqb n₂ 0)) x₂ k₁ k₂ m₂.ctx c₂ m₂.ops os₂) where
        skipped : LowersOver a b n₂ d j₁ j₂ k₂ (skip_l n₂ k₁) (mem c₁ os₁ m₁.rest) (mem c₂ os₂ m₂.rest)
        skipped = trail_law (skip_trails a b n₂ d j₁ k₁ g.depth ready₁.here (skip_one cn₂ g.tail)) skips ready₁.here ordered.low it₂ (pushed_if_as ex₂ pi₂.1) pi₂.0

        ready₂ : Ready j₂ (mem c₂ os₂ m₂.rest)
        ready₂ = ready_after skipped.moved ready₁

        -- what the limit's operator asks
        pub limit_fits : Fits (at_place 0 j₂ d)
        limit_fits = fits (omega arith) ready₂.here g.depth

        module _ {n₃ : ℕ} (cn₃ : n₃ ≡ cell a b i limit_at) where
          limits : SomeTrees a b expr n₃ d j₂
          limits = limit_some d input i j cn₁ ordered cn₂ skipped.next cn₃ g.tail

          pub limit_asked : ExprsAsked a b n₃ 0 (at_place 0 j₂ d) (mem c₂ os₂ m₂.rest)
          limit_asked = record { tree = expr_some limits; room = ready_room ready₂ (le_refl _) ready₂.here g.depth; depth = g.depth; pass = omega arith }

          module _ {e₃ : ℕ} {m₃ : Mem} (it₃ : LowersExprs a b n₃ 0 d 0 j₂ e₃ (mem c₂ os₂ m₂.rest) m₃) where
            pub limit_pushes : CanPush m₃.ctx m₃.ops
            limit_pushes = can_push (room_after it₃.moved (ready_room ready₂ (le_refl _) ready₂.here g.depth))

            module _ {j₃ k₃ : ℕ} {x₃ : Op} {c₃ : LowerCtx} {os₃ : List ℕ} (ex₃ : x₃ ≡ limit_op (at_place 0 j₂ d) k₂) (pi₃ : (j₃ ≡ e₃) × PushedIf (not (eqb n₃ 0)) x₃ k₂ k₃ m₃.ctx c₃ m₃.ops os₃) where
              limited : LowersOver a b n₃ d j₂ j₃ k₃ (limit_l n₃ k₂) (mem c₂ os₂ m₂.rest) (mem c₃ os₃ m₃.rest)
              limited = trail_law (limit_trails a b n₃ d j₂ k₂ g.depth ready₂.here (limit_one cn₃ g.tail)) limits ready₂.here skipped.low it₃ (pushed_if_as ex₃ pi₃.1) pi₃.0

              pub trailers_law : LowersTail a b d input i j j₃ k₃ m (mem c₃ os₃ m₃.rest)
              trailers_law = tail_law d input i j cn₁ ordered cn₂ skipped cn₃ limited
