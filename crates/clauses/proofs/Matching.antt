-- A `match`: the root of its parts, and how it goes with the operator before it. Assumes nothing.
use mathlib.Core.Path.{◌≡◌, refl, sym, ap, subst, ◌∙◌}
use Prim.Native.Nat.{ℕ, suc, ◌+◌, ◌-◌, ◌≤◌, ◌<◌}
use native.Mathlib.Nat.{le_refl, le_trans}
use native.Mathlib.Omega.{arith}
use mathlib.Core.Bool.{Bool, true, false}
use mathlib.Core.List.{List, ◌∷◌}
use mathlib.Core.Logic.{◌⊎◌, inl, inr}
use Rattle.std.specs.Prelude.{Option, None, Some}
use lib.Dec.{eqb}
use lib.ListN.{length}
use Rattle.model.specs.Text.{Bytes}
use Rattle.model.specs.Kind.{ReadOp, clause, pattern_part}
use Rattle.model.specs.Tree.{Tree}
use Rattle.model.specs.Lower.{Recs, Lowering, ◌>>=◌, ret, push, op, copy, optional_join, lower_clause}
use Rattle.model.specs.Lower
use Rattle.words.specs.Words.{Roomy, cell, max_records}
use Rattle.words.specs.Places.{match_kind, match_optional_at, match_parts_at}
use Rattle.words.specs.Held.{Held, size}
use Rattle.words.specs.Fits.{tree_fits}
use Rattle.context.specs.Tables.{Pushed}
use Rattle.context.specs.Ops.{optional_join_op}
use Rattle.context.specs.declared.LowerCtx.{LowerCtx}
use Rattle.lower.specs.Side.{Side, side}
use Rattle.lower.specs.Shows.{shows_optional}
use Rattle.lower.specs.Rep.{State, Mem, mem, Written, Sub, Rep, To, Rooted}
use Rattle.lower.specs.Patterns.{parts_l, SomeTrees, LowersParts}
use Rattle.lower.specs.Chains.{Sourced, OrSource}
use Rattle.lower.specs.Clauses.{BothBlank, both_passes, Leaves, LowersClause}
use Rattle.lower.specs.State.{blank_within, to_refl, to_then, to_wider, push_to}
use Rattle.projections.specs.Asked.{ClauseAsked}
use Rattle.projections.specs.Passes.{sub_first}
use Rattle.clauses.proofs.Opened.{a_match}

-- the definition ends on operator k in state s'
pub leaves : {S : Side} {W W' : Written} {lo hi : ℕ} {m m' : Mem} (t : Tree clause) (current : Option ℕ) (k : ℕ) (s s' : State) → lower_clause t current s ≡ (Some k, s') → To S W W' s s' m m' → Sub W' (both_passes lo hi W) → Leaves S W (λ s. lower_clause t current s) (Some k) lo hi s m m'
leaves t current k s s' e p u = record { to = rw e (to_wider u p); gives = ap (λ (x : Option ℕ × State). x.0) e }

-- the record behind a clause, by another name
pub ends_at : {sheet : Bytes} {a b : List ℕ} {d i e e' : ℕ} {o o' : Option ℕ} {m m' : Mem} → e' ≡ e → LowersClause sheet a b d i e o o' m m' → LowersClause sheet a b d i e' o o' m m'
ends_at q p = rw q p

-- ── with the operator before ──

-- how a match of which the parts have their root goes with the operator before it
abbrev pub join_l : (optional : Bool) → Option ℕ → (root : ℕ) → Lowering ℕ
join_l optional current root = λ s. optional_join optional current root s

-- no join
join_not : (o : Option ℕ) (k : ℕ) (s : State) → optional_join false o k s ≡ (k, s)
unfolding optional_join ret
join_not None k s = refl
join_not (Some l) k s = refl

join_none : (q : Bool) (k : ℕ) (s : State) → optional_join q None k s ≡ (k, s)
unfolding optional_join ret
join_none true k s = refl
join_none false k s = refl

plain_join : (q : Bool) (k : ℕ) (o : Option ℕ) (s : State) → (q ≡ false) ⊎ (o ≡ None) → optional_join q o k s ≡ (k, s)
plain_join q k o s (inl e) = let P : Bool → Type 0 = λ x. optional_join x o k s ≡ (k, s) in subst P (sym e) (join_not o k s)
plain_join q k o s (inr e) = let P : Option ℕ → Type 0 = λ x. optional_join q x k s ≡ (k, s) in subst P (sym e) (join_none q k s)

pub plain_law : {k : ℕ} {o : Option ℕ} {m : Mem} (q : Bool) → (q ≡ false) ⊎ (o ≡ None) → k < m.ctx.ops → OrSource k (join_l q o k) k m m
plain_law {k} {o} {m} q nj l = record {
  grow = le_refl _;
  few = omega arith;
  numbers = refl;
  mapped = refl;
  rest = refl;
  in_ops = refl;
  low = l;
  run = λ S W s h r. record { to = rw (plain_join q k o s nj) (to_refl r); root = rw (plain_join q k o s nj) };
}

-- a join
joined : (q : Bool) (k l : ℕ) (o : Option ℕ) (s : State) → q ≡ true → o ≡ Some l → optional_join q o k s ≡ (length s.ops, (push (op ReadOp.OptionalJoin (l, tt) ∷ Lower.at s.ops k) s).1)
unfolding optional_join ◌>>=◌ copy push
joined q k l o s e n = rw (e, n)

module _ {q : Bool} {k l i : ℕ} {o : Option ℕ} {c c' : LowerCtx} {os os' : List ℕ} (rest : List ℕ) (wanted : q ≡ true) (is : o ≡ Some l) (li : i < max_records) (lk : k < c.ops) (pj : Pushed c c' os os' (optional_join_op i l k)) (lo : length os' ≡ length os) where
  joined_run : (S : Side) (W : Written) (s : State) → S.first ≤ k → Rep S W s (mem c os rest) → Sourced S (join_l q o k) c.ops W s (mem c os rest) (mem c' os' rest)
  joined_run S W s h r =
      let D = joined q k l o s wanted is in
      let recs : Recs = op ReadOp.OptionalJoin (l, tt) ∷ Lower.at s.ops k in
      let z = push_to (mem c os rest) c' os' (optional_join_op i l k) recs r pj
      (λ N A f. record {
        bounded = record { shallow = omega arith; near = omega arith; low = li; far = λ e. absurd (omega arith); flagged = λ e. absurd (omega arith) };
        shows = shows_optional refl h lk (ap (λ (g : Recs). op ReadOp.OptionalJoin (l, tt) ∷ g) (sym (f.ops k lk)));
      }) in
      record { to = rw D z; root = rw D r.count }

  pub joined_law : OrSource k (join_l q o k) c.ops (mem c os rest) (mem c' os' rest)
  joined_law = record { grow = omega (arith, pj.count); few = omega (arith, pj.count); numbers = pj.numbers; mapped = pj.mapped; rest = refl; in_ops = lo; low = omega (arith, pj.count); run = joined_run }

-- ── the clause ──

module _ {a b : List ℕ} {d i : ℕ} {current : Option ℕ} {m : Mem} (room : Roomy a b) (g : ClauseAsked match_kind a b d i current m) where
  pub some_parts : {n : ℕ} → n ≡ cell a b i match_parts_at → SomeTrees a b pattern_part n (d - 1) (i + 1)
  some_parts en = let v = a_match room g.tree.tree g.tree.held g.kind in rw (en ∙ sym v.many) (record { sheet = g.tree.sheet; trees = v.parts; held = v.held })

  module _ {n q k k' e : ℕ} {m₁ m₂ : Mem}
      (en : n ≡ cell a b i match_parts_at) (eq : q ≡ cell a b i match_optional_at)
      (p : LowersParts a b n (d - 1) 0 i e k m m₁) (j : OrSource k (join_l (eqb q 1) current k) k' m₁ m₂) where
    match_next : (sheet : Bytes) (t : Tree clause) → Held sheet a b t d i → e ≡ i + size t
    match_next sheet t hd =
        let v = a_match room t hd g.kind in
        let p' : LowersParts a b v.n (d - 1) 0 i e k m m₁ = rw (en ∙ sym v.many) at p in
        let x = p'.next sheet v.parts v.held in
        let y = v.sized in
        omega arith

    -- its parts
    parts_run : (sheet : Bytes) {first : ℕ} (t : Tree clause) (hd : Held sheet a b t d i) (W : Written) (s : State) → Rep (side sheet a b first) W s m → BothBlank W (suc i) (suc e) → Rooted (side sheet a b first) W (parts_l (a_match room t hd g.kind).parts) k 0 (suc (i + 1)) (suc e) s m m₁
    parts_run sheet t hd W s r bl =
        let v = a_match room t hd g.kind in
        let p' : LowersParts a b v.n (d - 1) 0 i e k m m₁ = rw (en ∙ sym v.many) at p in
        p'.run sheet v.parts v.held W s r (blank_within (omega arith) (omega arith) bl.first)

    match_run : (sheet : Bytes) {first : ℕ} (t : Tree clause) → Held sheet a b t d i → (W : Written) (s : State) → Rep (side sheet a b first) W s m → BothBlank W (suc i) (suc e) → Leaves (side sheet a b first) W (λ s. lower_clause t current s) (Some k') (suc i) (suc e) s m m₂
    match_run sheet t hd W s r bl =
        let v = a_match room t hd g.kind in
        let x = parts_run sheet t hd W s r bl in
        let s₁ : State = (parts_l v.parts s).1 in
        let y = j.run _ _ s₁ (le_trans r.from p.since) x.to.rep in
        let D =
        v.lower current s
        ∙ ap (λ (z : ℕ). (Some (join_l (eqb (cell a b i match_optional_at) 1) current z s₁).0, (join_l (eqb (cell a b i match_optional_at) 1) current z s₁).1)) (sym x.root)
        ∙ ap (λ (z : ℕ). (Some (join_l (eqb z 1) current k s₁).0, (join_l (eqb z 1) current k s₁).1)) (sym eq)
        ∙ ap (λ (z : ℕ). (Some z, (join_l (eqb q 1) current k s₁).1)) (sym y.root)
        in
        leaves t current k' s (join_l (eqb q 1) current k s₁).1 D (to_then x.to y.to) (sub_first (omega arith) (omega arith))

    pub match_law : (sheet : Bytes) → LowersClause sheet a b d i e current (Some k') m m₂
    match_law sheet =
        let v = p.moved in
        let some = g.tree in
        let y = match_next some.sheet some.tree some.held in
        let f = (tree_fits some.sheet a b some.tree d i some.held).0 in
        let u : i < e = omega arith in
        record {
          moved = record {
            up = v.up;
            here = v.here;
            grow = omega (arith, v.grow, j.grow);
            few = omega (arith, v.few, j.few, u);
            low = omega (arith, v.low, j.numbers, u);
            met = omega (arith, v.met, j.mapped, u);
            in_ops = j.in_ops ∙ v.in_ops;
            in_rest = ap length j.rest ∙ v.in_rest;
            index = λ z. rw (j.mapped, j.rest) (v.index z);
          };
          stands = j.low;
          next = match_next sheet;
          run = match_run sheet;
        }
