-- Steps of the lowering's state: what is written stays, whatever comes later; one more number, note or operator. Assumes nothing.
use Rattle.std.specs.Prelude.{◌≡◌, Bool, true, false, ◌⊎◌, List, ◌∷◌, get_or, drop, ltb}
use Rattle.std.proofs.Math.Path.{refl, ap}
use Rattle.std.proofs.Common.{sym, ◌∙◌, inl, inr, le_refl, eq-eqb, ne_eqb, ltb-true, ltb-false}
use Rattle.std.proofs.Math.Logic.{⊎_elim}
use Prim.Native.Nat.{ℕ, suc, ◌+◌, ◌≤◌, ◌<◌}
use Rattle.std.proofs.Math.Numerals.{add-one}
use native.Mathlib.Omega.{arith}
use Rattle.std.proofs.Math.ListN.{length}
use Rattle.model.specs.Kind.{ReadOp}
use Rattle.model.specs.Lower.{Recs, Lowering, at, push, op, filter}
use Rattle.model.specs.Lower
use Rattle.context.specs.Tables.{state_of, Noted, NoteWritten, Numbers, Pushed, vars_at}
use Rattle.context.specs.declared.op.Op.{Op}
use Rattle.context.specs.declared.LowerCtx.{LowerCtx}
use Rattle.context.specs.declared.Numbered.{Numbered}
use Rattle.lower.specs.Side.{Side}
use Rattle.lower.specs.Render.{Ops}
use Rattle.lower.specs.Render
use Rattle.lower.specs.Shows.{Stored}
use Rattle.lower.specs.Rep.{State, Mem, mem, Written, In, Sub, Blank, Future, Rep, To}
use Rattle.words.specs.Words.{max_records}

-- ── ranges ──

pub sub_refl : (W : Written) → Sub W W
sub_refl W = record { at = λ q h. h }

pub sub_then : {W W₁ W₂ : Written} → Sub W W₁ → Sub W₁ W₂ → Sub W W₂
sub_then p r = record { at = λ q h. r.at q (p.at q h) }

pub sub_more : (w : ℕ × ℕ) (W : Written) → Sub W (w ∷ W)
sub_more w W = record { at = λ q h. inr h }

-- a range inside the first one adds nothing
pub sub_within : {W U : Written} {x y lo hi : ℕ} → lo ≤ x → y ≤ hi → Sub W ((lo, hi) ∷ U) → Sub ((x, y) ∷ W) ((lo, hi) ∷ U)
sub_within {W} {U} {x} {y} {lo} {hi} l h p = record { at = λ q i. ⊎_elim (λ (z : (x ≤ q) × (q < y)). inl (let u = z.0 in omega arith, let v = z.1 in omega arith)) (λ z. p.at q z) i }

pub blank_within : {W : Written} {lo hi x y : ℕ} → lo ≤ x → y ≤ hi → Blank W lo hi → Blank W x y
blank_within l h p = record { at = λ q a b i. p.at q (omega arith) (omega arith) i }

pub blank_before : {W : Written} {x y lo hi : ℕ} → hi ≤ x → Blank W lo hi → Blank ((x, y) ∷ W) lo hi
blank_before {W} {x} {y} l p = record { at = λ q a b i. ⊎_elim (λ (z : (x ≤ q) × (q < y)). (let u = z.0 in omega arith)) (λ z. p.at q a b z) i }

pub blank_behind : {W : Written} {x y lo hi : ℕ} → y ≤ lo → Blank W lo hi → Blank ((x, y) ∷ W) lo hi
blank_behind {W} {x} {y} l p = record { at = λ q a b i. ⊎_elim (λ (z : (x ≤ q) × (q < y)). (let u = z.1 in omega arith)) (λ z. p.at q a b z) i }

-- ── later states ──

module _ {S : Side} where
  pub back : {W W' : Written} {s s' : State} {m m' : Mem} {N : Render.Notes} {A : Ops} → To S W W' s s' m m' → Future W' s' m' N A → Future W s m N A
  back t f = record {
    notes = record { at = λ q l i. f.notes.at q l (t.sub.at q i) ∙ t.kept.at q l i };
    ops = λ k h. (let g = t.grow in f.ops k (omega arith)) ∙ t.old k h;
  }

  pub rep_wider : {W W' : Written} {s : State} {m : Mem} → Sub W W' → Rep S W s m → Rep S W' s m
  rep_wider u r = record {
    count = r.count;
    state = r.state;
    from = r.from;
    shows = λ k o h l N A f. r.shows k o h l N A (record { notes = record { at = λ q g i. f.notes.at q g (u.at q i) }; ops = f.ops });
  }

  pub to_refl : {W : Written} {s : State} {m : Mem} → Rep S W s m → To S W W s s m m
  to_refl {W} r = record { rep = r; sub = sub_refl W; kept = record { at = λ q l i. refl }; old = λ k h. refl; grow = le_refl _ }

  pub to_then : {W W₁ W₂ : Written} {s s₁ s₂ : State} {m m₁ m₂ : Mem} → To S W W₁ s s₁ m m₁ → To S W₁ W₂ s₁ s₂ m₁ m₂ → To S W W₂ s s₂ m m₂
  to_then p r = record {
    rep = r.rep;
    sub = sub_then p.sub r.sub;
    kept = record { at = λ q l i. r.kept.at q l (p.sub.at q i) ∙ p.kept.at q l i };
    old = λ k h. (let g = p.grow in r.old k (omega arith)) ∙ p.old k h;
    grow = let g = p.grow in let g' = r.grow in omega arith;
  }

  pub to_wider : {W W₁ W₂ : Written} {s s' : State} {m m' : Mem} → Sub W₁ W₂ → To S W W₁ s s' m m' → To S W W₂ s s' m m'
  to_wider u t = record { rep = rep_wider u t.rep; sub = sub_then t.sub u; kept = t.kept; old = t.old; grow = t.grow }

-- ── one more ──

old_at : (r : Recs) (ops : List Recs) (k : ℕ) → k < length ops → at (r ∷ ops) k ≡ at ops k
unfolding at
old_at r ops k h = rw (ne_eqb k (length ops) (λ e. omega arith))

new_at : (r : Recs) (ops : List Recs) (k : ℕ) → k ≡ length ops → at (r ∷ ops) k ≡ r
unfolding at
new_at r ops k h = rw (eq-eqb k (length ops) h)

split_by : (k n : ℕ) (t : Bool) → ltb k n ≡ t → k < n + 1 → (k < n) ⊎ (k ≡ n)
split_by k n true e h = inl (ltb-true k n e)
split_by k n false e h = let g : n ≤ k = ltb-false k n e in inr (omega arith)

-- notes change where nothing was written
same_written : {W : Written} (m : Mem) (place v : ℕ) (rest' : List ℕ) → Noted place v m.rest rest' → Blank W place (place + 1) → (q : ℕ) → q < vars_at → In W q → get_or rest' q 0 ≡ get_or m.rest q 0
same_written m place v rest' n bl q l i = n.other q l (λ (e : q ≡ place). bl.at q (omega arith) (omega arith) i)

-- a number, noted
pub record Given (S : Side) (W : Written) (s : State) (step : Lowering ℕ) (place : ℕ) (m : Mem) (rest' : List ℕ) (r : Numbered) : Type 0 where
  pub to : To S W ((place, place + 1) ∷ W) s (step s).1 m (mem r.ctx m.ops rest')
  pub number : r.number ≡ (step s).0
  pub noted : get_or rest' place 0 ≡ r.number

module _ {S : Side} {W : Written} {s : State} where
  -- an operator
  pub push_to : (m : Mem) (c : LowerCtx) (o' : List ℕ) (x : Op) (recs : Recs) → Rep S W s m → Pushed m.ctx c m.ops o' x → ((N : Render.Notes) (A : Ops) → Future W s m N A → Stored S N A m.ctx.ops x recs) → To S W W s (push recs s).1 m (mem c o' m.rest)
  unfolding push
  push_to m c o' x recs r p sx =
      let s' : State = (push recs s).1 in
      let m' : Mem = mem c o' m.rest in
      let same : (k : ℕ) → k < m.ctx.ops → at s'.ops k ≡ at s.ops k = λ k h. old_at recs s.ops k (rw r.count at h) in
      let e : c.ops ≡ m.ctx.ops + 1 = p.count in
      let early : (N : Render.Notes) (A : Ops) → Future W s' m' N A → Future W s m N A = λ N A f. record { notes = f.notes; ops = λ k h. f.ops k (omega arith) ∙ same k h } in
      record {
        rep = record {
          count = let z : m.ctx.ops ≡ length s.ops = r.count in omega arith;
          state = rw (p.numbers, p.mapped) (ap (λ (z : State). record { ops = recs ∷ s.ops; scope = z.scope }) r.state);
          from = omega (arith, r.from);
          shows = λ k o h l N A f.
              ⊎_elim
              (λ (g : k < m.ctx.ops). rw (p.other k g l, same k g) (r.shows k o g l N A (early N A f)))
              (λ (g : k ≡ m.ctx.ops). (let l' : m.ctx.ops < max_records = omega arith in rw (g, p.here l', new_at recs s.ops m.ctx.ops r.count) (sx N A (early N A f))))
              (split_by k m.ctx.ops (ltb k m.ctx.ops) refl (rw p.count at h));
        };
        sub = sub_refl W;
        kept = record { at = λ q l i. refl };
        old = same;
        grow = omega arith;
      }

  pub number_to : (step : Lowering ℕ) (place : ℕ) (m : Mem) (rest' : List ℕ) (r : Numbered) → Rep S W s m → Numbers step place m.ctx m.rest rest' r → Blank W place (place + 1) → Given S W s step place m rest' r
  number_to step place m rest' r p n bl =
      let e : step s ≡ (r.number, state_of s.ops r.ctx (drop vars_at rest')) = ap step (sym p.state) ∙ n.issued.is s.ops in
      let e₁ : state_of s.ops r.ctx (drop vars_at rest') ≡ (step s).1 = sym (ap (λ (z : ℕ × State). z.1) e) in
      let eo : (step s).1.ops ≡ s.ops = sym (ap (λ (z : State). z.ops) e₁) in
      let c : r.ctx.ops ≡ m.ctx.ops = n.issued.ops in
      let ag = same_written m place r.number rest' n.noted bl in
      record {
        to = record {
          rep = record {
            count = c ∙ p.count ∙ ap length (sym eo);
            state = ap (λ (z : List Recs). state_of z r.ctx (drop vars_at rest')) eo ∙ e₁;
            from = rw c p.from;
            shows = λ k o h l N A f. rw eo (p.shows k o (rw c at h) l N A (record { notes = record { at = λ q g i. f.notes.at q g (inr i) ∙ ag q g i }; ops = λ j g. f.ops j (rw c g) ∙ ap (λ (z : List Recs). at z j) eo }));
          };
          sub = sub_more (place, place + 1) W;
          kept = record { at = ag };
          old = λ k h. ap (λ (z : List Recs). at z k) eo;
          grow = omega arith;
        };
        number = sym (ap (λ (z : ℕ × State). z.0) e);
        noted = n.noted.here;
      }

  -- a note
  pub note_to : (place v : ℕ) (m : Mem) (rest' : List ℕ) → Rep S W s m → NoteWritten place v m.rest rest' → Blank W place (place + 1) → To S W ((place, place + 1) ∷ W) s s m (mem m.ctx m.ops rest')
  note_to place v m rest' p n bl =
      let ag = same_written m place v rest' n.noted bl in
      record {
        rep = record {
          count = p.count;
          state = rw n.vars p.state;
          from = p.from;
          shows = λ k o h l N A f. p.shows k o h l N A (record { notes = record { at = λ q g i. f.notes.at q g (inr i) ∙ ag q g i }; ops = f.ops });
        };
        sub = sub_more (place, place + 1) W;
        kept = record { at = ag };
        old = λ k h. refl;
        grow = le_refl _;
      }

  -- a number for something unnamed, which is not noted
  pub fresh_to : (m : Mem) (c : LowerCtx) → Rep S W s m → c.ops ≡ m.ctx.ops → c.numbers ≡ m.ctx.numbers + 1 → c.mapped ≡ m.ctx.mapped → To S W W s (Lower.fresh s).1 m (mem c m.ops m.rest)
  unfolding Lower.fresh Lower.issue
  fresh_to m c r eo en em =
      let z : suc m.ctx.numbers ≡ suc s.scope.next_var = ap (λ (x : State). suc x.scope.next_var) r.state in
      record {
        rep = record {
          count = eo ∙ r.count;
          state = rw (em, en, add-one m.ctx.numbers) (ap (λ (x : State). record { ops = s.ops; scope = record { vars = x.scope.vars; next_var = suc x.scope.next_var } }) r.state);
          from = rw eo r.from;
          shows = λ k o h l N A f. r.shows k o (rw eo at h) l N A (record { notes = f.notes; ops = λ j g. f.ops j (rw eo g) });
        };
        sub = sub_refl W;
        kept = record { at = λ q l i. refl };
        old = λ k h. refl;
        grow = omega arith;
      }

  pub fresh_number : (m : Mem) → Rep S W s m → m.ctx.numbers ≡ (Lower.fresh s).0
  unfolding Lower.fresh Lower.issue
  fresh_number m r = ap (λ (x : State). x.scope.next_var) r.state

  pub upcoming_number : (m : Mem) → Rep S W s m → m.ctx.numbers ≡ s.scope.next_var
  upcoming_number m r = ap (λ (x : State). x.scope.next_var) r.state

-- a filter by its input and its records
pub filter_is : (k k' : ℕ) (rs rs' : Recs) → k ≡ k' → rs ≡ rs' → filter k' rs' ≡ op ReadOp.Filter (k, tt) ∷ rs
unfolding filter
filter_is k k' rs rs' e e' = rw (e, e')
