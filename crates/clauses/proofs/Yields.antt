-- Yields one after another, each with its number noted at it. Assumes nothing.
use mathlib.Core.Path.{◌≡◌, refl, ap, ◌∙◌}
use Prim.Native.Nat.{ℕ, zero, suc, ◌+◌, ◌-◌, ◌≤◌, ◌<◌}
use native.Mathlib.Nat.{le_refl}
use native.Mathlib.Omega.{arith}
use mathlib.Core.List.{List, ◌∷◌}
use mathlib.Core.Logic.{inl}
use lib.ListN.{length, drop}
use Rattle.model.specs.Text.{Bytes}
use Rattle.model.specs.Field.{Fields}
use Rattle.model.specs.Kind.{yield_item}
use Rattle.model.specs.Record.{rec, forms}
use Rattle.model.specs.Tree.{Trees, node, []ᵗ, ◌∷ᵗ◌, end}
use Rattle.model.specs.Lower.{Recs, ◌>>=◌, ret, map_var, lower_yields}
use Rattle.model.specs.Call.{work_words}
use Rattle.words.specs.Words.{Roomy, cell, fields_of, field_of, max_records}
use Rattle.words.specs.Held.{Held, HeldOf, size, size_of}
use Rattle.words.specs.Cells.{shown}
use Rattle.words.specs.Places.{yield_var_at}
use Rattle.context.specs.Tables.{Numbers, Indexed, vars_at, max_vars, max_count}
use Rattle.context.specs.declared.LowerCtx.{LowerCtx}
use Rattle.context.specs.declared.Numbered.{Numbered}
use Rattle.lower.specs.Side.{Side, side}
use Rattle.lower.specs.Render.{render, recs_over}
use Rattle.lower.specs.Rep.{State, Mem, mem, Written, Sub, Blank, Rep, Ran}
use Rattle.lower.specs.State.{sub_more, sub_within, blank_within, blank_behind, back, to_refl, to_then, to_wider, Given, number_to}
use Rattle.lower.specs.Exprs.{narrow, moved_refl}
use Rattle.clauses.specs.Asked.{YieldsAsked}
use Rattle.clauses.specs.Steps.{yields_piece, SomeYields, LowersYields}

pub yields_size : {n : ℕ} (ts : Trees yield_item n) → size_of ts ≡ n
unfolding size
yields_size []ᵗ = refl
yields_size (◌∷ᵗ◌ {n = n} (node yield_item line k f end) ts) = let e = yields_size ts in omega arith

nil_run : {S : Side} (i : ℕ) (m : Mem) (ts : Trees yield_item 0) (W : Written) (s : State) → Rep S W s m → Ran S W (yields_piece ts) 0 (suc i) (suc i) s m m
unfolding lower_yields render ret
nil_run i m []ᵗ W s r = record { to = to_wider (sub_more (0 + suc i, 0 + suc i) W) (to_refl r); shown = λ N A f. refl; below = λ N A f. tt }

pub nil_law : (a b : List ℕ) (i : ℕ) (m : Mem) → i ≤ max_records → LowersYields a b 0 i i m m
nil_law a b i m h = record { moved = moved_refl h; same = refl; next = omega arith; run = λ sheet d ts hd W s r bl. nil_run i m ts W s r }

yield_is : (column : Bytes) (x y : ℕ) (rs ss : Recs) → x ≡ y → rs ≡ ss → ◌≡◌ {A = Recs} (rec yield_item tt (column, (x, tt)) ∷ rs) (rec yield_item tt (column, (y, tt)) ∷ ss)
yield_is column x y rs ss e e' = rw (e, e')

-- one more, whose number is noted
module _ {a b : List ℕ} {n i e : ℕ} {m m₂ : Mem} {rest₁ : List ℕ} {r₁ : Numbered} (room : Roomy a b) (nm : Numbers (map_var (cell a b i yield_var_at)) (i + 1) m.ctx m.rest rest₁ r₁) (lr : length rest₁ ≡ length m.rest) (q : LowersYields a b n (i + 1) e (mem r₁.ctx m.ops rest₁) m₂) where
  cons_run : (sheet : Bytes) {first : ℕ} (d : ℕ) (ts : Trees yield_item (suc n)) → HeldOf sheet a b ts d i → (W : Written) (s : State) → Rep (side sheet a b first) W s m → Blank W (suc i) (suc e) → Ran (side sheet a b first) W (yields_piece ts) 0 (suc i) (suc e) s m m₂
  unfolding Held size lower_yields render recs_over ◌>>=◌ ret fields_of field_of
  cons_run sheet {first} d (node yield_item line k (column, (id, u)) end ∷ᵗ ts) hd W s r bl =
      let up = q.moved.up in
      let ei : id ≡ cell a b i yield_var_at = ap (λ (x : Fields (forms yield_item tt)). x.1.0) (shown room hd.0.1).fields in
      let el : line ≡ suc i = hd.0.0 in
      let ep : i + 1 ≡ suc i = omega arith in
      let es : i + suc 0 ≡ i + 1 = omega arith in
      let g : Given (side sheet a b first) W s (map_var id) (suc i) m rest₁ r₁ = number_to (map_var id) (suc i) m rest₁ r₁ r (rw (← ei, ep) at nm) (blank_within (le_refl _) (omega arith) bl) in
      let y = q.run sheet d ts (rw es at hd.1) _ _ g.to.rep (blank_behind (omega arith) (blank_within (omega arith) (le_refl _) bl)) in
      let u₁ : Sub ((0 + suc (i + 1), 0 + suc e) ∷ (suc i, suc i + 1) ∷ W) ((0 + suc i, 0 + suc e) ∷ W) = sub_within (omega arith) (le_refl _) (sub_within (omega arith) (omega arith) (sub_more (0 + suc i, 0 + suc e) W)) in
      record {
        to = to_wider u₁ (to_then g.to y.to);
        shown = λ N A f.
            let f₁ = back y.to (narrow u₁ f) in
            let e₀ : 0 + line ≡ suc i = omega arith in
            let l = hd.0.1.low in
            yield_is column _ _ _ _ (ap N e₀ ∙ f₁.notes.at (suc i) (omega arith) (inl (le_refl _, omega arith)) ∙ g.noted ∙ g.number) (y.shown N A (narrow u₁ f));
        below = λ N A f. tt;
      }

  pub cons_law : i < max_records → LowersYields a b (suc n) i e m m₂
  cons_law l =
      let v = q.moved in
      let x = nm.issued in
      record {
        moved = record { up = omega (arith, v.up); here = v.here; grow = omega (arith, x.ops, v.grow); few = omega (arith, x.ops, v.few); low = omega (arith, x.low, v.low); met = omega (arith, x.met, v.met); in_ops = v.in_ops; in_rest = v.in_rest ∙ lr; index = λ z. v.index (x.index z) };
        same = q.same ∙ x.ops;
        next = omega (arith, q.next);
        run = cons_run;
      }

-- the number of a variable whose name is known by another name
pub numbered : {id id' place : ℕ} {c : LowerCtx} {r r' : List ℕ} {n : Numbered} → id ≡ id' → Numbers (map_var id) place c r r' n → Numbers (map_var id') place c r r' n
numbered e x = rw e at x

-- ── the loop ──

-- k remain from record i on, and once they are numbered from here, all is done
pub record Remaining (a b : List ℕ) (Done : ℕ → LowerCtx → List ℕ → Type 0) (k i : ℕ) (c : LowerCtx) (rs : List ℕ) : Type 0 where
  pub some : SomeYields a b k i
  pub fits : i + k ≤ max_records
  pub met : c.mapped + k ≤ max_vars
  pub low : c.numbers + k ≤ max_count
  pub in_rest : work_words ≤ length rs
  pub index : Indexed c.mapped (drop vars_at rs)
  pub finish : (e : ℕ) (c' : LowerCtx) (rest' : List ℕ) → ((os : List ℕ) → LowersYields a b k i e (mem c os rs) (mem c' os rest')) → Done e c' rest'

behind : {a b : List ℕ} (i : ℕ) (sheet : Bytes) (d : ℕ) {k : ℕ} (ts : Trees yield_item (suc k)) → HeldOf sheet a b ts d i → SomeYields a b k (i + 1)
unfolding Held size
behind i sheet d (node yield_item line k f end ∷ᵗ ts) hd = let e : i + suc 0 ≡ i + 1 = omega arith in record { sheet = sheet; depth = d; trees = ts; held = rw e at hd.1 }

module _ {a b : List ℕ} {Done : ℕ → LowerCtx → List ℕ → Type 0} where
  less : {k i : ℕ} {c : LowerCtx} {rest : List ℕ} → Remaining a b Done k i c rest → Remaining a b Done (suc k - 1) i c rest
  less {k} p = let e : suc k - 1 ≡ k = omega arith in rw e p

  next_one : {k i : ℕ} {c : LowerCtx} {rest rest₁ : List ℕ} {r : Numbered} → Roomy a b → ((k ≡ 0) → ⊥) → Remaining a b Done k i c rest → Numbers (map_var (cell a b i yield_var_at)) (i + 1) c rest rest₁ r → length rest₁ ≡ length rest → Remaining a b Done (k - 1) (i + 1) r.ctx rest₁
  next_one {k = zero} room h p nm lr = absurd (h refl)
  next_one {k = suc k} {i} room h p nm lr =
      let f = p.fits in
      less (record {
        some = behind i p.some.sheet p.some.depth p.some.trees p.some.held;
        fits = omega arith;
        met = omega (arith, p.met, nm.issued.met);
        low = omega (arith, p.low, nm.issued.low);
        in_rest = rw lr p.in_rest;
        index = nm.issued.index p.index;
        finish = λ e c' rest' q. p.finish e c' rest' (λ os. cons_law room nm lr (q os) (omega arith));
      })

  pub again : {n i : ℕ} {c : LowerCtx} {rest rest₁ : List ℕ} {r : Numbered} → Roomy a b → i < n → Remaining a b Done (n - i) i c rest → Numbers (map_var (cell a b i yield_var_at)) (i + 1) c rest rest₁ r → length rest₁ ≡ length rest → Remaining a b Done (n - (i + 1)) (i + 1) r.ctx rest₁
  again {n} {i} room l p nm lr = let e : n - (i + 1) ≡ n - i - 1 = omega arith in rw e (next_one room (λ z. absurd (omega arith)) p nm lr)

  pub done : {n i : ℕ} {c : LowerCtx} {rest : List ℕ} → i ≤ n → n ≤ i → Remaining a b Done (n - i) i c rest → Done n c rest
  done {n} {i} {c} {rest} l h p =
      let f = p.fits in
      let z : n - i ≡ 0 = omega arith in
      let e : n ≡ i = omega arith in
      rw e (p.finish i c rest (λ os. rw z (nil_law a b i (mem c os rest) (omega arith))))

-- before the first one
pub begun : {a b : List ℕ} {n i : ℕ} {c : LowerCtx} {rest : List ℕ} → YieldsAsked a b n i c rest → Remaining a b (λ e c' rest'. (os : List ℕ) → LowersYields a b n i e (mem c os rest) (mem c' os rest')) (i + n - i) i c rest
begun {n = n} {i} g = let e : i + n - i ≡ n = omega arith in rw e (record { some = g.some; fits = g.fits; met = g.met; low = g.low; in_rest = g.in_rest; index = g.index; finish = λ e c' rest' q. q })
