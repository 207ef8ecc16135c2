-- What the steps of a `with` or a `return` promise. Assumes nothing: these are definitions.
use Rattle.std.specs.Prelude.{◌≡◌, ℕ, suc, ◌+◌, ◌*◌, ◌≤◌, ◌<◌, Bool, true, false, List, ◌∷◌, length, Option}
use Rattle.model.specs.Text.{Bytes}
use Rattle.model.specs.Kind.{Sort, ReadOp, expr, order_item, projection}
use Rattle.model.specs.Tree.{Trees}
use Rattle.model.specs.Lower.{Lowering, ◌>>=◌, push, op, or_source_all, order_by, over_expr, lower_trailers, lower_projections, split_projections_agg, aggregate_if, distinct_if}
use Rattle.words.specs.Words.{cell, max_records}
use Rattle.words.specs.Held.{HeldOf, size_of}
use Rattle.words.specs.Places.{keys_at, skip_at, limit_at}
use Rattle.context.specs.Tables.{Pushed}
use Rattle.context.specs.declared.op.Op.{Op}
use Rattle.context.specs.declared.LowerCtx.{LowerCtx}
use Rattle.lower.specs.Side.{Side, side}
use Rattle.lower.specs.Render.{Notes, Ops, BelowOf, key_recs, agg_recs}
use Rattle.lower.specs.Shows.{shift}
use Rattle.lower.specs.Rep.{State, Mem, Written, Blank, Future, Rep, To, Rooted, Moved, Indexes, pass_operators}
use Rattle.lower.specs.Clauses.{MovedTwice}

-- ── order, skip, limit ──

-- n trees from record i on are lowered by L, and k is the operator that it leaves
pub record LowersOver {sort : Sort} (a b : List ℕ) (n d i e k : ℕ) (L : Trees sort n → Lowering ℕ) (m m' : Mem) : Type 0 where
  pub moved : MovedTwice i e m m'
  pub low : k < m'.ctx.ops
  pub next : (sheet : Bytes) (ts : Trees sort n) → HeldOf sheet a b ts d i → e ≡ i + size_of ts
  pub run : (sheet : Bytes) {first : ℕ} (ts : Trees sort n) → HeldOf sheet a b ts d i → (W : Written) (s : State) → Rep (side sheet a b first) W s m → Blank W (0 + suc i) (0 + suc e) → Rooted (side sheet a b first) W (L ts) k 0 (suc i) (suc e) s m m'

abbrev pub order_l : (n input : ℕ) → Trees order_item n → Lowering ℕ
order_l n input ts = λ s. order_by input ts s

abbrev pub skip_l : (n input : ℕ) → Trees expr n → Lowering ℕ
skip_l n input ts = λ s. over_expr (op ReadOp.Skip (input, tt)) input ts s

abbrev pub limit_l : (n input : ℕ) → Trees expr n → Lowering ℕ
limit_l n input ts = λ s. over_expr (op ReadOp.Limit (input, tt)) input ts s

-- the trailers of the clause at record i stand from record j on
pub record Tail (sheet : Bytes) (a b : List ℕ) (d i j : ℕ) : Type 0 where
  pub keys_count : ℕ
  pub skip_count : ℕ
  pub limit_count_law : ℕ
  pub keys : Trees order_item keys_count
  pub skip : Trees expr skip_count
  pub limit : Trees expr limit_count_law
  pub keys_counted : keys_count ≡ cell a b i keys_at
  pub skip_counted : skip_count ≡ cell a b i skip_at
  pub limit_counted : limit_count_law ≡ cell a b i limit_at
  pub skip_one : skip_count ≤ 1
  pub limit_one : limit_count_law ≤ 1
  pub held_keys : HeldOf sheet a b keys d j
  pub held_skip : HeldOf sheet a b skip d (j + size_of keys)
  pub held_limit : HeldOf sheet a b limit d (j + size_of keys + size_of skip)

abbrev pub tail_size : {sheet : Bytes} {a b : List ℕ} {d i j : ℕ} → Tail sheet a b d i j → ℕ
tail_size t = size_of t.keys + size_of t.skip + size_of t.limit

pub record SomeTail (a b : List ℕ) (d i j : ℕ) : Type 0 where
  pub sheet : Bytes
  pub tail : Tail sheet a b d i j

pub record LowersTail (a b : List ℕ) (d input i j e k : ℕ) (m m' : Mem) : Type 0 where
  pub moved : MovedTwice j e m m'
  pub low : k < m'.ctx.ops
  pub next : (sheet : Bytes) (t : Tail sheet a b d i j) → e ≡ j + tail_size t
  pub run : (sheet : Bytes) {first : ℕ} (t : Tail sheet a b d i j) (W : Written) (s : State) → Rep (side sheet a b first) W s m → Blank W (0 + suc j) (0 + suc e) → Rooted (side sheet a b first) W (λ s. lower_trailers input t.keys t.skip t.limit s) k 0 (suc j) (suc e) s m m'

-- ── the items of a `return` ──

-- the items are lowered for the first time, which parts them into keys and so many aggregates
pub record Splits (S : Side) (W : Written) {n : ℕ} (items : Trees projection n) (aggs lo hi : ℕ) (s : State) (m m' : Mem) : Type 0 where
  pub to : To S W ((0 + lo, 0 + hi) ∷ W) s (split_projections_agg items s).1 m m'
  pub counted : (split_projections_agg items s).0.aggs ≡ aggs
  pub keys : (N : Notes) (A : Ops) → Future ((0 + lo, 0 + hi) ∷ W) (split_projections_agg items s).1 m' N A → key_recs (shift N 0) A items ≡ (split_projections_agg items s).0.key_recs
  pub aggregates : (N : Notes) (A : Ops) → Future ((0 + lo, 0 + hi) ∷ W) (split_projections_agg items s).1 m' N A → agg_recs (shift N 0) A items ≡ (split_projections_agg items s).0.agg_recs
  pub below : (N : Notes) (A : Ops) → Future ((0 + lo, 0 + hi) ∷ W) (split_projections_agg items s).1 m' N A → BelowOf (shift N 0) S.first m'.ctx.ops items

-- so of n items from record i on, of the sheet that is passed
pub record LowersSplit (sheet : Bytes) (a b : List ℕ) (n d i e aggs : ℕ) (m m' : Mem) : Type 0 where
  pub moved : Moved i e m m'
  pub next : (items : Trees projection n) → HeldOf sheet a b items d i → e ≡ i + size_of items
  pub run : {first : ℕ} (items : Trees projection n) → HeldOf sheet a b items d i → (W : Written) (s : State) → Rep (side sheet a b first) W s m → Blank W (0 + suc i) (0 + suc e) → Splits (side sheet a b first) W items aggs (suc i) (suc e) s m m'

-- an operator x is pushed if it is wanted, and if not the one before is left
pub data PushedIf (wanted : Bool) (x : Op) (input k : ℕ) (c c' : LowerCtx) (o o' : List ℕ) : Type 0 where
  none_pushed : wanted ≡ false → k ≡ input → c' ≡ c → o' ≡ o → PushedIf wanted x input k c c' o o'
  one_pushed : wanted ≡ true → k ≡ c.ops → Pushed c c' o o' x → length o' ≡ length o → PushedIf wanted x input k c c' o o'

-- a lowering of the items has up to so many operators of its own: the source and the aggregate, or the projection and its distinct
abbrev pub own_operators : ℕ
own_operators = 2

-- one lowering of the items
pub record LowersPass (sheet : Bytes) (a b : List ℕ) (n d base i e k : ℕ) (L : Trees projection n → Lowering ℕ) (m m' : Mem) : Type 0 where
  pub up : i ≤ e
  pub here : e ≤ max_records
  pub grow : m.ctx.ops ≤ m'.ctx.ops
  pub few : m'.ctx.ops + pass_operators * i ≤ m.ctx.ops + own_operators + pass_operators * e
  pub fresh : m'.ctx.numbers + i ≤ m.ctx.numbers + e
  pub met : m'.ctx.mapped + i ≤ m.ctx.mapped + e
  pub in_ops : length m'.ops ≡ length m.ops
  pub in_rest : length m'.rest ≡ length m.rest
  pub index : Indexes m → Indexes m'
  pub next : (items : Trees projection n) → HeldOf sheet a b items d i → e ≡ i + size_of items
  pub run : {first : ℕ} (items : Trees projection n) → HeldOf sheet a b items d i → (W : Written) (s : State) → Rep (side sheet a b first) W s m → Blank W (base + suc i) (base + suc e) → Rooted (side sheet a b first) W (L items) k base (suc i) (suc e) s m m'

abbrev pub first_l : (n : ℕ) → Option ℕ → Trees projection n → Lowering ℕ
first_l n current items = λ s. (do
  input ← or_source_all current
  first ← split_projections_agg items
  aggregate_if first.aggs input first) s

abbrev pub second_l : (n : ℕ) → Bool → ℕ → Trees projection n → Lowering ℕ
second_l n distinct input items = λ s. (do
  rs ← lower_projections items
  k ← push (op ReadOp.Project (input, (n, tt)) ∷ rs)
  distinct_if distinct k) s
