-- A `with` and a `return`, opened: what their words say of their children, and the lowering of each as its steps. Assumes nothing.
use mathlib.Core.Path.{◌≡◌, ap}
use Prim.Native.Nat.{ℕ, ◌+◌, ◌-◌}
use native.Mathlib.Omega.{arith}
use mathlib.Core.Bool.{Bool}
use mathlib.Core.List.{List, ◌∷◌, ◌++◌}
use Rattle.std.specs.Prelude.{Option, Some}
use lib.Dec.{eqb}
use lib.ListN.{length}
use Rattle.model.specs.Text.{Bytes}
use Rattle.model.specs.Field.{Fields}
use Rattle.model.specs.Kind.{Clause, ReadOp, clause, projection, order_item, expr}
use Rattle.model.specs.Record.{one, forms, clause_forms, children}
use Rattle.model.specs.Tree.{Tree, Trees, Forest, node, end, ◌▸◌}
use Rattle.model.specs.Lower.{Recs, ◌>>=◌, ret, push, op, or_source_all, lower_trailers, lower_clause}
use Rattle.model.specs.Lower
use Rattle.words.specs.Words.{Roomy, cell, fields_of, field_of}
use Rattle.words.specs.Held.{Flags, Held, HeldOf, size, size_of}
use Rattle.words.specs.Cells.{cells, shown, flag_counts}
use Rattle.words.specs.Numbers.{clause_number}
use Rattle.words.specs.Places.{with_kind, return_kind, kind_at, items_at, with_filter_at, return_distinct_at, skip_at, limit_at}
use Rattle.lower.specs.Rep.{State}
use Rattle.lower.specs.Pieces.{lower_c}
use Rattle.lower.specs.Carry.{plain_c}
use Rattle.words.specs.Kinds.{by_clause}
use Rattle.projections.specs.Items.{exprs_lower, items_c, items_lower}
use Rattle.projections.specs.Promises.{Tail, tail_size, first_l, second_l}

-- the keys, `skip` and `limit` of a `with` and of a `return`, whose fields have the same forms
tail_of_law : {sheet : Bytes} {a b : List ℕ} {d i at : ℕ} {f : Fields (clause_forms Clause.With)} → f ≡ fields_of (clause_forms Clause.With) sheet (cells a b i) 0 → Flags (clause_forms Clause.With) (cells a b i) 0 → (keys : Trees order_item f.1.1.0) (skip : Trees expr (one f.1.1.1.0)) (limit : Trees expr (one f.1.1.1.1.0)) →
    HeldOf sheet a b keys d at →
    HeldOf sheet a b skip d (at + size_of keys) →
    HeldOf sheet a b limit d (at + size_of keys + size_of skip) →
    Tail sheet a b d i at
unfolding fields_of field_of
tail_of_law {a = a} {b = b} {i = i} {f = f} fields flags keys skip limit held_keys held_skip held_limit =
    let counted_Skip = flag_counts _ (cell a b i skip_at) (ap (λ (f : Fields (clause_forms Clause.With)). f.1.1.1.0) fields) flags.1.1.1.0 in
    let counted-limit = flag_counts _ (cell a b i limit_at) (ap (λ (f : Fields (clause_forms Clause.With)). f.1.1.1.1.0) fields) flags.1.1.1.1.0 in
    record {
      keys_count = f.1.1.0;
      skip_count = one f.1.1.1.0;
      limit_count_law = one f.1.1.1.1.0;
      keys = keys;
      skip = skip;
      limit = limit;
      keys_counted = ap (λ (f : Fields (clause_forms Clause.With)). f.1.1.0) fields;
      skip_counted = counted_Skip;
      limit_counted = counted-limit;
      skip_one = rw counted_Skip flags.1.1.1.0;
      limit_one = rw counted-limit flags.1.1.1.1.0;
      held_keys = held_keys;
      held_skip = held_skip;
      held_limit = held_limit;
    }

-- ── with ──

-- the state behind the items, and behind the predicate
abbrev pub behind_items : {n : ℕ} → Trees projection n → State → State
behind_items items s = (lower_c (items_c items) s).1

abbrev pub behind_exprs : {n : ℕ} → Trees expr n → State → State
behind_exprs es s = (lower_c (plain_c es) s).1

abbrev pub with_recs : {n : ℕ} (filtered : Bool) → Trees projection n → Trees expr (one filtered) → (input : ℕ) → State → Recs
with_recs {n} filtered items predicate input s = op ReadOp.With (input, (n, (filtered, tt))) ∷ ((lower_c (items_c items) s).0 ++ (lower_c (plain_c predicate) (behind_items items s)).0)

abbrev pub leaving : ℕ × State → Option ℕ × State
leaving r = (Some r.0, r.1)

pub record IsWith (sheet : Bytes) (a b : List ℕ) (d i : ℕ) (t : Tree clause) : Type 0 where
  pub n : ℕ
  pub filtered : Bool
  pub items : Trees projection n
  pub predicate : Trees expr (one filtered)
  pub tail : Tail sheet a b (d - 1) i (i + 1 + size_of items + size_of predicate)
  pub counted : n ≡ cell a b i items_at
  pub flagged : one filtered ≡ cell a b i with_filter_at
  pub held_items : HeldOf sheet a b items (d - 1) (i + 1)
  pub held_predicate : HeldOf sheet a b predicate (d - 1) (i + 1 + size_of items)
  pub sized : size t ≡ 1 + size_of items + size_of predicate + tail_size tail
  pub def : (current : Option ℕ) (s : State) (input k : ℕ) →
      input ≡ (or_source_all current s).0 →
      k ≡ length (behind_exprs predicate (behind_items items (or_source_all current s).1)).ops →
      lower_clause t current s ≡ leaving (lower_trailers k tail.keys tail.skip tail.limit (push (with_recs filtered items predicate input (or_source_all current s).1) (behind_exprs predicate (behind_items items (or_source_all current s).1))).1)

with_def : {n x y z : ℕ} (filtered : Bool) (items : Trees projection n) (predicate : Trees expr (one filtered)) (keys : Trees order_item x) (skip : Trees expr y) (limit : Trees expr z) (current : Option ℕ) (s : State) (input k : ℕ) →
    input ≡ (or_source_all current s).0 →
    k ≡ length (behind_exprs predicate (behind_items items (or_source_all current s).1)).ops →
    (do
      input ← or_source_all current
      rs ← Lower.lower_projections items
      ss ← Lower.lower_exprs predicate
      k ← push (op ReadOp.With (input, (n, (filtered, tt))) ∷ (rs ++ ss))
      root ← lower_trailers k keys skip limit
      ret (Some root)) s
    ≡ leaving (lower_trailers k keys skip limit (push (with_recs filtered items predicate input (or_source_all current s).1) (behind_exprs predicate (behind_items items (or_source_all current s).1))).1)
unfolding ◌>>=◌ ret push
with_def filtered items predicate keys skip limit current s input k e₁ e₂ = rw (items_lower items (or_source_all current s).1, exprs_lower predicate (behind_items items (or_source_all current s).1), e₂, e₁)

module _ {sheet : Bytes} {a b : List ℕ} {d i : ℕ} (room : Roomy a b) where
  with_of : (line : ℕ) (f : Fields (forms clause Clause.With)) (kids : Forest (children clause Clause.With f)) → Held sheet a b (node clause line Clause.With f kids) d i → IsWith sheet a b d i (node clause line Clause.With f kids)
  unfolding Held size lower_clause fields_of field_of tail_of_law
  with_of line (n, (filtered, (x, (y, (z, u))))) (items ▸ predicate ▸ keys ▸ skip ▸ limit ▸ end) hd =
      let w = shown room hd.1 in
      let en : n ≡ cell a b i items_at = ap (λ (f : Fields (clause_forms Clause.With)). f.0) w.fields in
      let ef : filtered ≡ eqb (cell a b i with_filter_at) 1 = ap (λ (f : Fields (clause_forms Clause.With)). f.1.0) w.fields in
      record {
        n = n;
        filtered = filtered;
        items = items;
        predicate = predicate;
        tail = tail_of_law w.fields w.flags keys skip limit hd.3.1.1.0 hd.3.1.1.1.0 hd.3.1.1.1.1.0;
        counted = en;
        flagged = flag_counts filtered (cell a b i with_filter_at) ef w.flags.1.0;
        held_items = hd.3.0;
        held_predicate = hd.3.1.0;
        sized = omega arith;
        def = λ current s input k e₁ e₂. with_def filtered items predicate keys skip limit current s input k e₁ e₂;
      }

  pub a_with : (t : Tree clause) → Held sheet a b t d i → cell a b i kind_at ≡ with_kind → IsWith sheet a b d i t
  unfolding clause_number
  a_with t hd e = by_clause sheet d i room (λ t. IsWith sheet a b d i t) Clause.With (λ line f kids hd. with_of line f kids hd) t hd e

-- ── return ──

pub record IsReturn (sheet : Bytes) (a b : List ℕ) (d i : ℕ) (t : Tree clause) : Type 0 where
  pub n : ℕ
  pub items : Trees projection n
  pub tail : Tail sheet a b (d - 1) i (i + 1 + size_of items)
  pub counted : n ≡ cell a b i items_at
  pub held_items : HeldOf sheet a b items (d - 1) (i + 1)
  pub sized : size t ≡ 1 + size_of items + tail_size tail
  pub def : (current : Option ℕ) (s : State) (k₁ k₂ : ℕ) →
      k₁ ≡ (first_l n current items s).0 →
      k₂ ≡ (second_l n (eqb (cell a b i return_distinct_at) 1) k₁ items (first_l n current items s).1).0 →
      lower_clause t current s ≡ leaving (lower_trailers k₂ tail.keys tail.skip tail.limit (second_l n (eqb (cell a b i return_distinct_at) 1) k₁ items (first_l n current items s).1).1)

module _ {sheet : Bytes} {a b : List ℕ} {d i : ℕ} (room : Roomy a b) where
  return_of : (line : ℕ) (f : Fields (forms clause Clause.Return)) (kids : Forest (children clause Clause.Return f)) → Held sheet a b (node clause line Clause.Return f kids) d i → IsReturn sheet a b d i (node clause line Clause.Return f kids)
  unfolding Held size lower_clause fields_of field_of tail_of_law ◌>>=◌ ret
  return_of line (n, (distinct, (x, (y, (z, u))))) (items ▸ keys ▸ skip ▸ limit ▸ end) hd =
      let w = shown room hd.1 in
      let en : n ≡ cell a b i items_at = ap (λ (f : Fields (clause_forms Clause.Return)). f.0) w.fields in
      let ef : distinct ≡ eqb (cell a b i return_distinct_at) 1 = ap (λ (f : Fields (clause_forms Clause.Return)). f.1.0) w.fields in
      record {
        n = n;
        items = items;
        tail = tail_of_law w.fields w.flags keys skip limit hd.3.1.0 hd.3.1.1.0 hd.3.1.1.1.0;
        counted = en;
        held_items = hd.3.0;
        sized = omega arith;
        def = λ current s k₁ k₂ e₁ e₂. rw (e₂, e₁, ef);
      }

  pub a_return : (t : Tree clause) → Held sheet a b t d i → cell a b i kind_at ≡ return_kind → IsReturn sheet a b d i t
  unfolding clause_number
  a_return t hd e = by_clause sheet d i room (λ t. IsReturn sheet a b d i t) Clause.Return (λ line f kids hd. return_of line f kids hd) t hd e
