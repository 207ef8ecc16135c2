-- Clauses, arms and the statement: at most four operators and two numbers a record. Assumes nothing: these are lemmas with their proofs.
use Rattle.std.specs.Prelude.{ℕ, zero, suc, ◌+◌, ◌*◌, ◌<◌, ◌≤◌, Bool, true, false, Option}
use Rattle.std.proofs.Common.{le_trans, lt_of_lt_of_le, arith}
use Rattle.model.specs.Text.{Bytes}
use Rattle.model.specs.Kind.{Clause, Expr}
use Rattle.model.specs.Kind.{statement, union_arm, clause, projection, order_item, yield_item, expr}
use Rattle.model.specs.Record.{Rec, inputs, of_option}
use Rattle.model.specs.Tree.{Tree, Trees, node, []ᵗ, ◌∷ᵗ◌, end, ◌▸◌}
use Rattle.model.specs.Lower.{filter, item, lower_projections, is_aggregate_func}
use Rattle.model.specs.Call.{record_operators, record_numbers}
use Rattle.model.specs.Lower.{Split, no_split, with_key, with_agg, lower_key, lower_call_item, lower_item, split_projections_agg, lower_keys, order_by, over_expr, lower_trailers, lower_yields, distinct_if, aggregate_if, lower_clause, lower_clauses, lower_arms, lower}
use Rattle.bounds.specs.Earlier.{All, []ᵃ, ◌∷ᵃ◌, all_append, raise}
use Rattle.bounds.specs.Bounded.{Bounded, Old, Lows, bind✓, within, ret✓, push✓, map_var✓, Before, nothing, operator, before_raise, or_source_all✓}
use Rattle.bounds.proofs.Pattern.{lower_match_pattern✓}
use Rattle.bounds.specs.Size.{size, size_of, size_of_pos}
use Rattle.bounds.proofs.Expr.{lower_expr✓, lower_exprs✓, lower_pattern✓}
use Rattle.bounds.specs.Clause.{SplitLow, Adds}

-- ── projections ──

pub lower_projections✓ : {n i : ℕ} (ps : Trees projection i) → Bounded n Lows (2 * size_of ps) (size_of ps) (lower_projections ps)
unfolding lower_projections item size
lower_projections✓ []ᵗ = within (ret✓ _ []ᵃ) (omega arith) (omega arith)
lower_projections✓ (node projection line k (alias, _) (e ∷ᵗ []ᵗ ▸ end) ∷ᵗ ps) =
    within
    (bind✓ (lower_expr✓ e) λ rs n₁ le₁ low₁.
    bind✓ (lower_projections✓ ps) λ ss n₂ le₂ low₂.
    ret✓ _ ([]ᵃ ∷ᵃ all_append (raise le₂ low₁) low₂))
    (omega arith) (omega arith)

pub lower_key✓ : {n : ℕ} (e : Tree expr) → Bounded n Adds (2 * size e) (size e) (lower_key e)
unfolding lower_key with_key
lower_key✓ e =
    within
    (bind✓ (lower_expr✓ e) λ rs n₁ le₁ low.
    ret✓ _ (λ s m le h. record { keys = all_append (raise le low) h.keys; aggs = h.aggs }))
    (omega arith) (omega arith)

pub lower_call_item✓ : {n i : ℕ} (b : Bool) (e : Tree expr) (func : Bytes) (distinct : Bool) (args : Trees expr i) → size_of args ≤ size e → Bounded n Adds (2 * size e) (size e) (lower_call_item b e func distinct args)
unfolding lower_call_item with_agg
lower_call_item✓ false e func distinct args le = lower_key✓ e
lower_call_item✓ true e func distinct args le =
    within
    (bind✓ (lower_exprs✓ args) λ rs n₁ le₁ low.
    ret✓ _ (λ s m le h. record { keys = h.keys; aggs = []ᵃ ∷ᵃ all_append (raise le low) h.aggs }))
    (omega arith) (omega arith)

pub lower_item✓ : {n : ℕ} (e : Tree expr) → Bounded n Adds (2 * size e) (size e) (lower_item e)
unfolding lower_item size
lower_item✓ (node expr line (Expr.Over h) f kids) = lower_key✓ _
lower_item✓ (node expr line Expr.Var f kids) = lower_key✓ _
lower_item✓ (node expr line Expr.Map f kids) = lower_key✓ _
lower_item✓ (node expr line Expr.Call (func, (i, (distinct, t))) (args ▸ end)) = lower_call_item✓ (is_aggregate_func func) _ func distinct args (omega arith)
lower_item✓ (node expr line Expr.PatternPredicate f kids) = lower_key✓ _
lower_item✓ (node expr line Expr.ListPredicate f kids) = lower_key✓ _
lower_item✓ (node expr line Expr.Unresolved f kids) = lower_key✓ _
lower_item✓ (node expr line Expr.Undesugared f kids) = lower_key✓ _

pub split_projections_agg✓ : {n i : ℕ} (ps : Trees projection i) → Bounded n (λ s m. SplitLow s m) (2 * size_of ps) (size_of ps) (split_projections_agg ps)
unfolding split_projections_agg no_split size
split_projections_agg✓ []ᵗ = within (ret✓ _ (record { keys = []ᵃ; aggs = []ᵃ })) (omega arith) (omega arith)
split_projections_agg✓ (node projection line k f (e ∷ᵗ []ᵗ ▸ end) ∷ᵗ ps) =
    within
    (bind✓ (lower_item✓ e) λ add n₁ le₁ adds.
    bind✓ (split_projections_agg✓ ps) λ rest n₂ le₂ low.
    ret✓ _ (adds rest n₂ le₂ low))
    (omega arith) (omega arith)

-- ── order, skip, limit ──

pub lower_keys✓ : {n i : ℕ} (ks : Trees order_item i) → Bounded n Lows (2 * size_of ks) (size_of ks) (lower_keys ks)
unfolding lower_keys size
lower_keys✓ []ᵗ = within (ret✓ _ []ᵃ) (omega arith) (omega arith)
lower_keys✓ (node order_item line k (descending, _) (e ∷ᵗ []ᵗ ▸ end) ∷ᵗ ks) =
    within
    (bind✓ (lower_expr✓ e) λ rs n₁ le₁ low₁.
    bind✓ (lower_keys✓ ks) λ ss n₂ le₂ low₂.
    ret✓ _ ([]ᵃ ∷ᵃ all_append (raise le₂ low₁) low₂))
    (omega arith) (omega arith)

pub order_by✓ : {n i input : ℕ} (ks : Trees order_item i) → input < n → Bounded n Old (record_operators * size_of ks) (record_numbers * size_of ks) (order_by input ks)
unfolding order_by
order_by✓ []ᵗ lt = within (ret✓ _ lt) (omega arith) (omega arith)
order_by✓ (k ∷ᵗ ks) lt =
    within
    (bind✓ (lower_keys✓ (k ∷ᵗ ks)) λ rs n₁ le₁ low.
    push✓ ((omega arith ∷ᵃ []ᵃ) ∷ᵃ low))
    (omega (arith, size_of_pos k ks)) (omega arith)

pub over_expr✓ : {n i input : ℕ} (r : Rec) (es : Trees expr i) → All (λ k. k < n) (inputs r) → input < n → Bounded n Old (record_operators * size_of es) (record_numbers * size_of es) (over_expr r input es)
unfolding over_expr size
over_expr✓ r []ᵗ low lt = within (ret✓ _ lt) (omega arith) (omega arith)
over_expr✓ r (e ∷ᵗ es) low lt =
    within
    (bind✓ (lower_expr✓ e) λ rs n₁ le₁ low₁.
    push✓ (all_append (raise le₁ (low ∷ᵃ []ᵃ)) low₁))
    (omega (arith, size_of_pos e es)) (omega arith)

pub lower_trailers✓ : {n i s l input : ℕ} (keys : Trees order_item i) (skip : Trees expr s) (limit : Trees expr l) → input < n → Bounded n Old (record_operators * (size_of keys + size_of skip + size_of limit)) (record_numbers * (size_of keys + size_of skip + size_of limit)) (lower_trailers input keys skip limit)
unfolding lower_trailers
lower_trailers✓ keys skip limit lt =
    within
    (bind✓ (order_by✓ keys lt) λ a n₁ le₁ lt₁.
    bind✓ (over_expr✓ _ skip (lt₁ ∷ᵃ []ᵃ) lt₁) λ b n₂ le₂ lt₂.
    over_expr✓ _ limit (lt₂ ∷ᵃ []ᵃ) lt₂)
    (omega arith) (omega arith)

-- ── clauses ──

pub lower_yields✓ : {n i : ℕ} (ys : Trees yield_item i) → Bounded n Lows 0 (size_of ys) (lower_yields ys)
unfolding lower_yields size
lower_yields✓ []ᵗ = within (ret✓ _ []ᵃ) (omega arith) (omega arith)
lower_yields✓ (node yield_item line k (column, (id, _)) end ∷ᵗ ys) =
    within
    (bind✓ (map_var✓ id) λ b n₁ le₁ _.
    bind✓ (lower_yields✓ ys) λ rs n₂ le₂ low.
    ret✓ _ ([]ᵃ ∷ᵃ low))
    (omega arith) (omega arith)

pub distinct_if✓ : {n input : ℕ} (b : Bool) → input < n → Bounded n Old 1 0 (distinct_if b input)
unfolding distinct_if
distinct_if✓ false lt = within (ret✓ _ lt) (omega arith) (omega arith)
distinct_if✓ true lt = push✓ ((lt ∷ᵃ []ᵃ) ∷ᵃ []ᵃ)

pub aggregate_if✓ : {n input : ℕ} {s : Split} (i : ℕ) → input < n → SplitLow s n → Bounded n Old 1 0 (aggregate_if i input s)
unfolding aggregate_if
aggregate_if✓ zero lt low = within (ret✓ _ lt) (omega arith) (omega arith)
aggregate_if✓ (suc i) lt low = push✓ ((lt ∷ᵃ []ᵃ) ∷ᵃ all_append low.keys low.aggs)

pub call_input_law : {n : ℕ} {o : Option ℕ} → Before n o → All (λ k. k < n) (of_option o)
call_input_law nothing = []ᵃ
call_input_law (operator lt) = lt ∷ᵃ []ᵃ

pub lower_clause✓ : {n : ℕ} {o : Option ℕ} (c : Tree clause) → Before n o → Bounded n (λ p m. Before m p) (record_operators * size c) (record_numbers * size c) (lower_clause c o)
unfolding lower_clause filter size
lower_clause✓ (node clause line Clause.Match (optional, _) (parts ▸ end)) before =
    within
    (bind✓ (lower_match_pattern✓ optional (lower_pattern✓ parts) before) λ k n₁ le₁ lt.
    ret✓ _ (operator lt))
    (omega arith) (omega arith)
lower_clause✓ (node clause line Clause.Where f (e ∷ᵗ []ᵗ ▸ end)) before =
    within
    (bind✓ (lower_expr✓ e) λ predicate n₁ le₁ low.
    bind✓ (or_source_all✓ (before_raise le₁ before)) λ input n₂ le₂ lt.
    bind✓ (push✓ ((lt ∷ᵃ []ᵃ) ∷ᵃ raise le₂ low)) λ k n₃ le₃ lt₃.
    ret✓ _ (operator lt₃))
    (omega arith) (omega arith)
lower_clause✓ (node clause line Clause.With (i, (filtered, _)) (items ▸ predicate ▸ keys ▸ skip ▸ limit ▸ end)) before =
    within
    (bind✓ (or_source_all✓ before) λ input n₁ le₁ lt.
    bind✓ (lower_projections✓ items) λ rs n₂ le₂ low₂.
    bind✓ (lower_exprs✓ predicate) λ ss n₃ le₃ low₃.
    bind✓ (push✓ ((omega arith ∷ᵃ []ᵃ) ∷ᵃ all_append (raise le₃ low₂) low₃)) λ k n₄ le₄ lt₄.
    bind✓ (lower_trailers✓ keys skip limit lt₄) λ root n₅ le₅ lt₅.
    ret✓ _ (operator lt₅))
    (omega arith) (omega arith)
lower_clause✓ (node clause line Clause.Return (i, (distinct, _)) (items ▸ keys ▸ skip ▸ limit ▸ end)) before =
    within
    (bind✓ (or_source_all✓ before) λ input n₁ le₁ lt.
    bind✓ (split_projections_agg✓ items) λ first n₂ le₂ low₂.
    bind✓ (aggregate_if✓ first.aggs (lt_of_lt_of_le lt le₂) low₂) λ a n₃ le₃ lt₃.
    bind✓ (lower_projections✓ items) λ rs n₄ le₄ low₄.
    bind✓ (push✓ ((omega arith ∷ᵃ []ᵃ) ∷ᵃ low₄)) λ b n₅ le₅ lt₅.
    bind✓ (distinct_if✓ distinct lt₅) λ d n₆ le₆ lt₆.
    bind✓ (lower_trailers✓ keys skip limit lt₆) λ root n₇ le₇ lt₇.
    ret✓ _ (operator lt₇))
    (omega arith) (omega arith)
lower_clause✓ (node clause line Clause.Unwind (id, _) (e ∷ᵗ []ᵗ ▸ end)) before =
    within
    (bind✓ (or_source_all✓ before) λ input n₁ le₁ lt.
    bind✓ (lower_expr✓ e) λ rs n₂ le₂ low.
    bind✓ (map_var✓ id) λ b n₃ le₃ _.
    bind✓ (push✓ ((omega arith ∷ᵃ []ᵃ) ∷ᵃ raise le₃ low)) λ k n₄ le₄ lt₄.
    ret✓ _ (operator lt₄))
    (omega arith) (omega arith)
lower_clause✓ (node clause line Clause.Call (procedure, (args, (yields, (optional, _)))) (es ▸ ys ▸ end)) before =
    within
    (bind✓ (lower_exprs✓ es) λ rs n₁ le₁ low₁.
    bind✓ (lower_yields✓ ys) λ ss n₂ le₂ low₂.
    bind✓ (push✓ (all_append (call_input_law (before_raise (le_trans le₁ le₂) before)) []ᵃ ∷ᵃ all_append (raise le₂ low₁) low₂)) λ k n₃ le₃ lt₃.
    ret✓ _ (operator lt₃))
    (omega arith) (omega arith)
lower_clause✓ (node clause line Clause.Write f kids) before = within (ret✓ _ before) (omega arith) (omega arith)

pub lower_clauses✓ : {n i : ℕ} {o : Option ℕ} (cs : Trees clause i) → Before n o → Bounded n (λ p m. Before m p) (record_operators * size_of cs) (record_numbers * size_of cs) (lower_clauses cs o)
unfolding lower_clauses size
lower_clauses✓ []ᵗ before = within (ret✓ _ before) (omega arith) (omega arith)
lower_clauses✓ (c ∷ᵗ cs) before = within (bind✓ (lower_clause✓ c before) λ left n₁ le₁ before₁. lower_clauses✓ cs before₁) (omega arith) (omega arith)

-- ── the statement ──

pub lower_arms✓ : {n i : ℕ} {o : Option ℕ} (arms : Trees union_arm i) → Before n o → Bounded n (λ p m. Before m p) (record_operators * size_of arms) (record_numbers * size_of arms) (lower_arms arms o)
unfolding lower_arms size
lower_arms✓ []ᵗ before = within (ret✓ _ before) (omega arith) (omega arith)
lower_arms✓ (node union_arm line k (all, _) (cs ▸ end) ∷ᵗ arms) before =
    within
    (bind✓ (lower_clauses✓ cs nothing) λ below n₁ le₁ before₁.
    bind✓ (or_source_all✓ (before_raise le₁ before)) λ left n₂ le₂ lt₂.
    bind✓ (or_source_all✓ (before_raise le₂ before₁)) λ right n₃ le₃ lt₃.
    bind✓ (push✓ ((omega arith ∷ᵃ lt₃ ∷ᵃ []ᵃ) ∷ᵃ []ᵃ)) λ both n₄ le₄ lt₄.
    lower_arms✓ arms (operator lt₄))
    (omega arith) (omega arith)

pub lower✓ : (t : Tree statement) → Bounded 0 (λ p m. Before m p) (record_operators * size t) (record_numbers * size t) (lower t)
unfolding lower size
lower✓ (node statement line k f (cs ▸ arms ▸ end)) = within (bind✓ (lower_clauses✓ cs nothing) λ head n₁ le₁ before. lower_arms✓ arms before) (omega arith) (omega arith)
