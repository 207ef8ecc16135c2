-- The items and the sort keys of a clause as expressions one after another, each behind its own record. Assumes nothing.
use Rattle.std.specs.Prelude.{◌≡◌, refl, ℕ, suc, ◌+◌, ◌-◌, List, [], ◌∷◌, ◌++◌}
use Rattle.std.proofs.Common.{ap, ◌∙◌, arith, append-nil}
use Rattle.model.specs.Text.{Bytes}
use Rattle.model.specs.Kind.{expr, projection, order_item, in_plan, plan_projection, order_key}
use Rattle.model.specs.Record.{Rec, rec}
use Rattle.model.specs.Tree.{Trees, node, []ᵗ, ◌∷ᵗ◌, end, ◌▸◌}
use Rattle.model.specs.Lower.{Recs, ◌>>=◌, ret, item, alias_or, synthesise_alias, lower_expr, lower_exprs, lower_projections, lower_keys}
use Rattle.words.specs.Held.{Held, HeldOf, size, size_of}
use Rattle.lower.specs.Render.{Notes, Ops, render, render_of, recs_over, name_of, Below, BelowOf, below_in}
use Rattle.lower.specs.Rep.{State}
use Rattle.lower.specs.Pieces.{Carried, []ᶜ, ◌∷ᶜ◌, lower_c, render_c, BelowC, size_c, HeldC}
use Rattle.lower.specs.Carry.{plain_c}

-- ── expressions ──

pub exprs_lower : {n : ℕ} (ts : Trees expr n) (s : State) → lower_exprs ts s ≡ lower_c (plain_c ts) s
unfolding plain_c lower_c lower_exprs ◌>>=◌ ret
exprs_lower []ᵗ s = refl
exprs_lower (t ∷ᵗ ts) s = rw (exprs_lower ts (lower_expr t s).1)

-- ── items ──

unfoldable pub items_c : {n : ℕ} → Trees projection n → Carried n
items_c []ᵗ = []ᶜ
items_c (node projection line k (alias, _) ((e ∷ᵗ []ᵗ) ▸ end) ∷ᵗ ts) = (item (alias_or alias (synthesise_alias e)) [], e) ∷ᶜ items_c ts

pub items_lower : {n : ℕ} (ts : Trees projection n) (s : State) → lower_projections ts s ≡ lower_c (items_c ts) s
unfolding items_c lower_c lower_projections item ◌>>=◌ ret
items_lower []ᵗ s = refl
items_lower (node projection line k (alias, _) ((e ∷ᵗ []ᵗ) ▸ end) ∷ᵗ ts) s = rw (items_lower ts (lower_expr e s).1)

pub items_size : {n : ℕ} (ts : Trees projection n) → size_of ts ≡ size_c 1 (items_c ts)
unfolding items_c size_c size
items_size []ᵗ = refl
items_size (node projection line k (alias, _) ((e ∷ᵗ []ᵗ) ▸ end) ∷ᵗ ts) = let z = items_size ts in omega arith

pub items_held : (sheet : Bytes) (a b : List ℕ) {n : ℕ} (ts : Trees projection n) (d i : ℕ) → HeldOf sheet a b ts d i → HeldC sheet a b 1 (items_c ts) (d - 1) i
unfolding items_c HeldC Held size
items_held sheet a b []ᵗ d i h = tt
items_held sheet a b (node projection line k (alias, _) ((e ∷ᵗ []ᵗ) ▸ end) ∷ᵗ ts) d i h =
    let z : i + suc (size e + 0 + 0) ≡ i + 1 + size e = omega arith in
    (h.0.3.0.0, rw z at (items_held sheet a b ts d (i + suc (size e + 0 + 0)) h.1))

pub items_render : (N : Notes) (A : Ops) {n : ℕ} (ts : Trees projection n) → render_of N A ts ≡ render_c N A (items_c ts)
unfolding items_c render_c render recs_over name_of item
items_render N A []ᵗ = refl
items_render N A (node projection line k (alias, _) ((e ∷ᵗ []ᵗ) ▸ end) ∷ᵗ ts) =
    let head : Rec = rec (in_plan plan_projection) tt (alias_or alias (synthesise_alias e), tt) in
    ap (λ (x : Recs). (head ∷ x) ++ render_of N A ts) (append-nil (render N A e ++ []) ∙ append-nil (render N A e))
    ∙ ap (λ (x : Recs). (head ∷ render N A e) ++ x) (items_render N A ts)

pub items_below : (N : Notes) (lo k : ℕ) {n : ℕ} (ts : Trees projection n) → BelowC N lo k (items_c ts) → BelowOf N lo k ts
unfolding items_c BelowC Below below_in
items_below N lo k []ᵗ h = tt
items_below N lo k (node projection line kd (alias, _) ((e ∷ᵗ []ᵗ) ▸ end) ∷ᵗ ts) h = (((h.0, tt), tt), items_below N lo k ts h.1)

-- ── sort keys ──

unfoldable pub keys_c : {n : ℕ} → Trees order_item n → Carried n
keys_c []ᵗ = []ᶜ
keys_c (node order_item line k (descending, _) ((e ∷ᵗ []ᵗ) ▸ end) ∷ᵗ ts) = (rec (in_plan order_key) tt (descending, tt) ∷ [], e) ∷ᶜ keys_c ts

pub keys_lower : {n : ℕ} (ts : Trees order_item n) (s : State) → lower_keys ts s ≡ lower_c (keys_c ts) s
unfolding keys_c lower_c lower_keys ◌>>=◌ ret
keys_lower []ᵗ s = refl
keys_lower (node order_item line k (descending, _) ((e ∷ᵗ []ᵗ) ▸ end) ∷ᵗ ts) s = rw (keys_lower ts (lower_expr e s).1)

pub keys_size : {n : ℕ} (ts : Trees order_item n) → size_of ts ≡ size_c 1 (keys_c ts)
unfolding keys_c size_c size
keys_size []ᵗ = refl
keys_size (node order_item line k (descending, _) ((e ∷ᵗ []ᵗ) ▸ end) ∷ᵗ ts) = let z = keys_size ts in omega arith

pub keys_held : (sheet : Bytes) (a b : List ℕ) {n : ℕ} (ts : Trees order_item n) (d i : ℕ) → HeldOf sheet a b ts d i → HeldC sheet a b 1 (keys_c ts) (d - 1) i
unfolding keys_c HeldC Held size
keys_held sheet a b []ᵗ d i h = tt
keys_held sheet a b (node order_item line k (descending, _) ((e ∷ᵗ []ᵗ) ▸ end) ∷ᵗ ts) d i h =
    let z : i + suc (size e + 0 + 0) ≡ i + 1 + size e = omega arith in
    (h.0.3.0.0, rw z at (keys_held sheet a b ts d (i + suc (size e + 0 + 0)) h.1))

pub keys_render : (N : Notes) (A : Ops) {n : ℕ} (ts : Trees order_item n) → render_of N A ts ≡ render_c N A (keys_c ts)
unfolding keys_c render_c render recs_over
keys_render N A []ᵗ = refl
keys_render N A (node order_item line k (descending, _) ((e ∷ᵗ []ᵗ) ▸ end) ∷ᵗ ts) =
    let head : Rec = rec (in_plan order_key) tt (descending, tt) in
    ap (λ (x : Recs). (head ∷ x) ++ render_of N A ts) (append-nil (render N A e ++ []) ∙ append-nil (render N A e))
    ∙ ap (λ (x : Recs). (head ∷ render N A e) ++ x) (keys_render N A ts)

pub keys_below : (N : Notes) (lo k : ℕ) {n : ℕ} (ts : Trees order_item n) → BelowC N lo k (keys_c ts) → BelowOf N lo k ts
unfolding keys_c BelowC Below below_in
keys_below N lo k []ᵗ h = tt
keys_below N lo k (node order_item line kd (descending, _) ((e ∷ᵗ []ᵗ) ▸ end) ∷ᵗ ts) h = (((h.0, tt), tt), keys_below N lo k ts h.1)
