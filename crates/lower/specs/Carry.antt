-- Children of a record as expressions one after another: those of an expression, and those of a map's keys. Assumes nothing.
use Rattle.std.specs.Prelude.{◌≡◌, refl, ℕ, suc, ◌+◌, List, [], ◌∷◌, ◌++◌}
use Rattle.std.proofs.Common.{ap, ◌∙◌, arith, append-nil}
use Rattle.model.specs.Text.{Bytes}
use Rattle.model.specs.Kind.{expr, entry, in_plan, plan_entry}
use Rattle.model.specs.Record.{rec}
use Rattle.model.specs.Tree.{Trees, node, []ᵗ, ◌∷ᵗ◌, end, ◌▸◌, to_list, fold, fold_of}
use Rattle.model.specs.Lower.{Recs, Lowered, made, ◌>>=◌, ret, in_order, over, lower_expr}
use Rattle.words.specs.Held.{Held, HeldOf, size, size_of}
use Rattle.lower.specs.Render.{Notes, Ops, render, render_of, recs_over, Below, BelowOf, below_in}
use Rattle.lower.specs.Rep.{State}
use Rattle.lower.specs.Pieces.{Carried, []ᶜ, ◌∷ᶜ◌, lower_c, render_c, BelowC, size_c, HeldC}

-- ── expressions ──

unfoldable pub plain_c : {n : ℕ} → Trees expr n → Carried n
plain_c []ᵗ = []ᶜ
plain_c (t ∷ᵗ ts) = ([], t) ∷ᶜ plain_c ts

pub plain_lower : {n : ℕ} (ts : Trees expr n) (s : State) → in_order (to_list n (fold_of Lowered made ts)) s ≡ lower_c (plain_c ts) s
unfolding plain_c lower_c in_order to_list fold ◌>>=◌ ret lower_expr
plain_lower []ᵗ s = refl
plain_lower (t ∷ᵗ ts) s = rw (plain_lower ts (fold Lowered made t s).1)

pub plain_size : {n : ℕ} (ts : Trees expr n) → size_of ts ≡ size_c 0 (plain_c ts)
unfolding plain_c size_c size
plain_size []ᵗ = refl
plain_size (t ∷ᵗ ts) = let e = plain_size ts in omega arith

pub plain_held : (sheet : Bytes) (a b : List ℕ) {n : ℕ} (ts : Trees expr n) (d i : ℕ) → HeldOf sheet a b ts d i → HeldC sheet a b 0 (plain_c ts) d i
unfolding plain_c HeldC Held
plain_held sheet a b []ᵗ d i h = tt
plain_held sheet a b (t ∷ᵗ ts) d i h = let e : i + 0 ≡ i = omega arith in rw e (h.0, plain_held sheet a b ts d (i + size t) h.1)

pub plain_render : (N : Notes) (A : Ops) {n : ℕ} (ts : Trees expr n) → render_of N A ts ≡ render_c N A (plain_c ts)
unfolding plain_c render_c render
plain_render N A []ᵗ = refl
plain_render N A (t ∷ᵗ ts) = rw (plain_render N A ts)

pub plain_below : (N : Notes) (lo k : ℕ) {n : ℕ} (ts : Trees expr n) → BelowC N lo k (plain_c ts) → BelowOf N lo k ts
unfolding plain_c BelowC Below
plain_below N lo k []ᵗ h = tt
plain_below N lo k (t ∷ᵗ ts) h = (h.0, plain_below N lo k ts h.1)

-- ── a map's keys, each with its expression behind it ──

unfoldable pub entries_c : {n : ℕ} → Trees entry n → Carried n
entries_c []ᵗ = []ᶜ
entries_c (node entry line k (key, _) ((e ∷ᵗ []ᵗ) ▸ end) ∷ᵗ ts) = (rec (in_plan plan_entry) tt (key, tt) ∷ [], e) ∷ᶜ entries_c ts

pub entries_lower : {n : ℕ} (ts : Trees entry n) (s : State) → in_order (to_list n (fold_of Lowered made ts)) s ≡ lower_c (entries_c ts) s
unfolding entries_c lower_c in_order to_list fold made over ◌>>=◌ ret lower_expr
entries_lower []ᵗ s = refl
entries_lower (node entry line k (key, _) ((e ∷ᵗ []ᵗ) ▸ end) ∷ᵗ ts) s =
    let s₁ : State = (fold Lowered made e s).1 in
    rw (entries_lower ts s₁) (ap (λ (x : Recs). ((rec (in_plan plan_entry) tt (key, tt) ∷ x) ++ (lower_c (entries_c ts) s₁).0, (lower_c (entries_c ts) s₁).1)) (append-nil (fold Lowered made e s).0))

pub entries_size : {n : ℕ} (ts : Trees entry n) → size_of ts ≡ size_c 1 (entries_c ts)
unfolding entries_c size_c size
entries_size []ᵗ = refl
entries_size (node entry line k (key, _) ((e ∷ᵗ []ᵗ) ▸ end) ∷ᵗ ts) = let z = entries_size ts in omega arith

pub entries_held : (sheet : Bytes) (a b : List ℕ) {n : ℕ} (ts : Trees entry n) (d i : ℕ) → HeldOf sheet a b ts d i → HeldC sheet a b 1 (entries_c ts) d i
unfolding entries_c HeldC Held size
entries_held sheet a b []ᵗ d i h = tt
entries_held sheet a b (node entry line k (key, _) ((e ∷ᵗ []ᵗ) ▸ end) ∷ᵗ ts) d i h =
    let z : i + suc (size e + 0 + 0) ≡ i + 1 + size e = omega arith in
    (h.0.3.0.0, rw z at (entries_held sheet a b ts d (i + suc (size e + 0 + 0)) h.1))

pub entries_render : (N : Notes) (A : Ops) {n : ℕ} (ts : Trees entry n) → render_of N A ts ≡ render_c N A (entries_c ts)
unfolding entries_c render_c render recs_over
entries_render N A []ᵗ = refl
entries_render N A (node entry line k (key, _) ((e ∷ᵗ []ᵗ) ▸ end) ∷ᵗ ts) =
    ap (λ (x : Recs). (rec (in_plan plan_entry) tt (key, tt) ∷ x) ++ render_of N A ts) (append-nil (render N A e ++ []) ∙ append-nil (render N A e))
    ∙ ap (λ (x : Recs). (rec (in_plan plan_entry) tt (key, tt) ∷ render N A e) ++ x) (entries_render N A ts)

pub entries_below : (N : Notes) (lo k : ℕ) {n : ℕ} (ts : Trees entry n) → BelowC N lo k (entries_c ts) → BelowOf N lo k ts
unfolding entries_c BelowC Below below_in
entries_below N lo k []ᵗ h = tt
entries_below N lo k (node entry line kd (key, _) ((e ∷ᵗ []ᵗ) ▸ end) ∷ᵗ ts) h = (((h.0, tt), tt), entries_below N lo k ts h.1)
