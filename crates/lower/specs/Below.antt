-- Copies that are below a number are below a larger one. Assumes nothing.
use Rattle.std.specs.Prelude.{ℕ, ◌≤◌, List}
use Rattle.std.proofs.Common.{arith}
use Rattle.model.specs.Kind.{Sort, Kind, Expr, statement, union_arm, clause, projection, order_item, pattern_part, pattern_element, name, yield_item, entry, expr, in_plan}
use Rattle.model.specs.Record.{Group}
use Rattle.model.specs.Tree.{Tree, Trees, Forest, node, []ᵗ, ◌∷ᵗ◌, end, ◌▸◌}
use Rattle.lower.specs.Render.{Notes, copies_below, below_in, Below, BelowOf, BelowIn}
use Rattle.lower.specs.Pieces.{Carried, []ᶜ, ◌∷ᶜ◌, BelowC}

module _ (N : Notes) (lo k k' : ℕ) (l : k ≤ k') where
  copies_more : (line : ℕ) (e : Expr) {P P' : Type 0} → (P → P') → copies_below N lo k line e P → copies_below N lo k' line e P'
  unfolding copies_below
  copies_more line (Expr.Over h) f b = f b
  copies_more line Expr.Var f b = tt
  copies_more line Expr.Map f b = f b
  copies_more line Expr.Call f b = f b
  copies_more line Expr.PatternPredicate f b = (b.0, let h = b.1 in omega arith)
  copies_more line Expr.ListPredicate f b = f b
  copies_more line Expr.Unresolved f b = tt
  copies_more line Expr.Undesugared f b = tt

  in_more : (s : Sort) (line : ℕ) (e : Kind s) {P P' : Type 0} → (P → P') → below_in N lo k s line e P → below_in N lo k' s line e P'
  unfolding below_in
  in_more statement line e f b = tt
  in_more union_arm line e f b = tt
  in_more clause line e f b = tt
  in_more projection line e f b = f b
  in_more order_item line e f b = f b
  in_more pattern_part line e f b = tt
  in_more pattern_element line e f b = tt
  in_more name line e f b = tt
  in_more yield_item line e f b = tt
  in_more entry line e f b = f b
  in_more expr line e f b = copies_more line e f b
  in_more (in_plan p) line e f b = tt

  mutual
    unfolding Below

    pub below_more : {s : Sort} (t : Tree s) → Below N lo k t → Below N lo k' t
    below_more (node s line e f kids) b = in_more s line e (λ x. in_below_more kids x) b

    pub below_of_more : {s : Sort} {n : ℕ} (ts : Trees s n) → BelowOf N lo k ts → BelowOf N lo k' ts
    below_of_more []ᵗ b = tt
    below_of_more (t ∷ᵗ ts) b = (below_more t b.0, below_of_more ts b.1)

    pub in_below_more : {gs : List Group} (f : Forest gs) → BelowIn N lo k f → BelowIn N lo k' f
    in_below_more end b = tt
    in_below_more (ts ▸ f) b = (below_of_more ts b.0, in_below_more f b.1)

  pub carried_more : {n : ℕ} (cs : Carried n) → BelowC N lo k cs → BelowC N lo k' cs
  unfolding BelowC
  carried_more []ᶜ b = tt
  carried_more (c ∷ᶜ cs) b = (below_more c.1 b.0, carried_more cs b.1)
