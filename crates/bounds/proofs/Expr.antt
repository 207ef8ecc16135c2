-- Expressions and patterns: whatever is made of a tree of w records adds at most 2 w operators and w numbers. Assumes nothing: these are lemmas with their proofs.
use Rattle.std.specs.Prelude.{ℕ, suc, ◌*◌, ◌<◌, Bool, true, false, List}
use Rattle.std.proofs.Common.{arith}
use Rattle.model.specs.Field.{Fields}
use Rattle.model.specs.Kind.{Sort, Kind, PatternElement, Same, Expr, PlanExpr}
use Rattle.model.specs.Kind.{statement, union_arm, clause, projection, order_item, pattern_part, pattern_element, name, yield_item, entry, expr, in_plan}
use Rattle.model.specs.Record.{Rec, Group, one, forms, same_forms, expr_forms, element_forms, children, expr_children, element_children, arity, inputs}
use Rattle.model.specs.Tree.{Tree, Trees, Forest, node, []ᵗ, ◌∷ᵗ◌, end, ◌▸◌, Many, to_list, Results, fold, fold_of, fold_in}
use Rattle.model.specs.Lower.{Recs, Lowering, in_order, props_of, Lowered, over, expr_step, element_step, made, lower_expr, lower_exprs, lower_pattern, plan_expr_rec}
use Rattle.bounds.specs.Earlier.{All, []ᵃ, ◌∷ᵃ◌, all_append, Low, raise}
use Rattle.bounds.specs.Bounded.{Bounded, Old, Lows, bind✓, within, ret✓, copy✓, map_var✓, nothing}
use Rattle.bounds.specs.Pattern.{Cheap, Each, []ˢ, each, PropsOf, without, with, StepOf, is_node, is_rel}
use Rattle.bounds.proofs.Pattern.{cheaper, more, lower_pattern_part✓, lower_match_pattern✓}
use Rattle.bounds.specs.Size.{size, size_of, size_in}
use Rattle.bounds.specs.Expr.{Made, MadeIn}

pub in_order✓ : {w : ℕ} {l : List (Lowering Recs)} (n : ℕ) → Each (λ u m. Cheap Lows u m) w l → Bounded n Lows (2 * w) w (in_order l)
unfolding in_order
in_order✓ n []ˢ = within (ret✓ _ []ᵃ) (omega arith) (omega arith)
in_order✓ n (each le m ms) =
    within
    (bind✓ (m.from n) λ rs n₁ le₁ low₁.
    bind✓ (in_order✓ n₁ ms) λ ss n₂ le₂ low₂.
    ret✓ _ (all_append (raise le₂ low₁) low₂))
    (omega arith) (omega arith)

pub over✓ : {n w : ℕ} (r : Rec) (i : ℕ) (es : Many (Lowering Recs) i) → All (λ k. k < 0) (inputs r) → Each (λ u m. Cheap Lows u m) w (to_list i es) → Bounded n Lows (2 * w) w (over r i es)
unfolding over
over✓ {n} r i es low h = within (bind✓ (in_order✓ n h) λ rs n' le low'. ret✓ _ (all_append (raise (omega arith) (low ∷ᵃ []ᵃ)) low')) (omega arith) (omega arith)

-- an expression that is the same record in both sheets names no operator
same_inputs : (h : Same) (f : Fields (same_forms h)) → All (λ k. k < 0) (inputs (plan_expr_rec (PlanExpr.Over h) f))
same_inputs Same.Null f = []ᵃ
same_inputs Same.Bool f = []ᵃ
same_inputs Same.Int f = []ᵃ
same_inputs Same.Float f = []ᵃ
same_inputs Same.String f = []ᵃ
same_inputs Same.Param f = []ᵃ
same_inputs Same.Prop f = []ᵃ
same_inputs Same.Index f = []ᵃ
same_inputs Same.Slice f = []ᵃ
same_inputs Same.List f = []ᵃ
same_inputs Same.BinOp f = []ᵃ
same_inputs Same.UnaryOp f = []ᵃ
same_inputs Same.Case f = []ᵃ
same_inputs Same.IsNull f = []ᵃ
same_inputs Same.InList f = []ᵃ

pub expr_step✓ : (k : Expr) (f : Fields (expr_forms k)) (r : Results Lowered (expr_children k f)) (w : ℕ) → MadeIn (expr_children k f) w r → Cheap Lows (suc w) (expr_step k f r)
unfolding expr_step
expr_step✓ (Expr.Over same) f (es, _) w h = record { from = λ n. within (over✓ _ (arity same f) es (same_inputs same f) h.3) (omega (arith, h.2)) (omega (arith, h.2)) }
expr_step✓ Expr.Var (id, _) r w h = record { from = λ n. within (bind✓ (map_var✓ id) λ b n' le _. ret✓ _ ([]ᵃ ∷ᵃ []ᵃ)) (omega arith) (omega arith) }
expr_step✓ Expr.Map (i, _) (es, _) w h = record { from = λ n. within (over✓ _ i es []ᵃ h.3) (omega (arith, h.2)) (omega (arith, h.2)) }
expr_step✓ Expr.Call (func, (i, _)) (es, _) w h = record { from = λ n. within (over✓ _ i es []ᵃ h.3) (omega (arith, h.2)) (omega (arith, h.2)) }
expr_step✓ Expr.PatternPredicate (i, _) (parts, _) w h = record {
  from = λ n.
      within
      (bind✓ (lower_match_pattern✓ {n = n} false h.3 nothing) λ k n₁ le₁ _.
      bind✓ (copy✓ k) λ inner n₂ le₂ low.
      ret✓ _ ([]ᵃ ∷ᵃ low))
      (omega (arith, h.2)) (omega (arith, h.2));
}
expr_step✓ Expr.ListPredicate (kind, (id, (pred, _))) (es, _) w h = record {
  from = λ n.
      within
      (bind✓ (map_var✓ id) λ b n₁ le₁ _.
      over✓ _ (suc (one pred)) es []ᵃ h.3)
      (omega (arith, h.2)) (omega (arith, h.2));
}
expr_step✓ Expr.Unresolved f r w h = record { from = λ n. within (ret✓ _ ([]ᵃ ∷ᵃ []ᵃ)) (omega arith) (omega arith) }
expr_step✓ Expr.Undesugared f r w h = record { from = λ n. within (ret✓ _ ([]ᵃ ∷ᵃ []ᵃ)) (omega arith) (omega arith) }

-- names have no inputs
pub names_low : {w : ℕ} {l : List Rec} → Each (λ u r. All (λ k. k < 0) (inputs r)) w l → Low 0 l
names_low []ˢ = []ᵃ
names_low (each le p ps) = p ∷ᵃ names_low ps

pub props_of✓ : {w : ℕ} (b : Bool) (m : Many (Lowering Recs) (one b)) → Each (λ u m. Cheap Lows u m) w (to_list (one b) m) → PropsOf w (props_of b m)
unfolding props_of to_list
props_of✓ false m h = without
props_of✓ true m (each le p ps) = with (cheaper (omega arith) p)

pub element_step✓ : (k : PatternElement) (f : Fields (element_forms k)) (r : Results Lowered (element_children k f)) (w : ℕ) → MadeIn (element_children k f) w r → StepOf (suc w) (element_step k f r)
unfolding element_step
element_step✓ PatternElement.Node (bind, (i, (p, _))) (labels, (props, _)) w (u, v, le, ls, (u', v', le', ps, _)) = is_node (record { below = u'; room = omega arith; labels = names_low ls; props = props_of✓ p props ps })
element_step✓ PatternElement.Rel (bind, (i, (direction, (length, (p, _))))) (types, (props, _)) w (u, v, le, ls, (u', v', le', ps, _)) = is_rel (record { below = u'; room = omega arith; types = names_low ls; props = props_of✓ p props ps })

pub made✓ : (s : Sort) (line : ℕ) (k : Kind s) (f : Fields (forms s k)) (r : Results Lowered (children s k f)) (w : ℕ) → MadeIn (children s k f) w r → Made s (suc w) (made s line k f r)
unfolding made to_list
made✓ statement line k f r w h = tt
made✓ union_arm line k f r w h = tt
made✓ clause line k f r w h = tt
made✓ projection line k f r w h = tt
made✓ order_item line k f r w h = tt
made✓ pattern_part line k (o, (shortest, (n, _))) (elements, _) w (u, v, le, steps, _) = cheaper (omega arith) (lower_pattern_part✓ o shortest steps)
made✓ pattern_element line k f r w h = element_step✓ k f r w h
made✓ name line k f r w h = []ᵃ
made✓ yield_item line k f r w h = tt
made✓ entry line k (key, _) ((e, _), _) w h = record { from = λ n. within (over✓ _ 1 (e, tt) []ᵃ h.3) (omega (arith, h.2)) (omega (arith, h.2)) }
made✓ expr line k f r w h = expr_step✓ k f r w h
made✓ (in_plan p) line k f r w h = tt

-- every tree
mutual
  unfolding size fold to_list

  pub fold✓ : {s : Sort} (t : Tree s) → Made s (size t) (fold Lowered made t)
  fold✓ (node s line k f kids) = made✓ s line k f (fold_in Lowered made kids) (size_in kids) (fold_in✓ kids)

  pub fold_of✓ : {s : Sort} {n : ℕ} (ts : Trees s n) → Each (λ u x. Made s u x) (size_of ts) (to_list n (fold_of Lowered made ts))
  fold_of✓ []ᵗ = []ˢ
  fold_of✓ (t ∷ᵗ ts) = more (size t) (fold✓ t) (fold_of✓ ts)

  pub fold_in✓ : {gs : List Group} (f : Forest gs) → MadeIn gs (size_in f) (fold_in Lowered made f)
  fold_in✓ end = tt
  fold_in✓ (ts ▸ f) = (size_of ts, size_in f, omega arith, fold_of✓ ts, fold_in✓ f)

-- ── what the clauses call ──

pub lower_expr✓ : {n : ℕ} (e : Tree expr) → Bounded n Lows (2 * size e) (size e) (lower_expr e)
unfolding lower_expr
lower_expr✓ {n} e = (fold✓ e).from n

pub lower_exprs✓ : {n i : ℕ} (es : Trees expr i) → Bounded n Lows (2 * size_of es) (size_of es) (lower_exprs es)
unfolding lower_exprs size
lower_exprs✓ []ᵗ = within (ret✓ _ []ᵃ) (omega arith) (omega arith)
lower_exprs✓ (e ∷ᵗ es) =
    within
    (bind✓ (lower_expr✓ e) λ rs n₁ le₁ low₁.
    bind✓ (lower_exprs✓ es) λ ss n₂ le₂ low₂.
    ret✓ _ (all_append (raise le₂ low₁) low₂))
    (omega arith) (omega arith)

pub lower_pattern✓ : {i : ℕ} (ps : Trees pattern_part i) → Each (λ u m. Cheap Old u m) (size_of ps) (lower_pattern ps)
unfolding lower_pattern size
lower_pattern✓ []ᵗ = []ˢ
lower_pattern✓ (p ∷ᵗ ps) = more (size p) (fold✓ p) (lower_pattern✓ ps)
