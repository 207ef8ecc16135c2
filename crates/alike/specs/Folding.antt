-- Trees alike fold alike: the same step for an expression, a part or a map's key, steps alike for an element, the same record for a name. Assumes nothing but the parameters: R, which joins the ids, and that R is one to one.
use Rattle.std.specs.Prelude.{◌≡◌, ℕ, zero, suc, Bool, List, [], ◌∷◌, eqb, Option, None}
use Rattle.std.proofs.Math.Bool.{true, false}
use Rattle.model.specs.Field.{Fields, RelLength}
use Rattle.model.specs.Kind.{Sort, Kind, PatternElement, Same, Expr, PlanExpr}
use Rattle.model.specs.Kind.{statement, union_arm, clause, projection, order_item, pattern_part, pattern_element, name, yield_item, entry, expr, in_plan}
use Rattle.model.specs.Record.{Rec, Group, one, forms, same_forms, expr_forms, element_forms, children, expr_children, element_children, arity}
use Rattle.model.specs.Tree.{Tree, Trees, Forest, Many, to_list, Results, fold, fold_of, fold_in}
use Rattle.model.specs.Lower.{Recs, Lowering, Props, Lowered, props_of, over, expr_step, element_step, made, plan_expr_rec}
use Rattle.alike.specs.Relation.{Equal, equal, Option~, none~, some~, List~, []~, ◌∷~◌, Fields~, Tree~, Trees~, Forest~, node~, []ᵗ~, ◌∷ᵗ~◌, end~, ◌▸~◌}
use Rattle.alike.specs.Action.{Does~, then~, ret~, copy~, map_var~, in_order~}
use Rattle.alike.specs.Pattern.{Props~, NodeStep~, RelStep~, Step~, of_node~, of_rel~, node_step~, rel_step~, lower_pattern_part~, lower_match_pattern~}

module _ (R : ℕ → ℕ → Type 0) where
  abbrev pub Lowered~ : (s : Sort) → Lowered s → Lowered s → Type 0
  Lowered~ statement a b = Unit {0}
  Lowered~ union_arm a b = Unit {0}
  Lowered~ clause a b = Unit {0}
  Lowered~ projection a b = Unit {0}
  Lowered~ order_item a b = Unit {0}
  Lowered~ pattern_part a b = Does~ R a b
  Lowered~ pattern_element a b = Step~ R a b
  Lowered~ name a b = Equal a b
  Lowered~ yield_item a b = Unit {0}
  Lowered~ entry a b = Does~ R a b
  Lowered~ expr a b = Does~ R a b
  Lowered~ (in_plan p) a b = Unit {0}

  pub data Many~ (s : Sort) : (n m : ℕ) → Many (Lowered s) n → Many (Lowered s) m → Type 0 where
    []ᵐ~ : Many~ s zero zero tt tt
    ◌∷ᵐ~◌ : {n m : ℕ} {a b : Lowered s} {bs : Many (Lowered s) n} {cs : Many (Lowered s) m} → Lowered~ s a b → Many~ s n m bs cs → Many~ s (suc n) (suc m) (a, bs) (b, cs)

  pub data Results~ : (gs hs : List Group) → Results Lowered gs → Results Lowered hs → Type 0 where
    endʳ~ : Results~ [] [] tt tt
    ◌▸ʳ~◌ : {s : Sort} {n m : ℕ} {gs hs : List Group} {a : Many (Lowered s) n} {b : Many (Lowered s) m} {x : Results Lowered gs} {y : Results Lowered hs} →
        Many~ s n m a b → Results~ gs hs x y → Results~ ((s, n) ∷ gs) ((s, m) ∷ hs) (a, x) (b, y)

  infixr 50 ◌∷ᵐ~◌
  infixr 40 ◌▸ʳ~◌
  to_list~ : {s : Sort} {n m : ℕ} {a : Many (Lowered s) n} {b : Many (Lowered s) m} → Many~ s n m a b → List~ (λ x y. Lowered~ s x y) (to_list n a) (to_list m b)
  unfolding to_list
  to_list~ []ᵐ~ = []~
  to_list~ (p ∷ᵐ~ ps) = p ∷~ to_list~ ps

  cons~ : (a : Rec) {rs ss : List Rec} → Equal rs ss → Equal (a ∷ rs) (a ∷ ss)
  cons~ a equal = equal

  names~ : {rs ss : List Rec} → List~ (λ x y. Equal x y) rs ss → Equal rs ss
  names~ []~ = equal
  names~ (equal ∷~ ps) = cons~ _ (names~ ps)

  props_of~ : (b : Bool) {x y : Many (Lowered expr) (one b)} → Many~ expr (one b) (one b) x y → Props~ R (props_of b x) (props_of b y)
  unfolding props_of
  props_of~ false p = none~
  props_of~ true (p ∷ᵐ~ []ᵐ~) = some~ p

  over~ : (r : Rec) (n : ℕ) (x y : Many (Lowering Recs) n) → List~ (λ a b. Does~ R a b) (to_list n x) (to_list n y) → Does~ R (over r n x) (over r n y)
  unfolding over
  over~ r n x y es = then~ R (in_order~ R es) λ rs. ret~ R (r ∷ rs)

  over_one~ : (r : Rec) (m n : Lowering Recs) → Does~ R m n → Does~ R (over r 1 (m, tt)) (over r 1 (n, tt))
  unfolding to_list
  over_one~ r m n e = over~ r 1 _ _ (e ∷~ []~)

  -- the records that both sheets share hold no id and no span
  pub same_fields~ : (h : Same) (f g : Fields (same_forms h)) → Fields~ R (same_forms h) f g → Equal f g
  same_fields~ Same.Null f g v = equal
  same_fields~ Same.Bool (a, _) (b, _) (equal, _) = equal
  same_fields~ Same.Int (a, _) (b, _) (equal, _) = equal
  same_fields~ Same.Float (a, _) (b, _) (equal, _) = equal
  same_fields~ Same.String (a, _) (b, _) (equal, _) = equal
  same_fields~ Same.Param (a, _) (b, _) (equal, _) = equal
  same_fields~ Same.Prop (a, _) (b, _) (equal, _) = equal
  same_fields~ Same.Index f g v = equal
  same_fields~ Same.Slice (a, (x, _)) (b, (y, _)) (equal, (equal, _)) = equal
  same_fields~ Same.List (a, _) (b, _) (equal, _) = equal
  same_fields~ Same.BinOp (a, _) (b, _) (equal, _) = equal
  same_fields~ Same.UnaryOp (a, _) (b, _) (equal, _) = equal
  same_fields~ Same.Case (a, (x, (m, _))) (b, (y, (n, _))) (equal, (equal, (equal, _))) = equal
  same_fields~ Same.IsNull (a, _) (b, _) (equal, _) = equal
  same_fields~ Same.InList f g v = equal

  same_step~ : (h : Same) (f g : Fields (same_forms h)) → Equal f g → {x : Many (Lowering Recs) (arity h f)} {y : Many (Lowering Recs) (arity h g)} → Many~ expr (arity h f) (arity h g) x y → Does~ R (over (plan_expr_rec (PlanExpr.Over h) f) (arity h f) x) (over (plan_expr_rec (PlanExpr.Over h) g) (arity h g) y)
  same_step~ h f g equal es = over~ _ (arity h f) _ _ (to_list~ es)

  module _ (one_to_one : (a b x y : ℕ) → R a b → R x y → eqb a x ≡ eqb b y) where
    expr_step~ : (k : Expr) (f g : Fields (expr_forms k)) → Fields~ R (expr_forms k) f g → {x : Results Lowered (expr_children k f)} {y : Results Lowered (expr_children k g)} → Results~ (expr_children k f) (expr_children k g) x y → Does~ R (expr_step k f x) (expr_step k g y)
    unfolding expr_step
    expr_step~ (Expr.Over h) f g v (es ▸ʳ~ endʳ~) = same_step~ h f g (same_fields~ h f g v) es
    expr_step~ Expr.Var (a, _) (b, _) (v, _) endʳ~ = then~ R (map_var~ R one_to_one a b v) λ n. ret~ R _
    expr_step~ Expr.Map (n, _) (m, _) (equal, _) (es ▸ʳ~ endʳ~) = over~ _ n _ _ (to_list~ es)
    expr_step~ Expr.Call (func, (n, (distinct, _))) (func', (m, (distinct', _))) (equal, (equal, (equal, _))) (es ▸ʳ~ endʳ~) = over~ _ n _ _ (to_list~ es)
    expr_step~ Expr.PatternPredicate (n, _) (m, _) (equal, _) (ps ▸ʳ~ endʳ~) = then~ R (lower_match_pattern~ R (to_list~ ps) None false) λ k. then~ R (copy~ R k) λ inner. ret~ R _
    expr_step~ Expr.ListPredicate (kind, (a, (pred, _))) (kind', (b, (pred', _))) (equal, (v, (equal, _))) (es ▸ʳ~ endʳ~) = then~ R (map_var~ R one_to_one a b v) λ n. over~ _ (suc (one pred)) _ _ (to_list~ es)
    expr_step~ Expr.Unresolved f g v endʳ~ = ret~ R _
    expr_step~ Expr.Undesugared f g v endʳ~ = ret~ R _

    node_as~ : {a b : Option ℕ} {rs ss : Recs} {p q : Props} → Option~ R a b → Equal rs ss → Props~ R p q → NodeStep~ R (record { bind = a; labels = rs; props = p }) (record { bind = b; labels = ss; props = q })
    node_as~ v equal p = node_step~ v p

    rel_as~ : {a b : Option ℕ} {rs ss : Recs} {d : ℕ} {l : RelLength} {p q : Props} → Option~ R a b → Equal rs ss → Props~ R p q → RelStep~ R (record { bind = a; types = rs; direction = d; length = l; props = p }) (record { bind = b; types = ss; direction = d; length = l; props = q })
    rel_as~ v equal p = rel_step~ v p

    element_step~ : (k : PatternElement) (f g : Fields (element_forms k)) → Fields~ R (element_forms k) f g → {x : Results Lowered (element_children k f)} {y : Results Lowered (element_children k g)} → Results~ (element_children k f) (element_children k g) x y → Step~ R (element_step k f x) (element_step k g y)
    unfolding element_step
    element_step~ PatternElement.Node (a, (n, (p, _))) (b, (m, (q, _))) (v, (equal, (equal, _))) (labels ▸ʳ~ props ▸ʳ~ endʳ~) = of_node~ (node_as~ v (names~ (to_list~ labels)) (props_of~ p props))
    element_step~ PatternElement.Rel (a, (n, (d, (l, (p, _))))) (b, (m, (e, (k, (q, _))))) (v, (equal, (equal, (equal, (equal, _))))) (types ▸ʳ~ props ▸ʳ~ endʳ~) = of_rel~ (rel_as~ v (names~ (to_list~ types)) (props_of~ p props))

    made~ : (s : Sort) (line : ℕ) (k : Kind s) (f g : Fields (forms s k)) → Fields~ R (forms s k) f g → {x : Results Lowered (children s k f)} {y : Results Lowered (children s k g)} → Results~ (children s k f) (children s k g) x y → Lowered~ s (made s line k f x) (made s line k g y)
    unfolding made
    made~ statement line k f g v r = tt
    made~ union_arm line k f g v r = tt
    made~ clause line k f g v r = tt
    made~ projection line k f g v r = tt
    made~ order_item line k f g v r = tt
    made~ pattern_part line k (a, (shortest, (n, _))) (b, (shortest', (m, _))) (v, (equal, (equal, _))) (es ▸ʳ~ endʳ~) = lower_pattern_part~ R one_to_one v shortest (to_list~ es)
    made~ pattern_element line k f g v r = element_step~ k f g v r
    made~ name line k (a, _) (b, _) (equal, _) r = equal
    made~ yield_item line k f g v r = tt
    made~ entry line k (a, _) (b, _) (equal, _) ((e ∷ᵐ~ []ᵐ~) ▸ʳ~ endʳ~) = over_one~ _ _ _ e
    made~ expr line k f g v r = expr_step~ k f g v r
    made~ (in_plan p) line k f g v r = tt

    mutual
      unfolding fold

      pub fold~ : {s : Sort} {t u : Tree s} → Tree~ R s t u → Lowered~ s (fold Lowered made t) (fold Lowered made u)
      fold~ (node~ {s = s} {line = line} {k = k} {f = f} {g = g} v kids) = made~ s line k f g v (fold_in~ kids)

      fold_of~ : {s : Sort} {n m : ℕ} {ts : Trees s n} {us : Trees s m} → Trees~ R s n m ts us → Many~ s n m (fold_of Lowered made ts) (fold_of Lowered made us)
      fold_of~ []ᵗ~ = []ᵐ~
      fold_of~ (t ∷ᵗ~ ts) = fold~ t ∷ᵐ~ fold_of~ ts

      fold_in~ : {gs hs : List Group} {x : Forest gs} {y : Forest hs} → Forest~ R gs hs x y → Results~ gs hs (fold_in Lowered made x) (fold_in Lowered made y)
      fold_in~ end~ = endʳ~
      fold_in~ (ts ▸~ x) = fold_of~ ts ▸ʳ~ fold_in~ x
