-- Statements alike are checked alike: the same number, line and kind, and the same first `write`. Assumes nothing but the parameter R, which joins the ids.
use Rattle.std.specs.Prelude.{ℕ, List, [], ◌∷◌, Option}
use Rattle.model.specs.Text.{Bytes}
use Rattle.model.specs.Field.{Span, Fields}
use Rattle.model.specs.Kind.{Sort, Kind, Clause, PatternElement, Expr, statement, union_arm, clause, projection, order_item, pattern_part, pattern_element, name, yield_item, entry, expr, in_plan}
use Rattle.model.specs.Record.{Group, forms, expr_forms, children}
use Rattle.model.specs.Tree.{Tree, Trees, Forest, node, ◌∷ᵗ◌}
use Rattle.model.specs.Sheet.{or_else, is_write, write_in, write_in_arms, first_write}
use Rattle.model.specs.Check.{Verdict, fine, violated, and_then, span_in, of_expr, of_elements, of_part, of_record, check, check_of, check_in, precheck_statement, no_span}
use Rattle.model.specs.Refusal.{Refusal}
use Rattle.alike.specs.Relation.{Equal, equal, Fields~, Tree~, Trees~, Forest~, node~, []ᵗ~, ◌∷ᵗ~◌, end~, ◌▸~◌}

-- what the check refuses with; the spans are free
pub data Refusal~ : Refusal → Refusal → Type 0 where
  unresolved~ : {line : ℕ} {s z : Span} {name : Bytes} → Refusal~ (Refusal.UnresolvedName line s name) (Refusal.UnresolvedName line z name)
  undesugared~ : {line kind : ℕ} {s z : Span} → Refusal~ (Refusal.UndesugaredExpr line s kind) (Refusal.UndesugaredExpr line z kind)
  empty_part~ : {line : ℕ} {s z : Span} → Refusal~ (Refusal.EmptyPatternPart line s) (Refusal.EmptyPatternPart line z)

pub data Verdict~ : Verdict → Verdict → Type 0 where
  fine~ : Verdict~ fine fine
  violated~ : {x y : Refusal} → Refusal~ x y → Verdict~ (violated x) (violated y)

and_then~ : {a b c d : Verdict} → Verdict~ a b → Verdict~ c d → Verdict~ (and_then a c) (and_then b d)
unfolding and_then
and_then~ fine~ v = v
and_then~ (violated~ r) v = violated~ r

or_else~ : {A : Type 0} (a b c d : Option A) → Equal a b → Equal c d → Equal (or_else a c) (or_else b d)
or_else~ a b c d equal equal = equal

module _ (R : ℕ → ℕ → Type 0) where
  -- ── the check ──

  of_expr~ : (line : ℕ) (k : Expr) (f g : Fields (expr_forms k)) → Fields~ R (expr_forms k) f g → (s z : Span) → Verdict~ (of_expr line k f s) (of_expr line k g z)
  unfolding of_expr
  of_expr~ line (Expr.Over h) f g v s z = fine~
  of_expr~ line Expr.Var f g v s z = fine~
  of_expr~ line Expr.Map f g v s z = fine~
  of_expr~ line Expr.Call f g v s z = fine~
  of_expr~ line Expr.PatternPredicate f g v s z = fine~
  of_expr~ line Expr.ListPredicate f g v s z = fine~
  of_expr~ line Expr.Unresolved (a, _) (b, _) (equal, _) s z = violated~ unresolved~
  of_expr~ line Expr.Undesugared (a, _) (b, _) (equal, _) s z = violated~ undesugared~

  head_step~ : (line l : ℕ) (k : PatternElement) (f g : Fields (forms pattern_element k)) (x : Forest (children pattern_element k f)) (y : Forest (children pattern_element k g)) {n m : ℕ} (ts : Trees pattern_element n) (us : Trees pattern_element m) (s z : Span) → Verdict~ (of_elements line (node pattern_element l k f x ∷ᵗ ts) s) (of_elements line (node pattern_element l k g y ∷ᵗ us) z)
  unfolding of_elements
  head_step~ line l PatternElement.Node f g x y ts us s z = fine~
  head_step~ line l PatternElement.Rel f g x y ts us s z = violated~ empty_part~

  of_elements~ : (line : ℕ) {n m : ℕ} {ts : Trees pattern_element n} {us : Trees pattern_element m} → Trees~ R pattern_element n m ts us → (s z : Span) → Verdict~ (of_elements line ts s) (of_elements line us z)
  of_elements~ line []ᵗ~ s z = unfold of_elements in violated~ empty_part~
  of_elements~ line (node~ v kids ∷ᵗ~ ts) s z = head_step~ line _ _ _ _ _ _ _ _ s z

  of_part~ : (line : ℕ) {n m : ℕ} {x : Forest ((pattern_element, n) ∷ [])} {y : Forest ((pattern_element, m) ∷ [])} → Forest~ R ((pattern_element, n) ∷ []) ((pattern_element, m) ∷ []) x y → (s z : Span) → Verdict~ (of_part line x s) (of_part line y z)
  unfolding of_part
  of_part~ line (ts ▸~ end~) s z = of_elements~ line ts s z

  of_record~ : (s : Sort) (line : ℕ) (k : Kind s) (f g : Fields (forms s k)) → Fields~ R (forms s k) f g → {x : Forest (children s k f)} {y : Forest (children s k g)} → Forest~ R (children s k f) (children s k g) x y → (a b : Span) → Verdict~ (of_record s line k f x a) (of_record s line k g y b)
  unfolding of_record
  of_record~ statement line k f g v kids a b = fine~
  of_record~ union_arm line k f g v kids a b = fine~
  of_record~ clause line k f g v kids a b = fine~
  of_record~ projection line k f g v kids a b = fine~
  of_record~ order_item line k f g v kids a b = fine~
  of_record~ pattern_part line k (_, (_, (n, _))) (_, (_, (m, _))) v kids a b = of_part~ line kids a b
  of_record~ pattern_element line k f g v kids a b = fine~
  of_record~ name line k f g v kids a b = fine~
  of_record~ yield_item line k f g v kids a b = fine~
  of_record~ entry line k f g v kids a b = fine~
  of_record~ expr line k f g v kids a b = of_expr~ line k f g v a b
  of_record~ (in_plan p) line k f g v kids a b = fine~

  mutual
    unfolding check

    check~ : {s : Sort} {t u : Tree s} → Tree~ R s t u → (a b : Span) → Verdict~ (check t a) (check u b)
    check~ (node~ {s = s} {line = line} {k = k} {f = f} {g = g} v kids) a b = and_then~ (of_record~ s line k f g v kids a b) (check_in~ kids (span_in s k f a) (span_in s k g b))

    check_of~ : {s : Sort} {n m : ℕ} {ts : Trees s n} {us : Trees s m} → Trees~ R s n m ts us → (a b : Span) → Verdict~ (check_of ts a) (check_of us b)
    check_of~ []ᵗ~ a b = fine~
    check_of~ (t ∷ᵗ~ ts) a b = and_then~ (check~ t a b) (check_of~ ts a b)

    check_in~ : {gs hs : List Group} {x : Forest gs} {y : Forest hs} → Forest~ R gs hs x y → (a b : Span) → Verdict~ (check_in x a) (check_in y b)
    check_in~ end~ a b = fine~
    check_in~ (ts ▸~ x) a b = and_then~ (check_of~ ts a b) (check_in~ x a b)

  pub precheck_statement~ : {t u : Tree statement} → Tree~ R statement t u → Verdict~ (precheck_statement t) (precheck_statement u)
  unfolding precheck_statement
  precheck_statement~ t = check~ t no_span no_span

  -- ── the first `write` ──

  is_write~ : {c d : Tree clause} → Tree~ R clause c d → Equal (is_write c) (is_write d)
  unfolding is_write
  is_write~ (node~ {k = Clause.Match} v kids) = equal
  is_write~ (node~ {k = Clause.Where} v kids) = equal
  is_write~ (node~ {k = Clause.With} v kids) = equal
  is_write~ (node~ {k = Clause.Return} v kids) = equal
  is_write~ (node~ {k = Clause.Unwind} v kids) = equal
  is_write~ (node~ {k = Clause.Call} v kids) = equal
  is_write~ (node~ {k = Clause.Write} v kids) = equal

  write_in~ : {n m : ℕ} {cs : Trees clause n} {ds : Trees clause m} → Trees~ R clause n m cs ds → Equal (write_in cs) (write_in ds)
  unfolding write_in
  write_in~ []ᵗ~ = equal
  write_in~ (c ∷ᵗ~ cs) = or_else~ _ _ _ _ (is_write~ c) (write_in~ cs)

  arm_step~ : (line : ℕ) (f g : Fields (forms union_arm tt)) {x : Forest (children union_arm tt f)} {y : Forest (children union_arm tt g)} →
      Forest~ R (children union_arm tt f) (children union_arm tt g) x y → {n m : ℕ} (xs : Trees union_arm n) (ys : Trees union_arm m) → Equal (write_in_arms xs) (write_in_arms ys) → Equal (write_in_arms (node union_arm line tt f x ∷ᵗ xs)) (write_in_arms (node union_arm line tt g y ∷ᵗ ys))
  unfolding write_in_arms
  arm_step~ line (_, (_, _)) (_, (_, _)) (cs ▸~ end~) xs ys rest = or_else~ _ _ _ _ (write_in~ cs) rest

  write_in_arms~ : {n m : ℕ} {xs : Trees union_arm n} {ys : Trees union_arm m} → Trees~ R union_arm n m xs ys → Equal (write_in_arms xs) (write_in_arms ys)
  write_in_arms~ []ᵗ~ = unfold write_in_arms in equal
  write_in_arms~ (node~ v kids ∷ᵗ~ arms) = arm_step~ _ _ _ kids _ _ (write_in_arms~ arms)

  statement_step~ : (line : ℕ) (f g : Fields (forms statement tt)) {x : Forest (children statement tt f)} {y : Forest (children statement tt g)} → Forest~ R (children statement tt f) (children statement tt g) x y → Equal (first_write (node statement line tt f x)) (first_write (node statement line tt g y))
  unfolding first_write
  statement_step~ line (_, (_, _)) (_, (_, _)) (cs ▸~ arms ▸~ end~) = or_else~ _ _ _ _ (write_in~ cs) (write_in_arms~ arms)

  pub first_write~ : {t u : Tree statement} → Tree~ R statement t u → Equal (first_write t) (first_write u)
  first_write~ (node~ v kids) = statement_step~ _ _ _ kids
