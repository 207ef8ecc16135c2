-- What holds of every record of a sheet that was read and checked: none is `unres` or `undes`, every part begins with a node, and every number is in its field's range. Assumes nothing: these are definitions, and theorems with their proofs.
use Rattle.std.specs.Prelude.{◌≡◌, refl, ℕ, suc, ◌≤◌, Bool, true, List, [], ◌∷◌, Option}
use Rattle.std.proofs.Common.{subst, leb-true}
use Rattle.model.specs.Text.{Bytes}
use Rattle.model.specs.Field.{Form, num, Val, Fields, Span, RelLength, fits}
use Rattle.model.specs.Kind.{Sort, Kind, PatternElement, Same, Expr, statement, pattern_part, pattern_element, expr}
use Rattle.model.specs.Record.{rec, Group, all_shortest, forms, expr_forms, children, expr_children, element_children}
use Rattle.model.specs.Tree.{Tree, Trees, Forest, node, []ᵗ, ◌∷ᵗ◌, end, ◌▸◌, records, records_of, records_in}
use Rattle.model.specs.Check.{Verdict, fine, violated, and_then, span_in, of_expr, of_elements, of_part, of_record, check, check_of, check_in, no_span, precheck_statement}
use Rattle.model.specs.Call.{max_depth}
use Rattle.laws.specs.TextLaws.{and_left, and_right, Each, each_head, each_tail, each_left, each_right}
use Rattle.laws.specs.FieldLaws.{fits_all}
use Rattle.laws.specs.RecordLaws.{Fits, fits_rec}
use Rattle.laws.specs.SheetLaws.{sheet_sound}
use Rattle.demands.specs.Sheets.{WellFormed}

-- ── the trees in a tree ──

mutual
  -- x is the tree or stands in it
  pub data Within {r : Sort} (x : Tree r) : (s : Sort) → Tree s → Type 0 where
    itself : Within x r x
    inside : {s : Sort} {line : ℕ} {k : Kind s} {f : Fields (forms s k)} {kids : Forest (children s k f)} → WithinIn x (children s k f) kids → Within x s (node s line k f kids)

  pub data WithinOf {r : Sort} (x : Tree r) : (s : Sort) (n : ℕ) → Trees s n → Type 0 where
    first : {s : Sort} {n : ℕ} {t : Tree s} {ts : Trees s n} → Within x s t → WithinOf x s (suc n) (t ∷ᵗ ts)
    later : {s : Sort} {n : ℕ} {t : Tree s} {ts : Trees s n} → WithinOf x s n ts → WithinOf x s (suc n) (t ∷ᵗ ts)

  pub data WithinIn {r : Sort} (x : Tree r) : (gs : List Group) → Forest gs → Type 0 where
    here : {s : Sort} {n : ℕ} {gs : List Group} {ts : Trees s n} {f : Forest gs} → WithinOf x s n ts → WithinIn x ((s, n) ∷ gs) (ts ▸ f)
    behind : {s : Sort} {n : ℕ} {gs : List Group} {ts : Trees s n} {f : Forest gs} → WithinIn x gs f → WithinIn x ((s, n) ∷ gs) (ts ▸ f)

-- a tree that the check lets pass, under some span
pub record Passes {s : Sort} (t : Tree s) : Type 0 where
  pub around : Span
  pub passes : check t around ≡ fine

unfoldable pub is_violated : Verdict → Type 0
is_violated fine = ⊥
is_violated (violated r) = Unit {0}

pub both_fine : (u v : Verdict) → and_then u v ≡ fine → (u ≡ fine) × (v ≡ fine)
unfolding and_then is_violated
both_fine fine v e = (refl, e)
both_fine (violated r) v e = absurd (subst is_violated e tt)

mutual
  unfolding check

  within_passes : {r s : Sort} {x : Tree r} {t : Tree s} → Within x s t → (around : Span) → check t around ≡ fine → Passes x
  within_passes itself around e = record { around = around; passes = e }
  within_passes (inside {s = s} {line = line} {k = k} {f = f} {kids = kids} w) around e = within_in_passes w _ (both_fine (of_record s line k f kids around) (check_in kids (span_in s k f around)) e).1

  within_of_passes : {r s : Sort} {n : ℕ} {x : Tree r} {ts : Trees s n} → WithinOf x s n ts → (around : Span) → check_of ts around ≡ fine → Passes x
  within_of_passes (first {t = t} {ts = ts} w) around e = within_passes w around (both_fine (check t around) (check_of ts around) e).0
  within_of_passes (later {t = t} {ts = ts} w) around e = within_of_passes w around (both_fine (check t around) (check_of ts around) e).1

  within_in_passes : {r : Sort} {gs : List Group} {x : Tree r} {y : Forest gs} → WithinIn x gs y → (around : Span) → check_in y around ≡ fine → Passes x
  within_in_passes (here {ts = ts} {f = f} w) around e = within_of_passes w around (both_fine (check_of ts around) (check_in f around) e).0
  within_in_passes (behind {ts = ts} {f = f} w) around e = within_in_passes w around (both_fine (check_of ts around) (check_in f around) e).1

-- ── of a checked tree: no `unres`, no `undes`, and every part begins with a node ──

abbrev pub Checked : Tree statement → Type 0
Checked t = precheck_statement t ≡ fine

pub checked_within : {t : Tree statement} → Checked t → {s : Sort} {x : Tree s} → Within x statement t → Passes x
unfolding precheck_statement
checked_within e w = within_passes w no_span e

-- what the lowering takes
unfoldable pub TakenExpr : Expr → Type 0
TakenExpr (Expr.Over h) = Unit {0}
TakenExpr Expr.Var = Unit {0}
TakenExpr Expr.Map = Unit {0}
TakenExpr Expr.Call = Unit {0}
TakenExpr Expr.PatternPredicate = Unit {0}
TakenExpr Expr.ListPredicate = Unit {0}
TakenExpr Expr.Unresolved = ⊥
TakenExpr Expr.Undesugared = ⊥

unfoldable pub NodeFirst : {n : ℕ} → Trees pattern_element n → Type 0
NodeFirst []ᵗ = ⊥
NodeFirst (node pattern_element line PatternElement.Node f kids ∷ᵗ es) = Unit {0}
NodeFirst (node pattern_element line PatternElement.Rel f kids ∷ᵗ es) = ⊥

pub own_expr : (line : ℕ) (k : Expr) (f : Fields (expr_forms k)) (around : Span) → of_expr line k f around ≡ fine → TakenExpr k
unfolding of_expr TakenExpr is_violated
own_expr line (Expr.Over h) f around e = tt
own_expr line Expr.Var f around e = tt
own_expr line Expr.Map f around e = tt
own_expr line Expr.Call f around e = tt
own_expr line Expr.PatternPredicate f around e = tt
own_expr line Expr.ListPredicate f around e = tt
own_expr line Expr.Unresolved f around e = subst is_violated e tt
own_expr line Expr.Undesugared f around e = subst is_violated e tt

pub own_elements : {n : ℕ} (line : ℕ) (es : Trees pattern_element n) (around : Span) → of_elements line es around ≡ fine → NodeFirst es
unfolding of_elements NodeFirst is_violated
own_elements line []ᵗ around e = subst is_violated e tt
own_elements line (node pattern_element l PatternElement.Node f kids ∷ᵗ es) around e = tt
own_elements line (node pattern_element l PatternElement.Rel f kids ∷ᵗ es) around e = subst is_violated e tt

-- `unres` and `undes`, of all four kinds: the five `debug_assert!`s of lower_expr, and `null` in the definition
pub expr_taken : {t : Tree statement} → Checked t → {line : ℕ} {k : Expr} {f : Fields (expr_forms k)} {kids : Forest (expr_children k f)} → Within (node expr line k f kids) statement t → TakenExpr k
unfolding check of_record
expr_taken e {line} {k} {f} {kids} w =
    let p = checked_within e w in
    own_expr line k f p.around (both_fine (of_expr line k f p.around) (check_in kids p.around) p.passes).0

-- a part with no node, and a chain that begins with a rel: the fallbacks of lower_pattern_part
pub part_taken : {t : Tree statement} → Checked t → {line : ℕ} {f : Fields (forms pattern_part tt)} {es : Trees pattern_element f.1.1.0} → Within (node pattern_part line tt f (es ▸ end)) statement t → NodeFirst es
unfolding check of_record of_part
part_taken e {line} {f} {es} w =
    let p = checked_within e w in
    own_elements line es p.around (both_fine (of_elements line es p.around) (check_in (es ▸ end) p.around) p.passes).0

-- ── of a sheet that was read: every field is in range ──

mutual
  unfolding records

  within_fits : {r s : Sort} {x : Tree r} {t : Tree s} → Within x s t → Each Fits (records t) → Each Fits (records x)
  within_fits itself h = h
  within_fits (inside w) h = within_in_fits w (each_tail h)

  within_of_fits : {r s : Sort} {n : ℕ} {x : Tree r} {ts : Trees s n} → WithinOf x s n ts → Each Fits (records_of ts) → Each Fits (records x)
  within_of_fits (first {t = t} {ts = ts} w) h = within_fits w (each_left (records t) (records_of ts) h)
  within_of_fits (later {t = t} {ts = ts} w) h = within_of_fits w (each_right (records t) (records_of ts) h)

  within_in_fits : {r : Sort} {gs : List Group} {x : Tree r} {y : Forest gs} → WithinIn x gs y → Each Fits (records_in y) → Each Fits (records x)
  within_in_fits (here {ts = ts} {f = f} w) h = within_of_fits w (each_left (records_of ts) (records_in f) h)
  within_in_fits (behind {ts = ts} {f = f} w) h = within_in_fits w (each_right (records_of ts) (records_in f) h)

-- every number is at most its form's limit, and so on
pub fits_within : {sheet : Bytes} {t : Tree statement} → WellFormed sheet t → {s : Sort} {line : ℕ} {k : Kind s} {f : Fields (forms s k)} {kids : Forest (children s k f)} → Within (node s line k f kids) statement t → Fits (rec s k f)
unfolding records
fits_within {sheet} {t} h w = each_head (within_fits w (sheet_sound max_depth sheet t h.behind h.reads).0.fit)

first_fits : (f : Form) (fs : List Form) (v : Val f) (vs : Fields fs) → fits_all (f ∷ fs) (v, vs) ≡ true → fits f v ≡ true
unfolding fits_all
first_fits f fs v vs e = and_left _ _ e

rest_fits : (f : Form) (fs : List Form) (v : Val f) (vs : Fields fs) → fits_all (f ∷ fs) (v, vs) ≡ true → fits_all fs vs ≡ true
unfolding fits_all
rest_fits f fs v vs e = and_right (fits f v) _ e

pub limit : (l n : ℕ) (fs : List Form) (vs : Fields fs) → fits_all (num l ∷ fs) (n, vs) ≡ true → n ≤ l
unfolding fits
limit l n fs vs e = leb-true n l (first_fits (num l) fs n vs e)

-- what is numbered in the sheet and an enum in the Rust
module _ {sheet : Bytes} {t : Tree statement} (h : WellFormed sheet t) where
  -- a rel's direction: the `unreachable!` of lower_rel_element. Its length has two cases by its type.
  pub direction_range : {line : ℕ} {bind : Option ℕ} {types direction : ℕ} {rest : RelLength × (Bool × (Span × Unit {0}))} {kids : Forest (element_children PatternElement.Rel (bind, (types, (direction, rest))))} → Within (node pattern_element line PatternElement.Rel (bind, (types, (direction, rest))) kids) statement t → direction ≤ 2
  unfolding fits_rec
  direction_range {direction = direction} w = limit 2 direction _ _ (rest_fits _ _ _ _ (rest_fits _ _ _ _ (fits_within h w)))

  -- whether a part is a shortest one
  pub shortest_range : {line : ℕ} {bind : Option ℕ} {shortest n : ℕ} {kids : Forest ((pattern_element, n) ∷ [])} → Within (node pattern_part line tt (bind, (shortest, (n, tt))) kids) statement t → shortest ≤ all_shortest
  unfolding fits_rec
  shortest_range {shortest = shortest} w = limit all_shortest shortest _ _ (rest_fits _ _ _ _ (fits_within h w))

  -- the kind of a list predicate: the default of lower_list_pred_kind
  pub predicate_range : {line kind var : ℕ} {pred : Bool} {kids : Forest (expr_children Expr.ListPredicate (kind, (var, (pred, tt))))} → Within (node expr line Expr.ListPredicate (kind, (var, (pred, tt))) kids) statement t → kind ≤ 3
  unfolding fits_rec
  predicate_range {kind = kind} w = limit 3 kind _ _ (fits_within h w)

  -- the operators of two and of one expression
  pub binary_range : {line operator : ℕ} {kids : Forest (expr_children (Expr.Over Same.BinOp) (operator, tt))} → Within (node expr line (Expr.Over Same.BinOp) (operator, tt) kids) statement t → operator ≤ 19
  unfolding fits_rec
  binary_range {operator = operator} w = limit 19 operator _ _ (fits_within h w)

  pub unary_range : {line operator : ℕ} {kids : Forest (expr_children (Expr.Over Same.UnaryOp) (operator, tt))} → Within (node expr line (Expr.Over Same.UnaryOp) (operator, tt) kids) statement t → operator ≤ 1
  unfolding fits_rec
  unary_range {operator = operator} w = limit 1 operator _ _ (fits_within h w)
