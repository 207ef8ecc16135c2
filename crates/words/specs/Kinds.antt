-- What a tree is whose record's first word is the number of a kind: one inversion law for all sorts, and the numbers of clauses, pattern elements and expressions. Assumes nothing.
use Rattle.std.specs.Prelude.{◌≡◌, refl, ℕ, List, Option, None, Some}
use Rattle.std.proofs.Common.{sym, ap, subst, ◌∙◌}
use Rattle.model.specs.Text.{Bytes}
use Rattle.model.specs.Field.{Fields}
use Rattle.model.specs.Kind.{Sort, Kind, Clause, PatternElement, Same, Expr, clause, pattern_element, expr}
use Rattle.model.specs.Record.{forms, kinds, sames, children}
use Rattle.model.specs.Tree.{Tree, Forest, node}
use Rattle.words.specs.Words.{Roomy, cell, kind_of, first_kind, nth}
use Rattle.words.specs.Places.{kind_at}
use Rattle.words.specs.Held.{Held}
use Rattle.words.specs.Cells.{shown}
use Rattle.words.specs.Numbers.{clause_number, element_number, same_number, expr_number}

some_or : {A : Type 0} → A → Option A → A
some_or x None = x
some_or x (Some y) = y

-- what is said of every record of kind k that stands at record i
abbrev pub Opens : (sheet : Bytes) (a b : List ℕ) (d i : ℕ) (s : Sort) → (Tree s → Type 0) → Kind s → Type 0
Opens sheet a b d i s P k = (line : ℕ) (f : Fields (forms s k)) (kids : Forest (children s k f)) → Held sheet a b (node s line k f kids) d i → P (node s line k f kids)

-- it holds of the tree there, if the first word is that kind's number
pub by_kind : (sheet : Bytes) {a b : List ℕ} (d i : ℕ) {s : Sort} → Roomy a b → (P : Tree s → Type 0) (k : Kind s) → Opens sheet a b d i s P k → (t : Tree s) → Held sheet a b t d i → kind_of s (cell a b i kind_at) ≡ Some k → P t
unfolding Held some_or
by_kind sheet {a} {b} d i room P k opens (node s line k' f kids) hd e =
    let is : k ≡ k' = ap (some_or k) (sym e ∙ (shown room hd.1).kind) in
    subst (λ (x : Kind s). Opens sheet a b d i s P x) is opens line f kids hd

-- ── clauses ──

clause_kind : (k : Clause) → kind_of clause (clause_number k) ≡ Some k
unfolding kind_of first_kind nth kinds clause_number
clause_kind Clause.Match = refl
clause_kind Clause.Where = refl
clause_kind Clause.With = refl
clause_kind Clause.Return = refl
clause_kind Clause.Unwind = refl
clause_kind Clause.Call = refl
clause_kind Clause.Write = refl

pub by_clause : (sheet : Bytes) {a b : List ℕ} (d i : ℕ) → Roomy a b → (P : Tree clause → Type 0) (k : Clause) → Opens sheet a b d i clause P k → (t : Tree clause) → Held sheet a b t d i → cell a b i kind_at ≡ clause_number k → P t
by_clause sheet d i room P k opens t hd e = by_kind sheet d i room P k opens t hd (ap (λ (n : ℕ). kind_of clause n) e ∙ clause_kind k)

-- ── pattern elements ──

element_kind : (k : PatternElement) → kind_of pattern_element (element_number k) ≡ Some k
unfolding kind_of first_kind nth kinds element_number
element_kind PatternElement.Node = refl
element_kind PatternElement.Rel = refl

pub by_element : (sheet : Bytes) {a b : List ℕ} (d i : ℕ) → Roomy a b → (P : Tree pattern_element → Type 0) (k : PatternElement) → Opens sheet a b d i pattern_element P k → (t : Tree pattern_element) → Held sheet a b t d i → cell a b i kind_at ≡ element_number k → P t
by_element sheet d i room P k opens t hd e = by_kind sheet d i room P k opens t hd (ap (λ (n : ℕ). kind_of pattern_element n) e ∙ element_kind k)

-- ── expressions ──

same_kind : (h : Same) → kind_of expr (same_number h) ≡ Some (Expr.Over h)
unfolding kind_of first_kind nth kinds sames same_number
same_kind Same.Null = refl
same_kind Same.Bool = refl
same_kind Same.Int = refl
same_kind Same.Float = refl
same_kind Same.String = refl
same_kind Same.Param = refl
same_kind Same.Prop = refl
same_kind Same.Index = refl
same_kind Same.Slice = refl
same_kind Same.List = refl
same_kind Same.BinOp = refl
same_kind Same.UnaryOp = refl
same_kind Same.Case = refl
same_kind Same.IsNull = refl
same_kind Same.InList = refl

expr_kind : (k : Expr) → kind_of expr (expr_number k) ≡ Some k
unfolding kind_of first_kind nth kinds sames expr_number
expr_kind (Expr.Over h) = same_kind h
expr_kind Expr.Var = refl
expr_kind Expr.Map = refl
expr_kind Expr.Call = refl
expr_kind Expr.PatternPredicate = refl
expr_kind Expr.ListPredicate = refl
expr_kind Expr.Unresolved = refl
expr_kind Expr.Undesugared = refl

pub by_expr : (sheet : Bytes) {a b : List ℕ} (d i : ℕ) → Roomy a b → (P : Tree expr → Type 0) (k : Expr) → Opens sheet a b d i expr P k → (t : Tree expr) → Held sheet a b t d i → cell a b i kind_at ≡ expr_number k → P t
by_expr sheet d i room P k opens t hd e = by_kind sheet d i room P k opens t hd (ap (λ (n : ℕ). kind_of expr n) e ∙ expr_kind k)
