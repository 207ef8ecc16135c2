-- The numbers of the kinds that the code tells apart, as the first word of a record has them. Assumes nothing.
use Rattle.std.specs.Prelude.{◌≡◌, refl, Bool, true, false, cond, eqb, ℕ, ◌<◌, List, [], ◌∷◌, Some}
use Rattle.std.proofs.Common.{◌∙◌, eqb-true, arith}
use Rattle.std.proofs.lemmas.Bool.{false≢true}
use Rattle.model.specs.Kind.{Clause, PatternElement, Same, Expr, clause, pattern_element, expr}
use Rattle.model.specs.Record.{kinds, sames}
use Rattle.words.specs.Words.{kind_of, first_kind}
use Rattle.words.specs.Cells.{numbered, number_of}
use Rattle.words.specs.Places.{match_kind, where_kind, with_kind, return_kind, unwind_kind, call_kind, write_kind, node_kind, rel_kind, null_kind, bool_kind, int_kind, float_kind, str_kind, param_kind, prop_kind, index_kind, slice_kind, list_kind, bin_kind, un_kind, case_kind, is_null_kind, in_kind, var_kind, map_kind, fn_kind, pat_kind, list_predicate_kind, unres_kind, undes_kind}

-- none of some numbers, as a `match` leaves it behind its arms, the last arm's first
abbrev pub Others : ℕ → List ℕ → Type 0
Others c [] = Unit {0}
Others c (k ∷ ks) = Others c ks × (c ≡ k → ⊥)

-- a number is one of some
abbrev pub among : ℕ → List ℕ → Bool
among y [] = false
among y (k ∷ ks) = cond (eqb y k) true (among y ks)

pub other_than : (c y : ℕ) (ks : List ℕ) → Others c ks → among y ks ≡ true → c ≡ y → ⊥
other_than c y [] h e q = false≢true e
other_than c y (k ∷ ks) h e q = go (λ r. other_than c y ks h.0 r q) (eqb y k) refl e
  where
    go : (among y ks ≡ true → ⊥) → (t : Bool) → eqb y k ≡ t → cond t true (among y ks) ≡ true → ⊥
    go later true p r = h.1 (q ∙ eqb-true y k p)
    go later false p r = later r

-- ── clauses ──

unfoldable pub clause_number : Clause → ℕ
clause_number Clause.Match = match_kind
clause_number Clause.Where = where_kind
clause_number Clause.With = with_kind
clause_number Clause.Return = return_kind
clause_number Clause.Unwind = unwind_kind
clause_number Clause.Call = call_kind
clause_number Clause.Write = write_kind

pub clause_number_law : (n : ℕ) (k : Clause) → kind_of clause n ≡ Some k → n ≡ clause_number k
unfolding numbered first_kind kinds clause_number
clause_number_law n k h = number_of clause (λ x. clause_number x) refl n k h

-- ── pattern elements ──

unfoldable pub element_number : PatternElement → ℕ
element_number PatternElement.Node = node_kind
element_number PatternElement.Rel = rel_kind

pub element_number_law : (n : ℕ) (k : PatternElement) → kind_of pattern_element n ≡ Some k → n ≡ element_number k
unfolding numbered first_kind kinds element_number
element_number_law n k h = number_of pattern_element (λ x. element_number x) refl n k h

-- ── expressions ──

unfoldable pub same_number : Same → ℕ
same_number Same.Null = null_kind
same_number Same.Bool = bool_kind
same_number Same.Int = int_kind
same_number Same.Float = float_kind
same_number Same.String = str_kind
same_number Same.Param = param_kind
same_number Same.Prop = prop_kind
same_number Same.Index = index_kind
same_number Same.Slice = slice_kind
same_number Same.List = list_kind
same_number Same.BinOp = bin_kind
same_number Same.UnaryOp = un_kind
same_number Same.Case = case_kind
same_number Same.IsNull = is_null_kind
same_number Same.InList = in_kind

unfoldable pub expr_number : Expr → ℕ
expr_number (Expr.Over h) = same_number h
expr_number Expr.Var = var_kind
expr_number Expr.Map = map_kind
expr_number Expr.Call = fn_kind
expr_number Expr.PatternPredicate = pat_kind
expr_number Expr.ListPredicate = list_predicate_kind
expr_number Expr.Unresolved = unres_kind
expr_number Expr.Undesugared = undes_kind

pub expr_number_law : (n : ℕ) (k : Expr) → kind_of expr n ≡ Some k → n ≡ expr_number k
unfolding numbered first_kind kinds sames expr_number same_number
expr_number_law n k h = number_of expr (λ x. expr_number x) refl n k h

pub same_low : (h : Same) → same_number h < var_kind
unfolding same_number
same_low Same.Null = omega arith
same_low Same.Bool = omega arith
same_low Same.Int = omega arith
same_low Same.Float = omega arith
same_low Same.String = omega arith
same_low Same.Param = omega arith
same_low Same.Prop = omega arith
same_low Same.Index = omega arith
same_low Same.Slice = omega arith
same_low Same.List = omega arith
same_low Same.BinOp = omega arith
same_low Same.UnaryOp = omega arith
same_low Same.Case = omega arith
same_low Same.IsNull = omega arith
same_low Same.InList = omega arith
