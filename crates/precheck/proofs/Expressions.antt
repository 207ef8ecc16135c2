-- Expressions: what the check sees of one, by the number of its kind. Assumes nothing.
use mathlib.Core.Path.{◌≡◌, refl}
use Prim.Native.Nat.{ℕ, suc, ◌+◌, ◌-◌, ◌<◌, ◌≤◌}
use native.Mathlib.Omega.{arith}
use mathlib.Core.List.{List}
use Rattle.words.specs.Places.{kind_at, var_kind, map_kind, pat_kind, unres_kind, undes_kind, undes_kind_at}
use Rattle.model.specs.Text.{Bytes}
use Rattle.model.specs.Field.{Span}
use Rattle.model.specs.Kind.{Expr, expr, entry, projection, order_item, pattern_part}
use Rattle.model.specs.Record.{expr_forms, expr_children}
use Rattle.model.specs.Refusal.{Refusal}
use Rattle.model.specs.Check.{Verdict, fine, violated, of_record, of_expr}
use Rattle.words.specs.Words.{Roomy, cell, fields_of, field_of}
use Rattle.precheck.specs.Steps.{Run}
use Rattle.words.specs.Cells.{cells}
use Rattle.words.specs.Numbers.{same_number, expr_number, same_low, expr_number_law}
use Rattle.precheck.specs.Stands.{At, count_of}
use Rattle.precheck.proofs.Laws.{just, last_of, run_none}
use Rattle.precheck.proofs.Opened.{kids_of, Body, Opened, open_at}

-- ── an expression behind its record ──

module _ {a b : List ℕ} (room : Roomy a b) {d : ℕ} {span : Span} where
  -- a key of a map, whose expression stands beside it
  pub of_entry : (i : ℕ) (v : Verdict) (e : ℕ) → At a b entry d span i v e → At a b expr d span (i + 1) v e
  unfolding of_record
  of_entry i v e h = just (last_of (kids_of (open_at room h).body refl))

  pub of_item : (i : ℕ) (v : Verdict) (e : ℕ) → At a b projection d span i v e → At a b expr (d - 1) span (i + 1) v e
  unfolding of_record
  of_item i v e h = just (last_of (kids_of (open_at room h).body refl))

  pub of_key : (i : ℕ) (v : Verdict) (e : ℕ) → At a b order_item d span i v e → At a b expr (d - 1) span (i + 1) v e
  unfolding of_record
  of_key i v e h = just (last_of (kids_of (open_at room h).body refl))

-- ── an expression ──

-- no number that the check tells apart
pub record Plain (c : ℕ) : Type 0 where
  pub map : c ≡ map_kind → ⊥
  pub pattern : c ≡ pat_kind → ⊥

-- what the check sees below an expression of kind number c with n children
pub data Seen (a b : List ℕ) (d : ℕ) (span : Span) (i : ℕ) (c n : ℕ) (v : Verdict) (e : ℕ) : Type 0 where
  plain : Plain c → Run (At a b expr d span) n (i + 1) v e → Seen a b d span i c n v e
  entries : c ≡ map_kind → Run (At a b entry d span) n (i + 1) v e → Seen a b d span i c n v e
  pattern : c ≡ pat_kind → Run (At a b pattern_part d span) n (i + 1) v e → Seen a b d span i c n v e

module _ {a b : List ℕ} {d : ℕ} {span : Span} {i : ℕ} {v : Verdict} {e : ℕ} where
  pub see : (sheet : Bytes) (c : ℕ) (k : Expr) → c ≡ expr_number k → (o : Body sheet a b expr d span i v e k (fields_of (expr_forms k) sheet (cells a b i) 0)) → of_record expr (suc i) k (fields_of (expr_forms k) sheet (cells a b i) 0) o.forest span ≡ fine → Seen a b (d - 1) span i c (count_of (expr_children k (fields_of (expr_forms k) sheet (cells a b i) 0))) v e
  unfolding expr_number fields_of field_of
  see sheet c (Expr.Over h) n o own = plain (let l : same_number h < var_kind = same_low h in omega arith) (last_of (kids_of o own))
  see sheet c Expr.Var n o own = plain (omega arith) (run_none (kids_of o own))
  see sheet c Expr.Map n o own = entries n (last_of (kids_of o own))
  see sheet c Expr.Call n o own = plain (omega arith) (last_of (kids_of o own))
  see sheet c Expr.PatternPredicate n o own = pattern n (last_of (kids_of o own))
  see sheet c Expr.ListPredicate n o own = plain (omega arith) (last_of (kids_of o own))
  see sheet c Expr.Unresolved n o own = plain (omega arith) (run_none (kids_of o own))
  see sheet c Expr.Undesugared n o own = plain (omega arith) (run_none (kids_of o own))

-- ── the verdict at an expression ──

-- by its kind: an unresolved name, an expression that was not desugared, or nothing
pub record InExpr (a b : List ℕ) (span : Span) (i c : ℕ) (u : Verdict) : Type 0 where
  pub unresolved : c ≡ unres_kind → (x : Bytes) × (u ≡ violated (Refusal.UnresolvedName (suc i) span x))
  pub undesugared : unres_kind ≤ c → (c ≡ unres_kind → ⊥) → u ≡ violated (Refusal.UndesugaredExpr (suc i) span (cell a b i undes_kind_at))
  pub other : (c ≡ unres_kind → ⊥) → (c ≡ undes_kind → ⊥) → u ≡ fine

module _ {a b : List ℕ} {span : Span} {i : ℕ} {u : Verdict} where
  own_expr : (sheet : Bytes) (c : ℕ) (k : Expr) → c ≡ expr_number k → u ≡ of_expr (suc i) k (fields_of (expr_forms k) sheet (cells a b i) 0) span → InExpr a b span i c u
  unfolding expr_number of_expr fields_of field_of
  own_expr sheet c (Expr.Over h) n o = let l : same_number h < var_kind = same_low h in record { unresolved = λ z. absurd (omega arith); undesugared = λ y z. absurd (omega arith); other = λ y z. o }
  own_expr sheet c Expr.Var n o = record { unresolved = λ z. absurd (omega arith); undesugared = λ y z. absurd (omega arith); other = λ y z. o }
  own_expr sheet c Expr.Map n o = record { unresolved = λ z. absurd (omega arith); undesugared = λ y z. absurd (omega arith); other = λ y z. o }
  own_expr sheet c Expr.Call n o = record { unresolved = λ z. absurd (omega arith); undesugared = λ y z. absurd (omega arith); other = λ y z. o }
  own_expr sheet c Expr.PatternPredicate n o = record { unresolved = λ z. absurd (omega arith); undesugared = λ y z. absurd (omega arith); other = λ y z. o }
  own_expr sheet c Expr.ListPredicate n o = record { unresolved = λ z. absurd (omega arith); undesugared = λ y z. absurd (omega arith); other = λ y z. o }
  own_expr sheet c Expr.Unresolved n o = record { unresolved = λ z. (_, o); undesugared = λ y z. absurd (z n); other = λ y z. absurd (y n) }
  own_expr sheet c Expr.Undesugared n o = record { unresolved = λ z. absurd (omega arith); undesugared = λ y z. o; other = λ y z. absurd (z n) }

pub in_expr : {a b : List ℕ} {d : ℕ} {span : Span} {i : ℕ} {u v : Verdict} {e : ℕ} → Opened a b expr d span i u v e → InExpr a b span i (cell a b i kind_at) u
unfolding of_record
in_expr o = own_expr o.sheet _ o.kind (expr_number_law _ _ o.number) o.own
