-- A call is told by its number, and its name is where its words say. Assumes nothing: every law is proved.
use mathlib.Core.Path.{◌≡◌, refl, sym, ap, ◌∙◌}
use Prim.Native.Nat.{ℕ, ◌+◌}
use mathlib.Core.Bool.{Bool, false}
use mathlib.Core.List.{List}
use Rattle.model.specs.Text.{Bytes}
use Rattle.model.specs.Field.{Fields, text}
use Rattle.model.specs.Kind.{Expr, expr}
use Rattle.model.specs.Record.{expr_forms}
use Rattle.model.specs.Tree.{Tree, node}
use Rattle.model.specs.Lower.{is_aggregate_func}
use Rattle.words.specs.Words.{Roomy, cell, part, field_of, fields_of}
use Rattle.words.specs.Held.{PlaceAt, RecordAt, Held}
use Rattle.words.specs.Cells.{cells, shown, part_cells}
use Rattle.words.specs.Numbers.{expr_number, expr_number_law}
use Rattle.words.specs.Kinds.{Opens, by_expr}
use Rattle.words.specs.Places.{fn_kind, kind_at, name_at}
use Rattle.lower.specs.Render.{is_aggregate}
use Rattle.aggregate.specs.Names.{SomeExpr}

module _ (sheet : Bytes) (a b : List ℕ) (i : ℕ) (room : Roomy a b) where
  number : {k : Expr} {f : Fields (expr_forms k)} → RecordAt sheet a b i expr k f → cell a b i kind_at ≡ expr_number k
  number {k} h = expr_number_law (cell a b i kind_at) k (shown room h).kind

  -- no call
  pub no_call : (cell a b i kind_at ≡ fn_kind → ⊥) → (d : ℕ) (t : Tree expr) → Held sheet a b t d i → false ≡ is_aggregate t
  unfolding Held is_aggregate expr_number
  no_call n d (node expr line (Expr.Over h) f kids) hd = refl
  no_call n d (node expr line Expr.Var f kids) hd = refl
  no_call n d (node expr line Expr.Map f kids) hd = refl
  no_call n d (node expr line Expr.Call f kids) hd = absurd (n (number hd.1))
  no_call n d (node expr line Expr.PatternPredicate f kids) hd = refl
  no_call n d (node expr line Expr.ListPredicate f kids) hd = refl
  no_call n d (node expr line Expr.Unresolved f kids) hd = refl
  no_call n d (node expr line Expr.Undesugared f kids) hd = refl

  -- a call's name: where it stands, and what it says
  record Named (t : Tree expr) : Type 0 where
    place : PlaceAt text sheet (cell a b i name_at) (cell a b i (name_at + 1))
    is : is_aggregate t ≡ is_aggregate_func (field_of text sheet (cell a b i name_at) (cell a b i (name_at + 1)))

  named_of : (d : ℕ) → Opens sheet a b d i expr (λ t. Named t) Expr.Call
  unfolding Held is_aggregate fields_of
  named_of d line (func, more) kids hd =
      let p : part a b i ≡ cells a b i = part_cells a b i room hd.1.low in
      let q : func ≡ field_of text sheet (cell a b i name_at) (cell a b i (name_at + 1)) = ap (λ (x : Fields (expr_forms Expr.Call)). x.0) (shown room hd.1).fields in
      record { place = (rw p at hd.1.texts).0; is = ap is_aggregate_func q }

  named : cell a b i kind_at ≡ fn_kind → (d : ℕ) (t : Tree expr) → Held sheet a b t d i → Named t
  unfolding expr_number
  named e d t hd = by_expr sheet d i room (λ t. Named t) Expr.Call (named_of d) t hd e

  module _ (x y : ℕ) (e : cell a b i kind_at ≡ fn_kind) (ex : x ≡ cell a b i name_at) (ey : y ≡ cell a b i (name_at + 1)) where
    pub call_place : SomeExpr sheet a b i → PlaceAt text sheet x y
    call_place h = rw (ex, ey) (named e h.depth h.held.tree h.held.is).place

    pub call_is : (r : Bool) → r ≡ is_aggregate_func (field_of text sheet x y) → (d : ℕ) (t : Tree expr) → Held sheet a b t d i → r ≡ is_aggregate t
    call_is r q d t h = q ∙ rw (ex, ey) (sym (named e d t h).is)
