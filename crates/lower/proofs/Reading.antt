-- What the code has read off the words, put for what stands there: equations as premises. Assumes nothing.
use mathlib.Core.Path.{◌≡◌, refl, sym, ◌∙◌}
use Prim.Native.Nat.{ℕ, ◌+◌}
use mathlib.Core.List.{List}
use Rattle.model.specs.Lower.{map_var, endpoint_var}
use Rattle.std.specs.Prelude.{Option, cond, eqb}
use borrow.Author.Tests.{eq-eqb, ne_eqb}
use Rattle.words.specs.Words.{cell, option_of}
use Rattle.words.specs.Places.{kind_at, node_kind, element_named_at, element_var_at, node_labels_at, node_props_at, rel_props_at}
use Rattle.words.specs.declared.records.Records.{Records}
use Rattle.context.specs.Tables.{Numbers}
use Rattle.context.specs.declared.LowerCtx.{LowerCtx}
use Rattle.context.specs.declared.Numbered.{Numbered}
use Rattle.lower.specs.Rep.{Mem}
use Rattle.lower.specs.Pieces.{LowersExprs}
use Rattle.lower.specs.Chains.{ElementAt, node_at, rel_at}
use Rattle.lower.specs.declared.Element.{Element}
use Rattle.lower.specs.declared.Element.TheVariants as element

-- a variable that may be absent
pub endpoint_read : {o o' : Option ℕ} {place : ℕ} {c : LowerCtx} {rs rs' : List ℕ} {r : Numbered} → o ≡ o' → Numbers (endpoint_var o) place c rs rs' r → Numbers (endpoint_var o') place c rs rs' r
endpoint_read e n = rw e at n

pub var_read : {x x' place : ℕ} {c : LowerCtx} {rs rs' : List ℕ} {r : Numbered} → x ≡ x' → Numbers (map_var x) place c rs rs' r → Numbers (map_var x') place c rs rs' r
var_read e n = rw e at n

-- expressions from a record on
pub exprs_read : {a b : List ℕ} {n gap d base j j' e : ℕ} {m m' : Mem} → j ≡ j' → LowersExprs a b n gap d base j e m m' → LowersExprs a b n gap d base j' e m m'
exprs_read e p = rw e at p

-- an element, by what is below its record
module _ {a b : List ℕ} {i k n f p : ℕ} {o : Option ℕ} (ek : k ≡ cell a b i kind_at) where
  pub read_node : k ≡ node_kind → o ≡ option_of (cell a b i element_named_at) (cell a b i element_var_at) → n ≡ cell a b i node_labels_at → f ≡ i + 1 + n → p ≡ cond (eqb (cell a b i kind_at) node_kind) (cell a b i node_props_at) (cell a b i rel_props_at) → ElementAt a b i (element.Node (record { bind = o; first = f; props = p }))
  read_node e eo en ef ep = let is = sym ek ∙ e in node_at _ refl is (record { bind = eo; first = rw en at ef; props = rw (eq-eqb _ _ is) at ep })

  pub read_rel : ((k ≡ node_kind) → ⊥) → o ≡ option_of (cell a b i element_named_at) (cell a b i element_var_at) → n ≡ cell a b i node_labels_at → f ≡ i + 1 + n → p ≡ cond (eqb (cell a b i kind_at) node_kind) (cell a b i node_props_at) (cell a b i rel_props_at) → ElementAt a b i (element.Rel (record { bind = o; first = f; props = p }))
  read_rel e eo en ef ep = let not : (cell a b i kind_at ≡ node_kind) → ⊥ = λ z. e (ek ∙ z) in rel_at _ refl not (record { bind = eo; first = rw en at ef; props = rw (ne_eqb _ _ not) at ep })

-- what is read of a record that was taken from among all
module _ {r r' : Records} {i i' : ℕ} (taken : (r ≡ r') × (i ≡ i')) where
  pub element_read : {x : Element} → ElementAt r.a.now r.b.now i x → ElementAt r'.a.now r'.b.now i' x
  element_read p = rw (taken.0, taken.1) at p

  pub bind_read : {o : Option ℕ} → o ≡ option_of (cell r.a.now r.b.now i element_named_at) (cell r.a.now r.b.now i element_var_at) → o ≡ option_of (cell r'.a.now r'.b.now i' element_named_at) (cell r'.a.now r'.b.now i' element_var_at)
  bind_read p = rw (taken.0, taken.1) at p
