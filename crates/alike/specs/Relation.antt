-- Trees alike: the same sorts, lines, kinds and children, and the same fields but for spans, which are free, and ids, which a relation R joins. Assumes nothing: these are definitions.
use Rattle.std.specs.Prelude.{ℕ, zero, suc, List, [], ◌∷◌, Option, None, Some}
use Rattle.model.specs.Field.{Form, num, flag, var, var_or_absent, num_or_absent, number, number_or_absent, int, float, text, alias, span, length, Val, Fields}
use Rattle.model.specs.Kind.{Sort, Kind}
use Rattle.model.specs.Record.{Group, forms, children}
use Rattle.model.specs.Tree.{Tree, Trees, Forest, node, []ᵗ, ◌∷ᵗ◌, end, ◌▸◌}

-- equality as a family, which a clause can match
pub data Equal {A : Type 0} : A → A → Type 0 where
  equal : {a : A} → Equal a a

-- none and none, or two values that are joined
pub data Option~ {A : Type 0} (W : A → A → Type 0) : Option A → Option A → Type 0 where
  none~ : Option~ W None None
  some~ : {a b : A} → W a b → Option~ W (Some a) (Some b)

-- equally many, joined place by place
pub data List~ {A : Type 0} (W : A → A → Type 0) : List A → List A → Type 0 where
  []~ : List~ W [] []
  ◌∷~◌ : {a b : A} {s t : List A} → W a b → List~ W s t → List~ W (a ∷ s) (b ∷ t)

infixr 50 ◌∷~◌
module _ (R : ℕ → ℕ → Type 0) where
  abbrev pub Val~ : (f : Form) → Val f → Val f → Type 0
  Val~ (num l) a b = Equal a b
  Val~ flag a b = Equal a b
  Val~ var a b = R a b
  Val~ var_or_absent a b = Option~ R a b
  Val~ (num_or_absent l) a b = Equal a b
  Val~ (number n) a b = Equal a b
  Val~ (number_or_absent n) a b = Equal a b
  Val~ int a b = Equal a b
  Val~ float a b = Equal a b
  Val~ text a b = Equal a b
  Val~ alias a b = Equal a b
  Val~ span a b = Unit {0}
  Val~ length a b = Equal a b

  abbrev pub Fields~ : (fs : List Form) → Fields fs → Fields fs → Type 0
  Fields~ [] f g = Unit {0}
  Fields~ (v ∷ fs) f g = Val~ v f.0 g.0 × Fields~ fs f.1 g.1

  mutual
    pub data Tree~ : (s : Sort) → Tree s → Tree s → Type 0 where
      node~ : {s : Sort} {line : ℕ} {k : Kind s} {f g : Fields (forms s k)} {x : Forest (children s k f)} {y : Forest (children s k g)} →
          Fields~ (forms s k) f g → Forest~ (children s k f) (children s k g) x y → Tree~ s (node s line k f x) (node s line k g y)

    -- the counts are told apart, since they are fields; related fields make them equal
    pub data Trees~ : (s : Sort) (n m : ℕ) → Trees s n → Trees s m → Type 0 where
      []ᵗ~ : {s : Sort} → Trees~ s zero zero []ᵗ []ᵗ
      ◌∷ᵗ~◌ : {s : Sort} {n m : ℕ} {t u : Tree s} {ts : Trees s n} {us : Trees s m} → Tree~ s t u → Trees~ s n m ts us → Trees~ s (suc n) (suc m) (t ∷ᵗ ts) (u ∷ᵗ us)

    pub data Forest~ : (gs hs : List Group) → Forest gs → Forest hs → Type 0 where
      end~ : Forest~ [] [] end end
      ◌▸~◌ : {s : Sort} {n m : ℕ} {gs hs : List Group} {ts : Trees s n} {us : Trees s m} {x : Forest gs} {y : Forest hs} →
          Trees~ s n m ts us → Forest~ gs hs x y → Forest~ ((s, n) ∷ gs) ((s, m) ∷ hs) (ts ▸ x) (us ▸ y)

infixr 50 ◌∷ᵗ~◌
infixr 40 ◌▸~◌
