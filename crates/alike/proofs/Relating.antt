-- Records that are the same when blank, with ids joined place by place, are alike field by field; and ids that are equal exactly where equal are joined one to one. Assumes nothing but the parameter R, which joins the ids.
use Rattle.std.specs.Prelude.{◌≡◌, refl, ◌↔◌, ℕ, suc, ◌<◌, Bool, true, false, eqb, get_or, None, Some}
use Rattle.std.proofs.Common.{sym, ◌∙◌, ap, subst, arith, eqb-true}
use mathlib.Core.List.{List, [], ◌∷◌, ◌++◌, map, append_assoc, nil≢cons, cons≢nil}
use Rattle.std.proofs.lemmas.Option.{none-some}
use Rattle.std.proofs.Math.ListN as ListN
use Rattle.std.proofs.lemmas.Bool.{eqb-false}
use Rattle.model.specs.Field.{Form, num, flag, var, var_or_absent, num_or_absent, number, number_or_absent, int, float, text, alias, span, length, Val, Fields}
use Rattle.model.specs.Kind.{Sort, Kind}
use Rattle.model.specs.Record.{Rec, rec, forms}
use Rattle.alike.specs.Statement.{blank_val, blank_fields, blank, ids_val, ids_fields, ids, Stands}
use Rattle.alike.specs.Relation.{Equal, equal, none~, some~, List~, []~, ◌∷~◌, Val~, Fields~}
use Rattle.alike.specs.Relating.{Rec~, rec~, Joined}

equally : {A : Type 0} {a b : A} → a ≡ b → Equal a b
equally {a} e = subst (λ x. Equal a x) e equal

module _ (R : ℕ → ℕ → Type 0) where
  head~ : (a b : ℕ) (s t : List ℕ) → Joined R (a ∷ s) (b ∷ t) → R a b × Joined R s t
  head~ a b s t h = (h 0 (omega arith), λ i l. h (suc i) (omega arith))

  val~ : (f : Form) (v w : Val f) (s t : List ℕ) → blank_val f v ≡ blank_val f w → Joined R (ids_val f v ++ s) (ids_val f w ++ t) → Val~ R f v w × Joined R s t
  unfolding blank_val ids_val
  val~ (num l) v w s t e h = (equally e, h)
  val~ flag v w s t e h = (equally e, h)
  val~ var v w s t e h = head~ v w s t h
  val~ var_or_absent None None s t e h = (none~, h)
  val~ var_or_absent None (Some w) s t e h = absurd (none-some _ e)
  val~ var_or_absent (Some v) None s t e h = absurd (none-some _ (sym e))
  val~ var_or_absent (Some v) (Some w) s t e h = let x = head~ v w s t h in (some~ x.0, x.1)
  val~ (num_or_absent l) v w s t e h = (equally e, h)
  val~ (number n) v w s t e h = (equally e, h)
  val~ (number_or_absent n) v w s t e h = (equally e, h)
  val~ int v w s t e h = (equally e, h)
  val~ float v w s t e h = (equally e, h)
  val~ text v w s t e h = (equally e, h)
  val~ alias v w s t e h = (equally e, h)
  val~ span v w s t e h = (tt, h)
  val~ length v w s t e h = (equally e, h)

  fields~ : (fs : List Form) (f g : Fields fs) (s t : List ℕ) → blank_fields fs f ≡ blank_fields fs g → Joined R (ids_fields fs f ++ s) (ids_fields fs g ++ t) → Fields~ R fs f g × Joined R s t
  unfolding blank_fields ids_fields
  fields~ [] f g s t e h = (tt, h)
  fields~ (v ∷ fs) (a, f) (b, g) s t e h =
      let j : Joined R (ids_val v a ++ (ids_fields fs f ++ s)) (ids_val v b ++ (ids_fields fs g ++ t)) = rw (append_assoc (ids_val v a) (ids_fields fs f) s, append_assoc (ids_val v b) (ids_fields fs g) t) at h in
      let x = val~ v a b (ids_fields fs f ++ s) (ids_fields fs g ++ t) (ap (λ p. p.0) e) j in
      let y = fields~ fs f g s t (ap (λ p. p.1) e) x.1 in
      ((x.0, y.0), y.1)

-- records with the same blank have the same sort and kind
data Blank : Rec → Rec → Type 0 where
  blank_of : {s : Sort} {k : Kind s} {f b : Fields (forms s k)} → blank_fields (forms s k) f ≡ b → Blank (rec s k b) (rec s k f)

data Both : Rec → Rec → Type 0 where
  both : {s : Sort} {k : Kind s} {f g : Fields (forms s k)} → blank_fields (forms s k) f ≡ blank_fields (forms s k) g → Both (rec s k f) (rec s k g)

meet : {z x y : Rec} → Blank z x → Blank z y → Both x y
meet (blank_of p) (blank_of q) = both (p ∙ sym q)

is_blank : (x : Rec) → Blank (blank x) x
unfolding blank
is_blank x = blank_of refl

same_blank : (x y : Rec) → blank x ≡ blank y → Both x y
same_blank x y e = meet (subst (λ z. Blank z x) e (is_blank x)) (is_blank y)

module _ (R : ℕ → ℕ → Type 0) where
  record~ : {x y : Rec} (xs ys : List Rec) → Both x y → Joined R (ids (x ∷ xs)) (ids (y ∷ ys)) → Rec~ R x y × Joined R (ids xs) (ids ys)
  unfolding ids
  record~ xs ys (both {s = s} {k = k} {f = f} {g = g} e) h = let x = fields~ R (forms s k) f g (ids xs) (ids ys) e h in (rec~ x.0, x.1)

  pub records~ : (rs ss : List Rec) → map (λ r. blank r) rs ≡ map (λ r. blank r) ss → Joined R (ids rs) (ids ss) → List~ (λ x y. Rec~ R x y) rs ss
  records~ [] [] e h = []~
  records~ [] (s ∷ ss) e h = absurd (nil≢cons e)
  records~ (r ∷ rs) [] e h = absurd (cons≢nil e)
  records~ (r ∷ rs) (s ∷ ss) e h =
      let x = record~ {x = r} {y = s} rs ss (same_blank r s (cc)) h in
      x.0 ∷~ records~ rs ss (cc) x.1

-- ── ids that are equal exactly where equal ──

agree : (a x b y : ℕ) → (a ≡ x ↔ b ≡ y) → (p q : Bool) → eqb a x ≡ p → eqb b y ≡ q → p ≡ q
agree a x b y e true true u v = refl
agree a x b y e true false u v = absurd (eqb-false b y v (e.0 (eqb-true a x u)))
agree a x b y e false true u v = absurd (eqb-false a x u (e.1 (eqb-true b y v)))
agree a x b y e false false u v = refl

module _ (s t : List ℕ) where
  pub standing : Joined (λ a b. Stands s t a b) s t
  standing i l = record { place = i; within = l; first = refl; second = refl }

  pub standing_one : ((i j : ℕ) → i < ListN.length s → j < ListN.length s → (get_or s i 0 ≡ get_or s j 0) ↔ (get_or t i 0 ≡ get_or t j 0)) → (a b x y : ℕ) → Stands s t a b → Stands s t x y → eqb a x ≡ eqb b y
  standing_one h a b x y p q =
      let e : (a ≡ x) ↔ (b ≡ y) = rw (p.first, p.second, q.first, q.second) at (h p.place q.place p.within q.within) in
      agree a x b y e (eqb a x) (eqb b y) refl refl
