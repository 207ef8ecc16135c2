-- Laws of texts: the same text, pieces between separators, and texts free of a separator. Assumes nothing: each law is proved.
use Rattle.std.specs.Prelude.{◌≡◌, Bool, true, false, ◌&&◌, ℕ, ◌<◌, eqb, leb}
use Rattle.std.proofs.Math.Path.{refl, ap₂}
use Rattle.std.proofs.Common.{sym, ap, arith, eqb-true, eq-eqb, ne_eqb, leb-true}
use Rattle.std.proofs.lemmas.Bool.{false≢true}
use mathlib.Core.List.{List, [], ◌∷◌, ◌++◌, append-nil}
use Rattle.model.specs.Text.{Bytes, Pieces, same_by, same, split, behind, join, tab, line_feed, minus}

-- what a conjunction says
pub and_left : (a b : Bool) → (a && b) ≡ true → a ≡ true
and_left true b e = refl
and_left false b e = e

pub and_right : (a b : Bool) → (a && b) ≡ true → b ≡ true
and_right true b e = e
and_right false b e = absurd (false≢true e)

-- ── the same list ──

module _ {A : Type 0} (eq : A → A → Bool) where
  pub same_by_sound : ((a b : A) → eq a b ≡ true → a ≡ b) → (s t : List A) → same_by eq s t ≡ true → s ≡ t
  unfolding same_by
  same_by_sound h [] [] e = refl
  same_by_sound h [] (b ∷ t) e = absurd (false≢true e)
  same_by_sound h (a ∷ s) [] e = absurd (false≢true e)
  same_by_sound h (a ∷ s) (b ∷ t) e = ap₂ (λ x xs. x ∷ xs) (h a b (and_left _ _ e)) (same_by_sound h s t (and_right (eq a b) _ e))

  pub same_by_refl : ((a : A) → eq a a ≡ true) → (s : List A) → same_by eq s s ≡ true
  unfolding same_by
  same_by_refl h [] = refl
  same_by_refl h (a ∷ s) = rw (h a) (same_by_refl h s)

pub same_sound : (s t : Bytes) → same s t ≡ true → s ≡ t
unfolding same
same_sound s t e = same_by_sound (λ a b. eqb a b) (λ a b. eqb-true a b) s t e

pub same_refl : (s : Bytes) → same s s ≡ true
unfolding same
same_refl s = same_by_refl (λ a b. eqb a b) (λ a. eq-eqb a a refl) s

-- lists of pieces
pub pieces_sound : (s t : List Bytes) → same_by (λ a b. same a b) s t ≡ true → s ≡ t
pieces_sound s t e = same_by_sound (λ a b. same a b) (λ a b. same_sound a b) s t e

pub pieces_refl : (s : List Bytes) → same_by (λ a b. same a b) s s ≡ true
pieces_refl s = same_by_refl (λ a b. same a b) (λ a. same_refl a) s

-- ── each element of a list ──

pub data Each {A : Type 0} (P : A → Type 0) : List A → Type 0 where
  each[] : Each P []
  ◌each∷◌ : {a : A} {l : List A} → P a → Each P l → Each P (a ∷ l)

infixr 50 ◌each∷◌
module _ {A : Type 0} {P : A → Type 0} where
  pub each_head : {a : A} {l : List A} → Each P (a ∷ l) → P a
  each_head (p each∷ ps) = p

  pub each_tail : {a : A} {l : List A} → Each P (a ∷ l) → Each P l
  each_tail (p each∷ ps) = ps

  pub each_append : {s t : List A} → Each P s → Each P t → Each P (s ++ t)
  each_append each[] q = q
  each_append (p each∷ ps) q = p each∷ each_append ps q

  pub each_left : (s t : List A) → Each P (s ++ t) → Each P s
  each_left [] t h = each[]
  each_left (a ∷ s) t (p each∷ ps) = p each∷ each_left s t ps

  pub each_right : (s t : List A) → Each P (s ++ t) → Each P t
  each_right [] t h = h
  each_right (a ∷ s) t (p each∷ ps) = each_right s t ps

pub each_map : {A : Type 0} {P Q : A → Type 0} {l : List A} → ((a : A) → P a → Q a) → Each P l → Each Q l
each_map h each[] = each[]
each_map h (◌each∷◌ {a} p ps) = h a p each∷ each_map h ps

-- ── free of a separator ──

abbrev pub Free : ℕ → Bytes → Type 0
Free sep = Each (λ b. eqb b sep ≡ false)

-- the separators of a sheet
pub data Separator : ℕ → Type 0 where
  between_fields : Separator tab
  between_lines : Separator line_feed

-- both stand below the bytes of numbers and keywords, of which the least is the minus sign
pub separator_low : {sep : ℕ} → Separator sep → sep < minus
separator_low between_fields = omega arith
separator_low between_lines = omega arith

-- no piece holds the separator
pub record Parted (sep : ℕ) (p : Pieces) : Type 0 where
  pub first : Free sep p.first
  pub more : Each (Free sep) p.more

-- a test that all elements pass
unfoldable pub every : {A : Type 0} → (A → Bool) → List A → Bool
every test [] = true
every test (a ∷ l) = test a && every test l

-- bytes above a separator are free of it
pub above_free : (low sep : ℕ) → sep < low → (s : Bytes) → every (λ b. leb low b) s ≡ true → Free sep s
unfolding every
above_free low sep h [] e = each[]
above_free low sep h (b ∷ s) e = ne_eqb b sep (omega (arith, leb-true low b (and_left (leb low b) _ e))) each∷ above_free low sep h s (and_right (leb low b) _ e)

-- a text in front that is free of the separator goes to the first piece
pub split_append : (sep : ℕ) (s t : Bytes) → Free sep s → split sep (s ++ t) ≡ record { first = s ++ (split sep t).first; more = (split sep t).more }
unfolding split
split_append sep [] t h = refl
split_append sep (b ∷ s) t (p each∷ ps) = rw (p, split_append sep s t ps)

-- and a separator begins another piece
pub split_sep : (sep : ℕ) (t : Bytes) → split sep (sep ∷ t) ≡ record { first = []; more = (split sep t).first ∷ (split sep t).more }
unfolding split
split_sep sep t = rw (eq-eqb sep sep refl)

-- a piece, a separator and the rest
pub split_line : (sep : ℕ) (s t : Bytes) → Free sep s → split sep (s ++ (sep ∷ t)) ≡ record { first = s; more = (split sep t).first ∷ (split sep t).more }
split_line sep s t h = rw (split_append sep s (sep ∷ t) h, split_sep sep t, append-nil s)

split_behind : (sep : ℕ) (ps : List Bytes) → Each (Free sep) ps → split sep (behind sep ps) ≡ record { first = []; more = ps }
unfolding split behind
split_behind sep [] h = refl
split_behind sep (p ∷ ps) (q each∷ qs) = rw (eq-eqb sep sep refl, split_append sep p (behind sep ps) q, split_behind sep ps qs, append-nil p)

-- splitting is the inverse of joining
pub split_join : (sep : ℕ) (p : Pieces) → Parted sep p → split sep (join sep p) ≡ p
unfolding join
split_join sep p h = rw (split_append sep p.first (behind sep p.more) h.first, split_behind sep p.more h.more, append-nil p.first)

pub join_split : (sep : ℕ) (s : Bytes) → join sep (split sep s) ≡ s
unfolding join split behind
join_split sep [] = refl
join_split sep (b ∷ s) = go (eqb b sep) refl (join_split sep s)
  where
    go : (t : Bool) → eqb b sep ≡ t → join sep (split sep s) ≡ s → join sep (split sep (b ∷ s)) ≡ b ∷ s
    go true e h = rw e (ap₂ (λ x xs. x ∷ xs) (sym (eqb-true b sep e)) h)
    go false e h = rw e (ap (λ xs. b ∷ xs) h)

-- the pieces of a split are parted
pub split_parted : (sep : ℕ) (s : Bytes) → Parted sep (split sep s)
unfolding split
split_parted sep [] = record { first = each[]; more = each[] }
split_parted sep (b ∷ s) = go (eqb b sep) refl (split_parted sep s)
  where
    go : (t : Bool) → eqb b sep ≡ t → Parted sep (split sep s) → Parted sep (split sep (b ∷ s))
    go true e h = rw e (record { first = each[]; more = h.first each∷ h.more })
    go false e h = rw e (record { first = e each∷ h.first; more = h.more })

-- joined pieces are free of another separator, if they all are
behind_free : (sep other : ℕ) → eqb other sep ≡ false → (ps : List Bytes) → Each (Free sep) ps → Free sep (behind other ps)
unfolding behind
behind_free sep other e [] h = each[]
behind_free sep other e (p ∷ ps) (q each∷ qs) = e each∷ each_append q (behind_free sep other e ps qs)

pub join_free : (sep other : ℕ) → eqb other sep ≡ false → (p : Pieces) → Parted sep p → Free sep (join other p)
unfolding join
join_free sep other e p h = each_append h.first (behind_free sep other e p.more h.more)
