-- How writes join, what they keep, and the two ways of a text in the code. Assumes nothing: every law is proved.
use Rattle.std.specs.Prelude.{◌≡◌, refl, [], ◌∷◌, ◌++◌, ℕ, suc, ◌+◌, ◌-◌, ◌<◌, ◌≤◌, min, length, take, drop}
use Rattle.std.specs.Borrow.{MutBor}
use Rattle.std.proofs.Common.{ap, append_assoc, ◌∙◌, sym, arith, add-zero, length-append}
use Rattle.std.proofs.lemmas.List.{drop-drop}
use Rattle.std.proofs.lemmas.List.Edits.{sets, sets-eq}
use Rattle.std.proofs.Math.Seq.{length-sets}
use Rattle.model.specs.Text.{Bytes}
use Rattle.output.specs.declared.Page.{Page}
use Rattle.output.specs.Page.{on, most, Puts}

infixr 40 ◌⨾◌
-- ── any write ──

pub sets_append : (t u p : Bytes) (i : ℕ) → sets p i (t ++ u) ≡ sets (sets p i t) (i + length t) u
sets_append [] u p i = rw (add-zero i)
sets_append (b ∷ t) u p i = let e : i + suc (length t) ≡ suc i + length t = omega arith in rw e (sets_append t u _ (suc i))

-- one write after another is a write of both texts
pub ◌⨾◌ : {t u : Bytes} {g g' g'' : Page} → Puts t g g' → Puts u g' g'' → Puts (t ++ u) g g''
◌⨾◌ {t} {u} {g} {g'} a b =
    let both = length-append t u in
    record {
      same = b.same ∙ a.same;
      long = b.long ∙ a.long;
      moved = let x = a.moved in let y = b.moved in omega arith;
      stored = λ f.
          let x = a.moved in
          let long = a.long in
          let inside = f.inside in
          let small = f.small in
          let at : g'.out ≡ g.out + length t = omega arith in
          b.stored (record { inside = omega arith; small = omega arith })
          ∙ rw (at, a.stored (record { inside = omega arith; small = omega arith })) (sym (sets_append t u g.bytes.now g.out));
    }

-- no write is a write of no text
pub stay : {g : Page} → Puts [] g g
stay {g} = record { same = refl; long = refl; moved = rw (add-zero g.out); stored = λ f. refl }

-- the n bytes from `at` on, replaced by a text that is as long
pub replaced : (t p : Bytes) (at n : ℕ) → n ≡ length t → at + n ≤ length p → take at p ++ (t ++ drop (at + n - at) (drop at p)) ≡ sets p at t
replaced t p at n e f =
    let m : at + n - at ≡ length t = omega arith in
    rw (m, drop-drop (length t) at p, sets-eq t p at (omega arith)) (sym (append_assoc (take at p) t (drop (at + length t) p)))

-- ── the two ways of a text in the code: the cursor goes on by n bytes, the text's length, and only a text that fits is stored ──

module _ (t : Bytes) (p : MutBor Bytes) (at : ℕ) where
  -- the end is behind the slice's
  pub counted : {n r : ℕ} → n ≡ length t → r ≡ min (at + n) most → length p.now < r → Puts t (on p at) (on p r)
  counted l e h = record { same = refl; long = refl; moved = omega arith; stored = λ f. let inside = f.inside in absurd (omega arith) }

  -- it is not
  pub stored : {q : MutBor Bytes} {n r : ℕ} → q.ghost_name ≡ p.ghost_name → n ≡ length t → r ≡ min (at + n) most → q.now ≡ sets p.now at t → Puts t (on p at) (on q r)
  stored k l e s = record { same = k; long = ap length s ∙ length-sets p.now at t; moved = omega arith; stored = λ f. s }

-- no byte fits an empty slice, so that a text is only counted there
no_bytes : (t : Bytes) → length t ≡ 0 → t ≡ []
no_bytes [] e = refl
no_bytes (b ∷ t) e = absurd (omega arith)

pub measured : (t : Bytes) {p : MutBor Bytes} {at n r : ℕ} → length p.now ≡ 0 → n ≡ length t → r ≡ min (at + n) most → Puts t (on p at) (on p r)
measured t {p} {at} z l e =
    record {
      same = refl;
      long = refl;
      moved = omega arith;
      stored = λ f. let inside = f.inside in let none = no_bytes t (omega arith) in rw none refl;
    }
