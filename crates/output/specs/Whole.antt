-- What a whole text does from the start: from `Puts` to the lent slice, and to the call's definition of a written plan. Assumes nothing: every law is proved.
use Rattle.std.specs.Prelude.{◌≡◌, Option, None, Some, Bool, cond, true, false, [], ◌∷◌, ◌++◌, ℕ, ◌<◌, ◌≤◌, ltb, length, take, drop}
use Rattle.std.specs.Borrow.{MutBor}
use Rattle.std.proofs.Common.{refl, sym, ap, ◌∙◌, arith, zero-add, lt-ltb, le-ltb, ltb-true, ltb-false}
use Rattle.std.proofs.lemmas.List.Edits.{sets-eq}
use Rattle.std.proofs.Math.Seq.{take-append_seam}
use Rattle.model.specs.Text.{Bytes}
use Rattle.model.specs.Refusal.{Refusal, accepted, values_of}
use Rattle.model.specs.Call.{written}
use Rattle.output.specs.declared.Page.{Page}
use Rattle.output.specs.Page.{on, most, Puts}

-- what a text that fits leaves of the slice p: the slice q and the cursor o
pub record Written (t p q : Bytes) (o : ℕ) : Type 0 where
  pub slice : q ≡ t ++ drop (length t) p
  pub at : o ≡ length t

-- the first n bytes of q, as long as p, are the text
pub record Fitted (t p q : Bytes) (n : ℕ) : Type 0 where
  pub upper_bound : n ≤ length p
  pub page_after : take n q ≡ t

-- a text that is written from the start of a slice p, which ends as q: where it ends, if it fits
abbrev pub Begins : (t p q : Bytes) → Option ℕ → Type 0
Begins t p q None = length p < length t
Begins t p q (Some n) = Fitted t p q n

-- the slice p, which is shorter than the largest cursor, was lent to a page and ends as q, what that page left under p's name
module _ {t : Bytes} {p : MutBor Bytes} {g : Page} {q : Bytes} (e : Puts t (on p 0) g) (small : length p.now < most) (back : p.ghost_name ≡ g.bytes.ghost_name → q ≡ g.bytes.now) where
  pub ended : q ≡ g.bytes.now
  ended = back (sym e.same)

  pub wrote : length t ≤ length p.now → Written t p.now q g.out
  wrote fits =
      let moved = e.moved in
      record {
        slice = ended ∙ e.stored (record { inside = omega arith; small = omega arith }) ∙ sets-eq t p.now 0 (omega arith) ∙ rw zero-add;
        at = omega arith;
      }

  -- as `Page::used` tells it
  pub begins : {r : Option ℕ} → r ≡ cond (ltb (length g.bytes.now) g.out) None (Some g.out) → Begins t p.now q r
  begins {r} is = rw is (go (ltb (length g.bytes.now) g.out) refl)
    where
      go : (b : Bool) → ltb (length g.bytes.now) g.out ≡ b → Begins t p.now q (cond b None (Some g.out))
      go true l =
          let moved = e.moved in
          let long = e.long in
          let far = ltb-true (length g.bytes.now) g.out l in
          omega arith
      go false l =
          let moved = e.moved in
          let long = e.long in
          let near = ltb-false (length g.bytes.now) g.out l in
          let w = wrote (omega arith) in
          record { upper_bound = omega arith; page_after = rw (w.at, w.slice) (take-append_seam t (drop (length t) p.now)) }

-- ── the call: measure on an empty part at the slice's start, which is x behind the measuring; then refuse with 10 or write ──

none : (x : Bytes) → length x ≡ 0 → x ≡ []
none [] e = refl
none (b ∷ x) e = absurd (omega arith)

module _ (p x : Bytes) (small : length p < most) {t : Bytes} {e : MutBor Bytes} {g : Page} (bare : length x ≡ 0) (first : Puts t (on e 0) g) where
  -- the measured text is longer than the slice, and the slice is as it was
  pub refuses : length (x ++ p) < g.out → record { answer = values_of Refusal.NoRoom; slice = x ++ p } ≡ written t p
  unfolding written
  refuses h =
      let moved = first.moved in
      let l : length p < g.out = rw (none x bare) at h in
      rw (none x bare, lt-ltb (length p) (length t) (omega arith))

  -- it fits, and is written from the start
  pub accepts : g.out ≤ length (x ++ p) → {w : MutBor Bytes} {g' : Page} {q : Bytes} → w.now ≡ x ++ p → Puts t (on w 0) g' → (w.ghost_name ≡ g'.bytes.ghost_name → q ≡ g'.bytes.now) → record { answer = accepted g'.out; slice = q } ≡ written t p
  unfolding written
  accepts h {w} {g'} {q} is second back =
      let moved = first.moved in
      let same : w.now ≡ p = is ∙ rw (none x bare) in
      let long = ap length same in
      let l : g.out ≤ length p = rw (none x bare) at h in
      let done : Written t p q g'.out = rw same at (wrote second (omega arith) back (omega arith)) in
      rw (le-ltb (length p) (length t) (omega arith), done.slice, done.at)
