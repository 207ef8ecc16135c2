-- Fields of several pieces: a span from its two numbers, and pieces that are too few. Assumes nothing.
use mathlib.Core.Path.{◌≡◌, refl, sym, ap, ◌∙◌}
use Prim.Native.Nat.{ℕ, ◌<◌, ◌≤◌}
use mathlib.Core.Bool.{true}
use mathlib.Core.List.{List, [], ◌∷◌}
use Rattle.std.specs.Prelude.{None, Some}
use Rattle.std.proofs.lemmas.Option.{none-some, same_Some}
use native.Mathlib.Omega.{arith}
use borrow.Author.Tests.{leb-true, le-leb}
use lib.Dec.{leb}
use lib.ListN.{length}
use Rattle.model.specs.Text.{Bytes}
use Rattle.model.specs.Field.{Form, Span, num, span, u32, read, spell, fits, width}
use Rattle.laws.specs.TextLaws.{and_left, and_right}
use Rattle.laws.specs.FieldLaws.{limited, spell_width, read_spell}
use Rattle.record.proofs.ReadLaws.{accepted, refused}

pub too_few : (f : Form) (ps : List Bytes) → length ps < width f → read f ps ≡ None
too_few f ps h = refused f ps (λ v e k. omega (arith, spell_width f v, ap length e))

module _ (a b : Bytes) where
  span_first : (v : Span) → spell span v ≡ a ∷ b ∷ [] → fits span v ≡ true → (read (num u32) (a ∷ []) ≡ Some v.start) × (read (num u32) (b ∷ []) ≡ Some v.end) × (v.start ≤ v.end)
  unfolding spell fits limited
  span_first v e h =
      let low : v.start ≤ v.end = leb-true v.start v.end (and_left _ _ h) in
      let high : v.end ≤ u32 = leb-true v.end u32 (and_right (leb v.start v.end) _ h) in
      (accepted (num u32) (a ∷ []) refl v.start (cc e) (le-leb v.start u32 (omega arith)), accepted (num u32) (b ∷ []) refl v.end (cc e) (le-leb v.end u32 high), low)

  pub span_none : read (num u32) (a ∷ []) ≡ None → read span (a ∷ b ∷ []) ≡ None
  span_none e = refused span (a ∷ b ∷ []) (λ v s h. none-some _ (sym e ∙ (span_first v s h).0))

  pub span_other : read (num u32) (b ∷ []) ≡ None → read span (a ∷ b ∷ []) ≡ None
  span_other e = refused span (a ∷ b ∷ []) (λ v s h. none-some _ (sym e ∙ (span_first v s h).1))

  module _ (x y : ℕ) (p : read (num u32) (a ∷ []) ≡ Some x) (q : read (num u32) (b ∷ []) ≡ Some y) where
    pub span_some : x ≤ y → read span (a ∷ b ∷ []) ≡ Some (record { start = x; end = y })
    unfolding spell fits limited
    span_some h =
        let f = read_spell (num u32) (a ∷ []) x p in
        let g = read_spell (num u32) (b ∷ []) y q in
        accepted span (a ∷ b ∷ []) refl (record { start = x; end = y }) (cc (f.0, g.0)) (rw (le-leb x y h) g.1)

    pub span_back : y < x → read span (a ∷ b ∷ []) ≡ None
    span_back h = refused span (a ∷ b ∷ []) (λ v s k. let t = span_first v s k in
        let ex : x ≡ v.start = same_Some _ _ (sym p ∙ t.0) in
        let ey : y ≡ v.end = same_Some _ _ (sym q ∙ t.1) in
        omega (arith, t.2))
