-- The field at a place, from its pieces one by one. Assumes nothing.
use mathlib.Core.Path.{◌≡◌, refl, sym, ap, ◌∙◌}
use Prim.Native.Nat.{ℕ, ◌+◌, ◌-◌, ◌<◌, ◌≤◌}
use mathlib.Core.Bool.{Bool, true, false}
use mathlib.Core.List.{[], ◌∷◌}
use Rattle.std.specs.Prelude.{Option, None, Some}
use native.Mathlib.Omega.{arith}
use borrow.Author.Tests.{ltb-true, ltb-false}
use lib.Dec.{ltb}
use lib.ListN.{length, take, drop, get_or, length-take}
use lib.Seq.{slice}
use Rattle.model.specs.Text.{Bytes, tab}
use Rattle.model.specs.Field.{Form, u32, num, span, read, width}
use Rattle.model.specs.Field
use Rattle.record.specs.Answer.{is_read}
use Rattle.record.specs.AnswerLaws.{read_meaning, read_none}
use Rattle.record.specs.Place.{LineEnd, Ends}
use Rattle.record.proofs.PlaceLaws.{there}
use Rattle.laws.specs.FieldLaws.{read_spell}
use Rattle.words.specs.Words.{field_of, pieces_of}
use Rattle.words.specs.Held.{PlaceAt}
use Rattle.line.specs.Place.{pieces_at, PieceAt}
use Rattle.record.specs.declared.piece.Piece.{Piece}
use Rattle.line.specs.FieldRead.{words_value, WordsAt, BehindAt, FieldAt, FieldHere}
use Rattle.line.specs.declared.field.Words.{Words}
use Rattle.laws.specs.PartLaws.{part_is}
use Rattle.line.proofs.PlaceLaws.{piece_at, line_behind, line_done, pieces_from, none_left, some_left}
use Rattle.line.proofs.SpanLaws.{too_few, span_none, span_other, span_some, span_back}

-- no field where the pieces are too few
few : (f : Form) (sheet : Bytes) (p e : ℕ) → length (pieces_at sheet p e) < width f → FieldAt f sheet p e None
few f sheet p e h =
    record {
      words = record { is = too_few f _ (simp length-take (omega arith)); fit = tt };
      behind = tt;
    }

module _ (sheet : Bytes) (p e : ℕ) (l : LineEnd sheet p e) (r : ℕ) (h : Ends sheet p r) where
  inside : e ≤ length sheet
  inside = omega (arith, l.to)

  f : PieceAt sheet p e r
  f = piece_at sheet p e l r h

  all : pieces_at sheet p e ≡ slice p r sheet ∷ pieces_at sheet (r + 1) e
  all = pieces_from sheet p e r inside f e f.to (omega arith)

  -- ── one piece ──

  module _ (g : Form) (one : width g ≡ 1) where
    one_behind : BehindAt g sheet p e r
    one_behind = record { from = f.from; to = f.to; stop = f.stop; pieces = rw (one, all) refl }

  -- ── the last piece ──

  last_few : (g : Form) → 1 < width g → r ≡ e → FieldAt g sheet p e None
  last_few g k q = few g sheet p e (rw (all, none_left sheet (r + 1) e (omega arith)) k)

  -- ── a second piece ──

  module _ (t : ℕ) (g : PieceAt sheet (r + 1) e t) where
    two : pieces_at sheet p e ≡ slice p r sheet ∷ slice (r + 1) t sheet ∷ pieces_at sheet (t + 1) e
    two = all ∙ ap (λ l. slice p r sheet ∷ l) (pieces_from sheet (r + 1) e t inside g e g.to (omega arith))

    two_behind : BehindAt span sheet p e t
    unfolding width
    two_behind = record { from = omega (arith, f.from, g.from); to = g.to; stop = g.stop; pieces = rw two refl }

    second_few : t ≡ e → FieldAt Field.length sheet p e None
    unfolding width
    second_few q = few Field.length sheet p e (rw (two, none_left sheet (t + 1) e (omega arith)) (omega arith))

    -- ── a third piece ──

    module _ (v : ℕ) (k : PieceAt sheet (t + 1) e v) where
      three : (d : ℕ) → v ≤ d → d ≤ e → pieces_at sheet p d ≡ slice p r sheet ∷ slice (r + 1) t sheet ∷ slice (t + 1) v sheet ∷ pieces_at sheet (v + 1) d
      three d a b =
          pieces_from sheet p e r inside f d (omega (arith, g.from, k.from)) b
          ∙ ap (λ l. slice p r sheet ∷ l) (pieces_from sheet (r + 1) e t inside g d (omega (arith, k.from)) b
          ∙ ap (λ l. slice (r + 1) t sheet ∷ l) (pieces_from sheet (t + 1) e v inside k d a b))

      held : pieces_of (slice p v sheet) ≡ slice p r sheet ∷ slice (r + 1) t sheet ∷ slice (t + 1) v sheet ∷ []
      held = sym (some_left sheet p v (omega (arith, f.from, g.from, k.from))) ∙ three v (omega arith) k.to ∙ ap (λ l. slice p r sheet ∷ slice (r + 1) t sheet ∷ slice (t + 1) v sheet ∷ l) (none_left sheet (v + 1) v (omega arith))

      module _ (o : Bool) (q : o ≡ is_read (read Field.length (take (r - p) (drop p sheet) ∷ take (t - (r + 1)) (drop (r + 1) sheet) ∷ take (v - (t + 1)) (drop (t + 1) sheet) ∷ []))) where
        is_read_law : o ≡ is_read (read Field.length (slice p r sheet ∷ slice (r + 1) t sheet ∷ slice (t + 1) v sheet ∷ []))
        is_read_law = rw (part_is p r sheet, part_is (r + 1) t sheet, part_is (t + 1) v sheet) at q

        three_is : o ≡ true → FieldAt Field.length sheet p e (Some (record { value = record { first = p; second = v }; end = v }))
        unfolding width field_of
        three_is s =
            let is = read_meaning Field.length _ (sym is_read_law ∙ s) in
            let place : PlaceAt Field.length sheet p v =
            record {
              from = omega (arith, f.from, g.from, k.from);
              to = omega (arith, k.to, inside);
              spelled = rw held (read_spell Field.length _ _ is).0;
            } in
            record {
              words = rw (three e k.to (omega arith)) (record { is = rw held is; fit = (tt, place) });
              behind = record { from = omega (arith, f.from, g.from, k.from); to = k.to; stop = k.stop; pieces = rw (three e k.to (omega arith)) refl };
            }

        three_not : o ≡ false → FieldAt Field.length sheet p e None
        unfolding width
        three_not s = record { words = rw (three e k.to (omega arith)) (record { is = read_none Field.length _ (sym is_read_law ∙ s); fit = tt }); behind = tt }

-- ── a field of one piece ──

pub one_here : (g : Form) → width g ≡ 1 → (sheet : Bytes) (p : ℕ) (w : Option (Piece Words)) → WordsAt g sheet p w → FieldHere g sheet p w
one_here g one sheet p (Some r) k e l = record { words = rw (one, all sheet p e l r.end k.ends) (k.is r.end k.ends); behind = one_behind sheet p e l r.end k.ends g one }
one_here g one sheet p None k e l = let r = there sheet p e l in record { words = rw (one, all sheet p e l r.0 r.1) (k.is r.0 r.1); behind = tt }

-- ── a span ──

module _ (sheet : Bytes) (p : ℕ) (w : Option (Piece Words)) (k : WordsAt (num u32) sheet p w) where
  pub span_start_not : w ≡ None → FieldHere span sheet p None
  unfolding width
  span_start_not q e l = go (there sheet p e l).0 (there sheet p e l).1 (ltb (there sheet p e l).0 e) refl
    where
      none : (r : ℕ) → Ends sheet p r → read (num u32) (slice p r sheet ∷ []) ≡ words_value (num u32) sheet None
      none r h = ((rw q at k).is r h).is

      go : (r : ℕ) → Ends sheet p r → (t : Bool) → ltb r e ≡ t → FieldAt span sheet p e None
      go r h true b =
          let on = line_behind sheet p e l r h ((piece_at sheet p e l r h).stop (ltb-true r e b)) in
          let t = there sheet (r + 1) e on in
          record { words = rw (two sheet p e l r h t.0 (piece_at sheet (r + 1) e on t.0 t.1)) (record { is = span_none _ _ (none r h); fit = tt }); behind = tt }
      go r h false b = last_few sheet p e l r h span (omega arith) (let up = ltb-false r e b in omega (arith, (piece_at sheet p e l r h).to))

  module _ (b : Piece Words) (q : w ≡ Some b) where
    pub ends : Ends sheet p b.end
    ends = (rw q at k).ends

    start : read (num u32) (slice p b.end sheet ∷ []) ≡ Some b.value.first
    unfolding field_of
    start = ((rw q at k).is b.end ends).is

    pub span_few : (get_or sheet b.end 0 ≡ tab → ⊥) → FieldHere span sheet p None
    unfolding width
    span_few z e l = last_few sheet p e l b.end ends span (omega arith) (line_done sheet p e l b.end ends z)

    module _ (z : get_or sheet b.end 0 ≡ tab) (v : Option (Piece Words)) (m : WordsAt (num u32) sheet (b.end + 1) v) where
      pub span_end_not : v ≡ None → FieldHere span sheet p None
      unfolding width
      span_end_not s e l =
          let on = line_behind sheet p e l b.end ends z in
          let t = there sheet (b.end + 1) e on in
          record { words = rw (two sheet p e l b.end ends t.0 (piece_at sheet (b.end + 1) e on t.0 t.1)) (record { is = span_other _ _ ((rw s at m).is t.0 t.1).is; fit = tt }); behind = tt }

      module _ (d : Piece Words) (s : v ≡ Some d) where
        ends₂ : Ends sheet (b.end + 1) d.end
        ends₂ = (rw s at m).ends

        finish : read (num u32) (slice (b.end + 1) d.end sheet ∷ []) ≡ Some d.value.first
        unfolding field_of
        finish = ((rw s at m).is d.end ends₂).is

        second : (e : ℕ) → LineEnd sheet p e → PieceAt sheet (b.end + 1) e d.end
        second e l = piece_at sheet (b.end + 1) e (line_behind sheet p e l b.end ends z) d.end ends₂

        pub span_is : b.value.first ≤ d.value.first → FieldHere span sheet p (Some (record { value = record { first = b.value.first; second = d.value.first }; end = d.end }))
        unfolding width field_of
        span_is u e l = record { words = rw (two sheet p e l b.end ends d.end (second e l)) (record { is = span_some _ _ b.value.first d.value.first start finish u; fit = (tt, tt) }); behind = two_behind sheet p e l b.end ends d.end (second e l) }

        pub span_not : d.value.first < b.value.first → FieldHere span sheet p None
        unfolding width
        span_not u e l = record { words = rw (two sheet p e l b.end ends d.end (second e l)) (record { is = span_back _ _ b.value.first d.value.first start finish u; fit = tt }); behind = tt }

-- ── a length ──

module _ (sheet : Bytes) (p r : ℕ) (h : Ends sheet p r) where
  pub hops_first : (get_or sheet r 0 ≡ tab → ⊥) → FieldHere Field.length sheet p None
  unfolding width
  hops_first z e l = last_few sheet p e l r h Field.length (omega arith) (line_done sheet p e l r h z)

  module _ (z : get_or sheet r 0 ≡ tab) (t : ℕ) (g : Ends sheet (r + 1) t) where
    behind_first : (e : ℕ) → LineEnd sheet p e → LineEnd sheet (r + 1) e
    behind_first e l = line_behind sheet p e l r h z

    second_piece : (e : ℕ) → LineEnd sheet p e → PieceAt sheet (r + 1) e t
    second_piece e l = piece_at sheet (r + 1) e (behind_first e l) t g

    pub hops_second : (get_or sheet t 0 ≡ tab → ⊥) → FieldHere Field.length sheet p None
    hops_second y e l = second_few sheet p e l r h t (second_piece e l) (line_done sheet (r + 1) e (behind_first e l) t g y)

    module _ (y : get_or sheet t 0 ≡ tab) (v : ℕ) (k : Ends sheet (t + 1) v) where
      third_piece : (e : ℕ) → LineEnd sheet p e → PieceAt sheet (t + 1) e v
      third_piece e l = piece_at sheet (t + 1) e (line_behind sheet (r + 1) e (behind_first e l) t g y) v k

      module _ (o : Bool) (q : o ≡ is_read (read Field.length (take (r - p) (drop p sheet) ∷ take (t - (r + 1)) (drop (r + 1) sheet) ∷ take (v - (t + 1)) (drop (t + 1) sheet) ∷ []))) where
        pub hops_is : o ≡ true → FieldHere Field.length sheet p (Some (record { value = record { first = p; second = v }; end = v }))
        hops_is s e l = three_is sheet p e l r h t (second_piece e l) v (third_piece e l) o q s

        pub hops_not : o ≡ false → FieldHere Field.length sheet p None
        hops_not s e l = three_not sheet p e l r h t (second_piece e l) v (third_piece e l) o q s
