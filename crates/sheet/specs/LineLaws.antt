-- Lines of a sheet: which of them have their line feed, and how the line of a record that is read stands in the sheet. Assumes nothing.
use Rattle.std.specs.Prelude.{◌≡◌, refl, ℕ, zero, suc, ◌+◌, ◌-◌, ◌<◌, ◌≤◌, Bool, true, false, eqb, ltb, length, take, drop, get_or, Option, None, Some, MatchOption}
use Rattle.std.proofs.Common.{sym, ◌∙◌, add-one, arith, eqb-true, ne_eqb, ltb-true, ltb-false, take-append-drop, drop_of_length-le, take_all, length-take-le, take-take, drop-cons}
use Rattle.std.proofs.Math.Path.{ap}
use mathlib.Core.List.{[], ◌∷◌, ◌++◌, append-nil}
use Rattle.std.proofs.lemmas.Bool.{eqb-false}
use Rattle.std.proofs.Math.Seq.{slice, slice-cons, slice_empty}
use Rattle.std.proofs.lemmas.List.{drop-append-le}
use Rattle.model.specs.Text.{Bytes, line_feed, split}
use Rattle.model.specs.Field.{Fields}
use Rattle.model.specs.Kind.{Sort, Kind}
use Rattle.model.specs.Record.{forms, spell_rec, read_rec}
use Rattle.laws.specs.TextLaws.{Free, each[], split_append, split_line}
use Rattle.laws.specs.RecordLaws.{line_pieces, line_text, read_line_law}
use Rattle.words.specs.Held.{LineAt}
use Rattle.record.specs.Place.{LineEnd, Fed}
use Rattle.line.proofs.PlaceLaws.{free_of}

-- ── which lines have their line feed ──

-- from every place before z on a line feed stands, from z on none
pub record LinesEnd (s : Bytes) (z : ℕ) : Type 0 where
  pub fed : (p : ℕ) → p < z → Fed s p
  pub none : (p : ℕ) → z ≤ p → (split line_feed (drop p s)).more ≡ []

-- the first line feed from p on, if one stands at q
feed_from : (s : Bytes) (q : ℕ) → q < length s → get_or s q 0 ≡ line_feed → (p : ℕ) → p ≤ q → Fed s p
feed_from s q h f p l = go (q - p) p l (omega arith)
  where
    here : (p : ℕ) → p < length s → get_or s p 0 ≡ line_feed → Fed s p
    here p k e = record { end = p; line = record { from = omega arith; to = k; feed = e; free = λ i a b. absurd (omega arith) } }

    back : (p : ℕ) → (get_or s p 0 ≡ line_feed → ⊥) → Fed s (p + 1) → Fed s p
    back p n g = record { end = g.end; line = record { from = omega (arith, g.line.from); to = g.line.to; feed = g.line.feed; free = λ i a b. at i a b (eqb i p) refl } }
      where
        at : (i : ℕ) → p ≤ i → i < g.end → (t : Bool) → eqb i p ≡ t → get_or s i 0 ≡ line_feed → ⊥
        at i a b true e k = n (rw (eqb-true i p e) at k)
        at i a b false e k = let other = eqb-false i p e in g.line.free i (omega (arith, other)) b k

    step : (p : ℕ) → p ≤ q → (t : Bool) → eqb (get_or s p 0) line_feed ≡ t → (p + 1 ≤ q → Fed s (p + 1)) → Fed s p
    step p l true e ih = here p (omega arith) (eqb-true (get_or s p 0) line_feed e)
    step p l false e ih =
        let n = eqb-false (get_or s p 0) line_feed e in
        let other : p ≡ q → ⊥ = λ k. n (rw k f) in
        back p n (ih (omega (arith, other)))

    go : (n p : ℕ) → p ≤ q → q - p ≤ n → Fed s p
    go zero p l k = let e : p ≡ q = omega arith in here p (omega arith) (rw e f)
    go (suc n) p l k = step p l (eqb (get_or s p 0) line_feed) refl (λ m. go n (p + 1) m (omega arith))

-- where the last line feed stands, if there is one
abbrev pub LastFeed : Bytes → Option ℕ → Type 0
LastFeed s r = MatchOption r ((i : ℕ) → i < length s → get_or s i 0 ≡ line_feed → ⊥) (λ z. (z < length s) × (get_or s z 0 ≡ line_feed) × ((i : ℕ) → z < i → i < length s → get_or s i 0 ≡ line_feed → ⊥))

module _ (s : Bytes) where
  unsplit : (t : Bytes) → Free line_feed t → (split line_feed t).more ≡ []
  unfolding split
  unsplit t h = rw (append-nil t) at (ap (λ p. p.more) (split_append line_feed t [] h))

  none_from : (p : ℕ) → ((i : ℕ) → p ≤ i → i < length s → get_or s i 0 ≡ line_feed → ⊥) → (split line_feed (drop p s)).more ≡ []
  none_from p none = go (ltb (length s) p) refl
    where
      go : (t : Bool) → ltb (length s) p ≡ t → (split line_feed (drop p s)).more ≡ []
      go true e = let up : length s ≤ p = omega (arith, ltb-true (length s) p e) in rw (drop_of_length-le s up) (unsplit [] each[])
      go false e =
          let up = ltb-false (length s) p e in
          let sum : p + (length s - p) ≡ length s = omega arith in
          let whole : slice p (p + (length s - p)) s ≡ drop p s = rw (sum, take_all (length s) s (omega arith)) in
          unsplit (drop p s) (rw whole at (free_of line_feed s (length s - p) p (omega arith) (λ i a b. ne_eqb (get_or s i 0) line_feed (none i (omega arith) (omega arith)))))

  pub lines_end_law : (o : Option ℕ) (r : ℕ) → LastFeed s o → MatchOption o (r ≡ 0) (λ z. r ≡ z + 1) → LinesEnd s r
  lines_end_law None r h e = record { fed = λ p k. absurd (omega arith); none = λ p k. none_from p (λ i a b. h i b) }
  lines_end_law (Some z) r h e = record { fed = λ p k. feed_from s z h.0 h.1 p (omega arith); none = λ p k. none_from p (λ i a b. h.2 i (omega arith) b) }

-- ── a line ──

module _ (sheet : Bytes) (p e : ℕ) (line : LineEnd sheet p e) where
  cut_at : (d : ℕ) → e ≤ d → d ≤ length sheet → slice p d sheet ≡ slice p e sheet ++ slice e d sheet
  cut_at d h k =
      let cut : take d sheet ≡ take e sheet ++ slice e d sheet = sym (take-append-drop e (take d sheet)) ∙ ap (λ t. t ++ slice e d sheet) (take-take e d sheet h) in
      let long : p ≤ length (take e sheet) = omega (arith, length-take-le e sheet (omega arith), line.from) in
      ap (drop p) cut ∙ drop-append-le p (take e sheet) (slice e d sheet) long

  -- what stands from p on: the line, its line feed and the other lines
  lines : drop p sheet ≡ slice p e sheet ++ (line_feed ∷ drop (e + 1) sheet)
  lines =
      let whole : take (length sheet) sheet ≡ sheet = take_all (length sheet) sheet (omega arith) in
      let behind : slice e (length sheet) sheet ≡ line_feed ∷ drop (e + 1) sheet = ap (drop e) whole ∙ drop-cons sheet e 0 line.to ∙ rw (line.feed, add-one e) in
      ap (drop p) (sym whole) ∙ cut_at (length sheet) (omega (arith, line.to)) (omega arith) ∙ ap (λ t. slice p e sheet ++ t) behind

  in_line : Free line_feed (slice p e sheet)
  in_line =
      let sum : p + (e - p) ≡ e = omega (arith, line.from) in
      rw sum at (free_of line_feed sheet (e - p) p (omega (arith, line.from, line.to)) (λ i a b. ne_eqb (get_or sheet i 0) line_feed (line.free i a (omega (arith, line.from)))))

  pub line_first : slice p e sheet ≡ (split line_feed (drop p sheet)).first
  line_first = sym (rw lines (ap (λ q. q.first) (split_line line_feed (slice p e sheet) (drop (e + 1) sheet) in_line)))

  pub line_more : (split line_feed (drop p sheet)).more ≡ (split line_feed (drop (e + 1) sheet)).first ∷ (split line_feed (drop (e + 1) sheet)).more
  line_more = rw lines (ap (λ q. q.more) (split_line line_feed (slice p e sheet) (drop (e + 1) sheet) in_line))

  with_feed : slice p (e + 1) sheet ≡ slice p e sheet ++ (line_feed ∷ [])
  with_feed =
      let last : slice e (e + 1) sheet ≡ line_feed ∷ [] = slice-cons e (e + 1) sheet 0 (omega arith) (omega (arith, line.to)) ∙ rw (line.feed, add-one e, slice_empty (suc e) sheet) in
      cut_at (e + 1) (omega arith) (omega (arith, line.to)) ∙ ap (λ t. slice p e sheet ++ t) last

  -- the line of a record that is read stands in the sheet as the record is spelled, line feed and all
  pub line_stands : (s : Sort) (k : Kind s) (f : Fields (forms s k)) → read_rec s (slice p e sheet) ≡ Some (k, f) → LineAt s k f sheet p (e + 1)
  unfolding spell_rec line_text line_pieces
  line_stands s k f q =
      record {
        from = omega (arith, line.from);
        to = omega (arith, line.to);
        spelled = with_feed ∙ ap (λ t. t ++ (line_feed ∷ [])) (read_line_law s (slice p e sheet) (k, f) q).0;
      }
