-- A record's words written into one of two slices, and the other records' words. Assumes nothing.
use mathlib.Core.Path.{◌≡◌, refl, sym, ap, ◌∙◌}
use Prim.Native.Nat.{ℕ, ◌+◌, ◌*◌, ◌-◌, ◌<◌, ◌≤◌}
use mathlib.Core.Bool.{Bool, true, false}
use mathlib.Core.List.{List, ◌++◌, append_assoc}
use native.Mathlib.Omega.{arith}
use borrow.Author.Tests.{lt-ltb, le-ltb, ltb-true, ltb-false}
use borrow.Rule.Slice.PartMut.{put_mid, take_put, drop_put, same_len_mid}
use lib.Dec.{ltb}
use lib.ListN.{length, take, drop, length-append, length-drop}
use lib.Seq.{slice, take-take, drop-drop, take_at, drop_at, length-take-le}
use Rattle.model.specs.Text.{Bytes}
use Rattle.model.specs.Kind.{Sort}
use Rattle.words.specs.Words.{Roomy, part, max_records, record_words, first_records}
use Rattle.line.specs.LineRead.{LineRead, IntoRead}
use Rattle.std.specs.Prelude.{Option}
use Rattle.record.specs.declared.piece.Piece.{Piece}
use Rattle.laws.specs.PartLaws.{part_is}

-- ── sixteen words in a list ──

module _ (at : ℕ) (xs ys : List ℕ) (h : at + record_words ≤ length xs) (n : length ys ≡ record_words) where
  abbrev written : List ℕ
  written = put_mid at (at + record_words - at) xs ys

  head_long : length (take at xs ++ ys) ≡ at + record_words
  head_long = rw length-append (omega (arith, length-take-le at xs (omega arith)))

  here : slice at (at + record_words) written ≡ ys
  here =
      ap (λ l. drop at (take (at + record_words) l)) (sym (append_assoc (take at xs) ys _))
      ∙ ap (drop at) (take_at (take at xs ++ ys) _ (at + record_words) head_long)
      ∙ drop_at (take at xs) ys at (length-take-le at xs (omega arith))

  before : (k : ℕ) → k + record_words ≤ at → slice k (k + record_words) written ≡ slice k (k + record_words) xs
  before k l =
      ap (drop k) (sym (take-take (k + record_words) at written l) ∙ ap (take (k + record_words)) (take_put at (at + record_words - at) xs ys (omega arith)) ∙ take-take (k + record_words) at xs l)

  behind : (k : ℕ) → at + record_words ≤ k → slice k (k + record_words) written ≡ slice k (k + record_words) xs
  behind k l =
      let far : at + record_words + (k - (at + record_words)) ≡ k = omega arith in
      let same : drop (at + record_words) written ≡ drop (at + record_words) xs = drop_put at (at + record_words) xs ys (omega arith) h (omega arith) in
      let from : drop k written ≡ drop k xs = ap (λ m. drop m written) (sym far) ∙ sym (drop-drop (k - (at + record_words)) (at + record_words) written) ∙ ap (drop (k - (at + record_words))) same ∙ drop-drop (k - (at + record_words)) (at + record_words) xs ∙ ap (λ m. drop m xs) far in
      sym (part_is k (k + record_words) written) ∙ ap (take (k + record_words - k)) from ∙ part_is k (k + record_words) xs

  -- another sixteen
  other : (i j : ℕ) → at ≡ i * record_words → (j ≡ i → ⊥) → slice (j * record_words) (j * record_words + record_words) written ≡ slice (j * record_words) (j * record_words + record_words) xs
  other i j e ne = go (ltb j i) refl
    where
      go : (t : Bool) → ltb j i ≡ t → slice (j * record_words) (j * record_words + record_words) written ≡ slice (j * record_words) (j * record_words + record_words) xs
      go true q = before (j * record_words) (omega (arith, ltb-true j i q))
      go false q = behind (j * record_words) (omega (arith, ltb-false j i q))

  long : length written ≡ length xs
  long = same_len_mid at (at + record_words - at) xs ys (n ∙ sym middle)
    where
      middle : length (take (at + record_words - at) (drop at xs)) ≡ record_words
      middle = length-take-le (at + record_words - at) (drop at xs) (rw length-drop (omega arith)) ∙ omega arith

-- ── in two slices ──

part_low : (a b : List ℕ) (i : ℕ) → i < first_records → part a b i ≡ slice (i * record_words) (i * record_words + record_words) a
unfolding part
part_low a b i h = rw (lt-ltb i first_records h)

part_high : (a b : List ℕ) (i : ℕ) → first_records ≤ i → part a b i ≡ slice ((i - first_records) * record_words) ((i - first_records) * record_words + record_words) b
unfolding part
part_high a b i h = rw (le-ltb i first_records h)

module _ (s : Sort) (sheet : Bytes) (p e i : ℕ) (a b ys : List ℕ) (r : Option (Piece ℕ)) (room : Roomy a b) (l : LineRead s sheet p e ys r) where
  module _ (low : i < first_records) where
    fits : i * record_words + record_words ≤ length a
    fits = omega (arith, room.first)

    pub into_first : IntoRead s sheet p e i a b (put_mid (i * record_words) (i * record_words + record_words - i * record_words) a ys) b r
    into_first =
        record {
          line = rw (part_low _ b i low, here (i * record_words) a ys fits l.long) l;
          others = λ j k ne. go j ne (ltb j first_records) refl;
          first = long (i * record_words) a ys fits l.long;
          second = refl;
        }
      where
        go : (j : ℕ) → (j ≡ i → ⊥) → (t : Bool) → ltb j first_records ≡ t → part (put_mid (i * record_words) (i * record_words + record_words - i * record_words) a ys) b j ≡ part a b j
        go j ne true q = part_low _ b j (ltb-true j first_records q) ∙ other (i * record_words) a ys fits l.long i j refl ne ∙ sym (part_low a b j (ltb-true j first_records q))
        go j ne false q = part_high _ b j (ltb-false j first_records q) ∙ sym (part_high a b j (ltb-false j first_records q))

  module _ (high : first_records ≤ i) (low : i < max_records) where
    room_in_law : (i - first_records) * record_words + record_words ≤ length b
    room_in_law = omega (arith, room.second)

    pub into_second : IntoRead s sheet p e i a b a (put_mid ((i - first_records) * record_words) ((i - first_records) * record_words + record_words - (i - first_records) * record_words) b ys) r
    into_second =
        record {
          line = rw (part_high a _ i high, here ((i - first_records) * record_words) b ys room_in_law l.long) l;
          others = λ j k ne. go j ne (ltb j first_records) refl;
          first = refl;
          second = long ((i - first_records) * record_words) b ys room_in_law l.long;
        }
      where
        go : (j : ℕ) → (j ≡ i → ⊥) → (t : Bool) → ltb j first_records ≡ t → part a (put_mid ((i - first_records) * record_words) ((i - first_records) * record_words + record_words - (i - first_records) * record_words) b ys) j ≡ part a b j
        go j ne true q = part_low a _ j (ltb-true j first_records q) ∙ sym (part_low a b j (ltb-true j first_records q))
        go j ne false q =
            let up : first_records ≤ j = ltb-false j first_records q in
            part_high a _ j up ∙ other ((i - first_records) * record_words) b ys room_in_law l.long (i - first_records) (j - first_records) refl (λ z. ne (omega arith)) ∙ sym (part_high a b j up)
