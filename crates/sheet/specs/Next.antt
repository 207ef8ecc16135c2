-- What one line does to the reader's state. Assumes nothing.
use Rattle.std.specs.Prelude.{◌≡◌, ℕ, suc, ◌+◌, ◌-◌, ◌%◌, ◌<◌, ◌≤◌, ◌⊎◌, List, [], ◌∷◌, eqb, drop, get_or, Option, None, Some, Result, Ok, Err}
use Rattle.std.proofs.Math.Path.{ap}
use Rattle.std.proofs.Common.{sym, ◌∙◌, add-one, arith, inl, inr}
use Rattle.std.specs.Option.{option_or}
use Rattle.std.specs.Bool.{then_some}
use Rattle.std.proofs.Math.Seq.{slice}
use Rattle.words.specs.Places.{write_kind, sort_count, line_start_at, children_at, line_end_at}
use Rattle.model.specs.Text.{Bytes, line_feed, split}
use Rattle.model.specs.Field.{Fields}
use Rattle.model.specs.Record.{forms, children, read_rec}
use Rattle.model.specs.Sheet.{refused, read_line}
use Rattle.model.specs.Refusal.{Refusal}
use Rattle.model.specs.Call.{refuse}
use Rattle.words.specs.Table.{sort_of, group_count}
use Rattle.words.proofs.GroupLaws.{children_are}
use Rattle.words.specs.Words.{part, decode, rec_of, fields_of, max_records, two32}
use Rattle.record.specs.Place.{LineEnd}
use Rattle.line.specs.LineRead.{Got, IntoRead}
use Rattle.sheet.specs.declared.reader.ReadError.{ReadError}
use Rattle.sheet.specs.declared.reached.Reached.{Reached}
use Rattle.words.specs.Held.{LineAt, total}
use Rattle.sheet.specs.LineLaws.{line_first, line_more, line_stands}
use Rattle.sheet.specs.Due.{Due, due, room_below, is_zero}
use Rattle.sheet.specs.Writes.{writes}
use Rattle.sheet.specs.Progress.{place_at, line_refused, no_feed, too_many, deep, unformed, well_formed}
use Rattle.sheet.specs.Dues.{dues, Topmost, Taken, Groups, Space}
use Rattle.sheet.specs.Steps.{writes_kind, space, due_now}
use Rattle.sheet.specs.Reader.{read_only, SoFar, refusal_of, rest_refused, advance}

-- behind the line of record i
abbrev pub Next : ℕ → Bytes → List ℕ → List ℕ → List Due → ℕ → Reached → Result (Unit {0}) ReadError → Type 0
Next depth sheet a b st i at (Ok u) = (at.records ≡ i + 1) × SoFar depth sheet a b st at.records at.pos at.write
Next depth sheet a b st i at (Err e) = read_only depth sheet ≡ refuse (refusal_of e)

-- the topmost of m groups has tn records of sort number ts, each with room td
module _ {depth : ℕ} {sheet : Bytes} {a b w : List ℕ} {m i pos : ℕ} {wr : Option ℕ} (ts : ℕ) {tn td : ℕ} (o : SoFar depth sheet a b (dues w m) i pos wr) (topmost : Topmost w m (sort_of ts) tn td) where
  -- with the successor that definitions go by
  state : SoFar depth sheet a b (due (sort_of ts) (suc (tn - 1)) td ∷ dues w (m - 1)) i pos wr
  state = let e : suc (tn - 1) ≡ tn = omega (arith, topmost.top.count) in rw (e, ← topmost.is) o

  line_refuses : (x : ℕ → Refusal) {l : ℕ} → l ≡ i + 1 → read_line (sort_of ts) (is_zero td) (place_at sheet pos (suc i)) ≡ refused (x (suc i)) → read_only depth sheet ≡ refuse (x l)
  line_refuses x q e = rw (q, add-one i) (rest_refused sheet a b (due (sort_of ts) (suc (tn - 1)) td ∷ dues w (m - 1)) i pos wr state (x (suc i)) (line_refused (sort_of ts) (tn - 1) td (dues w (m - 1)) (place_at sheet pos (suc i)) (x (suc i)) e))

  -- from pos on there is no line feed
  pub next_unended : {l : ℕ} → l ≡ i + 1 → (split line_feed (drop pos sheet)).more ≡ [] → read_only depth sheet ≡ refuse (Refusal.BadLine l)
  next_unended k q = line_refuses (λ l. Refusal.BadLine l) k (no_feed sheet pos (suc i) (sort_of ts) td q)

  module _ {e : ℕ} (line : LineEnd sheet pos e) where
    behind : (split line_feed (drop pos sheet)).more ≡ (split line_feed (drop (e + 1) sheet)).first ∷ (split line_feed (drop (e + 1) sheet)).more
    behind = line_more sheet pos e line

    next_many : {l : ℕ} → l ≡ i + 1 → i ≡ max_records → read_only depth sheet ≡ refuse (Refusal.BigTree l)
    next_many k q = line_refuses (λ l. Refusal.BigTree l) k (too_many sheet pos (suc i) (sort_of ts) td (e + 1) behind (omega arith))

    next_deep : {l : ℕ} → l ≡ i + 1 → td ≡ 0 → read_only depth sheet ≡ refuse (Refusal.BigTree l)
    next_deep k q = line_refuses (λ l. Refusal.BigTree l) k (deep sheet pos (suc i) (sort_of ts) td (e + 1) behind q)

    pub next_big : {l : ℕ} → l ≡ i + 1 → (i ≡ max_records) ⊎ (td ≡ 0) → read_only depth sheet ≡ refuse (Refusal.BigTree l)
    next_big k (inl q) = next_many k q
    next_big k (inr q) = next_deep k q

    module _ (low : i < max_records) (room : 0 < td) where
      pub next_unformed : {l : ℕ} → l ≡ i + 1 → read_rec (sort_of ts) (slice pos e sheet) ≡ None → read_only depth sheet ≡ refuse (Refusal.BadLine l)
      next_unformed k q = line_refuses (λ l. Refusal.BadLine l) k (unformed sheet pos (suc i) (sort_of ts) td (e + 1) behind low room (ap (read_rec (sort_of ts)) (sym (line_first sheet pos e line)) ∙ q))

      -- ── a record ──

      module _ {a' b' : List ℕ} {n z : ℕ} (sorted : ts < sort_count) (into : IntoRead (sort_of ts) sheet pos e i a b a' b' (Some (record { value = n; end = z }))) where
        got_it : Got (sort_of ts) sheet pos e (part a' b' i) n
        got_it = into.line.answer.1

        fields : Fields (forms (sort_of ts) got_it.kind)
        fields = fields_of (forms (sort_of ts) got_it.kind) sheet (part a' b' i) 0

        decoded : decode (sort_of ts) sheet (part a' b' i) ≡ Some (got_it.kind, fields)
        unfolding decode rec_of fields
        decoded = rw (got_it.number, got_it.named)

        is_read_law : read_rec (sort_of ts) (slice pos e sheet) ≡ Some (got_it.kind, fields)
        is_read_law = got_it.read ∙ sym got_it.held ∙ decoded

        stands : LineAt (sort_of ts) got_it.kind fields sheet (get_or (part a' b' i) line_start_at 0) (get_or (part a' b' i) line_end_at 0)
        stands = rw (got_it.start, got_it.end) (line_stands sheet pos e line (sort_of ts) got_it.kind fields is_read_law)

        kids : get_or (part a' b' i) children_at 0 ≡ total (children (sort_of ts) got_it.kind fields) % two32
        unfolding fields
        kids = got_it.kids ∙ ap (λ x. x % two32) (children_are ts sorted n got_it.kind got_it.named sheet (part a' b' i) got_it.flags)

        -- what its groups ask, where d is their room, on top of r others
        pub next_asked : {r d : ℕ} → r ≤ suc (m - 1) → d ≡ room_below (sort_of ts) td → Space n r d
        next_asked {r} {d} high below = space ts sorted tn td (m - 1) r n topmost.top high room got_it.kind got_it.named d below

        writes_is : writes (sort_of ts) got_it.kind ≡ eqb n write_kind
        writes_is = writes_kind ts sorted n got_it.kind got_it.named

        pub next_more :
            {w' w'' : List ℕ} {r r' d : ℕ}
            → d ≡ room_below (sort_of ts) td
            → Taken w w' m r (sort_of ts) tn td
            → Groups w' w'' n (part a' b' i) 0 group_count r d r'
            → SoFar depth sheet a' b' (dues w'' r') (i + 1) z (option_or wr (then_some (eqb n write_kind) (i + 1)))
        unfolding fields
        next_more {w'} {w''} {r} {r'} {d} below taken groups =
            rw (add-one i, into.line.answer.0, ← writes_is)
            (advance sheet a b a' b' (sort_of ts) (tn - 1) td (dues w (m - 1)) (dues w'' r') i pos wr state (e + 1) (got_it.kind, fields)
            (well_formed sheet pos (suc i) (sort_of ts) td (e + 1) behind low room (got_it.kind, fields) (ap (read_rec (sort_of ts)) (sym (line_first sheet pos e line)) ∙ is_read_law))
            (omega (arith, line.to))
            (record { low = low; is = decoded; flags = got_it.flags; texts = got_it.texts; line = stands; kids = kids })
            (λ j h. into.others j (omega arith) (λ q. omega arith))
            (due_now ts sorted (tn - 1) td n got_it.kind got_it.named (dues w (m - 1)) w' w'' r r' d sheet (part a' b' i) got_it.flags below taken.left groups))
