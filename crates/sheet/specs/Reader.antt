-- What the reader of a sheet answers and promises, and how far it has come between two lines. Assumes nothing.
use Rattle.std.specs.Prelude.{◌≡◌, refl, ℕ, suc, ◌+◌, ◌<◌, ◌≤◌, Bool, true, false, cond, Option, None, Some, Result, Ok, Err}
use Rattle.std.proofs.Math.Path.{sym, ap, subst}
use Rattle.std.proofs.Common.{◌∙◌, zero-add, add-one, arith, length-append}
use mathlib.Core.List.{List, [], ◌∷◌, ◌++◌, append_assoc, append-nil}
use Rattle.std.proofs.Math.ListN.{length}
use Rattle.std.specs.Option.{option_or}
use Rattle.std.specs.Bool.{then_some}
use Rattle.words.specs.Places.{statement_sort}
use Rattle.model.specs.Text.{Bytes}
use Rattle.model.specs.Field.{Fields}
use Rattle.model.specs.Kind.{Sort, Kind, statement}
use Rattle.model.specs.Record.{Rec, rec, RecOf, forms, children}
use Rattle.model.specs.Tree.{Tree, records}
use Rattle.model.specs.Sheet.{Place, Reading, got, refused, read_line, read_sheet, first_write, or_else}
use Rattle.model.specs.Call.{Test, refuse, pass, then, test_reading, test_write, record_count, work_words, max_bytes}
use Rattle.model.specs.Refusal.{Refusal}
use Rattle.words.specs.Words.{part}
use Rattle.words.specs.Held.{RecordAt, Held}
use Rattle.laws.specs.SheetLaws.{sheet_sound}
use Rattle.words.specs.Table.{sorts, sort_of}
use Rattle.sheet.specs.declared.reader.ReadError.{ReadError}
use Rattle.sheet.specs.declared.reader.ReadError.TheVariants.{BadLine, BigTree, WriteClause}
use Rattle.sheet.specs.Due.{Due, due, due_of, mapped, mapped_id, mapped_mapped, mapped_ext, room_below, is_zero}
use Rattle.sheet.specs.Standing.{Standing, standing_both, stands_held}
use Rattle.sheet.specs.Writes.{writes, write_among, first_write_law, or_else_none}
use Rattle.sheet.specs.Progress.{place_at, read_rest, whole, at_start, line_got, at_the_end, not_the_end}
use Rattle.sheet.specs.Stack.{Alike, rest_alike}
use Rattle.sheet.specs.Dues.{dues, Pushed}

-- tests 3 to 5, for trees of at most a depth
unfoldable pub read_only : ℕ → Bytes → Test (Tree statement)
read_only depth sheet = then (test_reading (read_sheet depth sheet)) λ t. test_write t (first_write t)

-- what the reader asks: a sheet whose places fit a word, and room for its stack
pub record ReaderAsked (sheet : Bytes) (stack : List ℕ) : Type 0 where
  pub short : length sheet ≤ max_bytes
  pub room : work_words ≤ length stack

-- the refusal that the reader's error is
abbrev pub refusal_of : ReadError → Refusal
refusal_of (BadLine l) = Refusal.BadLine l
refusal_of (BigTree l) = Refusal.BigTree l
refusal_of (WriteClause l) = Refusal.WriteClause l

-- the promise: the words hold the tree, of so many records, or the answer is the refusal
abbrev pub Reads : ℕ → Bytes → List ℕ → List ℕ → Result ℕ ReadError → Type 0
Reads depth sheet a b (Ok n) = (t : Tree statement) × (read_only depth sheet ≡ pass t) × (record_count t ≡ n) × Held sheet a b t depth 0
Reads depth sheet a b (Err e) = read_only depth sheet ≡ refuse (refusal_of e)

-- i records are read, up to position pos, and the groups st are due; wr is the line of the first write so far
pub record SoFar (depth : ℕ) (sheet : Bytes) (a b : List ℕ) (st : List Due) (i pos : ℕ) (wr : Option ℕ) : Type 0 where
  pub done : List Rec
  pub stands : Standing sheet a b 0 done
  pub many : length done ≡ i
  pub here : pos ≤ length sheet
  pub remains : whole depth sheet ≡ mapped (λ rs. done ++ rs) (read_rest st (place_at sheet pos (suc i)))
  pub wrote : (ss : List Rec) → write_among 1 (done ++ ss) ≡ or_else wr (write_among (suc i) ss)

-- ── refusals ──

mapped_refused : {A B : Type 0} (f : A → B) (r : Reading A) (x : Refusal) → mapped f r ≡ refused x → r ≡ refused x
unfolding mapped
mapped_refused f (got a p) x e = let z : ◌≡◌ {A = ℕ} 0 1 = cc in absurd (omega arith)
mapped_refused f (refused y) x e = let p : y ≡ x = cc in rw p

refusal : (depth : ℕ) (sheet : Bytes) (x : Refusal) → read_sheet depth sheet ≡ refused x → read_only depth sheet ≡ refuse x
unfolding read_only then test_reading
refusal depth sheet x e = rw e

module _ {depth : ℕ} (sheet : Bytes) (a b : List ℕ) (st : List Due) (i pos : ℕ) (wr : Option ℕ) (s : SoFar depth sheet a b st i pos wr) where
  pub rest_refused : (x : Refusal) → read_rest st (place_at sheet pos (suc i)) ≡ refused x → read_only depth sheet ≡ refuse x
  unfolding mapped whole
  rest_refused x e = refusal depth sheet x (mapped_refused (λ t. records t) (read_sheet depth sheet) x (s.remains ∙ ap (mapped (λ rs. s.done ++ rs)) e))

-- ── the end ──

record Mapped {A B : Type 0} (f : A → B) (r : Reading A) (b : B) (q : Place) : Type 0 where
  value : A
  is : r ≡ got value q
  result : f value ≡ b

mapped_got : {A B : Type 0} (f : A → B) (r : Reading A) (b : B) (q : Place) → mapped f r ≡ got b q → Mapped f r b q
unfolding mapped
mapped_got f (got a p) b q e = let z : p ≡ q = cc in record { value = a; is = rw z; result = cc }
mapped_got f (refused y) b q e = let z : ◌≡◌ {A = ℕ} 0 1 = cc in absurd (omega arith)

-- a sheet that was read whole
record Ended (depth : ℕ) (sheet : Bytes) (a b : List ℕ) (i : ℕ) (wr : Option ℕ) : Type 0 where
  tree : Tree statement
  place : Place
  reads : read_sheet depth sheet ≡ got tree place
  count : record_count tree ≡ i
  write : first_write tree ≡ wr
  is : Held sheet a b tree depth 0

passed : (t : Tree statement) (wr : Option ℕ) → wr ≡ None → test_write t wr ≡ pass t
unfolding test_write
passed t wr z = rw z

written : (t : Tree statement) (wr : Option ℕ) (l : ℕ) → wr ≡ Some l → test_write t wr ≡ refuse (Refusal.WriteClause l)
unfolding test_write
written t wr l z = rw z

module _ {depth : ℕ} (sheet : Bytes) (a b : List ℕ) (i pos : ℕ) (wr : Option ℕ) (s : SoFar depth sheet a b [] i pos wr) (e : pos ≡ length sheet) where
  ended_whole : whole depth sheet ≡ got s.done (place_at sheet (length sheet) (suc i))
  unfolding mapped
  ended_whole = s.remains ∙ rw (e, at_the_end sheet (suc i)) (ap (λ l. got l (place_at sheet (length sheet) (suc i))) (append-nil s.done))

  ended_tree : (t : Tree statement) (q : Place) → read_sheet depth sheet ≡ got t q → records t ≡ s.done → Ended depth sheet a b i wr
  unfolding record_count write_among
  ended_tree t q g d =
      let wf = (sheet_sound depth sheet t q g).0 in
      record {
        tree = t;
        place = q;
        reads = g;
        count = ap length d ∙ s.many;
        write = ap first_write (sym wf.numbers) ∙ first_write_law t ∙ ap (write_among 1) (d ∙ sym (append-nil s.done)) ∙ s.wrote [] ∙ or_else_none wr;
        is = subst (λ u. Held sheet a b u depth 0) wf.numbers (stands_held sheet a b t depth 0 wf.deep (subst (λ l. Standing sheet a b 0 l) (sym d) s.stands));
      }

  ended : Ended depth sheet a b i wr
  unfolding whole
  ended =
      let g = mapped_got (λ t. records t) (read_sheet depth sheet) s.done (place_at sheet (length sheet) (suc i)) ended_whole in
      ended_tree g.value (place_at sheet (length sheet) (suc i)) g.is g.result

  pub all_read : wr ≡ None → Reads depth sheet a b (Ok i)
  unfolding read_only then test_reading
  all_read z = let d = ended in (d.tree, rw (d.reads, d.write) (passed d.tree wr z), d.count, d.is)

  pub write_read : (l : ℕ) → wr ≡ Some l → Reads depth sheet a b (Err (WriteClause l))
  unfolding read_only then test_reading
  write_read l z = let d = ended in rw (d.reads, d.write) (written d.tree wr l z)

-- ── a line ──

record_same : (sheet : Bytes) (a b a' b' : List ℕ) (i : ℕ) (s : Sort) (k : Kind s) (f : Fields (forms s k)) → part a' b' i ≡ part a b i → RecordAt sheet a b i s k f → RecordAt sheet a' b' i s k f
record_same sheet a b a' b' i s k f e r = record { low = r.low; is = rw e r.is; flags = rw e r.flags; texts = rw e r.texts; line = rw e r.line; kids = rw e r.kids }

-- words of other records may change
standing_same : (sheet : Bytes) (a b a' b' : List ℕ) (rs : List Rec) (i n : ℕ) → i + length rs ≤ n → ((j : ℕ) → j < n → part a' b' j ≡ part a b j) → Standing sheet a b i rs → Standing sheet a' b' i rs
standing_same sheet a b a' b' [] i n l h g = tt
standing_same sheet a b a' b' (r ∷ rs) i n l h g = (record_same sheet a b a' b' i r.sort r.kind r.fields (h i (omega arith)) g.0, standing_same sheet a b a' b' rs (i + 1) n (omega arith) h g.1)

write_first : (wr : Option ℕ) (t : Bool) (n : ℕ) (v : Option ℕ) → or_else wr (cond t (Some n) v) ≡ or_else (option_or wr (then_some t n)) v
unfolding or_else
write_first None true n v = refl
write_first None false n v = refl
write_first (Some l) t n v = refl

-- one record more, x, of sort s, whose group has n more
module _ {depth : ℕ} (sheet : Bytes) (a b a' b' : List ℕ) (s : Sort) (n d : ℕ) (rest st' : List Due) (i pos : ℕ) (wr : Option ℕ) (o : SoFar depth sheet a b (due s (suc n) d ∷ rest) i pos wr) (to : ℕ) (x : RecOf s) where
  -- the record is the first write, if it is a write and none came before
  seen : (ss : List Rec) → write_among 1 ((o.done ++ (rec s x.0 x.1 ∷ [])) ++ ss) ≡ or_else (option_or wr (then_some (writes s x.0) (suc i))) (write_among (suc (suc i)) ss)
  unfolding write_among
  seen ss = ap (write_among 1) (append_assoc o.done (rec s x.0 x.1 ∷ []) ss) ∙ o.wrote (rec s x.0 x.1 ∷ ss) ∙ write_first wr (writes s x.0) (suc i) (write_among (suc (suc i)) ss)

  remains_is :
      read_line s (is_zero d) (place_at sheet pos (suc i)) ≡ got x (place_at sheet to (suc (suc i)))
      → Alike st' (due_of (room_below s d) (children s x.0 x.1) ++ (due s n d ∷ rest))
      → whole depth sheet ≡ mapped (λ rs. (o.done ++ (rec s x.0 x.1 ∷ [])) ++ rs) (read_rest st' (place_at sheet to (suc (suc i))))
  remains_is r alike =
      o.remains
      ∙ ap (mapped (λ rs. o.done ++ rs)) (line_got s n d rest (place_at sheet pos (suc i)) (place_at sheet to (suc (suc i))) x r)
      ∙ mapped_mapped (λ rs. o.done ++ rs) (λ rs. rec s x.0 x.1 ∷ rs) _
      ∙ ap (mapped (λ rs. o.done ++ (rec s x.0 x.1 ∷ rs))) (sym (rest_alike alike (place_at sheet to (suc (suc i)))))
      ∙ mapped_ext (read_rest st' (place_at sheet to (suc (suc i)))) _ _ (λ rs. sym (append_assoc o.done (rec s x.0 x.1 ∷ []) rs))

  pub advance :
      read_line s (is_zero d) (place_at sheet pos (suc i)) ≡ got x (place_at sheet to (suc (suc i)))
      → to ≤ length sheet
      → RecordAt sheet a' b' i s x.0 x.1
      → ((j : ℕ) → j < i → part a' b' j ≡ part a b j)
      → Alike st' (due_of (room_below s d) (children s x.0 x.1) ++ (due s n d ∷ rest))
      → SoFar depth sheet a' b' st' (suc i) to (option_or wr (then_some (writes s x.0) (suc i)))
  advance r here at others alike =
      record {
        done = o.done ++ (rec s x.0 x.1 ∷ []);
        stands = standing_both sheet a' b' o.done _ 0 (standing_same sheet a b a' b' o.done 0 i (omega (arith, o.many)) others o.stands) (at_end_law at);
        many = omega (arith, length-append o.done (rec s x.0 x.1 ∷ []), o.many);
        here = here;
        remains = remains_is r alike;
        wrote = seen;
      }
    where
      at_end_law : RecordAt sheet a' b' i s x.0 x.1 → Standing sheet a' b' (0 + length o.done) (rec s x.0 x.1 ∷ [])
      at_end_law h = rw (o.many, zero-add i) (h, tt)

-- ── the beginning ──

pub begin : {depth : ℕ} {sheet : Bytes} {a b w w' : List ℕ} {m d : ℕ} → Pushed w w' 0 m (sort_of statement_sort) 1 d → d ≡ depth → SoFar depth sheet a b (dues w' m) 0 0 None
unfolding dues or_else sort_of sorts
begin {depth} {sheet} p e =
    record {
      done = [];
      stands = tt;
      many = refl;
      here = omega arith;
      remains = at_start depth sheet ∙ sym (mapped_id (read_rest (due statement 1 depth ∷ []) (place_at sheet 0 1))) ∙ ap (λ l. mapped (λ rs. [] ++ rs) (read_rest l (place_at sheet 0 1))) (sym (rw e at p.is));
      wrote = λ ss. refl;
    }

-- ── behind the last due record ──

-- the answer where nothing is due, for every state that the reader can have come to there
pub record Ends (sheet : Bytes) (i pos : ℕ) (wr : Option ℕ) (r : Result ℕ ReadError) : Type 0 where
  pub is : (depth : ℕ) (a b : List ℕ) → SoFar depth sheet a b [] i pos wr → Reads depth sheet a b r

pub ends_bad : {sheet : Bytes} {i pos : ℕ} {wr : Option ℕ} {l : ℕ} → pos < length sheet → l ≡ i + 1 → Ends sheet i pos wr (Err (BadLine l))
ends_bad {sheet} {i} {pos} {wr} h e = record { is = λ depth a b s. rw (e, add-one i) (rest_refused sheet a b [] i pos wr s (Refusal.BadLine (suc i)) (not_the_end sheet pos (suc i) h)) }

pub ends_read : {sheet : Bytes} {i pos : ℕ} {wr : Option ℕ} → length sheet ≤ pos → wr ≡ None → Ends sheet i pos wr (Ok i)
ends_read {sheet} {i} {pos} {wr} h z = record { is = λ depth a b s. all_read sheet a b i pos wr s (omega (arith, s.here)) z }

pub ends_write : {sheet : Bytes} {i pos : ℕ} {wr : Option ℕ} {l : ℕ} → length sheet ≤ pos → wr ≡ Some l → Ends sheet i pos wr (Err (WriteClause l))
ends_write {sheet} {i} {pos} {wr} {l} h z = record { is = λ depth a b s. write_read sheet a b i pos wr s (omega (arith, s.here)) l z }
