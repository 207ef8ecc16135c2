-- The reading of a sheet from a position on, with groups still due: what is left to read gives the whole answer. Assumes nothing.
use Rattle.std.specs.Prelude.{◌≡◌, refl, ℕ, zero, suc, ◌<◌, ◌≤◌, Bool, true, false, cond, List, [], ◌∷◌, ◌++◌, eqb, length, drop, None, Some}
use Rattle.std.proofs.Common.{sym, ◌∙◌, ap, arith, append-nil, drop-cons}
use Rattle.std.proofs.Math.Bool.{or-true}
use Rattle.std.proofs.Math.Seq.{drop-length}
use borrow.Author.Tests.{lt-ltb, le-ltb}
use Rattle.model.specs.Text.{Bytes, Pieces, split, line_feed}
use Rattle.model.specs.Kind.{Sort, statement}
use Rattle.model.specs.Record.{Rec, rec, RecOf, read_rec, children}
use Rattle.model.specs.Tree.{Tree, []ᵗ, ◌∷ᵗ◌, records, records_of}
use Rattle.model.specs.Sheet.{line_at, Place, Reading, got, refused, then_read, formed, read_line, read_many, read_tree, read_sheet, at_end, max_lines}
use Rattle.model.specs.Refusal.{Refusal}
use Rattle.sheet.specs.Due.{Due, due, due_of, mapped, read_due, is_zero, room_below, step}

-- the place at a position
unfoldable pub place_at : Bytes → ℕ → ℕ → Place
place_at sheet pos line = let p = split line_feed (drop pos sheet) in record { line = line; text = p.first; more = p.more }

-- the records that are left, behind which nothing may follow
unfoldable pub read_rest : List Due → Place → Reading (List Rec)
read_rest st p = then_read (read_due st p) (λ rs q. at_end rs q.line q.text q.more)

-- the records of a sheet
unfoldable pub whole : ℕ → Bytes → Reading (List Rec)
whole d sheet = mapped (λ t. records t) (read_sheet d sheet)

positive : (d : ℕ) → 0 < d → is_zero d ≡ false
unfolding is_zero
positive zero h = absurd (omega arith)
positive (suc d) h = refl

-- ── the beginning ──

mapped_end : {A B : Type 0} (f : A → B) (a : A) (line : ℕ) (text : Bytes) (more : List Bytes) → mapped f (at_end a line text more) ≡ at_end (f a) line text more
unfolding at_end mapped
mapped_end f a line [] [] = refl
mapped_end f a line [] (m ∷ ms) = refl
mapped_end f a line (b ∷ t) ms = refl

one_tree : (r : Reading (Tree statement)) → mapped (λ t. records t) (then_read r (λ t q. at_end t q.line q.text q.more)) ≡ then_read (then_read (then_read r (λ t q. got (t ∷ᵗ []ᵗ) q)) (λ ts q. mapped (λ rs. records_of ts ++ rs) (got [] q))) (λ rs q. at_end rs q.line q.text q.more)
unfolding then_read mapped records_of
one_tree (got t q) = mapped_end (λ t. records t) t q.line q.text q.more ∙ ap (λ l. at_end l q.line q.text q.more) (sym (append-nil (records t)) ∙ sym (append-nil (records t ++ [])))
one_tree (refused y) = refl

pub at_start : (d : ℕ) (sheet : Bytes) → whole d sheet ≡ read_rest (due statement 1 d ∷ []) (place_at sheet 0 1)
unfolding whole read_sheet read_rest read_due read_many place_at then_read
at_start d sheet = one_tree (read_tree d statement (place_at sheet 0 1))

-- ── a line ──

end_mapped : (f : List Rec → List Rec) (r : Reading (List Rec)) → then_read (mapped f r) (λ rs p. at_end rs p.line p.text p.more) ≡ mapped f (then_read r (λ rs p. at_end rs p.line p.text p.more))
unfolding then_read mapped
end_mapped f (got rs p) = sym (mapped_end f rs p.line p.text p.more)
end_mapped f (refused y) = refl

rest_got : {A : Type 0} (x : A) (f : A → List Rec → List Rec) (k : A → Place → Reading (List Rec)) (q : Place) (r : Reading A) → r ≡ got x q → then_read (then_read r (λ a p. mapped (f a) (k a p))) (λ rs p. at_end rs p.line p.text p.more) ≡ mapped (f x) (then_read (k x q) (λ rs p. at_end rs p.line p.text p.more))
unfolding then_read
rest_got x f k q r e = rw e (end_mapped (f x) (k x q))

pub line_got : (s : Sort) (n d : ℕ) (st : List Due) (p q : Place) (x : RecOf s) → read_line s (is_zero d) p ≡ got x q → read_rest (due s (suc n) d ∷ st) p ≡ mapped (λ rs. rec s x.0 x.1 ∷ rs) (read_rest (due_of (room_below s d) (children s x.0 x.1) ++ (due s n d ∷ st)) q)
unfolding read_rest
line_got s n d st p q x e =
    ap (λ r. then_read r (λ rs z. at_end rs z.line z.text z.more)) (step s n d st p)
    ∙ rest_got x (λ y rs. rec s y.0 y.1 ∷ rs) (λ y z. read_due (due_of (room_below s d) (children s y.0 y.1) ++ (due s n d ∷ st)) z) q (read_line s (is_zero d) p) e

pub line_refused : (s : Sort) (n d : ℕ) (st : List Due) (p : Place) (x : Refusal) → read_line s (is_zero d) p ≡ refused x → read_rest (due s (suc n) d ∷ st) p ≡ refused x
unfolding read_rest then_read
line_refused s n d st p x e = rw (step s n d st p, e)

-- what a line gives, by its pieces
module _ (sheet : Bytes) (pos n : ℕ) (s : Sort) (d : ℕ) where
  -- it has no line feed
  pub no_feed : (split line_feed (drop pos sheet)).more ≡ [] → read_line s (is_zero d) (place_at sheet pos n) ≡ refused (Refusal.BadLine n)
  unfolding read_line place_at line_at
  no_feed e = rw e

  module _ (to : ℕ) (e : (split line_feed (drop pos sheet)).more ≡ (split line_feed (drop to sheet)).first ∷ (split line_feed (drop to sheet)).more) where
    pub too_many : max_lines < n → read_line s (is_zero d) (place_at sheet pos n) ≡ refused (Refusal.BigTree n)
    unfolding read_line place_at line_at
    too_many h = rw (e, lt-ltb max_lines n h, or-true (is_zero d))

    pub deep : d ≡ 0 → read_line s (is_zero d) (place_at sheet pos n) ≡ refused (Refusal.BigTree n)
    unfolding read_line place_at line_at is_zero
    deep h = rw (e, h)

    module _ (few : n ≤ max_lines) (room : 0 < d) where
      pub unformed : read_rec s (split line_feed (drop pos sheet)).first ≡ None → read_line s (is_zero d) (place_at sheet pos n) ≡ refused (Refusal.BadLine n)
      unfolding read_line place_at line_at formed
      unformed h = rw (e, h, le-ltb max_lines n few, positive d room)

      pub well_formed : (x : RecOf s) → read_rec s (split line_feed (drop pos sheet)).first ≡ Some x → read_line s (is_zero d) (place_at sheet pos n) ≡ got x (place_at sheet to (suc n))
      unfolding read_line place_at line_at formed
      well_formed x h = rw (e, h, le-ltb max_lines n few, positive d room)

-- ── the end ──

pub at_the_end : (sheet : Bytes) (n : ℕ) → read_rest [] (place_at sheet (length sheet) n) ≡ got [] (place_at sheet (length sheet) n)
unfolding read_rest read_due then_read place_at at_end split
at_the_end sheet n = rw (drop-length sheet)

more_at : (n : ℕ) (t : Bool) (b : ℕ) (p : Pieces) → at_end {A = List Rec} [] n (cond {A = Pieces} t (record { first = []; more = p.first ∷ p.more }) (record { first = b ∷ p.first; more = p.more })).first (cond {A = Pieces} t (record { first = []; more = p.first ∷ p.more }) (record { first = b ∷ p.first; more = p.more })).more ≡ refused (Refusal.BadLine n)
unfolding at_end
more_at n true b p = refl
more_at n false b p = refl

more_follows : (n : ℕ) (b : ℕ) (t : Bytes) → at_end {A = List Rec} [] n (split line_feed (b ∷ t)).first (split line_feed (b ∷ t)).more ≡ refused (Refusal.BadLine n)
unfolding split at_end
more_follows n b t = more_at n (eqb b line_feed) b (split line_feed t)

pub not_the_end : (sheet : Bytes) (pos n : ℕ) → pos < length sheet → read_rest [] (place_at sheet pos n) ≡ refused (Refusal.BadLine n)
unfolding read_rest read_due then_read place_at
not_the_end sheet pos n h = rw (drop-cons sheet pos 0 h) (more_follows n _ _)
