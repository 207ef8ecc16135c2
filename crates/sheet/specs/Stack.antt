-- The stack of due groups in words: three words a group (sort, count, room), the top first; lists of groups that read the same; and why the stack has room. Assumes nothing.
use Rattle.std.specs.Prelude.{◌≡◌, refl, ℕ, zero, suc, ◌+◌, ◌*◌, ◌-◌, cond, List, [], ◌∷◌, ◌++◌, replicate}
use Rattle.std.proofs.Common.{sym, ◌∙◌, ap, arith}
use Rattle.model.specs.Kind.{Sort}
use Rattle.model.specs.Record.{rec, Group, children, beside}
use Rattle.model.specs.Tree.{records_of}
use Rattle.model.specs.Sheet.{Place, then_read, read_line, read_many, read_tree, at_end}
use Rattle.words.specs.GroupLaws.{sorts_of}
use Rattle.sheet.specs.Due.{Due, due, due_of, mapped, read_due, is_zero, room_below, step, none_due}
use Rattle.sheet.specs.Progress.{read_rest}
use Rattle.laws.specs.SpelledLaws.{then_read_same}

-- ── the words of a group ──

abbrev pub due_words : ℕ
due_words = 3

-- its sort comes first; where its count and its room stand
abbrev pub due_count_at : ℕ
due_count_at = 1

abbrev pub due_room_at : ℕ
due_room_at = 2

-- ── lists of groups that read the same ──

pub record Alike (st st' : List Due) : Type 0 where
  pub reads : (p : Place) → read_due st p ≡ read_due st' p

pub alike_refl : (st : List Due) → Alike st st
alike_refl st = record { reads = λ p. refl }

pub alike_trans : {st st' st'' : List Due} → Alike st st' → Alike st' st'' → Alike st st''
alike_trans h g = record { reads = λ p. h.reads p ∙ g.reads p }

pub alike_under : (g : Due) {st st' : List Due} → Alike st st' → Alike (g ∷ st) (g ∷ st')
unfolding read_due
alike_under g h = record { reads = λ p. then_read_same (read_many (λ q. read_tree g.room g.sort q) g.count p) _ _ (λ ts q. ap (mapped (λ rs. records_of ts ++ rs)) (h.reads q)) }

-- a group of none is passed over
pub alike_none : (s : Sort) (d : ℕ) (st : List Due) → Alike (due s 0 d ∷ st) st
alike_none s d st = record { reads = λ p. none_due s d st p }

pub rest_alike : {st st' : List Due} → Alike st st' → (p : Place) → read_rest st p ≡ read_rest st' p
unfolding read_rest
rest_alike h p = ap (λ r. then_read r (λ rs q. at_end rs q.line q.text q.more)) (h.reads p)

pub alike_behind : (ks : List Due) {st st' : List Due} → Alike st st' → Alike (ks ++ st) (ks ++ st')
alike_behind [] h = h
alike_behind (k ∷ ks) h = alike_under k (alike_behind ks h)

split_at : (s : Sort) (d : ℕ) (st : List Due) (b : ℕ) (a : ℕ) → Alike (due s (a + b) d ∷ st) (due s a d ∷ due s b d ∷ st)
split_at s d st b zero = record { reads = λ p. ap (λ n. read_due (due s n d ∷ st) p) (omega arith) ∙ sym (none_due s d (due s b d ∷ st) p) }
split_at s d st b (suc a) =
    record {
      reads = λ p.
          ap (λ n. read_due (due s n d ∷ st) p) (omega arith)
          ∙ step s (a + b) d st p
          ∙ then_read_same (read_line s (is_zero d) p) _ _ (λ x q. ap (mapped (λ rs. rec s x.0 x.1 ∷ rs)) ((alike_behind (due_of (room_below s d) (children s x.0 x.1)) (split_at s d st b a)).reads q))
          ∙ sym (step s a d (due s b d ∷ st) p);
    }

-- a group is two of its sort
pub alike_split : (s : Sort) (d : ℕ) (st : List Due) (a b n : ℕ) → n ≡ a + b → Alike (due s n d ∷ st) (due s a d ∷ due s b d ∷ st)
alike_split s d st a b n e = rw e (split_at s d st b a)

-- ── room ──

-- each level has room for so many groups
abbrev pub level_groups : ℕ
level_groups = 11

-- the work slice has room for so many levels
abbrev pub max_room : ℕ
max_room = 495

-- so many groups may be due down to one with room d
abbrev pub allowed : ℕ → ℕ
allowed d = level_groups * (max_room + 1 - d)

-- a map's key leaves place for the expression beside it
abbrev pub entry_slack : ℕ
entry_slack = 6

abbrev pub slack : Sort → ℕ
slack s = cond (beside s) entry_slack 0

-- ── groups one by one ──

ones : ℕ → List Sort → List Due
ones d [] = []
ones d (s ∷ l) = due s 1 d ∷ ones d l

ones_append : (d : ℕ) (l m : List Sort) (st : List Due) → ones d (l ++ m) ++ st ≡ ones d l ++ (ones d m ++ st)
unfolding ones
ones_append d [] m st = refl
ones_append d (s ∷ l) m st = ap (λ k. due s 1 d ∷ k) (ones_append d l m st)

alike_ones : (s : Sort) (d n : ℕ) (st : List Due) → Alike (due s n d ∷ st) (ones d (replicate n s) ++ st)
unfolding ones
alike_ones s d zero st = alike_none s d st
alike_ones s d (suc n) st = alike_trans (alike_split s d st 1 n (suc n) (omega arith)) (alike_under (due s 1 d) (alike_ones s d n st))

groups_ones : (d : ℕ) (gs : List Group) (st : List Due) → Alike (due_of d gs ++ st) (ones d (sorts_of gs) ++ st)
unfolding due_of sorts_of ones
groups_ones d [] st = alike_refl st
groups_ones d (g ∷ gs) st = rw (ones_append d (replicate g.1 g.0) (sorts_of gs) st) (alike_trans (alike_under (due g.0 g.1 d) (groups_ones d gs st)) (alike_ones g.0 d g.1 (ones d (sorts_of gs) ++ st)))

pub alike_sym : {st st' : List Due} → Alike st st' → Alike st' st
alike_sym h = record { reads = λ p. sym (h.reads p) }

-- groups that ask for the same records
pub alike_groups : (d : ℕ) (gs gs' : List Group) (st : List Due) → sorts_of gs ≡ sorts_of gs' → Alike (due_of d gs ++ st) (due_of d gs' ++ st)
alike_groups d gs gs' st e = alike_trans (groups_ones d gs st) (rw e (alike_sym (groups_ones d gs' st)))
