-- The steps of the cycle: what each arm of the check of an expression, and each pass of a loop over parts or elements, has to do with the whole. Assumes nothing.
use mathlib.Core.Path.{◌≡◌, refl, sym, ◌∙◌}
use Prim.Native.Nat.{ℕ, ◌+◌, ◌-◌, ◌<◌, ◌≤◌}
use native.Mathlib.Numerals.{add-one}
use native.Mathlib.Omega.{arith}
use mathlib.Core.Bool.{Bool, true, false}
use mathlib.Core.List.{List, [], ◌∷◌}
use Rattle.words.specs.Places.{map_kind, pat_kind, unres_kind, undes_kind, kind_at, part_elements_at, undes_kind_at}
use Rattle.std.specs.Prelude.{Result, Ok, Err, IsErrAnd}
use Rattle.model.specs.Field.{Span}
use Rattle.model.specs.Kind.{Sort, expr, pattern_part, pattern_element}
use Rattle.model.specs.Check.{Verdict, fine, no_span}
use Rattle.words.specs.Words.{Roomy, cell, fields_of, field_of}
use Rattle.precheck.specs.Answer.{span_of}
use Rattle.precheck.specs.Steps.{Stage, Exists, Ends, Walks, Run, Then}
use Rattle.words.specs.Numbers.{Others, expr_number_law}
use Rattle.words.specs.Count.{count_at, is_leaf}
use Rattle.words.proofs.Counting.{leaf_not, leaf_count}
use Rattle.precheck.specs.Stands.{At, Standing, SomeAt, Exprs, own_verdict, verdict_below, Own, Begins, Inside}
use Rattle.precheck.specs.declared.HirSpan.{HirSpan}
use Rattle.precheck.specs.declared.PlanLowerError.{PlanLowerError}
use Rattle.precheck.specs.declared.PlanLowerError.TheVariants.{UnresolvedName, UndesugaredExpr, EmptyPatternPart}
use Rattle.precheck.specs.declared.verdict.Props.{Props}
use Rattle.precheck.proofs.Laws.{Remaining, child, first_met, closed, last_of, map_run, then_walks, then_stopped, stopped_as}
use Rattle.precheck.proofs.Opened.{Opened, in_turn_law, kids_of, open_at, open_held}
use Rattle.precheck.proofs.Counting.{one_group}
use Rattle.precheck.proofs.Expressions.{Seen, plain, entries, pattern, see, of_entry, in_expr}
use Rattle.precheck.proofs.Patterns.{at_once, any_span}

-- ── one stage for another ──

pub record Turns (P Q : Stage) : Type 0 where
  pub to : (v : Verdict) (e : ℕ) → P v e → Q v e

module _ {P Q : Stage} (t : Turns P Q) where
  pub some_turned : Exists P → Exists Q
  some_turned h = record { verdict = h.verdict; next = h.next; is = t.to _ _ h.is }

  pub walks_turned : {r : Result ℕ PlanLowerError} → Walks r Q → Walks r P
  walks_turned w = record { each = λ v e p. w.each v e (t.to v e p) }

module _ {a b : List ℕ} (room : Roomy a b) {s : Sort} {d : ℕ} {span : Span} {i : ℕ} (h : Exists (At a b s d span i)) where
  pub standing : Standing a b s d span i
  standing = let o = open_at room h.is in record { low = o.low; deep = o.deep; some = h }

  pub some_at : SomeAt a b s i
  some_at = record { low = (open_at room h.is).low; depth = d; span = span; verdict = h.verdict; next = h.next; is = h.is }

-- the next of those that remain stands there
pub next_standing : {a b : List ℕ} {s : Sort} {d n i k at : ℕ} {span : Span} → Roomy a b → Remaining (At a b s d span) n i k at → k < n → Exists (Run (At a b s d span) n i) → Standing a b s d span at
next_standing room remaining h some = standing room (child remaining h some)

-- so many as a word says
module _ {P : ℕ → Stage} {n m i : ℕ} (e : n ≡ m) where
  pub some_counted : Exists (Run P m i) → Exists (Run P n i)
  some_counted h = rw e h

  pub walks_counted : {r : Result ℕ PlanLowerError} → Walks r (Run P n i) → Walks r (Run P m i)
  walks_counted h = rw e at h

  -- the same as the first of two stages: a walk that goes on behind it, and one that is stopped in it
  module _ {Q : ℕ → Stage} where
    pub counted_on : {k : ℕ} {q : Result ℕ PlanLowerError} → Walks (Ok k) (Run P n i) → Walks q (Q k) → Walks q (Then (Run P m i) Q)
    counted_on h w = then_walks (walks_counted h) w

    pub counted_stopped : {r : Result ℕ PlanLowerError} {x : PlanLowerError} → IsErrAnd r (λ y. y ≡ x) → Walks (Err x) (Run P n i) → Walks r (Then (Run P m i) Q)
    counted_stopped g h = stopped_as g (then_stopped (walks_counted h))

-- ── the verdict at a record ──

module _ {a b : List ℕ} {s : Sort} {d : ℕ} {span : Span} {i : ℕ} where
  -- what a record is refused for by itself, its tree is refused for
  pub own_refused : {x : PlanLowerError} → Own a b s i span (Err x) → Walks (Err x) (At a b s d span i)
  own_refused own = record { each = λ v e h. first_met (verdict_below h.tree span) (h.verdict ∙ in_turn_law h.tree span) (own.each h.sheet d h.tree h.held) }

  own_fine : {u : Unit {0}} → Own a b s i span (Ok u) → {v : Verdict} {e : ℕ} (h : At a b s d span i v e) → own_verdict h.tree span ≡ fine
  own_fine own h = own.each h.sheet d h.tree h.held

module _ {a b : List ℕ} (room : Roomy a b) {i c : ℕ} (kind : c ≡ cell a b i kind_at) {span : HirSpan} where
  pub own_other : c < unres_kind → Own a b expr i (span_of span) (Ok tt)
  own_other k = record { each = λ sheet d t h. (in_expr (open_held room sheet d t (span_of span) h)).other (λ z. omega arith) (λ z. omega arith) }

  pub own_unresolved : c ≡ unres_kind → Own a b expr i (span_of span) (Err (UnresolvedName (i + 1) span))
  own_unresolved k = record { each = λ sheet d t h. let q = (in_expr (open_held room sheet d t (span_of span) h)).unresolved (sym kind ∙ k) in record { unresolved = q.0; is = rw add-one q.1 } }

  pub own_undesugared : {x : ℕ} → x ≡ cell a b i undes_kind_at → unres_kind ≤ c → (c ≡ unres_kind → ⊥) → Own a b expr i (span_of span) (Err (UndesugaredExpr (i + 1) span x))
  own_undesugared q l k = record { each = λ sheet d t h. record { unresolved = []; is = rw (add-one, q) ((in_expr (open_held room sheet d t (span_of span) h)).undesugared (rw kind at l) (λ z. k (kind ∙ z))) } }

module _ {a b : List ℕ} {i : ℕ} {t : Bool} {span : HirSpan} (h : Begins a b i t) where
  pub own_empty : t ≡ false → Own a b pattern_part i (span_of span) (Err (EmptyPatternPart (i + 1) span))
  own_empty e = record { each = λ sheet d p q. record { unresolved = []; is = rw add-one (rw e at (h.each sheet d p (span_of span) q)) } }

  pub own_begins : t ≡ true → Own a b pattern_part i (span_of span) (Ok tt)
  own_begins e = record { each = λ sheet d p q. rw e at (h.each sheet d p (span_of span) q) }

-- ── an expression ──

module _ {a b : List ℕ} (room : Roomy a b) {i c n : ℕ} (kind : c ≡ cell a b i kind_at) (count : n ≡ count_at a b i) {d : ℕ} {span : Span} where
  seen : {u v : Verdict} {e : ℕ} → Opened a b expr d span i u v e → u ≡ fine → Seen a b (d - 1) span i c n v e
  seen o own =
      rw (count ∙ o.count ∙ one_group o.kind _) (see o.sheet c o.kind (kind ∙ expr_number_law _ _ o.number) o.body (sym o.own ∙ own))

  module _ {u : Unit {0}} (own : Own a b expr i span (Ok u)) where
    pub as_entries : c ≡ map_kind → Turns (At a b expr d span i) (Exprs a b 1 (d - 1) span n (i + 1))
    as_entries z = record { to = λ v e h. go (seen (open_at room h) (own_fine own h)) }
      where
        go : {v : Verdict} {e : ℕ} → Seen a b (d - 1) span i c n v e → Exprs a b 1 (d - 1) span n (i + 1) v e
        go (plain p r) = absurd (p.map z)
        go (entries p r) = map_run (of_entry room) r
        go (pattern p r) = absurd (omega arith)

    pub as_pattern : c ≡ pat_kind → Turns (At a b expr d span i) (Run (At a b pattern_part (d - 1) span) n (i + 1))
    as_pattern z = record { to = λ v e h. go (seen (open_at room h) (own_fine own h)) }
      where
        go : {v : Verdict} {e : ℕ} → Seen a b (d - 1) span i c n v e → Run (At a b pattern_part (d - 1) span) n (i + 1) v e
        go (plain p r) = absurd (p.pattern z)
        go (entries p r) = absurd (omega arith)
        go (pattern p r) = r

    pub as_plain : Others c (pat_kind ∷ map_kind ∷ []) → Turns (At a b expr d span i) (Exprs a b 0 (d - 1) span n (i + 1))
    as_plain z = record { to = λ v e h. go (seen (open_at room h) (own_fine own h)) }
      where
        go : {v : Verdict} {e : ℕ} → Seen a b (d - 1) span i c n v e → Exprs a b 0 (d - 1) span n (i + 1) v e
        go (plain p r) = at_once r
        go (entries p r) = absurd (z.0.1 p)
        go (pattern p r) = absurd (z.1 p)

-- an expression that has none below it, whatever its fields
pub as_leaf : {a b : List ℕ} {i c : ℕ} {d : ℕ} {span : Span} → Roomy a b → c ≡ cell a b i kind_at → is_leaf c ≡ true → Walks (Ok (i + 1)) (At a b expr d span i)
unfolding is_leaf
as_leaf {a} {b} {i} {c} {d} {span} room kind leaf = record { each = λ v e h. let o = open_at room h in go (seen room kind (leaf_count h.sheet a b d i c h.tree room h.held kind leaf) o ((in_expr o).other (λ z. not unres_kind refl (kind ∙ z)) (λ z. not undes_kind refl (kind ∙ z)))) }
  where
    not : (k : ℕ) → is_leaf k ≡ false → c ≡ k → ⊥
    not k = leaf_not c k leaf

    go : {v : Verdict} {e : ℕ} → Seen a b (d - 1) span i c 0 v e → Ends (Ok (i + 1)) v e
    go (plain p r) = closed refl r
    go (entries p r) = absurd (not map_kind refl p)
    go (pattern p r) = absurd (not pat_kind refl p)

-- ── a part ──

pub as_elements : {a b : List ℕ} {i n : ℕ} {u : Unit {0}} {d : ℕ} {span : Span} → Roomy a b → Own a b pattern_part i span (Ok u) → n ≡ cell a b i part_elements_at → Turns (At a b pattern_part d span i) (Run (At a b pattern_element (d - 1) no_span) n (i + 1))
unfolding fields_of field_of
as_elements room own e = record { to = λ v x p. let o = open_at room p in rw e (map_run any_span (last_of (kids_of o.body (sym o.own ∙ own_fine own p)))) }

pub as_props : {a b : List ℕ} {i : ℕ} {p : Props} {d : ℕ} {span : Span} → Inside a b i p → Turns (At a b pattern_element d span i) (Exprs a b 0 (d - 1) (span_of p.span) p.n p.first)
as_props {d = d} {span = span} h = record { to = λ v e q. h.each d span v e q }

-- ── the answer ──

-- a walk over all that stands there says what the answer is
pub walk_fine : {P : Stage} {k : ℕ} {v : Verdict} {e : ℕ} → Walks (Ok k) P → P v e → v ≡ fine
walk_fine w p = (w.each _ _ p).0
