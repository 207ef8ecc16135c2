-- What stands in the words, for the check: a tree that they hold, with its verdict and the record behind it; and what the small functions read off a record. Assumes nothing: these are definitions.
use Rattle.std.specs.Prelude.{◌≡◌, ℕ, suc, ◌+◌, ◌-◌, ◌<◌, ◌≤◌, Bool, true, false, cond, List, [], ◌∷◌, eqb, Result}
use Rattle.model.specs.Text.{Bytes}
use Rattle.model.specs.Field.{Span}
use Rattle.model.specs.Kind.{Sort, expr, pattern_part, pattern_element}
use Rattle.model.specs.Record.{Group}
use Rattle.model.specs.Tree.{Tree, node}
use Rattle.model.specs.Refusal.{Refusal}
use Rattle.model.specs.Check.{Verdict, fine, violated, check, check_in, of_record}
use Rattle.model.specs.Check
use Rattle.words.specs.Words.{cell, max_records}
use Rattle.words.specs.Places.{match_kind, match_span_at, where_kind, where_span_at, unwind_kind, unwind_span_at, call_kind, call_span_at, call_args_at, call_yields_at, write_kind, write_span_at, projection_span_at, items_at, keys_at, skip_at, limit_at}
use Rattle.words.specs.Held.{Held, size}
use Rattle.precheck.specs.Answer.{span_of, Says}
use Rattle.precheck.specs.Steps.{Stage, Exists, first_of, Then, Run}
use Rattle.precheck.specs.declared.HirSpan.{HirSpan}
use Rattle.precheck.specs.declared.PlanLowerError.{PlanLowerError}
use Rattle.precheck.specs.declared.verdict.Props.{Props}

-- a tree of a sort is held from record i on, at most d deep; v is its verdict under a span, and e the record behind it
pub record At (a b : List ℕ) (s : Sort) (d : ℕ) (span : Span) (i : ℕ) (v : Verdict) (e : ℕ) : Type 0 where
  pub sheet : Bytes
  pub tree : Tree s
  pub held : Held sheet a b tree d i
  pub verdict : v ≡ check tree span
  pub next : e ≡ i + size tree

-- one stands there, and its place and depth are in bounds
pub record Standing (a b : List ℕ) (s : Sort) (d : ℕ) (span : Span) (i : ℕ) : Type 0 where
  pub low : i < max_records
  pub deep : 0 < d
  pub some : Exists (At a b s d span i)

-- n expressions, each behind so many records
abbrev pub Exprs : (a b : List ℕ) (skip d : ℕ) → Span → (n i : ℕ) → Stage
Exprs a b skip d span n i v e = Run (λ j. At a b expr d span (j + skip)) n i v e

-- the number of children of a record whose children are one group
abbrev pub count_of : List Group → ℕ
count_of [] = 0
count_of (g ∷ gs) = g.1

-- the span in words c and c + 1 of record i
abbrev pub span_in : (a b : List ℕ) (i c : ℕ) → Span
span_in a b i c = record { start = cell a b i c; end = cell a b i (c + 1) }

-- a span is the one there
pub record Spans (a b : List ℕ) (i c : ℕ) (s : HirSpan) : Type 0 where
  pub start : s.start ≡ cell a b i c
  pub end : s.end ≡ cell a b i (c + 1)

-- a tree of a sort stands at record i, at whatever depth
pub record SomeAt (a b : List ℕ) (s : Sort) (i : ℕ) : Type 0 where
  pub low : i < max_records
  pub depth : ℕ
  pub span : Span
  pub verdict : Verdict
  pub next : ℕ
  pub is : At a b s depth span i verdict next

-- the expressions that the check looks at in a pattern element are all that it is refused for
pub record Inside (a b : List ℕ) (i : ℕ) (p : Props) : Type 0 where
  pub each : (d : ℕ) (around : Span) (v : Verdict) (e : ℕ) → At a b pattern_element d around i v e → Exprs a b 0 (d - 1) (span_of p.span) p.n p.first v e

-- ── the verdict at a record ──

-- what a tree is refused for at its own record, and what at the records below it
abbrev pub own_verdict : {s : Sort} → Tree s → Span → Verdict
own_verdict (node s line k f kids) span = of_record s line k f kids span

abbrev pub verdict_below : {s : Sort} → Tree s → Span → Verdict
verdict_below (node s line k f kids) span = check_in kids (Check.span_in s k f span)

-- its own record counts first
abbrev pub in_turn : {s : Sort} → Tree s → Span → Verdict
in_turn t span = first_of (own_verdict t span) (verdict_below t span)

-- what is told of record i alone is what any tree of a sort that stands there is refused for at its own record
pub record Own (a b : List ℕ) (s : Sort) (i : ℕ) (span : Span) (r : Result (Unit {0}) PlanLowerError) : Type 0 where
  pub each : (sheet : Bytes) (d : ℕ) (t : Tree s) → Held sheet a b t d i → Says r (own_verdict t span)

-- what a part is refused for itself, whether it begins with a node or not
abbrev pub part_verdict : Bool → ℕ → Span → Verdict
part_verdict true i span = fine
part_verdict false i span = violated (Refusal.EmptyPatternPart (suc i) span)

pub record Begins (a b : List ℕ) (i : ℕ) (begins : Bool) : Type 0 where
  pub each : (sheet : Bytes) (d : ℕ) (t : Tree pattern_part) (span : Span) → Held sheet a b t d i → own_verdict t span ≡ part_verdict begins i span

-- ── the records alone ──

-- a test tells something where it passes, and nothing where it does not
pub record Tells (passes : Bool) (P : Type 0) : Type 0 where
  pub so : passes ≡ true → P

-- no tree that stands at record i, of whatever sort, is refused for its own record
pub record Taken (a b : List ℕ) (i : ℕ) : Type 0 where
  pub each : (sheet : Bytes) (s : Sort) (d : ℕ) (t : Tree s) (span : Span) → Held sheet a b t d i → own_verdict t span ≡ fine

-- no tree that stands at the first record is refused
pub record NoneRefused (a b : List ℕ) : Type 0 where
  pub each : (sheet : Bytes) (s : Sort) (d : ℕ) (t : Tree s) (span : Span) → Held sheet a b t d 0 → check t span ≡ fine

-- ── what a walk asks ──

-- more than so many levels left, and that something stands there
pub record WalkAsked (levels left : ℕ) (P : Type 0) : Type 0 where
  pub deep : levels < left
  pub there : P

-- the same of a part of a clause, under which there is a level more
pub record ClauseAsked (left : ℕ) (P : Type 0) : Type 0 where
  pub deep : 0 < left
  pub there : P

-- ── clauses ──

-- the word of a clause's record at which its span begins, by the number of its kind
abbrev pub span_word : ℕ → ℕ
span_word c =
    cond (eqb c match_kind) match_span_at
    (cond (eqb c where_kind) where_span_at
    (cond (eqb c unwind_kind) unwind_span_at
    (cond (eqb c call_kind) call_span_at
    (cond (eqb c write_kind) write_span_at projection_span_at))))

-- sort keys, skip and limit of the clause at record i, from record j on
abbrev pub Trailers : (a b : List ℕ) (i d : ℕ) → Span → ℕ → Stage
Trailers a b i d span j v e =
    Then (Exprs a b 1 (d - 1) span (cell a b i keys_at) j) (λ k. Then (Exprs a b 0 d span (cell a b i skip_at) k) (λ l. Exprs a b 0 d span (cell a b i limit_at) l)) v e

-- its items, and then so many filters, and then its trailers
abbrev pub Projected : (a b : List ℕ) (i filters d : ℕ) → Span → Stage
Projected a b i filters d span v e =
    Then (Exprs a b 1 (d - 1) span (cell a b i items_at) (i + 1)) (λ j. Then (Exprs a b 0 d span filters j) (λ k. Trailers a b i d span k)) v e

-- the arguments of a call, and then its yields, which are passed over
abbrev pub Called : (a b : List ℕ) (i d : ℕ) → Span → Stage
Called a b i d span v e =
    Then (Exprs a b 0 d span (cell a b i call_args_at) (i + 1)) (λ j w x. (w ≡ fine) × (j + cell a b i call_yields_at ≡ x) × (x ≤ max_records)) v e

-- ── the statement ──

-- The check steps down from a statement, an arm and a clause to an item, whether or not there is one.
abbrev pub least_depth : ℕ
least_depth = 4
