-- Clauses, arms and the statement: what each arm of the check of a clause has to do with the whole. Assumes nothing.
use mathlib.Core.Path.{◌≡◌, refl, ◌∙◌}
use Prim.Native.Nat.{ℕ, ◌+◌, ◌-◌, ◌≤◌}
use mathlib.Core.List.{List, [], ◌∷◌}
use Rattle.std.specs.Prelude.{Some, Ok}
use lib.Dec.{eqb}
use Rattle.model.specs.Text.{Bytes}
use Rattle.model.specs.Field.{Span}
use Rattle.model.specs.Tree.{Tree}
use Rattle.words.specs.Held.{Held, HeldSome, size}
use Rattle.words.specs.Places.{match_kind, where_kind, with_kind, return_kind, unwind_kind, call_kind, kind_at, stmt_clauses_at, stmt_arms_at, arm_clauses_at, match_parts_at}
use Rattle.model.specs.Kind.{Clause, expr, clause, union_arm, statement, order_item, pattern_part}
use Rattle.model.specs.Record.{one, kinds, clause_forms}
use Rattle.model.specs.Check.{Verdict, no_span, of_record, precheck_statement}
use Rattle.words.specs.Words.{Roomy, cell, kind_of, first_kind, nth, fields_of, field_of}
use Rattle.precheck.specs.Answer.{span_of}
use Rattle.precheck.specs.Steps.{Exists, Then, Walks, Run}
use Rattle.words.specs.Cells.{flag_word, cells}
use Rattle.words.specs.Numbers.{Others, clause_number, clause_number_law}
use Rattle.precheck.specs.Stands.{At, Exprs, Spans, span_in, span_word, Projected, Called}
use Rattle.precheck.specs.declared.HirSpan.{HirSpan}
use Rattle.precheck.proofs.Laws.{End, last_of, map_run, map_then, with_none}
use Rattle.precheck.proofs.Opened.{Body, Opened, open_at, As, open_as, kids_of, low_end}
use Rattle.precheck.proofs.Expressions.{of_item, of_key}
use Rattle.precheck.proofs.Patterns.{span_read, at_once, passed, of_yield}
use Rattle.precheck.proofs.Checks.{Turns}

module _ {a b : List ℕ} (room : Roomy a b) where
  -- so many expressions as a flag says
  flagged : {d : ℕ} {span : Span} {i x : ℕ} {v : Verdict} {e : ℕ} → x ≤ 1 → Run (At a b expr d span) (one (eqb x 1)) i v e → Exprs a b 0 d span x i v e
  flagged {x = x} h r = at_once (rw (flag_word x h) at r)

  module _ {d : ℕ} {span : Span} {k s l : ℕ} where
    -- sort keys, skip and limit
    trailers : {j : ℕ} {v : Verdict} {e : ℕ} → s ≤ 1 → l ≤ 1 → Then (Run (At a b order_item d span) k j) (λ x. Then (Run (At a b expr d span) (one (eqb s 1)) x) (λ y. Then (Run (At a b expr d span) (one (eqb l 1)) y) End)) v e → Then (Exprs a b 1 (d - 1) span k j) (λ x. Then (Exprs a b 0 d span s x) (λ y. Exprs a b 0 d span l y)) v e
    trailers hs hl t = map_then (λ w j r. map_run (of_key room) r) (λ x w. map_then (λ w j r. flagged hs r) (λ y w r. flagged hl (last_of r))) t

-- ── a clause of a kind that is known ──

-- the span that the code reads is the clause's
span_is : {a b : List ℕ} {i c w k : ℕ} {s : HirSpan} → Spans a b i w s → w ≡ span_word c → c ≡ k → span_of s ≡ span_in a b i (span_word k)
span_is {a} {b} {i} h e k = span_read h ∙ rw (e, k)

module _ {a b : List ℕ} (room : Roomy a b) {i c w n : ℕ} {s : HirSpan} (kind : c ≡ cell a b i kind_at) (word4 : n ≡ cell a b i match_parts_at) (spans : Spans a b i w s) (at : w ≡ span_word c) {d : ℕ} where
  clause_as : {u v : Verdict} {e : ℕ} (o : Opened a b clause d no_span i u v e) (k : Clause) → kind_of clause c ≡ Some k → As o.sheet a b clause d no_span i v e k
  clause_as o k z = open_as o k (rw kind at z)

  pub as_match : c ≡ match_kind → Turns (At a b clause d no_span i) (Run (At a b pattern_part (d - 1) (span_of s)) n (i + 1))
  unfolding kind_of nth kinds first_kind of_record fields_of field_of
  as_match h = record { to = λ v e p. rw (word4, span_is spans at h) (last_of (kids_of (clause_as (open_at room p) Clause.Match (rw h)).body refl)) }

  pub as_where : c ≡ where_kind → Turns (At a b clause d no_span i) (Exprs a b 0 (d - 1) (span_of s) 1 (i + 1))
  unfolding kind_of nth kinds first_kind of_record fields_of field_of
  as_where h = record { to = λ v e p. rw (span_is spans at h) (at_once (last_of (kids_of (clause_as (open_at room p) Clause.Where (rw h)).body refl))) }

  pub as_unwind : c ≡ unwind_kind → Turns (At a b clause d no_span i) (Exprs a b 0 (d - 1) (span_of s) 1 (i + 1))
  unfolding kind_of nth kinds first_kind of_record fields_of field_of
  as_unwind h = record { to = λ v e p. rw (span_is spans at h) (at_once (last_of (kids_of (clause_as (open_at room p) Clause.Unwind (rw h)).body refl))) }

  pub as_with : c ≡ with_kind → Turns (At a b clause d no_span i) (Projected a b i n (d - 1) (span_of s))
  unfolding kind_of nth kinds first_kind of_record fields_of field_of
  as_with h =
      record {
        to = λ v e p.
            let o = clause_as (open_at room p) Clause.With (rw h) in
            rw (word4, span_is spans at h)
            (map_then (λ x j r. map_run (of_item room) r) (λ j x. map_then (λ y k r. flagged room o.flags.1.0 r) (λ k y r. trailers room o.flags.1.1.1.0 o.flags.1.1.1.1.0 r)) (kids_of o.body refl));
      }

  pub as_return : c ≡ return_kind → Turns (At a b clause d no_span i) (Projected a b i 0 (d - 1) (span_of s))
  unfolding kind_of nth kinds first_kind of_record fields_of field_of
  as_return h =
      record {
        to = λ v e p.
            let o = clause_as (open_at room p) Clause.Return (rw h) in
            rw (span_is spans at h)
            (map_then (λ x j r. map_run (of_item room) r) (λ j x r. with_none j x e (trailers room o.flags.1.1.1.0 o.flags.1.1.1.1.0 r)) (kids_of o.body refl));
      }

  pub as_call : c ≡ call_kind → Turns (At a b clause d no_span i) (Called a b i (d - 1) (span_of s))
  unfolding kind_of nth kinds first_kind of_record fields_of field_of
  as_call h =
      record {
        to = λ v e p.
            let o = clause_as (open_at room p) Clause.Call (rw h) in
            rw (span_is spans at h)
            (map_then (λ x j r. at_once r) (λ j x r. let f = passed (of_yield room) (last_of r) in (f.0, f.1, low_end p)) (kids_of o.body refl));
      }

-- a clause of none of the kinds that the code tells apart is a `write`, which has no children
module _ {a b : List ℕ} {d i : ℕ} {v : Verdict} {e : ℕ} where
  childless : (sheet : Bytes) (c : ℕ) (k : Clause) → c ≡ clause_number k → Others c (call_kind ∷ unwind_kind ∷ return_kind ∷ with_kind ∷ where_kind ∷ match_kind ∷ []) → Body sheet a b clause d no_span i v e k (fields_of (clause_forms k) sheet (cells a b i) 0) → End (i + 1) v e
  unfolding clause_number of_record
  childless sheet c Clause.Match n r o = absurd (r.0.0.0.0.0.1 n)
  childless sheet c Clause.Where n r o = absurd (r.0.0.0.0.1 n)
  childless sheet c Clause.With n r o = absurd (r.0.0.0.1 n)
  childless sheet c Clause.Return n r o = absurd (r.0.0.1 n)
  childless sheet c Clause.Unwind n r o = absurd (r.0.1 n)
  childless sheet c Clause.Call n r o = absurd (r.1 n)
  childless sheet c Clause.Write n r o = kids_of o refl

pub as_write : {a b : List ℕ} {i c d : ℕ} → Roomy a b → c ≡ cell a b i kind_at → Others c (call_kind ∷ unwind_kind ∷ return_kind ∷ with_kind ∷ where_kind ∷ match_kind ∷ []) → Walks (Ok (i + 1)) (At a b clause d no_span i)
as_write {c = c} room kind h =
    record { each = λ v e p. let o = open_at room p in childless o.sheet c o.kind (kind ∙ clause_number_law _ _ o.number) h o.body }

-- ── an arm, and the statement ──

pub as_arm : {a b : List ℕ} {i n d : ℕ} → Roomy a b → n ≡ cell a b i arm_clauses_at → Turns (At a b union_arm d no_span i) (Run (At a b clause (d - 1) no_span) n (i + 1))
unfolding of_record fields_of field_of
as_arm room h = record { to = λ v e p. rw h (last_of (kids_of (open_at room p).body refl)) }

pub as_statement : {a b : List ℕ} {m n d : ℕ} → Roomy a b → m ≡ cell a b 0 stmt_clauses_at → n ≡ cell a b 0 stmt_arms_at → Turns (At a b statement d no_span 0) (Then (Run (At a b clause (d - 1) no_span) m 1) (λ j. Run (At a b union_arm (d - 1) no_span) n j))
unfolding of_record fields_of field_of
as_statement room hm hn = record { to = λ v e p. rw (hm, hn) (map_then (λ w j r. r) (λ j w r. last_of r) (kids_of (open_at room p).body refl)) }

-- a tree that is held stands there with its verdict
pub held_at : {a b : List ℕ} {d : ℕ} (sheet : Bytes) (t : Tree statement) → Held sheet a b t d 0 → At a b statement d no_span 0 (precheck_statement t) (0 + size t)
unfolding precheck_statement
held_at sheet t h = record { sheet = sheet; tree = t; held = h; verdict = refl; next = refl }

pub some_held : {a b : List ℕ} {d : ℕ} → ((sheet : Bytes) × HeldSome sheet a b statement d 0) → Exists (At a b statement d no_span 0)
some_held (sheet, h) = record { verdict = precheck_statement h.tree; next = 0 + size h.tree; is = held_at sheet h.tree h.is }
