-- The whole plan sheet: the operators by number, the named variables, and the first line. Assumes nothing: every law is proved.
use mathlib.Core.Path.{◌≡◌, refl, ap, ◌∙◌}
use Prim.Native.Nat.{ℕ, zero, suc, ◌+◌, ◌-◌, ◌≤◌, ◌<◌}
use native.Mathlib.Numerals.{add-one}
use native.Mathlib.Omega.{arith}
use mathlib.Core.List.{List, [], ◌∷◌, ◌++◌, append-nil}
use lib.ListN.{length, drop}
use borrow.Author.Tests.{eq-eqb, ne_eqb}
use Rattle.model.specs.Text.{Bytes, bytes, bytes_from}
use Rattle.model.specs.Field.{spell, spell_fields}
use Rattle.model.specs.Kind.{in_plan, mapped, plan}
use Rattle.model.specs.Record.{rec, keyword, plan_keyword, spell_rec, spell_recs}
use Rattle.model.specs.Lower.{Recs, at}
use Rattle.model.specs.Plan.{operator_recs, mapped_recs}
use Rattle.output.specs.declared.Page.{Page}
use Rattle.output.specs.Page.{Puts}
use Rattle.output.specs.Writes.{◌⨾◌, stay}
use Rattle.context.specs.Tables.{vars_of, vars_at}
use Rattle.lower.specs.Render.{Ops}
use Rattle.plan_line.specs.Keywords.{word}
use Rattle.plan_line.specs.declared.keyword.Keyword.{Keyword}
use Rattle.plan_line.specs.Row.{row_text}
use Rattle.plan_sheet.specs.Due.{SomePlan, WroteOp}
use Rattle.plan_writer.specs.Whole.{ops_from, WroteOps, WroteVars}
use Rattle.plan_line.proofs.RowLaws.{row_rec}
use Rattle.plan_sheet.proofs.DueLaws.{tabled_less, spell_append}

-- ── operators ──

-- operator k of a range can be written
pub plan_at : {sheet : Bytes} {a b os rest : List ℕ} {first end k : ℕ} → first ≤ k → k < end → SomePlan sheet a b os rest first end → SomePlan sheet a b os rest k (k + 1)
plan_at f l h = record { first = h.first; ops = h.ops; tabled = tabled_less (omega arith) h.tabled; inside = omega (arith, h.inside) }

ops_from_same : (first n : ℕ) (A B : Ops) → ((k : ℕ) → k < first + n → A k ≡ B k) → ops_from first n A ≡ ops_from first n B
unfolding ops_from
ops_from_same first zero A B h = refl
ops_from_same first (suc n) A B h = rw (ops_from_same first n A B (λ k l. h k (omega arith)), h (first + n) (omega arith))

-- operators by number are those that the state has, the oldest first
pub in_order_law : (ops : List Recs) → ops_from 0 (length ops) (λ k. at ops k) ≡ operator_recs ops
unfolding ops_from operator_recs at
in_order_law [] = refl
in_order_law (op ∷ ops) =
    let e : 0 + length ops ≡ length ops = omega arith in
    rw (eq-eqb (0 + length ops) (length ops) e)
    (ap (λ (r : Recs). r ++ op) (ops_from_same 0 (length ops) (λ k. at (op ∷ ops) k) (λ k. at ops k) (λ k l. rw (ne_eqb k (length ops) (λ e. omega arith))) ∙ in_order_law ops))

-- the loop over operators, before number k
pub record Writing (sheet : Bytes) (a b os rest : List ℕ) (first end : ℕ) (start : Page) (k : ℕ) (p : Page) : Type 0 where
  pub begun : first ≤ k
  pub low : k - first ≤ end - first
  pub wrote : (h : SomePlan sheet a b os rest first end) → Puts (spell_recs (ops_from first (k - first) h.ops)) start p

-- the operators before number k + 1
further : (first k : ℕ) (A : Ops) → first ≤ k → ops_from first (k + 1 - first) A ≡ ops_from first (k - first) A ++ A k
unfolding ops_from
further first k A f =
    let e : k + 1 - first ≡ suc (k - first) = omega arith in
    let n : first + (k - first) ≡ k = omega arith in
    rw e (ap (λ j. ops_from first (k - first) A ++ A j) n)

module _ {sheet : Bytes} {a b os rest : List ℕ} {first end : ℕ} {start : Page} where
  pub no_ops : Writing sheet a b os rest first end start first start
  unfolding ops_from spell_recs
  no_ops =
      let e : first - first ≡ 0 = omega arith in
      record { begun = omega arith; low = omega arith; wrote = λ h. rw e stay }

  pub one_more : {k : ℕ} {p q : Page} → k < end → Writing sheet a b os rest first end start k p → WroteOp sheet a b os rest k p q → Writing sheet a b os rest first end start (k + 1) q
  unfolding plan_at
  one_more {k} l w v =
      record {
        begun = omega (arith, w.begun);
        low = omega (arith, w.begun);
        wrote = λ h. rw (further first k h.ops w.begun, spell_append (ops_from first (k - first) h.ops) (h.ops k)) (w.wrote h ⨾ v (plan_at w.begun l h));
      }

  pub all_ops : {k : ℕ} {p : Page} → end ≤ k → Writing sheet a b os rest first end start k p → WroteOps sheet a b os rest first end start p
  all_ops {k} l w = let e : k - first ≡ end - first = omega (arith, w.low) in rw e at w.wrote

-- ── named variables ──

variable_line : (number id : ℕ) → spell_rec (rec (in_plan mapped) tt (number, (id, tt))) ≡ row_text Keyword.Variable (number ∷ id ∷ [])
unfolding keyword plan_keyword word bytes bytes_from spell_fields spell
variable_line number id = row_rec _ Keyword.Variable (number ∷ id ∷ []) refl refl

pub record Listing (rest : List ℕ) (n : ℕ) (start : Page) (k : ℕ) (p : Page) : Type 0 where
  pub low : k ≤ n
  pub wrote : WroteVars rest k start p

module _ {rest : List ℕ} {n : ℕ} {start : Page} where
  pub no_vars : Listing rest n start 0 start
  unfolding vars_of mapped_recs spell_recs
  no_vars = record { low = omega arith; wrote = stay }

  pub next_var_law : {k id number : ℕ} {p q : Page} → k < n → Listing rest n start k p → vars_of (suc k) (drop vars_at rest) ≡ (id, number) ∷ vars_of k (drop vars_at rest) → Puts (row_text Keyword.Variable (number ∷ id ∷ [])) p q → Listing rest n start (k + 1) q
  unfolding mapped_recs spell_recs
  next_var_law {k} {id} {number} {p} {q} l w e v =
      let line : Puts (spell_recs (rec (in_plan mapped) tt (number, (id, tt)) ∷ [])) p q = rw (append-nil (spell_rec (rec (in_plan mapped) tt (number, (id, tt)))), variable_line number id) v in
      rw (add-one k) (record {
        low = l;
        wrote = rw (e, spell_append (mapped_recs (vars_of k (drop vars_at rest))) (rec (in_plan mapped) tt (number, (id, tt)) ∷ [])) (w.wrote ⨾ line);
      })

  pub all_vars : {k : ℕ} {p : Page} → n ≤ k → Listing rest n start k p → WroteVars rest n start p
  all_vars {k} l w = let e : k ≡ n = omega (arith, w.low) in rw e at w.wrote

-- ── the whole ──

pub first_line : (n m : ℕ) → spell_rec (rec (in_plan plan) tt (n, (m, tt))) ≡ row_text Keyword.Plan (n ∷ m ∷ [])
unfolding keyword plan_keyword word bytes bytes_from spell_fields spell
first_line n m = row_rec _ Keyword.Plan (n ∷ m ∷ []) refl refl

pub vars_count : (n : ℕ) (vs : List ℕ) → length (vars_of n vs) ≡ n
unfolding vars_of
vars_count zero vs = refl
vars_count (suc n) vs = ap suc (vars_count n vs)
