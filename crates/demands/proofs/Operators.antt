-- The operators of a written plan stand by number: behind the first line come the lines of operator 0, then those of operator 1, and so on. Assumes nothing: these are theorems with their proofs.
use Rattle.std.specs.Prelude.{◌≡◌, refl, ℕ, zero, suc, ◌+◌, ◌-◌, ◌≤◌, ◌<◌, List, [], ◌∷◌, ◌++◌, length}
use Rattle.std.proofs.Common.{sym, ◌∙◌, ap, ap₂, arith, append-nil, append_assoc, eq-eqb, ne_eqb}
use Rattle.model.specs.Record.{Rec, spell_rec, spell_recs}
use Rattle.model.specs.Lower.{Recs, LowerCtx, at}
use Rattle.model.specs.Plan.{operator_recs, mapped_recs, first_rec, plan_recs, plan_sheet}
use Rattle.demands.specs.Operators.{from, by_number, operator_lines, OperatorStands}

-- ── the newest operator is the last, and the others stay what they were ──

at_newest : (op : Recs) (ops : List Recs) → at (op ∷ ops) (length ops) ≡ op
unfolding at
at_newest op ops = rw (eq-eqb (length ops) (length ops) refl)

at_older : (op : Recs) (ops : List Recs) (k : ℕ) → k < length ops → at (op ∷ ops) k ≡ at ops k
unfolding at
at_older op ops k lt = rw (ne_eqb k (length ops) (λ e. omega arith))

from_older : (op : Recs) (ops : List Recs) (k n : ℕ) → k + n ≤ length ops → from (op ∷ ops) k n ≡ from ops k n
unfolding from
from_older op ops k zero le = refl
from_older op ops k (suc n) le = rw (at_older op ops k (omega arith), from_older op ops (suc k) n (omega arith))

from_snoc : (ops : List Recs) (k n : ℕ) → from ops k (suc n) ≡ from ops k n ++ (at ops (k + n) ∷ [])
unfolding from
from_snoc ops k zero = ap (λ j. at ops j ∷ []) (omega arith)
from_snoc ops k (suc n) = ap (λ l. at ops k ∷ l) (from_snoc ops (suc k) n ∙ ap (λ j. from ops (suc k) n ++ (at ops j ∷ [])) (omega arith))

pub by_number_newest : (op : Recs) (ops : List Recs) → by_number (op ∷ ops) ≡ by_number ops ++ (op ∷ [])
unfolding by_number
by_number_newest op ops = from_snoc (op ∷ ops) 0 (length ops) ∙ ap₂ (λ l o. l ++ (o ∷ [])) (from_older op ops 0 (length ops) (omega arith)) (ap (λ k. at (op ∷ ops) k) (omega arith) ∙ at_newest op ops)

from_length : (ops : List Recs) (k n : ℕ) → length (from ops k n) ≡ n
unfolding from
from_length ops k zero = refl
from_length ops k (suc n) = ap suc (from_length ops (suc k) n)

pub by_number_length : (ops : List Recs) → length (by_number ops) ≡ length ops
unfolding by_number
by_number_length ops = from_length ops 0 (length ops)

-- ── the plan ──

pub lines_append : (ops more : List Recs) → operator_lines (ops ++ more) ≡ operator_lines ops ++ operator_lines more
unfolding operator_lines
lines_append [] more = refl
lines_append (op ∷ ops) more = rw (lines_append ops more) (sym (append_assoc op (operator_lines ops) (operator_lines more)))

-- the definition has the operators newest first; so its lines are theirs by number
pub operators_by_number : (ops : List Recs) → operator_recs ops ≡ operator_lines (by_number ops)
unfolding operator_recs by_number operator_lines from
operators_by_number [] = refl
operators_by_number (op ∷ ops) = rw (operators_by_number ops) (sym (ap operator_lines (by_number_newest op ops) ∙ lines_append (by_number ops) (op ∷ []) ∙ ap (λ l. operator_lines (by_number ops) ++ l) (append-nil op)))

-- the plan sheet: its first line, the operators by number, and the `v` lines
pub plan_by_number : (c : LowerCtx) → plan_sheet c ≡ spell_recs (first_rec c ∷ (operator_lines (by_number c.ops) ++ mapped_recs c.scope.vars))
unfolding plan_sheet plan_recs
plan_by_number c = rw (operators_by_number c.ops)

-- ── operator k of the sheet is operator k of the state ──

from_split : (ops : List Recs) (i k n : ℕ) → from ops i (k + n) ≡ from ops i k ++ from ops (i + k) n
unfolding from
from_split ops i zero n =
    let count : 0 + n ≡ n = omega arith in
    let start : i ≡ i + 0 = omega arith in
    ap (λ m. from ops i m) count ∙ ap (λ j. from ops j n) start
from_split ops i (suc k) n =
    let count : suc k + n ≡ suc (k + n) = omega arith in
    ap (λ m. from ops i m) count ∙ ap (λ l. at ops i ∷ l) (from_split ops (suc i) k n ∙ ap (λ j. from ops (suc i) k ++ from ops j n) (omega arith))

pub spell_append : (rs ss : List Rec) → spell_recs (rs ++ ss) ≡ spell_recs rs ++ spell_recs ss
unfolding spell_recs
spell_append [] ss = refl
spell_append (r ∷ rs) ss = rw (spell_append rs ss) (sym (append_assoc (spell_rec r) (spell_recs rs) (spell_recs ss)))

stands_at : (c : LowerCtx) (k later : ℕ) → length c.ops ≡ k + suc later → OperatorStands c k
unfolding by_number operator_lines from
stands_at c k later e = record {
  later = later;
  count = e;
  stands =
      let behind = operator_lines (from c.ops (suc k) later) ++ mapped_recs c.scope.vars in
      plan_by_number c
      ∙ ap (λ l. spell_recs (first_rec c ∷ (operator_lines l ++ mapped_recs c.scope.vars))) (ap (λ n. from c.ops 0 n) e ∙ from_split c.ops 0 k (suc later) ∙ ap (λ j. from c.ops 0 k ++ from c.ops j (suc later)) (omega arith))
      ∙ ap (λ l. spell_recs (first_rec c ∷ (l ++ mapped_recs c.scope.vars))) (lines_append (from c.ops 0 k) (from c.ops k (suc later)))
      ∙ ap (λ l. spell_recs (first_rec c ∷ l)) (append_assoc (operator_lines (from c.ops 0 k)) (operator_lines (from c.ops k (suc later))) (mapped_recs c.scope.vars) ∙ ap (λ l. operator_lines (from c.ops 0 k) ++ l) (append_assoc (at c.ops k) (operator_lines (from c.ops (suc k) later)) (mapped_recs c.scope.vars)))
      ∙ spell_append (first_rec c ∷ operator_lines (from c.ops 0 k)) (at c.ops k ++ behind)
      ∙ ap (λ b. spell_recs (first_rec c ∷ operator_lines (from c.ops 0 k)) ++ b) (spell_append (at c.ops k) behind);
}

pub operator_stands : (c : LowerCtx) (k : ℕ) → k < length c.ops → OperatorStands c k
operator_stands c k lt = stands_at c k (length c.ops - suc k) (omega arith)
