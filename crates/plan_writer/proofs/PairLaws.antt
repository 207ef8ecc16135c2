-- The plan sheet of two tables, put together of its parts. Assumes nothing: the laws are proved.
use mathlib.Core.Path.{◌≡◌, sym, ap, ◌∙◌}
use Prim.Native.Nat.{ℕ, zero, suc, ◌+◌, ◌-◌}
use native.Mathlib.Omega.{arith}
use mathlib.Core.List.{[], ◌∷◌, ◌++◌, append-nil, append_assoc}
use lib.ListN.{length, drop}
use Rattle.model.specs.Record.{spell_recs}
use Rattle.model.specs.Lower.{at}
use Rattle.model.specs.Plan.{operator_recs, mapped_recs, first_rec, plan_recs, plan_sheet}
use Rattle.output.specs.declared.Page.{Page}
use Rattle.output.specs.Page.{Puts}
use Rattle.output.specs.Writes.{◌⨾◌}
use Rattle.context.specs.Tables.{vars_at}
use Rattle.lower.specs.Render.{Ops}
use Rattle.plan_line.specs.declared.keyword.Keyword.{Keyword}
use Rattle.plan_line.specs.Row.{row_text}
use Rattle.plan_writer.specs.declared.pair.Counts.{Counts}
use Rattle.plan_writer.specs.Whole.{ops_from, WroteOps, WroteVars}
use Rattle.plan_writer.specs.Pair.{SideTables, WrotePairSheet}
use Rattle.plan_sheet.proofs.DueLaws.{spell_append}
use Rattle.plan_writer.proofs.WholeLaws.{vars_count, in_order_law, first_line}

-- operators by number, parted at one of them
parted : (m n : ℕ) (A : Ops) → ops_from 0 (m + n) A ≡ ops_from 0 m A ++ ops_from m n A
unfolding ops_from
parted m zero A = let e : m + 0 ≡ m = omega arith in rw e (sym (append-nil (ops_from 0 m A)))
parted m (suc n) A =
    let e : m + suc n ≡ suc (m + n) = omega arith in
    let z : 0 + (m + n) ≡ m + n = omega arith in
    rw (e, z, parted m n A) (append_assoc (ops_from 0 m A) (ops_from m n A) (A (m + n)))

pub pair_wrote : {L R : SideTables} {n : Counts} {p q r t u : Page} → Puts (row_text Keyword.Plan (n.ops ∷ n.mapped ∷ [])) p q → WroteOps L.sheet L.a L.b L.ops L.rest 0 n.first q r → WroteOps R.sheet R.a R.b R.ops R.rest n.first n.ops r t → WroteVars R.rest n.mapped t u → WrotePairSheet L R n p u
unfolding plan_sheet plan_recs first_rec spell_recs
pair_wrote {L} {R} {n} first on_left on_right vars s h =
    let A : Ops = λ k. at s.ops k in
    let mapped_are : length s.scope.vars ≡ n.mapped = ap length (sym h.vars) ∙ vars_count n.mapped (drop vars_at R.rest) in
    let all : length s.ops ≡ (n.first - 0) + (n.ops - n.first) = omega (arith, h.count, h.begun) in
    let zero_less : n.first - 0 ≡ n.first = omega arith in
    let ops_are : operator_recs s.ops ≡ ops_from 0 (n.first - 0) A ++ ops_from n.first (n.ops - n.first) A = sym (in_order_law s.ops) ∙ rw (all, zero_less) (parted n.first (n.ops - n.first) A) in
    let lefts = on_left (record { first = 0; ops = A; tabled = h.on_left; inside = omega arith }) in
    let rights = on_right (record { first = n.first; ops = A; tabled = h.on_right; inside = omega arith }) in
    rw (← h.count, mapped_are, first_line n.ops n.mapped) (first ⨾ rw (spell_append (operator_recs s.ops) (mapped_recs s.scope.vars), ops_are, spell_append (ops_from 0 (n.first - 0) A) (ops_from n.first (n.ops - n.first) A)) ((lefts ⨾ rights) ⨾ rw h.vars at vars))
