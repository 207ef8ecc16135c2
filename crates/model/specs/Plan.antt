-- The plan sheet of a lowered statement. Assumes nothing: these are definitions.
use Rattle.std.specs.Prelude.{ℕ, List, [], ◌∷◌, ◌++◌, length}
use Rattle.model.specs.Text.{Bytes}
use Rattle.model.specs.Kind.{in_plan, plan, mapped}
use Rattle.model.specs.Record.{Rec, rec, spell_recs}
use Rattle.model.specs.Lower.{Recs, LowerCtx}

-- operators by number: the oldest first
unfoldable pub operator_recs : List Recs → Recs
operator_recs [] = []
operator_recs (op ∷ ops) = operator_recs ops ++ op

-- named variables by number: the oldest first
unfoldable pub mapped_recs : List (ℕ × ℕ) → Recs
mapped_recs [] = []
mapped_recs (v ∷ vs) = mapped_recs vs ++ (rec (in_plan mapped) tt (v.1, (v.0, tt)) ∷ [])

unfoldable pub first_rec : LowerCtx → Rec
first_rec c = rec (in_plan plan) tt (length c.ops, (length c.scope.vars, tt))

unfoldable pub plan_recs : LowerCtx → Recs
plan_recs c = first_rec c ∷ (operator_recs c.ops ++ mapped_recs c.scope.vars)

unfoldable pub plan_sheet : LowerCtx → Bytes
plan_sheet c = spell_recs (plan_recs c)
