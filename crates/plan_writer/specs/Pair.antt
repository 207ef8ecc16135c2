-- The tables of two sheets, the state that they stand for, and what writing its plan sheet comes to. Assumes nothing: these are definitions.
use Rattle.std.specs.Prelude.{◌≡◌, ℕ, ◌≤◌, List, length, drop, Option}
use Rattle.model.specs.Text.{Bytes}
use Rattle.model.specs.Lower.{LowerCtx, at}
use Rattle.model.specs.Plan.{plan_sheet}
use Rattle.model.specs.Call.{written}
use Rattle.output.specs.declared.Page.{Page}
use Rattle.output.specs.Page.{Puts}
use Rattle.context.specs.Tables.{vars_of, vars_at, max_vars}
use Rattle.plan_sheet.specs.Due.{Tabled}
use Rattle.plan_sheet.specs.declared.source.Source.{Source}
use Rattle.plan_writer.specs.declared.pair.Counts.{Counts}
use Rattle.plan_writer.specs.Whole.{answer_of}

-- a sheet, the words of its records, its operators' table, and its notes and variables
pub record SideTables : Type 0 where
  pub sheet : Bytes
  pub a : List ℕ
  pub b : List ℕ
  pub ops : List ℕ
  pub rest : List ℕ

abbrev pub side_tables : Bytes → (a b ops rest : List ℕ) → SideTables
side_tables sheet a b ops rest = record { sheet = sheet; a = a; b = b; ops = ops; rest = rest }

-- those that the writer reads
abbrev pub tables_in : Source → SideTables
tables_in s = side_tables s.sheet.now s.records.a.now s.records.b.now s.ops.now s.rest.now

-- the operators before number `first` stand in the left's table and the others in the right's, and the variables are the right's
pub record PairTables (L R : SideTables) (n : Counts) (s : LowerCtx) : Type 0 where
  pub count : n.ops ≡ length s.ops
  pub begun : n.first ≤ n.ops
  pub on_left : Tabled L.sheet L.a L.b L.ops L.rest 0 n.first (λ k. at s.ops k)
  pub on_right : Tabled R.sheet R.a R.b R.ops R.rest n.first n.ops (λ k. at s.ops k)
  pub vars : vars_of n.mapped (drop vars_at R.rest) ≡ s.scope.vars
  pub few : n.mapped ≤ max_vars

-- what writing asks: tables that stand for some state
pub record PairAsked (L R : SideTables) (n : Counts) : Type 0 where
  pub state : LowerCtx
  pub tables : PairTables L R n state

abbrev pub WrotePairSheet : (L R : SideTables) (n : Counts) → Page → Page → Type 0
WrotePairSheet L R n p q = (s : LowerCtx) → PairTables L R n s → Puts (plan_sheet s) p q

-- the answer and the slice, for every state that the tables stand for
abbrev pub WrotePair : (L R : SideTables) (n : Counts) → Bytes → Bytes → Option ℕ → Type 0
WrotePair L R n slice slice' r = (s : LowerCtx) → PairTables L R n s → record { answer = answer_of r; slice = slice' } ≡ written (plan_sheet s) slice
