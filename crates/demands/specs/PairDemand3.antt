-- Demand 3 for the call with two sheets: pairs that are alike on each side but for spans and a one-to-one renumbering of that side's variables are refused alike or give the same plan with paired maps; and in a plan that was written every input, in copies too, is an earlier operator, and the last operator is the pair's `union`.
-- The two renumberings need not agree. The theorem is `demand3_pair`, in proofs/PairDemand3. Assumes nothing: these are definitions.
use Rattle.std.specs.Prelude.{◌≡◌, Bool, List, ◌∷◌, ◌++◌, length, take, Some}
use Rattle.model.specs.Text.{Bytes}
use Rattle.model.specs.Kind.{statement, in_plan, plan}
use Rattle.model.specs.Record.{Rec, rec, spell_recs}
use Rattle.model.specs.Tree.{Tree, records}
use Rattle.model.specs.Lower.{Recs, empty, lower_union_pair, lower_pair}
use Rattle.model.specs.Plan.{mapped_recs}
use Rattle.model.specs.Call.{Outcome}
use Rattle.alike.specs.Statement.{ids, RefusedAlike, Paired}
use Rattle.bounds.specs.Ends.{Ending}
use Rattle.demands.specs.Operators.{by_number, operator_lines}
use Rattle.demands.specs.Demand3.{Earlier, LastIs}
use Rattle.demands.specs.PairDemand1.{Taken}

-- ── a plan that was written ──

-- the operators of a pair's plan by number, and its `v` lines, which are the right's
abbrev pub operators : (left right : Tree statement) (all : Bool) → List Recs
operators left right all = by_number (lower_pair left right all).ops

abbrev pub variables : (left right : Tree statement) (all : Bool) → List Rec
variables left right all = mapped_recs (lower_pair left right all).scope.vars

-- a call with two sheets whose trees are these wrote its plan
pub record WrotePair (left right : Tree statement) (all : Bool) (o : Outcome) : Type 0 where
  pub accepted : o.answer.number ≡ 0
  -- the bytes: the first line, the operator lines and the `v` lines
  pub bytes : take o.answer.length o.slice ≡ spell_recs (rec (in_plan plan) tt (length (operators left right all), (length (variables left right all), tt)) ∷ (operator_lines (operators left right all) ++ variables left right all))
  pub inputs_earlier : Earlier 0 (operators left right all)
  -- the last operator is a `union` with the pair's flag, and its number is the lowering's result
  pub ends_on_union : LastIs (Some (Ending.Union all)) (Some (lower_union_pair left right all empty).0) (operators left right all)

-- ── the demand ──

-- t and t₂ are the trees of the first call, u and u₂ those of the second
pub record WrotePairsAlike (t t₂ u u₂ : Tree statement) (all : Bool) (o p : Outcome) : Type 0 where
  pub wrote_s : WrotePair t t₂ all o
  pub wrote_t : WrotePair u u₂ all p
  -- the same first line and the same operator lines; and maps that are paired by the right's renumbering
  pub same_count : length (variables t t₂ all) ≡ length (variables u u₂ all)
  pub same_operators : operators t t₂ all ≡ operators u u₂ all
  pub paired : Paired (ids (records t₂)) (ids (records u₂)) (variables t t₂ all) (variables u u₂ all)

pub data PairDemand3 (t t₂ u u₂ : Tree statement) (all : Bool) (o p : Outcome) : Type 0 where
  -- with the same number, line and kind, which tells the side
  refused_alike_law : RefusedAlike o p → PairDemand3 t t₂ u u₂ all o p
  written_alike : WrotePairsAlike t t₂ u u₂ all o p → PairDemand3 t t₂ u u₂ all o p

-- ── the second sentence, of every call that accepts ──

-- both sheets are well-formed and read-only and pass the check, and their plan was written
pub record PairAccepted (left right : Bytes) (all : Bool) (o : Outcome) : Type 0 where
  pub left_tree : Tree statement
  pub right_tree : Tree statement
  pub left_taken : Taken left left_tree
  pub right_taken : Taken right right_tree
  pub wrote_plan : WrotePair left_tree right_tree all o
