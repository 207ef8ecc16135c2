-- Demand 3: sheets alike but for spans and a one-to-one renumbering of variables are refused alike or give the same plan with paired maps; and in a plan that was written every input, in copies too, is an earlier operator, and the last operator is the one that the lowering ends on.
-- Both sentences are said of one pair of calls. The theorem is `demand3`, in proofs/Demand3. Assumes nothing: these are definitions, and examples.
use Rattle.std.specs.Prelude.{◌≡◌, ◌↔◌, ℕ, suc, ◌<◌, List, [], ◌∷◌, ◌++◌, map, length, get_or, take, Option, None, Some}
use Rattle.std.proofs.Common.{arith}
use Rattle.model.specs.Text.{Bytes}
use Rattle.model.specs.Field.{Fields}
use Rattle.model.specs.Kind.{ReadOp, statement, in_plan, plan}
use Rattle.model.specs.Record.{Rec, rec, op_forms, spell_recs, inputs}
use Rattle.model.specs.Tree.{Tree, records}
use Rattle.model.specs.Sheet.{read_sheet}
use Rattle.model.specs.Check.{fine, precheck_statement}
use Rattle.model.specs.Lower.{Recs, op, lower, empty, lower_statement}
use Rattle.model.specs.Plan.{mapped_recs}
use Rattle.model.specs.Call.{Outcome, max_depth}
use Rattle.alike.specs.Statement.{blank, ids, Named, RefusedAlike, Paired}
use Rattle.alike.specs.Pairs.{first, second, tree_first, records_second, tree_of, place_of, reads_second, met}
use Rattle.bounds.specs.Earlier.{All, ◌∷ᵃ◌}
use Rattle.bounds.specs.Ends.{Ending, ending_of, ends_on}
use Rattle.demands.specs.Sheets.{WellFormed, ReadOnly}
use Rattle.demands.specs.Operators.{by_number, operator_lines}

-- ── two sheets alike, by document 01's section of that name ──

-- t and u are the trees of S and T
pub record SheetsAlike (t u : Tree statement) : Type 0 where
  -- T has S's records line for line, the same but for spans and variable ids; `-` stays
  pub same : map (λ r. blank r) (records t) ≡ map (λ r. blank r) (records u)
  -- two ids in S are equal exactly when those in their places in T are
  pub one_to_one : (i j : ℕ) → i < length (ids (records t)) → j < length (ids (records t)) → (get_or (ids (records t)) i 0 ≡ get_or (ids (records t)) j 0) ↔ (get_or (ids (records u)) i 0 ≡ get_or (ids (records u)) j 0)
  -- no item without an alias is a bare variable
  pub named : Named t

-- ── a plan that was written ──

-- the operators of a sheet's plan by number, and its `v` lines
abbrev pub operators : Tree statement → List Recs
operators t = by_number (lower_statement t).ops

abbrev pub variables : Tree statement → List Rec
variables t = mapped_recs (lower_statement t).scope.vars

-- the lines of an operator, those of the copies inside it among them: every number under input, left or right is below k
unfoldable pub InputsBelow : ℕ → Recs → Type 0
InputsBelow k lines = All (λ r. All (λ n. n < k) (inputs r)) lines

-- operators by number, the first of which has the number k: every input is an earlier operator
pub data Earlier : ℕ → List Recs → Type 0 where
  no_more : {k : ℕ} → Earlier k []
  operator : {k : ℕ} {lines : Recs} {more : List Recs} → InputsBelow k lines → Earlier (suc k) more → Earlier k (lines ∷ more)

first_below : {k : ℕ} {lines : Recs} {more : List Recs} → Earlier k (lines ∷ more) → InputsBelow k lines
first_below (operator below e) = below

later_earlier : {k : ℕ} {lines : Recs} {more : List Recs} → Earlier k (lines ∷ more) → Earlier (suc k) more
later_earlier (operator below e) = e

all_first : {A : Type 0} {P : A → Type 0} {a : A} {l : List A} → All P (a ∷ l) → P a
all_first (p ∷ᵃ ps) = p

all_later : {A : Type 0} {P : A → Type 0} {a : A} {l : List A} → All P (a ∷ l) → All P l
all_later (p ∷ᵃ ps) = ps

-- so a plan is ruled out in which operator 1 is an `optional` behind operator 0, and the copy inside it has the input 1
pub copy_too : Earlier 0 ((op ReadOp.Source (0, (0, tt)) ∷ []) ∷ (op ReadOp.OptionalJoin (0, tt) ∷ op ReadOp.Distinct (1, tt) ∷ []) ∷ []) → ⊥
unfolding InputsBelow
copy_too e =
    let copied : 1 < 1 = all_first (all_first (all_later (first_below (later_earlier e)))) in
    omega arith

-- The last operator is the one that the lowering ends on: its first line is the one that document 01 names, and its number is the lowering's result. A lowering that ends on none leaves no operator.
pub data LastIs : Option Ending → (result : Option ℕ) → List Recs → Type 0 where
  none_at_all : LastIs None None []
  last : (front : List Recs) (k : ReadOp) (f : Fields (op_forms k)) (lines : Recs) → LastIs (Some (ending_of k f)) (Some (length front)) (front ++ ((op k f ∷ lines) ∷ []))

-- a call with a sheet whose tree is t wrote its plan
pub record Wrote (t : Tree statement) (o : Outcome) : Type 0 where
  pub accepted : o.answer.number ≡ 0
  -- the bytes: the first line, the operator lines and the `v` lines
  pub bytes : take o.answer.length o.slice ≡ spell_recs (rec (in_plan plan) tt (length (operators t), (length (variables t), tt)) ∷ (operator_lines (operators t) ++ variables t))
  pub inputs_earlier : Earlier 0 (operators t)
  pub ends_on_last : LastIs (ends_on t) (lower t empty).0 (operators t)

-- ── the demand ──

pub record WroteAlike (t u : Tree statement) (o p : Outcome) : Type 0 where
  pub wrote_s : Wrote t o
  pub wrote_t : Wrote u p
  -- the same first line and the same operator lines; and maps that are paired
  pub same_count : length (variables t) ≡ length (variables u)
  pub same_operators : operators t ≡ operators u
  pub paired : Paired (ids (records t)) (ids (records u)) (variables t) (variables u)

pub data Demand3 (t u : Tree statement) (o p : Outcome) : Type 0 where
  -- with the same number, line and kind
  refused_alike_law : RefusedAlike o p → Demand3 t u o p
  written_alike : WroteAlike t u o p → Demand3 t u o p

-- ── the second sentence, of every call that accepts ──

-- the sheet is well-formed and read-only and passes the check, and its plan was written
pub record Accepted (sheet : Bytes) (o : Outcome) : Type 0 where
  pub tree : Tree statement
  pub well_formed : WellFormed sheet tree
  pub read_only : ReadOnly tree
  pub checked_tree : precheck_statement tree ≡ fine
  pub wrote_plan : Wrote tree o

-- ── two sheets that meet the premises: M1, and M1 with another id and other spans ──

pub met_s : WellFormed first tree_first
met_s = record { bytes = met.short_s; behind = met.behind; reads = met.reads }

pub met_t : WellFormed second (tree_of (read_sheet max_depth second))
met_t = record { bytes = met.short_t; behind = place_of (read_sheet max_depth second); reads = reads_second }

pub met_alike : SheetsAlike tree_first (tree_of (read_sheet max_depth second))
unfolding records_second
met_alike = record { same = met.same; one_to_one = met.one_to_one; named = met.named }
