-- What is said of two sheets alike, in the words of document 01's section 'Two sheets alike'. Assumes nothing: these are definitions.
use Rattle.std.specs.Prelude.{◌≡◌, ◌↔◌, ℕ, ◌<◌, ◌≤◌, Bool, false, List, [], ◌∷◌, ◌++◌, map, get_or, take, Option, None, Some}
use Rattle.std.proofs.Math.ListN as ListN
use Rattle.model.specs.Text.{Bytes}
use Rattle.model.specs.Field.{Form, num, flag, var, var_or_absent, num_or_absent, number, number_or_absent, int, float, text, alias, span, length, Val, Fields}
use Rattle.model.specs.Kind.{Clause, Expr, statement, union_arm, clause, projection, expr, in_plan, plan, mapped}
use Rattle.model.specs.Record.{Rec, rec, forms, spell_recs}
use Rattle.model.specs.Tree.{Tree, Trees, node, []ᵗ, ◌∷ᵗ◌, end, ◌▸◌, records}
use Rattle.model.specs.Sheet.{Place, got, read_sheet, first_write}
use Rattle.model.specs.Lower.{LowerCtx}
use Rattle.model.specs.Plan.{plan_sheet}
use Rattle.model.specs.Call.{Outcome, pass, short, planned, max_bytes, max_depth}
use Rattle.model.specs.Pair.{pass_side, planned_pair}
use Rattle.laws.specs.TextLaws.{Each}
use Rattle.laws.specs.RecordLaws.{Fits}

-- ── records the same but for spans and ids ──

-- a value with its span or its id put to 0; `-` stays
unfoldable pub blank_val : (f : Form) → Val f → Val f
blank_val (num l) n = n
blank_val flag b = b
blank_val var n = 0
blank_val var_or_absent None = None
blank_val var_or_absent (Some n) = Some 0
blank_val (num_or_absent l) o = o
blank_val (number n) k = k
blank_val (number_or_absent n) o = o
blank_val int z = z
blank_val float n = n
blank_val text t = t
blank_val alias a = a
blank_val span s = record { start = 0; end = 0 }
blank_val length l = l

unfoldable pub blank_fields : (fs : List Form) → Fields fs → Fields fs
blank_fields [] _ = tt
blank_fields (f ∷ fs) (v, vs) = (blank_val f v, blank_fields fs vs)

unfoldable pub blank : Rec → Rec
blank r = rec r.sort r.kind (blank_fields (forms r.sort r.kind) r.fields)

-- the ids of records, in the order of their places
unfoldable pub ids_val : (f : Form) → Val f → List ℕ
ids_val (num l) n = []
ids_val flag b = []
ids_val var n = n ∷ []
ids_val var_or_absent None = []
ids_val var_or_absent (Some n) = n ∷ []
ids_val (num_or_absent l) o = []
ids_val (number n) k = []
ids_val (number_or_absent n) o = []
ids_val int z = []
ids_val float n = []
ids_val text t = []
ids_val alias a = []
ids_val span s = []
ids_val length l = []

unfoldable pub ids_fields : (fs : List Form) → Fields fs → List ℕ
ids_fields [] _ = []
ids_fields (f ∷ fs) (v, vs) = ids_val f v ++ ids_fields fs vs

unfoldable pub ids : List Rec → List ℕ
ids [] = []
ids (r ∷ rs) = ids_fields (forms r.sort r.kind) r.fields ++ ids rs

-- at one and the same place, the first list has a and the second b
pub record Stands (s t : List ℕ) (a b : ℕ) : Type 0 where
  pub place : ℕ
  pub within : place < ListN.length s
  pub first : get_or s place 0 ≡ a
  pub second : get_or t place 0 ≡ b

-- ── no unaliased item is a bare variable ──

unfoldable pub NotVar : Tree expr → Type 0
NotVar (node expr line (Expr.Over h) f kids) = Unit {0}
NotVar (node expr line Expr.Var f kids) = ⊥
NotVar (node expr line Expr.Map f kids) = Unit {0}
NotVar (node expr line Expr.Call f kids) = Unit {0}
NotVar (node expr line Expr.PatternPredicate f kids) = Unit {0}
NotVar (node expr line Expr.ListPredicate f kids) = Unit {0}
NotVar (node expr line Expr.Unresolved f kids) = Unit {0}
NotVar (node expr line Expr.Undesugared f kids) = Unit {0}

-- an item: `item =alias`, or `item -` over another expression than `var`
unfoldable pub NamedItem : Option Bytes → Tree expr → Type 0
NamedItem (Some a) e = Unit {0}
NamedItem None e = NotVar e

unfoldable pub NamedItems : {n : ℕ} → Trees projection n → Type 0
NamedItems []ᵗ = Unit {0}
NamedItems (node projection line k (a, _) (e ∷ᵗ []ᵗ ▸ end) ∷ᵗ ts) = NamedItem a e × NamedItems ts

unfoldable pub NamedClause : Tree clause → Type 0
NamedClause (node clause line Clause.Match f kids) = Unit {0}
NamedClause (node clause line Clause.Where f kids) = Unit {0}
NamedClause (node clause line Clause.With f (items ▸ kids)) = NamedItems items
NamedClause (node clause line Clause.Return f (items ▸ kids)) = NamedItems items
NamedClause (node clause line Clause.Unwind f kids) = Unit {0}
NamedClause (node clause line Clause.Call f kids) = Unit {0}
NamedClause (node clause line Clause.Write f kids) = Unit {0}

unfoldable pub NamedClauses : {n : ℕ} → Trees clause n → Type 0
NamedClauses []ᵗ = Unit {0}
NamedClauses (c ∷ᵗ cs) = NamedClause c × NamedClauses cs

unfoldable pub NamedArms : {n : ℕ} → Trees union_arm n → Type 0
NamedArms []ᵗ = Unit {0}
NamedArms (node union_arm line k f (cs ▸ end) ∷ᵗ arms) = NamedClauses cs × NamedArms arms

unfoldable pub Named : Tree statement → Type 0
Named (node statement line k f (cs ▸ arms ▸ end)) = NamedClauses cs × NamedArms arms

-- ── the premises ──

-- S is well-formed and read-only, with the tree t; T has S's records line for line, the same but for spans and ids
pub record TwoSheets (S T : Bytes) (t : Tree statement) (rt : List Rec) : Type 0 where
  pub short_s : ListN.length S ≤ max_bytes
  pub behind : Place
  pub reads : read_sheet max_depth S ≡ got t behind
  pub read_only : first_write t ≡ None
  pub named : Named t
  -- the lines of T: records, with numbers of their 32 or 64 bits and spans from start to end
  pub spelled : T ≡ spell_recs rt
  pub fit : Each Fits rt
  pub same : map (λ r. blank r) (records t) ≡ map (λ r. blank r) rt
  -- two ids in S are equal exactly when those in their places in T are
  pub one_to_one : (i j : ℕ) → i < ListN.length (ids (records t)) → j < ListN.length (ids (records t)) → (get_or (ids (records t)) i 0 ≡ get_or (ids (records t)) j 0) ↔ (get_or (ids rt) i 0 ≡ get_or (ids rt) j 0)
  -- longer ids or spans may not make T longer than a sheet may be
  pub short_t : ListN.length T ≤ max_bytes

-- the slices of a call are long enough
pub record LongEnough (work : List ℕ) (sheet slice : Bytes) : Type 0 where
  pub words : short work ≡ false
  pub room : (c : LowerCtx) → planned max_depth work sheet ≡ pass c → ListN.length (plan_sheet c) ≤ ListN.length slice

-- those of a call with two sheets
pub record PairLongEnough (work : List ℕ) (left right : Bytes) (all : Bool) (slice : Bytes) : Type 0 where
  pub words : short work ≡ false
  pub room : (c : LowerCtx) → planned_pair max_depth work left right all ≡ pass_side c → ListN.length (plan_sheet c) ≤ ListN.length slice

-- ── the conclusion ──

-- refused with the same number, line and kind
pub record RefusedAlike (o p : Outcome) : Type 0 where
  pub refused : o.answer.number ≡ 0 → ⊥
  pub number : o.answer.number ≡ p.answer.number
  pub line : o.answer.line ≡ p.answer.line
  pub kind : o.answer.kind ≡ p.answer.kind

-- `v` lines equally many, and place by place the same but for the id, where T has the one that stands in it for that of S
pub data Paired (s t : List ℕ) : List Rec → List Rec → Type 0 where
  unpaired : Paired s t [] []
  pair : {number a b : ℕ} {vs ws : List Rec} → Stands s t a b → Paired s t vs ws → Paired s t (rec (in_plan mapped) tt (number, (a, tt)) ∷ vs) (rec (in_plan mapped) tt (number, (b, tt)) ∷ ws)

-- accepted with the same first line and the same operator lines, and with maps that are paired. The first line says how many `v` lines there are
pub record AcceptedAlike (s t : List ℕ) (o p : Outcome) : Type 0 where
  pub accepted_s : o.answer.number ≡ 0
  pub accepted_t : p.answer.number ≡ 0
  pub operator_count : ℕ
  pub operators : List Rec
  pub vs : List Rec
  pub ws : List Rec
  pub plan_s : take o.answer.length o.slice ≡ spell_recs (rec (in_plan plan) tt (operator_count, (ListN.length vs, tt)) ∷ (operators ++ vs))
  pub plan_t : take p.answer.length p.slice ≡ spell_recs (rec (in_plan plan) tt (operator_count, (ListN.length vs, tt)) ∷ (operators ++ ws))
  pub paired : Paired s t vs ws

pub data AlikeOutcomes (s t : List ℕ) (o p : Outcome) : Type 0 where
  refused_alike : RefusedAlike o p → AlikeOutcomes s t o p
  accepted_alike : AcceptedAlike s t o p → AlikeOutcomes s t o p
