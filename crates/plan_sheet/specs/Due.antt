-- What is due to be written: expressions that the words hold, each behind a line of its own or not, over operators that the tables show. Assumes nothing: these are definitions.
use Rattle.std.specs.Prelude.{◌≡◌, ℕ, zero, suc, ◌+◌, ◌≤◌, ◌<◌, List, [], ◌∷◌, ◌++◌, length, get_or, take}
use Rattle.model.specs.Text.{Bytes}
use Rattle.model.specs.Field.{Fields}
use Rattle.model.specs.Kind.{Expr, PatternElement, projection, order_item, pattern_element, name, entry, expr, in_plan, plan_projection, order_key, plan_entry}
use Rattle.model.specs.Record.{Rec, rec, forms, expr_forms, element_forms, spell_recs}
use Rattle.model.specs.Tree.{Tree}
use Rattle.model.specs.Lower.{Recs, expr_alias, alias_or}
use Rattle.output.specs.declared.Page.{Page}
use Rattle.output.specs.Page.{Puts}
use Rattle.words.specs.Words.{Roomy, max_records}
use Rattle.words.specs.Held.{Held, RecordAt, size}
use Rattle.context.specs.Tables.{op_at, max_stored, second_pass, deepest}
use Rattle.context.specs.declared.op.Op.{Op}
use Rattle.lower.specs.Side.{side}
use Rattle.lower.specs.Render.{Notes, Ops, render, Below, spec_recs, KidsBelow}
use Rattle.lower.specs.Shows.{Stored, shift}
use Rattle.model.specs.Call.{work_words}

-- what is noted
abbrev pub noted : List ℕ → Notes
noted rest q = get_or rest q 0

-- the slices are long enough
pub record Room (a b os rest : List ℕ) : Type 0 where
  pub records : Roomy a b
  pub in_ops : work_words ≤ length os
  pub in_rest : work_words ≤ length rest

-- where the notes of a pass begin, and how deep trees may be
pub record Near (base left : ℕ) : Type 0 where
  pub near : base ≤ second_pass
  pub shallow : left ≤ deepest

-- the notes of an operator's pass are inside the fourth slice, and its record is one of the first
pub record NotesIn (rest : List ℕ) (o : Op) : Type 0 where
  pub in_rest : work_words ≤ length rest
  pub near : o.base ≤ second_pass
  pub low : o.idx < max_records

-- A has the operators from the first one on and below n, as the tables show them
pub record Tabled (sheet : Bytes) (a b os rest : List ℕ) (first n : ℕ) (A : Ops) : Type 0 where
  pub few : n ≤ max_stored
  pub stored : (k : ℕ) → first ≤ k → k < n → Stored (side sheet a b first) (noted rest) A k (op_at os k) (A k)

-- what a part of an operator asks whose notes are read, X being what is due
pub record NotedAsked (rest : List ℕ) (o : Op) (X : Type 0) : Type 0 where
  pub notes : NotesIn rest o
  pub due : X

-- some expression begins at record i
pub record ExprAt (sheet : Bytes) (a b : List ℕ) (i : ℕ) : Type 0 where
  pub kind : Expr
  pub fields : Fields (expr_forms kind)
  pub at : RecordAt sheet a b i expr kind fields

-- an item begins at record i, with its expression behind it
pub record ItemAt (sheet : Bytes) (a b : List ℕ) (i : ℕ) : Type 0 where
  pub fields : Fields (forms projection tt)
  pub at : RecordAt sheet a b i projection tt fields
  pub expr : ExprAt sheet a b (i + 1)

abbrev pub named_rec : Bytes → Rec
named_rec alias = rec (in_plan plan_projection) tt (alias, tt)

abbrev pub item_name : {sheet : Bytes} {a b : List ℕ} {i : ℕ} → ItemAt sheet a b i → Bytes
item_name h = alias_or h.fields.0 (expr_alias h.expr.kind h.expr.fields)

-- the line that stands before an expression, and the record behind it
pub data Line (sheet : Bytes) (a b : List ℕ) (i : ℕ) : Recs → ℕ → Type 0 where
  bare : ExprAt sheet a b i → Line sheet a b i [] i
  named : {f : Fields (forms entry tt)} → RecordAt sheet a b i entry tt f → Line sheet a b i (rec (in_plan plan_entry) tt f ∷ []) (i + 1)
  keyed : {f : Fields (forms order_item tt)} → RecordAt sheet a b i order_item tt f → Line sheet a b i (rec (in_plan order_key) tt f ∷ []) (i + 1)
  aliased : (h : ItemAt sheet a b i) → Line sheet a b i (named_rec (item_name h) ∷ []) (i + 1)

pub record SomeLine (sheet : Bytes) (a b : List ℕ) (i : ℕ) : Type 0 where
  pub recs : Recs
  pub behind : ℕ
  pub line : Line sheet a b i recs behind

-- one expression
pub record One (sheet : Bytes) (a b os rest : List ℕ) (below base left i : ℕ) : Type 0 where
  pub first : ℕ
  pub ops : Ops
  pub tabled : Tabled sheet a b os rest first below ops
  pub tree : Tree expr
  pub held : Held sheet a b tree left i
  pub under : Below (shift (noted rest) base) first below tree

abbrev pub one_text : {sheet : Bytes} {a b os rest : List ℕ} {below base left i : ℕ} → One sheet a b os rest below base left i → Bytes
one_text {rest = rest} {base = base} h = spell_recs (render (shift (noted rest) base) h.ops h.tree)

-- n expressions one after another, from record i on
pub data Carried (sheet : Bytes) (a b : List ℕ) (N : Notes) (first below left : ℕ) : ℕ → ℕ → Type 0 where
  none : {i : ℕ} → Carried sheet a b N first below left zero i
  more : {n i : ℕ} (recs : Recs) (j : ℕ) → Line sheet a b i recs j → (t : Tree expr) → Held sheet a b t left j → Below N first below t → Carried sheet a b N first below left n (j + size t) → Carried sheet a b N first below left (suc n) i

unfoldable pub carried_recs : {sheet : Bytes} {a b : List ℕ} {N : Notes} {first below left n i : ℕ} → Ops → Carried sheet a b N first below left n i → Recs
carried_recs A none = []
carried_recs {N = N} A (more recs j l t h u c) = recs ++ (render N A t ++ carried_recs A c)

unfoldable pub carried_end : {sheet : Bytes} {a b : List ℕ} {N : Notes} {first below left n i : ℕ} → Carried sheet a b N first below left n i → ℕ
carried_end {i = i} none = i
carried_end (more recs j l t h u c) = carried_end c

pub record Many (sheet : Bytes) (a b os rest : List ℕ) (below base left n i : ℕ) : Type 0 where
  pub first : ℕ
  pub ops : Ops
  pub tabled : Tabled sheet a b os rest first below ops
  pub list : Carried sheet a b (shift (noted rest) base) first below left n i

abbrev pub many_text : {sheet : Bytes} {a b os rest : List ℕ} {below base left n i : ℕ} → Many sheet a b os rest below base left n i → Bytes
many_text h = spell_recs (carried_recs h.ops h.list)

-- n names one after another, from record i on
pub data Names (sheet : Bytes) (a b : List ℕ) : ℕ → ℕ → Type 0 where
  no_names : {i : ℕ} → Names sheet a b zero i
  name_more : {n i : ℕ} (f : Fields (forms name tt)) → RecordAt sheet a b i name tt f → Names sheet a b n (i + 1) → Names sheet a b (suc n) i

unfoldable pub names_recs : {sheet : Bytes} {a b : List ℕ} {n i : ℕ} → Names sheet a b n i → Recs
names_recs no_names = []
names_recs (name_more f h c) = rec name tt f ∷ names_recs c

-- an element of a pattern, without its variable and its span
pub record Element (sheet : Bytes) (a b os rest : List ℕ) (below base left i : ℕ) : Type 0 where
  pub first : ℕ
  pub ops : Ops
  pub tabled : Tabled sheet a b os rest first below ops
  pub tree : Tree pattern_element
  pub held : Held sheet a b tree left i
  pub under : KidsBelow (shift (noted rest) base) first below tree

abbrev pub element_text : {sheet : Bytes} {a b os rest : List ℕ} {below base left i : ℕ} → Element sheet a b os rest below base left i → Bytes
element_text {rest = rest} {base = base} h = spell_recs (spec_recs (shift (noted rest) base) h.ops h.tree)

pub record ElementAt (sheet : Bytes) (a b : List ℕ) (i : ℕ) : Type 0 where
  pub kind : PatternElement
  pub fields : Fields (element_forms kind)
  pub at : RecordAt sheet a b i pattern_element kind fields

-- the operators from number `from` on and below n can be written: the tables hold them, and what they copy
pub record SomePlan (sheet : Bytes) (a b os rest : List ℕ) (from n : ℕ) : Type 0 where
  pub first : ℕ
  pub ops : Ops
  pub tabled : Tabled sheet a b os rest first n ops
  pub inside : first ≤ from

-- what a stored operator comes to
pub record OpShown (sheet : Bytes) (a b rest : List ℕ) (o : Op) : Type 0 where
  pub first : ℕ
  pub ops : Ops
  pub number : ℕ
  pub recs : Recs
  pub stored : Stored (side sheet a b first) (noted rest) ops number o recs

-- its first line is written
abbrev pub WroteFirst : (sheet : Bytes) (a b rest : List ℕ) → Op → Page → Page → Type 0
WroteFirst sheet a b rest o p q = (h : OpShown sheet a b rest o) → Puts (spell_recs (take 1 h.recs)) p q

-- ── what the writers promise ──

abbrev pub WroteOne : (sheet : Bytes) (a b os rest : List ℕ) (below base left i : ℕ) → Page → ℕ → Page → Type 0
WroteOne sheet a b os rest below base left i p next q = (h : One sheet a b os rest below base left i) → (next ≡ i + size h.tree) × Puts (one_text h) p q

abbrev pub WroteMany : (sheet : Bytes) (a b os rest : List ℕ) (below base left n i : ℕ) → Page → ℕ → Page → Type 0
WroteMany sheet a b os rest below base left n i p next q = (h : Many sheet a b os rest below base left n i) → (next ≡ carried_end h.list) × Puts (many_text h) p q

abbrev pub WroteLine : (sheet : Bytes) (a b : List ℕ) (i : ℕ) → Page → ℕ → Page → Type 0
WroteLine sheet a b i p next q = (recs : Recs) (j : ℕ) → Line sheet a b i recs j → (next ≡ j) × Puts (spell_recs recs) p q

abbrev pub WroteElement : (sheet : Bytes) (a b os rest : List ℕ) (below base left i : ℕ) → Page → Page → Type 0
WroteElement sheet a b os rest below base left i p q = (h : Element sheet a b os rest below base left i) → Puts (element_text h) p q

abbrev pub WroteOp : (sheet : Bytes) (a b os rest : List ℕ) (k : ℕ) → Page → Page → Type 0
WroteOp sheet a b os rest k p q = (h : SomePlan sheet a b os rest k (k + 1)) → Puts (spell_recs (h.ops k)) p q
