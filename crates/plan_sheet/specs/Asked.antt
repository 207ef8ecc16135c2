-- What the writers of expressions, elements and items ask and what they promise, by what they are given. Assumes nothing: these are definitions.
use Rattle.std.specs.Prelude.{ℕ, ◌+◌, Bool, List}
use Rattle.model.specs.Text.{Bytes}
use Rattle.output.specs.declared.Page.{Page}
use Rattle.words.specs.Words.{cell}
use Rattle.words.specs.declared.records.Records.{Records}
use Rattle.words.specs.declared.records.Record.{Record}
use Rattle.words.specs.Places.{items_at, with_filter_at, call_args_at}
use Rattle.plan_line.specs.Copy.{word_of}
use Rattle.context.specs.declared.op.Op.{Op}
use Rattle.plan_sheet.specs.Behind.{many_by, first_by, Yields, WroteYields, SomeTail, WroteTail}
use Rattle.plan_sheet.specs.Due.{Near, ExprAt, ItemAt, SomeLine, ElementAt, Names, OpShown, SomePlan, One, Many, Element, WroteLine, WroteFirst, WroteMany, WroteElement, WroteOp}
use Rattle.plan_sheet.specs.Path.{Elements, WrotePath}
use Rattle.plan_sheet.specs.Parted.{agg_text, Items, WrotePart, WroteParts, WroteItems}
use Rattle.plan_sheet.specs.declared.write.At.{At}
use Rattle.plan_sheet.specs.declared.write.Run.{Run}
use Rattle.plan_sheet.specs.declared.source.Source.{Source}

-- a pass and a depth in bounds, and what is due
pub record Asked (base left : ℕ) (Due : Type 0) : Type 0 where
  pub near : Near base left
  pub due : Due

-- ── by the sheet, its records and the notes ──

abbrev pub agg_text_of : Bytes → Record → Bytes
agg_text_of sheet r = agg_text sheet r.records.now.a.now r.records.now.b.now r.i

-- word c of the record of an operator
abbrev pub op_word : Records → Op → (c : ℕ) → ℕ
op_word r o c = cell r.a.now r.b.now o.idx c

-- what stands there
abbrev pub ExprIn : Bytes → Record → Type 0
ExprIn sheet r = ExprAt sheet r.records.now.a.now r.records.now.b.now r.i

abbrev pub ItemIn : Bytes → Record → Type 0
ItemIn sheet r = ItemAt sheet r.records.now.a.now r.records.now.b.now r.i

abbrev pub LineIn : Bytes → Record → Type 0
LineIn sheet r = SomeLine sheet r.records.now.a.now r.records.now.b.now r.i

abbrev pub ElementIn : Bytes → Record → Type 0
ElementIn sheet r = ElementAt sheet r.records.now.a.now r.records.now.b.now r.i

abbrev pub NamesIn : Bytes → Records → (n i : ℕ) → Type 0
NamesIn sheet r n i = Names sheet r.a.now r.b.now n i

abbrev pub YieldsIn : Bytes → Records → (n i : ℕ) → Type 0
YieldsIn sheet r n i = Yields sheet r.a.now r.b.now n i

abbrev pub ElementsIn : Bytes → Records → (n i : ℕ) → Type 0
ElementsIn sheet r n i = Elements sheet r.a.now r.b.now n i

abbrev pub OpIn : Bytes → Records → List ℕ → Op → Type 0
OpIn sheet r rest o = OpShown sheet r.a.now r.b.now rest o

abbrev pub TailIn : Bytes → Records → List ℕ → Op → ℕ → Type 0
TailIn sheet r rest o i = SomeTail sheet r.a.now r.b.now rest o i

-- that it is written
abbrev pub LineWrote : Bytes → Record → Page → ℕ → Page → Type 0
LineWrote sheet r p next q = WroteLine sheet r.records.now.a.now r.records.now.b.now r.i p next q

abbrev pub YieldsWrote : Bytes → Records → List ℕ → (base n i : ℕ) → Page → Page → Type 0
YieldsWrote sheet r rest base n i p q = WroteYields sheet r.a.now r.b.now rest base n i p q

abbrev pub PathWrote : Bytes → Records → List ℕ → (base n i : ℕ) → Page → Page → Type 0
PathWrote sheet r rest base n i p q = WrotePath sheet r.a.now r.b.now rest base n i p q

abbrev pub FirstWrote : Bytes → Records → List ℕ → Op → Page → Page → Type 0
FirstWrote sheet r rest o p q = WroteFirst sheet r.a.now r.b.now rest o p q

abbrev pub TailWrote : Bytes → Records → List ℕ → Op → ℕ → Page → Page → Type 0
TailWrote sheet r rest o i p q = WroteTail sheet r.a.now r.b.now rest o i p q

-- ── by all that the writer reads ──

abbrev pub PlanIn : Source → (from n : ℕ) → Type 0
PlanIn s from n = SomePlan s.sheet.now s.records.a.now s.records.b.now s.ops.now s.rest.now from n

abbrev pub OpWrote : Source → ℕ → Page → Page → Type 0
OpWrote s k p q = WroteOp s.sheet.now s.records.a.now s.records.b.now s.ops.now s.rest.now k p q

-- ── what operator k has behind its first line ──

-- what stands at record i
abbrev pub at_record : Op → (i k : ℕ) → At
at_record o i k = record { base = o.base; i = i; left = o.left; below = k }

-- the number of expressions of an operator whose record is r, and the record that they begin at
abbrev pub many_at : Record → Op → ℕ
many_at r o = many_by o.kind (word_of r items_at) (word_of r with_filter_at) (word_of r call_args_at) o.x

abbrev pub first_at : Record → Op → ℕ
first_at r o = first_by o.kind r.i

abbrev pub exprs_of : Record → Op → (k : ℕ) → Run
exprs_of r o k = record { at = at_record o (first_at r o) k; n = many_at r o }

abbrev pub items_of : Record → Op → (k : ℕ) → Run
items_of r o k = record { at = at_record o (r.i + 1) k; n = word_of r items_at }

-- ── an expression behind its line, and some of them ──

abbrev pub ExprAsked : Source → At → Type 0
ExprAsked s at = Asked at.base at.left (Many s.sheet.now s.records.a.now s.records.b.now s.ops.now s.rest.now at.below at.base at.left 1 at.i)

abbrev pub ExprWrote : Source → At → Page → ℕ → Page → Type 0
ExprWrote s at p next q = WroteMany s.sheet.now s.records.a.now s.records.b.now s.ops.now s.rest.now at.below at.base at.left 1 at.i p next q

abbrev pub ExprsAsked : Source → Run → Type 0
ExprsAsked s run = Asked run.at.base run.at.left (Many s.sheet.now s.records.a.now s.records.b.now s.ops.now s.rest.now run.at.below run.at.base run.at.left run.n run.at.i)

abbrev pub ExprsWrote : Source → Run → Page → ℕ → Page → Type 0
ExprsWrote s run p next q = WroteMany s.sheet.now s.records.a.now s.records.b.now s.ops.now s.rest.now run.at.below run.at.base run.at.left run.n run.at.i p next q

-- ── an element ──

abbrev pub ElementAsked : Source → At → Type 0
ElementAsked s at = Asked at.base at.left (Element s.sheet.now s.records.a.now s.records.b.now s.ops.now s.rest.now at.below at.base at.left at.i)

abbrev pub ElementWrote : Source → At → Page → Page → Type 0
ElementWrote s at p q = WroteElement s.sheet.now s.records.a.now s.records.b.now s.ops.now s.rest.now at.below at.base at.left at.i p q

-- ── items ──

abbrev pub PartAsked : Source → At → Type 0
PartAsked s at = Asked at.base at.left (One s.sheet.now s.records.a.now s.records.b.now s.ops.now s.rest.now at.below at.base at.left at.i)

abbrev pub PartWrote : Source → At → Bool → Page → ℕ → Page → Type 0
PartWrote s at aggs p next q = WrotePart s.sheet.now s.records.a.now s.records.b.now s.ops.now s.rest.now at.below at.base at.left at.i aggs p next q

abbrev pub PartsAsked : Source → Run → Type 0
PartsAsked s run = Asked run.at.base run.at.left (Items s.sheet.now s.records.a.now s.records.b.now s.ops.now s.rest.now run.at.below run.at.base run.at.left run.n run.at.i)

abbrev pub PartsWrote : Source → Run → Bool → Page → Page → Type 0
PartsWrote s run aggs p q = WroteParts s.sheet.now s.records.a.now s.records.b.now s.ops.now s.rest.now run.at.below run.at.base run.at.left run.n run.at.i aggs p q

abbrev pub ItemsAsked : Source → Run → Type 0
ItemsAsked s run = Asked run.at.base run.at.left (Items s.sheet.now s.records.a.now s.records.b.now s.ops.now s.rest.now run.at.below run.at.base run.at.left run.n run.at.i)

abbrev pub ItemsWrote : Source → Run → Page → Page → Type 0
ItemsWrote s run p q = WroteItems s.sheet.now s.records.a.now s.records.b.now s.ops.now s.rest.now run.at.below run.at.base run.at.left run.n run.at.i p q
