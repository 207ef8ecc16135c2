-- The items of a `return`, parted into keys and aggregates: what each part of them comes to. Assumes nothing: these are definitions.
use Rattle.std.specs.Prelude.{◌≡◌, ℕ, ◌+◌, Bool, true, false, cond, List, [], ◌∷◌, ◌++◌}
use Rattle.model.specs.Text.{Bytes}
use Rattle.model.specs.Kind.{projection, expr}
use Rattle.model.specs.Record.{spell_recs}
use Rattle.model.specs.Tree.{Tree, Trees}
use Rattle.model.specs.Lower.{Recs}
use Rattle.output.specs.declared.Page.{Page}
use Rattle.output.specs.Page.{Puts}
use Rattle.words.specs.Words.{cell}
use Rattle.words.specs.Held.{HeldOf, size}
use Rattle.words.specs.Places.{name_at, fn_args_at, fn_distinct_at}
use Rattle.lower.specs.Render.{Notes, Ops, render, BelowOf, is_aggregate, agg_of, key_recs, agg_recs}
use Rattle.lower.specs.Shows.{shift}
use Rattle.plan_line.specs.declared.keyword.Keyword.{Keyword}
use Rattle.plan_line.specs.Copy.{text_at}
use Rattle.plan_line.specs.Row.{named_text}
use Rattle.plan_sheet.specs.Due.{noted, Tabled, One}

-- the line of the aggregate at record i
abbrev pub agg_text : Bytes → List ℕ → List ℕ → ℕ → Bytes
agg_text sheet a b i = named_text Keyword.AggFn (text_at sheet a b i name_at) (cell a b i fn_args_at ∷ cell a b i fn_distinct_at ∷ [])

-- what an item's expression adds to the aggregates, or else to the keys
unfoldable pub part_recs : Notes → Ops → (aggs : Bool) → Tree expr → Recs
part_recs N A true e = cond (is_aggregate e) (agg_of N A e) []
part_recs N A false e = cond (is_aggregate e) [] (render N A e)

unfoldable pub parts_recs : Notes → Ops → (aggs : Bool) → {n : ℕ} → Trees projection n → Recs
parts_recs N A true ps = agg_recs N A ps
parts_recs N A false ps = key_recs N A ps

-- n items from record i on
pub record Items (sheet : Bytes) (a b os rest : List ℕ) (below base left n i : ℕ) : Type 0 where
  pub first : ℕ
  pub ops : Ops
  pub tabled : Tabled sheet a b os rest first below ops
  pub items : Trees projection n
  pub held : HeldOf sheet a b items left i
  pub under : BelowOf (shift (noted rest) base) first below items

abbrev pub WrotePart : (sheet : Bytes) (a b os rest : List ℕ) (below base left i : ℕ) (aggs : Bool) → Page → ℕ → Page → Type 0
WrotePart sheet a b os rest below base left i aggs p next q = (h : One sheet a b os rest below base left i) → (next ≡ i + size h.tree) × Puts (spell_recs (part_recs (shift (noted rest) base) h.ops aggs h.tree)) p q

abbrev pub WroteParts : (sheet : Bytes) (a b os rest : List ℕ) (below base left n i : ℕ) (aggs : Bool) → Page → Page → Type 0
WroteParts sheet a b os rest below base left n i aggs p q = (h : Items sheet a b os rest below base left n i) → Puts (spell_recs (parts_recs (shift (noted rest) base) h.ops aggs h.items)) p q

-- the keys, and behind them the aggregates
abbrev pub WroteItems : (sheet : Bytes) (a b os rest : List ℕ) (below base left n i : ℕ) → Page → Page → Type 0
WroteItems sheet a b os rest below base left n i p q = (h : Items sheet a b os rest below base left n i) → Puts (spell_recs (key_recs (shift (noted rest) base) h.ops h.items ++ agg_recs (shift (noted rest) base) h.ops h.items)) p q
