-- The numbers of a path, element by element as the code lists them. Assumes nothing: these are definitions.
use Rattle.std.specs.Prelude.{◌≡◌, ℕ, suc, ◌≤◌, ◌<◌, true, false, length, List, [], ◌∷◌, ◌++◌, Option, None, Some}
use Rattle.model.specs.Text.{Bytes}
use Rattle.model.specs.Call.{work_words}
use Rattle.model.specs.Kind.{pattern_element}
use Rattle.model.specs.Record.{spell_recs}
use Rattle.model.specs.Tree.{Trees}
use Rattle.model.specs.Lower.{path_elements}
use Rattle.output.specs.declared.Page.{Page}
use Rattle.output.specs.Page.{Puts}
use Rattle.words.specs.Places.{node_kind}
use Rattle.words.specs.Held.{HeldOf}
use Rattle.context.specs.Read.{note_of}
use Rattle.context.specs.Tables.{second_pass}
use Rattle.lower.specs.Render.{kept_rel, kept_from}
use Rattle.lower.specs.Shows.{shift}
use Rattle.plan_sheet.specs.Due.{noted}
use Rattle.plan_sheet.specs.declared.path.Path.{Path}
use Rattle.words.specs.Words.{max_records}

-- the line of the rel that waits
unfoldable pub waits_of : Option ℕ → Option ℕ
waits_of None = None
waits_of (Some i) = Some (suc i)

-- the rel that waits is one of the records
abbrev pub WaitsLow : Option ℕ → Type 0
WaitsLow None = Unit {0}
WaitsLow (Some i) = i < max_records

-- the notes of a pass are inside the fourth slice, which is long enough
pub record StepAsked (rest : List ℕ) (base : ℕ) (w : Option ℕ) : Type 0 where
  pub in_rest : work_words ≤ length rest
  pub near : base ≤ second_pass
  pub low : WaitsLow w

-- what an element does: a node is listed behind the rel that waited, a rel waits
pub record Stepped (rest : List ℕ) (base i kind : ℕ) (from to : Path) (p q : Page) : Type 0 where
  pub low : WaitsLow to.waits
  pub of_node_law : kind ≡ node_kind → (to.seen ≡ true) × (to.waits ≡ None) × Puts (spell_recs (path_elements (kept_rel (shift (noted rest) base) from.seen (waits_of from.waits) ++ (note_of rest base i ∷ [])))) p q
  pub of_rel_law : (kind ≡ node_kind → ⊥) → (to.seen ≡ from.seen) × (to.waits ≡ Some i) × (q ≡ p)

-- n elements from record i on
pub record Elements (sheet : Bytes) (a b : List ℕ) (n i : ℕ) : Type 0 where
  pub depth : ℕ
  pub trees : Trees pattern_element n
  pub held : HeldOf sheet a b trees depth i

abbrev pub WrotePath : (sheet : Bytes) (a b rest : List ℕ) (base n i : ℕ) → Page → Page → Type 0
WrotePath sheet a b rest base n i p q = (h : Elements sheet a b n i) → Puts (spell_recs (path_elements (kept_from (shift (noted rest) base) false None h.trees))) p q
