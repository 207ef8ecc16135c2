-- What stands behind the first line of an operator: so many expressions from a record on, and then its names, its path or its yields. Assumes nothing: these are definitions.
use Rattle.std.specs.Prelude.{◌≡◌, ℕ, zero, suc, ◌+◌, false, cond, List, [], ◌∷◌, eqb, None}
use Rattle.model.specs.Text.{Bytes}
use Rattle.model.specs.Field.{Fields}
use Rattle.model.specs.Kind.{yield_item}
use Rattle.model.specs.Record.{rec, forms, spell_recs}
use Rattle.model.specs.Lower.{Recs, path_elements}
use Rattle.output.specs.declared.Page.{Page}
use Rattle.output.specs.Page.{Puts}
use Rattle.words.specs.Words.{cell}
use Rattle.words.specs.Held.{RecordAt}
use Rattle.words.specs.Places.{items_at, with_filter_at, call_args_at, call_yields_at, node_labels_at, part_elements_at}
use Rattle.context.specs.declared.op.Op.{Op}
use Rattle.context.specs.Ops.{source_kind, filter_kind, bind_path_kind, with_kind, project_kind, order_by_kind, skip_kind, limit_kind, unwind_kind, procedure_call_kind}
use Rattle.lower.specs.Render.{Notes, kept_from}
use Rattle.lower.specs.Shows.{shift}
use Rattle.plan_sheet.specs.Due.{noted, Names, names_recs}
use Rattle.plan_sheet.specs.Path.{Elements}

-- how many expressions an operator of a kind has; items and filter are words of its record, args another
unfoldable pub many_by : (kind items filter args x : ℕ) → ℕ
many_by kind items filter args x =
    cond (eqb kind filter_kind) 1
    (cond (eqb kind with_kind) (items + filter)
    (cond (eqb kind project_kind) items
    (cond (eqb kind order_by_kind) x
    (cond (eqb kind skip_kind) 1
    (cond (eqb kind limit_kind) 1
    (cond (eqb kind unwind_kind) 1
    (cond (eqb kind procedure_call_kind) args
    0)))))))

abbrev pub many_of : List ℕ → List ℕ → Op → ℕ
many_of a b o = many_by o.kind (cell a b o.idx items_at) (cell a b o.idx with_filter_at) (cell a b o.idx call_args_at) o.x

-- the record that they begin at: that of the operator, or the next
unfoldable pub first_by : (kind i : ℕ) → ℕ
first_by kind i =
    cond (eqb kind filter_kind) i
    (cond (eqb kind order_by_kind) i
    (cond (eqb kind skip_kind) i
    (cond (eqb kind limit_kind) i
    (cond (eqb kind unwind_kind) i
    (i + 1)))))

abbrev pub first_of : Op → ℕ
first_of o = first_by o.kind o.idx

-- n yields one after another, from record i on
pub data Yields (sheet : Bytes) (a b : List ℕ) : ℕ → ℕ → Type 0 where
  no_yields : {i : ℕ} → Yields sheet a b zero i
  yield_more : {n i : ℕ} (f : Fields (forms yield_item tt)) → RecordAt sheet a b i yield_item tt f → Yields sheet a b n (i + 1) → Yields sheet a b (suc n) i

-- each with the number that is noted at it
unfoldable pub yields_recs : {sheet : Bytes} {a b : List ℕ} {n i : ℕ} → Notes → Yields sheet a b n i → Recs
yields_recs N no_yields = []
yields_recs N (yield_more {i = i} f h c) = rec yield_item tt (f.0, (N (suc i), tt)) ∷ yields_recs N c

abbrev pub WroteYields : (sheet : Bytes) (a b rest : List ℕ) (base n i : ℕ) → Page → Page → Type 0
WroteYields sheet a b rest base n i p q = (h : Yields sheet a b n i) → Puts (spell_recs (yields_recs (shift (noted rest) base) h)) p q

-- what is behind the expressions, from record i on
pub data Tail (sheet : Bytes) (a b rest : List ℕ) (o : Op) (i : ℕ) : Recs → Type 0 where
  nothing : (o.kind ≡ source_kind → ⊥) → (o.kind ≡ bind_path_kind → ⊥) → (o.kind ≡ procedure_call_kind → ⊥) → Tail sheet a b rest o i []
  labels : o.kind ≡ source_kind → (h : Names sheet a b (cell a b o.idx node_labels_at) i) → Tail sheet a b rest o i (names_recs h)
  path : o.kind ≡ bind_path_kind → (h : Elements sheet a b (cell a b o.idx part_elements_at) i) → Tail sheet a b rest o i (path_elements (kept_from (shift (noted rest) o.base) false None h.trees))
  yields : o.kind ≡ procedure_call_kind → (h : Yields sheet a b (cell a b o.idx call_yields_at) i) → Tail sheet a b rest o i (yields_recs (shift (noted rest) o.base) h)

pub record SomeTail (sheet : Bytes) (a b rest : List ℕ) (o : Op) (i : ℕ) : Type 0 where
  pub recs : Recs
  pub tail : Tail sheet a b rest o i recs

abbrev pub WroteTail : (sheet : Bytes) (a b rest : List ℕ) → Op → ℕ → Page → Page → Type 0
WroteTail sheet a b rest o i p q = (recs : Recs) → Tail sheet a b rest o i recs → Puts (spell_recs recs) p q
