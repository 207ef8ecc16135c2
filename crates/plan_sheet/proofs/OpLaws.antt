-- Operators by their words: what each kind comes to, and its first line. Assumes nothing: every law is proved.
use mathlib.Core.Path.{◌≡◌, refl, sym, ap, subst, ◌∙◌}
use Prim.Native.Nat.{ℕ, zero, suc, ◌+◌, ◌≤◌, ◌<◌}
use native.Mathlib.Omega.{arith}
use mathlib.Core.List.{List, [], ◌∷◌, ◌++◌, append-nil, append_assoc}
use lib.ListN.{length, take}
use mathlib.Core.Bool.{Bool, true, false}
use mathlib.Core.Logic.{inl, inr}
use lib.Dec.{eqb}
use Rattle.model.specs.Text.{Bytes, tab, line_feed, behind, bytes, bytes_from, decimal, digits, escape}
use Rattle.model.specs.Field.{Fields, text, spell, spell_flag, spell_option, spell_fields}
use Rattle.model.specs.Call.{work_words}
use Rattle.model.specs.Kind.{ReadOp, Clause, clause, pattern_element}
use Rattle.model.specs.Record.{Rec, one, all_shortest, forms, keyword, plan_keyword, op_keyword, spell_rec, spell_recs}
use Rattle.model.specs.Tree.{Tree, node}
use Rattle.model.specs.Lower.{Recs, op, source}
use Rattle.output.specs.declared.Page.{Page}
use Rattle.output.specs.Page.{Puts}
use Rattle.output.specs.Writes.{◌⨾◌}
use Rattle.words.specs.Words.{Roomy, cell, field_of, fields_of, max_records}
use Rattle.words.specs.Held.{Held, PlaceAt}
use Rattle.words.specs.Cells.{shown}
use Rattle.context.specs.Tables.{op_at, deepest}
use Rattle.context.specs.Read.{note_of}
use Rattle.context.specs.declared.op.Op.{Op}
use Rattle.lower.specs.Side.{Side, side}
use Rattle.lower.specs.Render.{Notes, Ops, spec_recs}
use Rattle.lower.specs.Shows.{shift, InBounds, Shows, Stored, OverExpr, ByLabels, ByRel, ByShortest, ByPath, ByWith, ByItems, ByParted, ByKeys, ByCall, shows_all, shows_no_parts, shows_source, shows_filter, shows_expand, shows_short, shows_path, shows_optional, shows_with, shows_project, shows_aggregate, shows_order, shows_skip, shows_limit, shows_distinct, shows_unwind, shows_union, shows_call}
use Rattle.plan_line.specs.Keywords.{word}
use Rattle.plan_line.specs.declared.keyword.Keyword.{Keyword}
use Rattle.plan_line.specs.Row.{numbers_text, row_text, call_text}
use Rattle.plan_sheet.specs.Due.{noted, Near, Tabled, SomePlan, OpShown, WroteFirst, Many, WroteMany, Element, WroteElement, WroteOp, NotesIn}
use Rattle.plan_line.specs.Copy.{TextAsked, text_at}
use Rattle.plan_sheet.specs.Parted.{Items, WroteItems}
use Rattle.plan_sheet.specs.Asked.{Asked, at_record}
use Rattle.plan_sheet.specs.declared.write.At.{At}
use Rattle.plan_sheet.specs.declared.write.Run.{Run}
use Rattle.plan_line.proofs.RowLaws.{flag_decimal, record_line, row_rec, place_escape}
use Rattle.plan_sheet.proofs.HeadLaws.{texts_at}
use Rattle.plan_sheet.proofs.HeadLaws.{two}
use Rattle.plan_sheet.proofs.DueLaws.{tabled_less, spell_append}
use Rattle.plan_sheet.proofs.NameLaws.{names_made}
use Rattle.context.specs.Ops.{call_input, aggregate_kind, bind_path_kind, distinct_kind, expand_kind, filter_kind, limit_kind, optional_join_kind, order_by_kind, procedure_call_kind, project_kind, shortest_path_kind, skip_kind, source_all_kind, source_no_parts_kind, source_kind, union_kind, unwind_kind, with_kind}
use Rattle.words.specs.Places.{call_args_at, call_name_at, call_optional_at, call_yields_at, items_at, node_labels_at, part_shortest_at, with_filter_at}
use Rattle.words.specs.Numbers.{Others, other_than}

-- ── by kind ──

-- all the kinds that a clause makes but the last, as a `match` leaves them behind its arms
abbrev pub clause_ops : List ℕ
clause_ops =
    union_kind ∷ unwind_kind ∷ distinct_kind ∷ limit_kind ∷ skip_kind ∷ order_by_kind ∷ aggregate_kind ∷ project_kind
    ∷ with_kind ∷ optional_join_kind ∷ []

-- types by number
pub data Types : Type 1 where
  only : Type 0 → Types
  ◌or◌ : Type 0 → Types → Types

infixr 50 ◌or◌
abbrev pub type_at : Types → ℕ → Type 0
type_at (only t) n = t
type_at (t or ts) zero = t
type_at (t or ts) (suc n) = type_at ts n

module _ (S : Side) (N : Notes) (A : Ops) (k : ℕ) (o : Op) (recs : Recs) where
  -- what an operator of kind n stands for
  abbrev pub by_kind : Types
  by_kind =
      (recs ≡ source o.x []) or
      (recs ≡ source o.x []) or
      (ByLabels S N A k o recs) or
      (OverExpr S N A k o (op ReadOp.Filter (o.input, tt)) recs) or
      (ByRel S N A k o recs) or
      (ByShortest S N A k o recs) or
      (ByPath S N A k o recs) or
      ((S.first ≤ o.x) × (o.x < k) × (recs ≡ op ReadOp.OptionalJoin (o.input, tt) ∷ A o.x)) or
      (ByWith S N A k o recs) or
      (ByItems S N A k o recs) or
      (ByParted S N A k o recs) or
      (ByKeys S N A k o recs) or
      (OverExpr S N A k o (op ReadOp.Skip (o.input, tt)) recs) or
      (OverExpr S N A k o (op ReadOp.Limit (o.input, tt)) recs) or
      (recs ≡ op ReadOp.Distinct (o.input, tt) ∷ []) or
      (OverExpr S N A k o (op ReadOp.Unwind (o.input, (o.x, tt))) recs) or
      (recs ≡ op ReadOp.Union (o.input, (o.x, (eqb o.y 1, tt))) ∷ []) or
      only (ByCall S N A k o recs)

module _ {S : Side} {N : Notes} {A : Ops} {k : ℕ} {o : Op} {recs : Recs} where
  told : Shows S N A k o recs → type_at (by_kind S N A k o recs) o.kind
  told (shows_all q r) = subst (λ (n : ℕ). type_at (by_kind S N A k o recs) n) (sym q) r
  told (shows_no_parts q r) = subst (λ (n : ℕ). type_at (by_kind S N A k o recs) n) (sym q) r
  told (shows_source q r) = subst (λ (n : ℕ). type_at (by_kind S N A k o recs) n) (sym q) r
  told (shows_filter q r) = subst (λ (n : ℕ). type_at (by_kind S N A k o recs) n) (sym q) r
  told (shows_expand q r) = subst (λ (n : ℕ). type_at (by_kind S N A k o recs) n) (sym q) r
  told (shows_short q r) = subst (λ (n : ℕ). type_at (by_kind S N A k o recs) n) (sym q) r
  told (shows_path q r) = subst (λ (n : ℕ). type_at (by_kind S N A k o recs) n) (sym q) r
  told (shows_optional q f l r) = subst (λ (n : ℕ). type_at (by_kind S N A k o recs) n) (sym q) (f, l, r)
  told (shows_with q r) = subst (λ (n : ℕ). type_at (by_kind S N A k o recs) n) (sym q) r
  told (shows_project q r) = subst (λ (n : ℕ). type_at (by_kind S N A k o recs) n) (sym q) r
  told (shows_aggregate q r) = subst (λ (n : ℕ). type_at (by_kind S N A k o recs) n) (sym q) r
  told (shows_order q r) = subst (λ (n : ℕ). type_at (by_kind S N A k o recs) n) (sym q) r
  told (shows_skip q r) = subst (λ (n : ℕ). type_at (by_kind S N A k o recs) n) (sym q) r
  told (shows_limit q r) = subst (λ (n : ℕ). type_at (by_kind S N A k o recs) n) (sym q) r
  told (shows_distinct q r) = subst (λ (n : ℕ). type_at (by_kind S N A k o recs) n) (sym q) r
  told (shows_unwind q r) = subst (λ (n : ℕ). type_at (by_kind S N A k o recs) n) (sym q) r
  told (shows_union q r) = subst (λ (n : ℕ). type_at (by_kind S N A k o recs) n) (sym q) r
  told (shows_call q r) = subst (λ (n : ℕ). type_at (by_kind S N A k o recs) n) (sym q) r

  pub of_kind : (n : ℕ) → o.kind ≡ n → Shows S N A k o recs → type_at (by_kind S N A k o recs) n
  of_kind n e h = subst (λ (x : ℕ). type_at (by_kind S N A k o recs) x) e (told h)

  -- the last kind
  last_kind : Shows S N A k o recs → bind_path_kind < o.kind → Others o.kind clause_ops → o.kind ≡ procedure_call_kind
  last_kind (shows_all q r) l z = absurd (omega arith)
  last_kind (shows_no_parts q r) l z = absurd (omega arith)
  last_kind (shows_source q r) l z = absurd (omega arith)
  last_kind (shows_filter q r) l z = absurd (omega arith)
  last_kind (shows_expand q r) l z = absurd (omega arith)
  last_kind (shows_short q r) l z = absurd (omega arith)
  last_kind (shows_path q r) l z = absurd (omega arith)
  last_kind (shows_optional q first x r) l z = absurd (other_than o.kind optional_join_kind clause_ops z refl q)
  last_kind (shows_with q r) l z = absurd (other_than o.kind with_kind clause_ops z refl q)
  last_kind (shows_project q r) l z = absurd (other_than o.kind project_kind clause_ops z refl q)
  last_kind (shows_aggregate q r) l z = absurd (other_than o.kind aggregate_kind clause_ops z refl q)
  last_kind (shows_order q r) l z = absurd (other_than o.kind order_by_kind clause_ops z refl q)
  last_kind (shows_skip q r) l z = absurd (other_than o.kind skip_kind clause_ops z refl q)
  last_kind (shows_limit q r) l z = absurd (other_than o.kind limit_kind clause_ops z refl q)
  last_kind (shows_distinct q r) l z = absurd (other_than o.kind distinct_kind clause_ops z refl q)
  last_kind (shows_unwind q r) l z = absurd (other_than o.kind unwind_kind clause_ops z refl q)
  last_kind (shows_union q r) l z = absurd (other_than o.kind union_kind clause_ops z refl q)
  last_kind (shows_call q r) l z = q

-- ── the first line ──

first_rec_law : {r : Rec} {rs recs : Recs} → recs ≡ r ∷ rs → spell_recs (take 1 recs) ≡ spell_rec r
unfolding spell_recs
first_rec_law {r} e = rw e (append-nil (spell_rec r))

-- the first record, and the others
pub first_more : {r : Rec} {rs recs : Recs} → recs ≡ r ∷ rs → spell_recs recs ≡ spell_recs (take 1 recs) ++ spell_recs rs
first_more {r} {rs} e = rw e (spell_append (r ∷ []) rs)

element_low : (sheet : Bytes) (a b : List ℕ) (d i : ℕ) (t : Tree pattern_element) → Held sheet a b t d i → i < max_records
unfolding Held
element_low sheet a b d i (node pattern_element line k f kids) h = h.1.low

bool_decimal : (t : Bool) → spell_flag t ≡ decimal (one t)
unfolding spell_flag decimal digits
bool_decimal false = refl
bool_decimal true = refl

pub notes_in : {sheet : Bytes} {a b rest : List ℕ} {o : Op} → work_words ≤ length rest → OpShown sheet a b rest o → NotesIn rest o
notes_in long h = let w = h.stored.bounded in record { in_rest = long; near = w.near; low = w.low }

module _ {sheet : Bytes} {a b rest : List ℕ} {o : Op} (h : OpShown sheet a b rest o) where
  all_line : o.kind ≡ source_all_kind → spell_recs (take 1 h.recs) ≡ row_text Keyword.Source (o.x ∷ 0 ∷ [])
  unfolding source keyword plan_keyword op_keyword word bytes bytes_from spell_fields spell
  all_line e = first_rec_law (of_kind source_all_kind e h.stored.shows) ∙ row_rec _ Keyword.Source (o.x ∷ 0 ∷ []) refl refl

  no_parts_line : o.kind ≡ source_no_parts_kind → spell_recs (take 1 h.recs) ≡ row_text Keyword.Source (o.x ∷ 0 ∷ [])
  unfolding source keyword plan_keyword op_keyword word bytes bytes_from spell_fields spell
  no_parts_line e = first_rec_law (of_kind source_no_parts_kind e h.stored.shows) ∙ row_rec _ Keyword.Source (o.x ∷ 0 ∷ []) refl refl

  -- neither has labels
  pub bare_line : o.kind ≤ source_no_parts_kind → spell_recs (take 1 h.recs) ≡ row_text Keyword.Source (o.x ∷ 0 ∷ [])
  bare_line l = elim (two o.kind source_all_kind (omega arith) l) [ inl e ↦ all_line e | inr e ↦ no_parts_line e ]

  pub source_line : o.kind ≡ source_kind → spell_recs (take 1 h.recs) ≡ row_text Keyword.Source (o.x ∷ cell a b o.idx node_labels_at ∷ [])
  unfolding source keyword plan_keyword op_keyword word bytes bytes_from spell_fields spell
  source_line e =
      let s = of_kind source_kind e h.stored.shows in
      let m = names_made (shift (noted rest) o.base) h.ops o.left s.labels (o.idx + 1) s.held in
      first_rec_law s.is ∙ row_rec _ Keyword.Source (o.x ∷ cell a b o.idx node_labels_at ∷ []) refl (rw (m.count, s.counted))

  pub filter_line : o.kind ≡ filter_kind → spell_recs (take 1 h.recs) ≡ row_text Keyword.Filter (o.input ∷ [])
  unfolding keyword plan_keyword op_keyword word bytes bytes_from spell_fields spell
  filter_line e = first_rec_law (of_kind filter_kind e h.stored.shows).is ∙ row_rec _ Keyword.Filter (o.input ∷ []) refl refl

  module _ (c : o.kind ≡ expand_kind) where
    pub far_low : o.y < max_records
    far_low = let s = of_kind expand_kind c h.stored.shows in element_low sheet a b o.left o.y s.far s.held_far

    pub expand_line : spell_recs (take 1 h.recs) ≡ row_text Keyword.Expand (o.input ∷ o.x ∷ note_of rest o.base o.idx ∷ note_of rest o.base o.y ∷ [])
    unfolding keyword plan_keyword op_keyword word bytes bytes_from spell_fields spell
    expand_line =
        let s = of_kind expand_kind c h.stored.shows in
        first_rec_law s.is ∙ row_rec _ Keyword.Expand (o.input ∷ o.x ∷ note_of rest o.base o.idx ∷ note_of rest o.base o.y ∷ []) refl refl

  pub short_line : o.kind ≡ shortest_path_kind → spell_recs (take 1 h.recs) ≡ row_text Keyword.Short (o.input ∷ note_of rest o.base (o.idx + 1) ∷ note_of rest o.base o.y ∷ note_of rest o.base o.idx ∷ one (eqb (cell a b o.idx part_shortest_at) all_shortest) ∷ [])
  unfolding keyword plan_keyword op_keyword word bytes bytes_from spell_fields spell
  short_line c =
      let s = of_kind shortest_path_kind c h.stored.shows in
      first_rec_law s.is ∙ row_rec _ Keyword.Short (o.input ∷ note_of rest o.base (o.idx + 1) ∷ note_of rest o.base o.y ∷ note_of rest o.base o.idx ∷ one (eqb (cell a b o.idx part_shortest_at) all_shortest) ∷ []) refl (rw s.is_all (rw (bool_decimal (eqb (cell a b o.idx part_shortest_at) all_shortest))))

  pub path_line : o.kind ≡ bind_path_kind → spell_recs (take 1 h.recs) ≡ row_text Keyword.Path (o.input ∷ o.y ∷ o.x ∷ [])
  unfolding keyword plan_keyword op_keyword word bytes bytes_from spell_fields spell
  path_line e = first_rec_law (of_kind bind_path_kind e h.stored.shows).is ∙ row_rec _ Keyword.Path (o.input ∷ o.y ∷ o.x ∷ []) refl refl

  -- ── of a clause ──

  pub optional_line : o.kind ≡ optional_join_kind → spell_recs (take 1 h.recs) ≡ row_text Keyword.Optional (o.input ∷ [])
  unfolding keyword plan_keyword op_keyword word bytes bytes_from spell_fields spell
  optional_line e = first_rec_law (of_kind optional_join_kind e h.stored.shows).2 ∙ row_rec _ Keyword.Optional (o.input ∷ []) refl refl

  pub with_line : o.kind ≡ with_kind → spell_recs (take 1 h.recs) ≡ row_text Keyword.With (o.input ∷ cell a b o.idx items_at ∷ cell a b o.idx with_filter_at ∷ [])
  unfolding keyword plan_keyword op_keyword word bytes bytes_from spell_fields spell
  with_line e =
      let s = of_kind with_kind e h.stored.shows in
      first_rec_law s.is ∙ row_rec _ Keyword.With (o.input ∷ cell a b o.idx items_at ∷ cell a b o.idx with_filter_at ∷ []) refl (rw (s.counted, bool_decimal s.filtered, s.flagged))

  pub project_line : o.kind ≡ project_kind → spell_recs (take 1 h.recs) ≡ row_text Keyword.Project (o.input ∷ cell a b o.idx items_at ∷ [])
  unfolding keyword plan_keyword op_keyword word bytes bytes_from spell_fields spell
  project_line e =
      let s = of_kind project_kind e h.stored.shows in
      first_rec_law s.is ∙ row_rec _ Keyword.Project (o.input ∷ cell a b o.idx items_at ∷ []) refl (rw s.counted)

  pub aggregate_line : o.kind ≡ aggregate_kind → spell_recs (take 1 h.recs) ≡ row_text Keyword.Agg (o.input ∷ o.x ∷ o.y ∷ [])
  unfolding keyword plan_keyword op_keyword word bytes bytes_from spell_fields spell
  aggregate_line e = first_rec_law (of_kind aggregate_kind e h.stored.shows).is ∙ row_rec _ Keyword.Agg (o.input ∷ o.x ∷ o.y ∷ []) refl refl

  pub order_line : o.kind ≡ order_by_kind → spell_recs (take 1 h.recs) ≡ row_text Keyword.Order (o.input ∷ o.x ∷ [])
  unfolding keyword plan_keyword op_keyword word bytes bytes_from spell_fields spell
  order_line e = first_rec_law (of_kind order_by_kind e h.stored.shows).is ∙ row_rec _ Keyword.Order (o.input ∷ o.x ∷ []) refl refl

  pub skip_line : o.kind ≡ skip_kind → spell_recs (take 1 h.recs) ≡ row_text Keyword.Skip (o.input ∷ [])
  unfolding keyword plan_keyword op_keyword word bytes bytes_from spell_fields spell
  skip_line e = first_rec_law (of_kind skip_kind e h.stored.shows).is ∙ row_rec _ Keyword.Skip (o.input ∷ []) refl refl

  pub limit_line : o.kind ≡ limit_kind → spell_recs (take 1 h.recs) ≡ row_text Keyword.Limit (o.input ∷ [])
  unfolding keyword plan_keyword op_keyword word bytes bytes_from spell_fields spell
  limit_line e = first_rec_law (of_kind limit_kind e h.stored.shows).is ∙ row_rec _ Keyword.Limit (o.input ∷ []) refl refl

  pub distinct_line : o.kind ≡ distinct_kind → spell_recs (take 1 h.recs) ≡ row_text Keyword.Distinct (o.input ∷ [])
  unfolding keyword plan_keyword op_keyword word bytes bytes_from spell_fields spell
  distinct_line e = first_rec_law (of_kind distinct_kind e h.stored.shows) ∙ row_rec _ Keyword.Distinct (o.input ∷ []) refl refl

  pub unwind_line : o.kind ≡ unwind_kind → spell_recs (take 1 h.recs) ≡ row_text Keyword.Unwind (o.input ∷ o.x ∷ [])
  unfolding keyword plan_keyword op_keyword word bytes bytes_from spell_fields spell
  unwind_line e = first_rec_law (of_kind unwind_kind e h.stored.shows).is ∙ row_rec _ Keyword.Unwind (o.input ∷ o.x ∷ []) refl refl

  pub union_line : o.kind ≡ union_kind → spell_recs (take 1 h.recs) ≡ row_text Keyword.Union (o.input ∷ o.x ∷ o.y ∷ [])
  unfolding keyword plan_keyword op_keyword word bytes bytes_from spell_fields spell
  union_line e = first_rec_law (of_kind union_kind e h.stored.shows) ∙ row_rec _ Keyword.Union (o.input ∷ o.x ∷ o.y ∷ []) refl (rw (flag_decimal o.y (h.stored.bounded.flagged e)))

  pub is_call : bind_path_kind < o.kind → Others o.kind clause_ops → o.kind ≡ procedure_call_kind
  is_call l z = last_kind h.stored.shows l z

-- ── a call ──

two_behind : (p q : Bytes) (ps : List Bytes) (t : Bytes) → behind tab (p ∷ q ∷ ps) ++ t ≡ (tab ∷ p) ++ ((tab ∷ q) ++ (behind tab ps ++ t))
unfolding behind
two_behind p q ps t = ap (λ (s : Bytes). tab ∷ s) (append_assoc p (tab ∷ (q ++ behind tab ps)) t ∙ ap (λ (s : Bytes). p ++ (tab ∷ s)) (append_assoc q (behind tab ps) t))

module _ {sheet : Bytes} {a b rest : List ℕ} {o : Op} (room : Roomy a b) (h : OpShown sheet a b rest o) (e : o.kind ≡ procedure_call_kind) where
  call_text_law : PlaceAt text sheet (cell a b o.idx call_name_at) (cell a b o.idx (call_name_at + 1))
  call_text_law = (texts_at room (of_kind procedure_call_kind e h.stored.shows).at).0

  pub procedure_in : TextAsked sheet a b o.idx call_name_at
  procedure_in = record { from = call_text_law.from; to = call_text_law.to }

  pub call_line : spell_recs (take 1 h.recs) ≡ call_text (call_input o) (text_at sheet a b o.idx call_name_at) (cell a b o.idx call_args_at) (cell a b o.idx call_yields_at) (cell a b o.idx call_optional_at)
  unfolding spell_rec keyword plan_keyword op_keyword word bytes bytes_from spell_fields spell fields_of field_of call_text numbers_text
  call_line =
      let s = of_kind procedure_call_kind e h.stored.shows in
      let r = shown room s.at in
      let name : escape s.fields.0 ≡ text_at sheet a b o.idx call_name_at = rw r.fields (place_escape call_text_law) in
      let args : s.fields.1.0 ≡ cell a b o.idx call_args_at = ap (λ (f : Fields (forms clause Clause.Call)). f.1.0) r.fields in
      let yields : s.fields.1.1.0 ≡ cell a b o.idx call_yields_at = ap (λ (f : Fields (forms clause Clause.Call)). f.1.1.0) r.fields in
      let optional : spell_flag s.fields.1.1.1.0 ≡ decimal (cell a b o.idx call_optional_at) = rw r.fields (flag_decimal (cell a b o.idx call_optional_at) r.flags.1.1.1.0) in
      first_rec_law s.is
      ∙ record_line (word Keyword.Call) _
      ∙ ap (λ (t : Bytes). word Keyword.Call ++ t) (rw (name, args, yields, optional) (two_behind (spell_option (call_input o)) (text_at sheet a b o.idx call_name_at) (decimal (cell a b o.idx call_args_at) ∷ decimal (cell a b o.idx call_yields_at) ∷ decimal (cell a b o.idx call_optional_at) ∷ []) (line_feed ∷ [])))

-- ── a whole operator ──

module _ (k : ℕ) {sheet : Bytes} {a b os rest : List ℕ} {o : Op} (p : SomePlan sheet a b os rest k (k + 1)) (e : o ≡ op_at os k) where
  pub stored_at : Stored (side sheet a b p.first) (noted rest) p.ops k (op_at os k) (p.ops k)
  stored_at = p.tabled.stored k p.inside (omega arith)

  unfoldable pub shown_at : OpShown sheet a b rest o
  shown_at = record { first = p.first; ops = p.ops; number = k; recs = p.ops k; stored = rw e stored_at }

  pub bounded_at : InBounds o
  bounded_at = rw e stored_at.bounded

  pub here : Shows (side sheet a b p.first) (noted rest) p.ops k o (p.ops k)
  here = rw e stored_at.shows

  pub tabled_below : Tabled sheet a b os rest p.first k p.ops
  tabled_below = tabled_less (omega arith) p.tabled

  bounds_near : Near o.base o.left
  bounds_near = record { near = bounded_at.near; shallow = bounded_at.shallow }

  -- an element that it has at record i
  module _ {at : At} {i : ℕ} (q : at ≡ at_record o i k) where
    pub element_near : (at.below ≡ k) × (at.left ≤ deepest)
    element_near = rw q (refl, bounded_at.shallow)

    pub element_asked : Element sheet a b os rest k o.base o.left i → Asked at.base at.left (Element sheet a b os rest at.below at.base at.left at.i)
    element_asked due = rw q (record { near = bounds_near; due = due })

    pub element_written : {g g' : Page} → WroteElement sheet a b os rest at.below at.base at.left at.i g g' → WroteElement sheet a b os rest k o.base o.left i g g'
    element_written w = rw q at w

  -- a run that it has from record i on
  module _ {run : Run} {i n : ℕ} (q : run ≡ record { at = at_record o i k; n = n }) where
    pub run_near : (run.at.below ≡ k) × (run.at.left ≤ deepest)
    run_near = rw q (refl, bounded_at.shallow)

    pub exprs_asked : Many sheet a b os rest k o.base o.left n i → Asked run.at.base run.at.left (Many sheet a b os rest run.at.below run.at.base run.at.left run.n run.at.i)
    exprs_asked due = rw q (record { near = bounds_near; due = due })

    pub exprs_written : {next : ℕ} {g g' : Page} → WroteMany sheet a b os rest run.at.below run.at.base run.at.left run.n run.at.i g next g' → WroteMany sheet a b os rest k o.base o.left n i g next g'
    exprs_written w = rw q at w

    pub items_asked : Items sheet a b os rest k o.base o.left n i → Asked run.at.base run.at.left (Items sheet a b os rest run.at.below run.at.base run.at.left run.n run.at.i)
    items_asked due = rw q (record { near = bounds_near; due = due })

    pub items_written : {g g' : Page} → WroteItems sheet a b os rest run.at.below run.at.base run.at.left run.n run.at.i g g' → WroteItems sheet a b os rest k o.base o.left n i g g'
    items_written w = rw q at w

  -- an expand
  module _ (c : o.kind ≡ expand_kind) where
    pub rel_of : Element sheet a b os rest k o.base o.left o.idx
    rel_of = let s = of_kind expand_kind c here in record { first = p.first; ops = p.ops; tabled = tabled_below; tree = s.rel; held = s.held_rel; under = s.below_rel }

    pub far_of : Element sheet a b os rest k o.base o.left o.y
    far_of = let s = of_kind expand_kind c here in record { first = p.first; ops = p.ops; tabled = tabled_below; tree = s.far; held = s.held_far; under = s.below_far }

    pub expand_wrote : {g g' g'' g''' : Page} → WroteFirst sheet a b rest o g g' → WroteElement sheet a b os rest k o.base o.left o.idx g' g'' → WroteElement sheet a b os rest k o.base o.left o.y g'' g''' → Puts (spell_recs (p.ops k)) g g'''
    unfolding shown_at rel_of far_of
    expand_wrote w v u =
        let s = of_kind expand_kind c here in
        rw (first_more s.is) (w shown_at ⨾ rw (spell_append (spec_recs (shift (noted rest) o.base) p.ops s.rel) (spec_recs (shift (noted rest) o.base) p.ops s.far)) (v rel_of ⨾ u far_of))

  -- a shortest part
  module _ (c : o.kind ≡ shortest_path_kind) where
    pub short_rel : Element sheet a b os rest k o.base o.left o.x
    short_rel = let s = of_kind shortest_path_kind c here in record { first = p.first; ops = p.ops; tabled = tabled_below; tree = s.rel; held = s.held_rel; under = s.below_rel }

    pub short_wrote : {g g' g'' : Page} → WroteFirst sheet a b rest o g g' → WroteElement sheet a b os rest k o.base o.left o.x g' g'' → Puts (spell_recs (p.ops k)) g g''
    unfolding shown_at short_rel
    short_wrote w v = rw (first_more (of_kind shortest_path_kind c here).is) (w shown_at ⨾ v short_rel)

  -- an optional, which copies an operator below it
  module _ (c : o.kind ≡ optional_join_kind) where
    pub optional_low : o.x < k
    optional_low = (of_kind optional_join_kind c here).1

    pub optional_plan : SomePlan sheet a b os rest o.x (o.x + 1)
    optional_plan = record { first = p.first; ops = p.ops; tabled = tabled_less (omega (arith, optional_low)) p.tabled; inside = (of_kind optional_join_kind c here).0 }

    pub optional_wrote : {g g' g'' : Page} → WroteFirst sheet a b rest o g g' → WroteOp sheet a b os rest o.x g' g'' → Puts (spell_recs (p.ops k)) g g''
    unfolding shown_at optional_plan
    optional_wrote w v = rw (first_more (of_kind optional_join_kind c here).2) (w shown_at ⨾ v optional_plan)
