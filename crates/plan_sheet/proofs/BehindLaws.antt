-- What stands behind an operator's first line: its expressions by their number and place, then its labels, path or yields. Assumes nothing: every law is proved.
use mathlib.Core.Path.{◌≡◌, refl, sym, ap, subst, ◌∙◌}
use Prim.Native.Nat.{ℕ, suc, ◌+◌, ◌-◌, ◌≤◌}
use native.Mathlib.Omega.{arith}
use mathlib.Core.Bool.{false}
use mathlib.Core.Logic.{◌⊎◌, inl, inr}
use mathlib.Core.List.{List, [], ◌∷◌, ◌++◌, append-nil}
use Rattle.std.specs.Prelude.{None}
use borrow.Author.Tests.{eqb-false}
use lib.Dec.{eqb}
use Rattle.model.specs.Text.{Bytes, bytes, bytes_from}
use Rattle.model.specs.Field.{Fields, text, spell, spell_fields}
use Rattle.model.specs.Kind.{Clause, clause, yield_item}
use Rattle.model.specs.Record.{Rec, rec, one, forms, keyword, spell_rec, spell_recs}
use Rattle.model.specs.Tree.{Trees, node, []ᵗ, ◌∷ᵗ◌, end}
use Rattle.model.specs.Lower.{Recs, source, path_elements}
use Rattle.output.specs.declared.Page.{Page}
use Rattle.output.specs.Page.{Puts}
use Rattle.output.specs.Writes.{◌⨾◌, stay}
use Rattle.words.specs.Words.{Roomy, cell, field_of, fields_of, max_records}
use Rattle.words.specs.Held.{Held, HeldOf, RecordAt, PlaceAt, size}
use Rattle.words.specs.Cells.{shown}
use Rattle.context.specs.Tables.{op_at}
use Rattle.context.specs.Read.{note_of}
use Rattle.context.specs.declared.op.Op.{Op}
use Rattle.lower.specs.Side.{side}
use Rattle.lower.specs.Render.{Notes, Ops, render, render_of, recs_over, Below, kept_from}
use Rattle.lower.specs.Shows.{shift, Shows, OverExpr, ByLabels, ByPath, ByWith, ByCall, shows_all, shows_no_parts, shows_source, shows_filter, shows_expand, shows_short, shows_path, shows_optional, shows_with, shows_project, shows_aggregate, shows_order, shows_skip, shows_limit, shows_distinct, shows_unwind, shows_union, shows_call}
use Rattle.plan_line.specs.Keywords.{word}
use Rattle.plan_line.specs.declared.keyword.Keyword.{Keyword}
use Rattle.plan_line.specs.Row.{named_text}
use Rattle.plan_sheet.specs.Due.{noted, SomePlan, Names, names_recs, Carried, carried_recs, carried_end, Many, WroteMany, WroteFirst}
use Rattle.plan_line.specs.Copy.{TextAsked, text_at}
use Rattle.plan_sheet.specs.Path.{Elements}
use Rattle.plan_sheet.specs.Behind.{many_by, many_of, first_by, first_of, Yields, no_yields, yield_more, yields_recs, WroteYields, Tail, SomeTail, WroteTail}
use Rattle.plan_sheet.specs.Due
use Rattle.plan_sheet.specs.Behind
use Rattle.plan_line.proofs.RowLaws.{named_rec_law, place_escape}
use Rattle.plan_sheet.proofs.HeadLaws.{texts_at}
use Rattle.plan_sheet.proofs.DueLaws.{Made, exprs_made, keys_made, items_made, joined, spell_append}
use Rattle.plan_sheet.proofs.NameLaws.{names_made}
use Rattle.plan_sheet.proofs.OpLaws.{here, shown_at, tabled_below, first_more}
use Rattle.context.specs.Ops.{aggregate_kind, bind_path_kind, expand_kind, filter_kind, limit_kind, optional_join_kind, order_by_kind, procedure_call_kind, project_kind, shortest_path_kind, skip_kind, source_kind, unwind_kind, with_kind, source_all_kind, source_no_parts_kind, distinct_kind, union_kind}
use Rattle.words.specs.Places.{call_args_at, call_yields_at, node_labels_at, part_elements_at, yield_name_at}
use Rattle.words.specs.Numbers.{Others}

-- ── how many, and from where ──

-- the kinds that are written in ways of their own, as a `match` leaves them behind its arms
abbrev pub own_ways : List ℕ
own_ways = aggregate_kind ∷ optional_join_kind ∷ shortest_path_kind ∷ expand_kind ∷ []

-- the kinds that have something behind their expressions, likewise
abbrev pub tails : List ℕ
tails = procedure_call_kind ∷ bind_path_kind ∷ source_kind ∷ []

-- ── yields ──

-- the place of a yield's name, and its line
yield_place : {sheet : Bytes} {a b : List ℕ} {i : ℕ} {f : Fields (forms yield_item tt)} → Roomy a b → RecordAt sheet a b i yield_item tt f → PlaceAt text sheet (cell a b i yield_name_at) (cell a b i (yield_name_at + 1))
yield_place room h = (texts_at room h).0

yield_line : {sheet : Bytes} {a b : List ℕ} {i : ℕ} (n : ℕ) {f : Fields (forms yield_item tt)} → Roomy a b → RecordAt sheet a b i yield_item tt f → spell_rec (rec yield_item tt (f.0, (n, tt))) ≡ named_text Keyword.Yield (text_at sheet a b i yield_name_at) (n ∷ [])
unfolding keyword word bytes bytes_from spell_fields spell fields_of field_of
yield_line {sheet} {a} {b} {i} n room h = named_rec_law _ Keyword.Yield (text_at sheet a b i yield_name_at) (n ∷ []) refl (rw (shown room h).fields (rw (place_escape (yield_place room h))))

pub yield_in : {sheet : Bytes} {a b : List ℕ} {n i : ℕ} → Roomy a b → (n ≡ 0 → ⊥) → Yields sheet a b n i → TextAsked sheet a b i yield_name_at
yield_in room z no_yields = absurd (z refl)
yield_in room z (yield_more f h c) = let y = yield_place room h in record { from = y.from; to = y.to }

-- they end among the records
pub yields_end : {sheet : Bytes} {a b : List ℕ} {n i : ℕ} → Yields sheet a b n i → (n ≡ 0) ⊎ (i + n ≤ max_records)
yields_end no_yields = inl refl
yields_end (yield_more f h no_yields) = inr (omega (arith, h.low))
yields_end (yield_more f h (yield_more g k c)) = inr (omega (arith, yields_end (yield_more g k c)))

-- what is left of the yields h
pub record YieldsStill (rest : List ℕ) (base : ℕ) {sheet : Bytes} {a b : List ℕ} {n i : ℕ} (h : Yields sheet a b n i) (start : Page) (m at : ℕ) (p : Page) : Type 0 where
  pub others : Yields sheet a b m at
  pub text : (q : Page) → Puts (spell_recs (yields_recs (shift (noted rest) base) others)) p q → Puts (spell_recs (yields_recs (shift (noted rest) base) h)) start q

-- the loop over n yields
pub record YieldsGoing (sheet : Bytes) (a b rest : List ℕ) (base n i : ℕ) (start : Page) (m at : ℕ) (p : Page) : Type 0 where
  pub some : Yields sheet a b m at
  pub each : (h : Yields sheet a b n i) → YieldsStill rest base h start m at p

no_more : {sheet : Bytes} {a b : List ℕ} (rest : List ℕ) (base : ℕ) {m at : ℕ} → m ≡ 0 → (o : Yields sheet a b m at) → yields_recs (shift (noted rest) base) o ≡ []
unfolding yields_recs
no_more rest base z no_yields = refl
no_more rest base {m = suc m} z (yield_more f h c) = let e : suc m ≡ 0 = z in absurd (omega arith)

-- the yields h take the page p to q
abbrev Lists : (rest : List ℕ) (base : ℕ) {sheet : Bytes} {a b : List ℕ} {n i : ℕ} → Yields sheet a b n i → Page → Page → Type 0
Lists rest base h p q = Puts (spell_recs (yields_recs (shift (noted rest) base) h)) p q

module _ {sheet : Bytes} {a b rest : List ℕ} {base : ℕ} where
  yields_step : {n i m at number : ℕ} {start p q : Page} (h : Yields sheet a b n i) → Roomy a b → (m ≡ 0 → ⊥) → (others : Yields sheet a b m at) → ((q : Page) → Lists rest base others p q → Lists rest base h start q) → number ≡ note_of rest base at → Puts (named_text Keyword.Yield (text_at sheet a b at yield_name_at) (number ∷ [])) p q → YieldsStill rest base h start (m - 1) (at + 1) q
  unfolding yields_recs spell_recs
  yields_step h room z no_yields far e w = absurd (z refl)
  yields_step {m = suc m} {at} {number} h room z (yield_more f r c) far e w =
      let d : suc m - 1 ≡ m = omega arith in
      let put = rw (← yield_line number room r) at w in
      rw d (record { others = c; text = λ q v. far q (rw (← e) (put ⨾ v)) })

  pub yields_going : {n i : ℕ} {p : Page} → Yields sheet a b n i → YieldsGoing sheet a b rest base n i p n i p
  yields_going h = record { some = h; each = λ h. record { others = h; text = λ q r. r } }

  pub yields_again :
      {n i m at number : ℕ} {start p q : Page} → Roomy a b → (m ≡ 0 → ⊥) → YieldsGoing sheet a b rest base n i start m at p
      → number ≡ note_of rest base at → Puts (named_text Keyword.Yield (text_at sheet a b at yield_name_at) (number ∷ [])) p q → YieldsGoing sheet a b rest base n i start (m - 1) (at + 1) q
  yields_again room z g e line =
      record {
        some = (yields_step g.some room z g.some (λ q r. r) e line).others;
        each = λ h. let s = g.each h in yields_step h room z s.others s.text e line;
      }

  pub yields_done : {n i m at : ℕ} {start p : Page} → m ≡ 0 → YieldsGoing sheet a b rest base n i start m at p → WroteYields sheet a b rest base n i start p
  unfolding spell_recs
  yields_done {p = p} z g h = let s = g.each h in s.text p (rw (no_more rest base z s.others) stay)

-- yields out of a group of trees
pub record YieldsMade (sheet : Bytes) (a b : List ℕ) (N : Notes) (n i : ℕ) (recs : Recs) : Type 0 where
  pub yields : Yields sheet a b n i
  pub recs_are : yields_recs N yields ≡ recs

yields_made : (sheet : Bytes) (a b : List ℕ) (N : Notes) (A : Ops) (d : ℕ) {n : ℕ} (ts : Trees yield_item n) (i : ℕ) → HeldOf sheet a b ts d i → YieldsMade sheet a b N n i (render_of N A ts)
unfolding Held render recs_over size yields_recs
yields_made sheet a b N A d []ᵗ i h = record { yields = no_yields; recs_are = refl }
yields_made sheet a b N A d (node yield_item line k f end ∷ᵗ ts) i h =
    let m = yields_made sheet a b N A d ts (i + 1) h.1 in
    record {
      yields = yield_more f h.0.1 m.yields;
      recs_are = rw h.0.0 (ap (λ (r : Recs). rec yield_item tt (f.0, (N (suc i), tt)) ∷ r) m.recs_are);
    }

-- ── the tail ──

module _ {sheet : Bytes} {a b rest : List ℕ} {o : Op} {i : ℕ} where
  module _ {g g' : Page} where
    labels_put : {recs : Recs} → o.kind ≡ source_kind → Tail sheet a b rest o i recs → ((h : Names sheet a b (cell a b o.idx node_labels_at) i) → Puts (spell_recs (names_recs h)) g g') → Puts (spell_recs recs) g g'
    labels_put e (Behind.nothing x y z) w = absurd (x e)
    labels_put e (Behind.labels q h) w = w h
    labels_put e (Behind.path q h) w = absurd (omega arith)
    labels_put e (Behind.yields q h) w = absurd (omega arith)

    pub labels_wrote : {n next : ℕ} → o.kind ≡ source_kind → n ≡ cell a b o.idx node_labels_at → ((h : Names sheet a b n i) → (next ≡ i + n) × Puts (spell_recs (names_recs h)) g g') → WroteTail sheet a b rest o i g g'
    labels_wrote {n} {next} e q w recs t =
        let v : (h : Names sheet a b (cell a b o.idx node_labels_at) i) → (next ≡ i + cell a b o.idx node_labels_at) × Puts (spell_recs (names_recs h)) g g' = rw q at w in
        labels_put e t (λ h. (v h).1)

  pub nothing_wrote : {g : Page} → Others o.kind tails → WroteTail sheet a b rest o i g g
  unfolding spell_recs
  nothing_wrote z recs (Behind.nothing p q r) = stay
  nothing_wrote z recs (Behind.labels q h) = absurd (z.0.0.1 q)
  nothing_wrote z recs (Behind.path q h) = absurd (z.0.1 q)
  nothing_wrote z recs (Behind.yields q h) = absurd (z.1 q)

-- ── both ──

-- n expressions from record i on, and what is behind them
pub record Inside (sheet : Bytes) (a b rest : List ℕ) (first : ℕ) (A : Ops) (k : ℕ) (o : Op) (recs : Recs) (n i : ℕ) : Type 0 where
  pub list : Carried sheet a b (shift (noted rest) o.base) first k o.left n i
  pub line : Rec
  pub tail : Recs
  pub tail_is : Tail sheet a b rest o (carried_end list) tail
  pub recs_are : recs ≡ line ∷ (carried_recs A list ++ tail)

module _ {sheet : Bytes} {a b rest : List ℕ} {o : Op} where
  no_tail : (n : ℕ) → o.kind ≡ n → eqb n source_kind ≡ false → eqb n bind_path_kind ≡ false → eqb n procedure_call_kind ≡ false → (i : ℕ) → Tail sheet a b rest o i []
  no_tail n q x y z i = Behind.nothing (λ e. eqb-false n source_kind x (sym q ∙ e)) (λ e. eqb-false n bind_path_kind y (sym q ∙ e)) (λ e. eqb-false n procedure_call_kind z (sym q ∙ e))

  labels_tail : {n i : ℕ} → o.kind ≡ source_kind → n ≡ cell a b o.idx node_labels_at → (y : Names sheet a b n i) → Tail sheet a b rest o i (names_recs y)
  labels_tail {n} {i} e c = subst (λ (n : ℕ). (y : Names sheet a b n i) → Tail sheet a b rest o i (names_recs y)) (sym c) (λ y. Behind.labels e y)

  path_tail : {n i : ℕ} → o.kind ≡ bind_path_kind → n ≡ cell a b o.idx part_elements_at → (y : Elements sheet a b n i) → Tail sheet a b rest o i (path_elements (kept_from (shift (noted rest) o.base) false None y.trees))
  path_tail {n} {i} e c = subst (λ (n : ℕ). (y : Elements sheet a b n i) → Tail sheet a b rest o i (path_elements (kept_from (shift (noted rest) o.base) false None y.trees))) (sym c) (λ y. Behind.path e y)

  yields_tail : {n i : ℕ} → o.kind ≡ procedure_call_kind → n ≡ cell a b o.idx call_yields_at → (y : Yields sheet a b n i) → Tail sheet a b rest o i (yields_recs (shift (noted rest) o.base) y)
  yields_tail {n} {i} e c = subst (λ (n : ℕ). (y : Yields sheet a b n i) → Tail sheet a b rest o i (yields_recs (shift (noted rest) o.base) y)) (sym c) (λ y. Behind.yields e y)

module _ {sheet : Bytes} {a b rest : List ℕ} {first : ℕ} {A : Ops} {k : ℕ} {o : Op} {recs : Recs} where
  -- of such a kind, they are as the words say
  by_words : {n i : ℕ} → n ≡ many_of a b o → i ≡ first_of o → Inside sheet a b rest first A k o recs n i → Inside sheet a b rest first A k o recs (many_of a b o) (first_of o)
  by_words e q h = rw (← e, ← q) h

  -- no expressions
  bare : (i : ℕ) (line : Rec) (tail : Recs) → Tail sheet a b rest o i tail → recs ≡ line ∷ tail → Inside sheet a b rest first A k o recs 0 i
  unfolding carried_recs carried_end
  bare i line tail t e = record { list = Due.none; line = line; tail = tail; tail_is = t; recs_are = e }

  -- and what is behind them
  behind_made : {n i stop : ℕ} {R : Ops → Recs} (line : Rec) (tail : Recs) (m : Made sheet a b (shift (noted rest) o.base) first k o.left n i R stop) → Tail sheet a b rest o (carried_end m.list) tail → recs ≡ line ∷ (R A ++ tail) → Inside sheet a b rest first A k o recs n i
  behind_made line tail m t e = record { list = m.list; line = line; tail = tail; tail_is = t; recs_are = rw (m.recs_are A) e }

  -- nothing behind them
  alone : {n i stop : ℕ} {R : Ops → Recs} (line : Rec) → ((i : ℕ) → Tail sheet a b rest o i []) → Made sheet a b (shift (noted rest) o.base) first k o.left n i R stop → recs ≡ line ∷ R A → Inside sheet a b rest first A k o recs n i
  alone {R = R} line t m e = behind_made line [] m (t (carried_end m.list)) (rw (append-nil (R A)) e)

  over_expr_law : {head : Rec} → ((i : ℕ) → Tail sheet a b rest o i []) → OverExpr (side sheet a b first) (noted rest) A k o head recs → Inside sheet a b rest first A k o recs 1 o.idx
  unfolding Held Below render
  over_expr_law {head} t h = alone head t (exprs_made (shift (noted rest) o.base) first k o.left (h.tree ∷ᵗ []ᵗ) o.idx (h.held, tt) (h.below, tt)) (rw (append-nil (render (shift (noted rest) o.base) A h.tree)) h.is)

  by_with : ((i : ℕ) → Tail sheet a b rest o i []) → (h : ByWith (side sheet a b first) (noted rest) A k o recs) → Inside sheet a b rest first A k o recs (h.count + one h.filtered) (o.idx + 1)
  by_with t h =
      let N = shift (noted rest) o.base in
      let m = items_made N first k o.left h.items (o.idx + 1) h.held_items h.below_items in
      let p : HeldOf sheet a b h.predicate o.left (carried_end m.list) = rw m.stop_is h.held_predicate in
      alone _ t (joined N first k o.left m (exprs_made N first k o.left h.predicate (carried_end m.list) p h.below_predicate)) h.is

  by_call : Roomy a b → o.kind ≡ procedure_call_kind → (h : ByCall (side sheet a b first) (noted rest) A k o recs) → Inside sheet a b rest first A k o recs h.fields.1.0 (o.idx + 1)
  unfolding fields_of field_of
  by_call room e h =
      let N = shift (noted rest) o.base in
      let m = exprs_made N first k o.left h.args (o.idx + 1) h.held_args h.below in
      let p : HeldOf sheet a b h.yields o.left (carried_end m.list) = rw m.stop_is h.held_yields in
      let y = yields_made sheet a b N A o.left h.yields (carried_end m.list) p in
      let c : h.fields.1.1.0 ≡ cell a b o.idx call_yields_at = ap (λ (f : Fields (forms clause Clause.Call)). f.1.1.0) (shown room h.at).fields in
      behind_made _ (yields_recs N y.yields) m (yields_tail e c y.yields) (rw (← y.recs_are) at h.is)

  by_labels : o.kind ≡ source_kind → ByLabels (side sheet a b first) (noted rest) A k o recs → Inside sheet a b rest first A k o recs 0 (o.idx + 1)
  unfolding source
  by_labels e h =
      let m = names_made (shift (noted rest) o.base) A o.left h.labels (o.idx + 1) h.held in
      bare (o.idx + 1) _ (names_recs m.names) (labels_tail e h.counted m.names) (rw (← m.recs_are) at h.is)

  by_path : o.kind ≡ bind_path_kind → (h : ByPath (side sheet a b first) (noted rest) A k o recs) → Inside sheet a b rest first A k o recs 0 (o.idx + 1)
  by_path e h = bare (o.idx + 1) _ _ (path_tail e h.counted (record { depth = o.left; trees = h.elements; held = h.held })) h.is

  -- all kinds but those that are written in ways of their own
  pub inside : Roomy a b → Others o.kind own_ways → Shows (side sheet a b first) (noted rest) A k o recs → Inside sheet a b rest first A k o recs (many_of a b o) (first_of o)
  unfolding many_by first_by source fields_of field_of
  inside room z (shows_all q r) = by_words (rw q) (rw q) (bare (o.idx + 1) _ [] (no_tail source_all_kind q refl refl refl (o.idx + 1)) r)
  inside room z (shows_no_parts q r) = by_words (rw q) (rw q) (bare (o.idx + 1) _ [] (no_tail source_no_parts_kind q refl refl refl (o.idx + 1)) r)
  inside room z (shows_source q r) = by_words (rw q) (rw q) (by_labels q r)
  inside room z (shows_filter q r) = by_words (rw q) (rw q) (over_expr_law (no_tail filter_kind q refl refl refl) r)
  inside room z (shows_expand q r) = absurd (z.0.0.0.1 q)
  inside room z (shows_short q r) = absurd (z.0.0.1 q)
  inside room z (shows_path q r) = by_words (rw q) (rw q) (by_path q r)
  inside room z (shows_optional q f l r) = absurd (z.0.1 q)
  inside room z (shows_with q r) = by_words (rw (q, r.counted, r.flagged)) (rw q) (by_with (no_tail with_kind q refl refl refl) r)
  inside room z (shows_project q r) = by_words (rw (q, r.counted)) (rw q) (alone _ (no_tail project_kind q refl refl refl) (items_made (shift (noted rest) o.base) first k o.left r.items (o.idx + 1) r.held r.below) r.is)
  inside room z (shows_aggregate q r) = absurd (z.1 q)
  inside room z (shows_order q r) = by_words (rw q) (rw q) (alone _ (no_tail order_by_kind q refl refl refl) (keys_made (shift (noted rest) o.base) first k o.left r.keys o.idx r.held r.below) r.is)
  inside room z (shows_skip q r) = by_words (rw q) (rw q) (over_expr_law (no_tail skip_kind q refl refl refl) r)
  inside room z (shows_limit q r) = by_words (rw q) (rw q) (over_expr_law (no_tail limit_kind q refl refl refl) r)
  inside room z (shows_distinct q r) = by_words (rw q) (rw q) (bare (o.idx + 1) _ [] (no_tail distinct_kind q refl refl refl (o.idx + 1)) r)
  inside room z (shows_unwind q r) = by_words (rw q) (rw q) (over_expr_law (no_tail unwind_kind q refl refl refl) r)
  inside room z (shows_union q r) = by_words (rw q) (rw q) (bare (o.idx + 1) _ [] (no_tail union_kind q refl refl refl (o.idx + 1)) r)
  inside room z (shows_call q r) =
      let c : r.fields.1.0 ≡ cell a b o.idx call_args_at = ap (λ (f : Fields (forms clause Clause.Call)). f.1.0) (shown room r.at).fields in
      by_words (rw (q, c)) (rw q) (by_call room q r)

-- ── a whole operator ──

module _ (k : ℕ) {sheet : Bytes} {a b os rest : List ℕ} {o : Op} (p : SomePlan sheet a b os rest k (k + 1)) (e : o ≡ op_at os k) (room : Roomy a b) (z : Others o.kind own_ways) where
  inside_at : Inside sheet a b rest p.first p.ops k o (p.ops k) (many_of a b o) (first_of o)
  inside_at = inside room z (here k p e)

  pub exprs_there : Many sheet a b os rest k o.base o.left (many_of a b o) (first_of o)
  exprs_there = record { first = p.first; ops = p.ops; tabled = tabled_below k p e; list = inside_at.list }

  pub tail_there : {next : ℕ} {g g' : Page} → WroteMany sheet a b os rest k o.base o.left (many_of a b o) (first_of o) g next g' → SomeTail sheet a b rest o next
  unfolding exprs_there
  tail_there v = record { recs = inside_at.tail; tail = rw (v exprs_there).0 inside_at.tail_is }

  pub inside_wrote : {next : ℕ} {g g' g'' g''' : Page} → WroteFirst sheet a b rest o g g' → WroteMany sheet a b os rest k o.base o.left (many_of a b o) (first_of o) g' next g'' → WroteTail sheet a b rest o next g'' g''' → Puts (spell_recs (p.ops k)) g g'''
  unfolding exprs_there shown_at
  inside_wrote {next} first v u =
      let h = inside_at in
      let m = v exprs_there in
      let t : Tail sheet a b rest o next h.tail = rw m.0 h.tail_is in
      rw (first_more h.recs_are) (first (shown_at k p e) ⨾ rw (spell_append (carried_recs p.ops h.list) h.tail) (m.1 ⨾ u h.tail t))
