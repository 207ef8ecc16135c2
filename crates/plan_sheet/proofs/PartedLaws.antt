-- The keys and the aggregates among the items of a `return`. Assumes nothing: every law is proved.
use mathlib.Core.Path.{◌≡◌, refl, sym, ap, ◌∙◌}
use Prim.Native.Nat.{ℕ, zero, suc, ◌+◌, ◌-◌, ◌<◌}
use native.Mathlib.Omega.{arith}
use mathlib.Core.Bool.{Bool, true, false, not, beq, false≢true}
use mathlib.Core.List.{List, [], ◌∷◌, ◌++◌}
use Rattle.model.specs.Text.{Bytes, bytes, bytes_from}
use Rattle.model.specs.Field.{Fields, text, spell, spell_fields}
use Rattle.model.specs.Kind.{Expr, projection, expr, in_plan, agg_expr}
use Rattle.model.specs.Record.{rec, expr_forms, keyword, plan_keyword, spell_rec, spell_recs}
use Rattle.model.specs.Tree.{Tree, Trees, node, []ᵗ, ◌∷ᵗ◌, end, ◌▸◌}
use Rattle.model.specs.Lower.{Recs}
use Rattle.output.specs.declared.Page.{Page}
use Rattle.output.specs.Page.{Puts}
use Rattle.output.specs.Writes.{◌⨾◌, stay}
use Rattle.words.specs.Words.{Roomy, cell, field_of, fields_of, max_records}
use Rattle.words.specs.Held.{Held, HeldOf, RecordAt, PlaceAt, size}
use Rattle.words.specs.Cells.{shown}
use Rattle.context.specs.Tables.{op_at}
use Rattle.context.specs.declared.op.Op.{Op}
use Rattle.lower.specs.Render.{Notes, Ops, Below, BelowOf, below_in, copies_below, item_expr, is_aggregate, agg_of, key_recs, agg_recs}
use Rattle.lower.specs.Shows.{shift}
use Rattle.words.specs.Count.{Ends}
use Rattle.aggregate.specs.Names.{SomeExpr}
use Rattle.plan_line.specs.Keywords.{word}
use Rattle.plan_line.specs.declared.keyword.Keyword.{Keyword}
use Rattle.plan_sheet.specs.Due.{noted, SomePlan, One, Carried, carried_recs, carried_end, Many, WroteOne, WroteMany, WroteFirst}
use Rattle.plan_line.specs.Copy.{TextAsked, text_at}
use Rattle.plan_sheet.specs.Parted.{agg_text, part_recs, parts_recs, Items, WrotePart, WroteParts, WroteItems}
use Rattle.plan_line.proofs.RowLaws.{flag_decimal, named_rec_law, place_escape}
use Rattle.plan_sheet.proofs.HeadLaws.{texts_at}
use Rattle.plan_sheet.proofs.DueLaws.{Made, exprs_made, deeper, spell_append}
use Rattle.plan_sheet.proofs.OpLaws.{of_kind, here, shown_at, tabled_below, first_more}
use Rattle.context.specs.Ops.{aggregate_kind}
use Rattle.words.specs.Places.{fn_args_at, fn_distinct_at, items_at, name_at}

-- ── an aggregate ──

-- its line, and its arguments as expressions
pub record Agg (sheet : Bytes) (a b : List ℕ) (N : Notes) (first below left i : ℕ) (t : Tree expr) : Type 0 where
  pub low : i < max_records
  pub deep : 0 < left
  pub place : PlaceAt text sheet (cell a b i name_at) (cell a b i (name_at + 1))
  pub list : Carried sheet a b N first below (left - 1) (cell a b i fn_args_at) (i + 1)
  pub stop : carried_end list ≡ i + size t
  pub text : (A : Ops) → spell_recs (agg_of N A t) ≡ agg_text sheet a b i ++ spell_recs (carried_recs A list)

call_agg : (sheet : Bytes) (a b : List ℕ) (i : ℕ) → Roomy a b → (f : Fields (expr_forms Expr.Call)) → RecordAt sheet a b i expr Expr.Call f → spell_rec (rec (in_plan agg_expr) tt (f.0, (f.1.0, (f.1.1.0, tt)))) ≡ agg_text sheet a b i
unfolding keyword plan_keyword word bytes bytes_from spell_fields spell fields_of field_of
call_agg sheet a b i room f at =
    let s = shown room at in
    named_rec_law _ Keyword.AggFn (text_at sheet a b i name_at) (cell a b i fn_args_at ∷ cell a b i fn_distinct_at ∷ []) refl (rw s.fields (rw (place_escape (texts_at room at).0, flag_decimal (cell a b i fn_distinct_at) s.flags.1.1.0)))

not-true : {X : Type 0} → false ≡ true → X
not-true e = let z : ◌≡◌ {A = ℕ} 0 1 = cc in absurd (omega arith)

module _ (sheet : Bytes) (a b : List ℕ) (N : Notes) (first below left i : ℕ) (room : Roomy a b) where
  counted_as : {n : ℕ} {stop : ℕ} {R : Ops → Recs} → n ≡ cell a b i fn_args_at → Made sheet a b N first below (left - 1) n (i + 1) R stop → Made sheet a b N first below (left - 1) (cell a b i fn_args_at) (i + 1) R stop
  counted_as e m = rw (← e) m

  pub agg : (t : Tree expr) → Held sheet a b t left i → Below N first below t → is_aggregate t ≡ true → Agg sheet a b N first below left i t
  unfolding Held Below below_in copies_below size is_aggregate agg_of spell_recs fields_of field_of
  agg (node expr line (Expr.Over h) f kids) d u e = not-true e
  agg (node expr line Expr.Var f kids) d u e = not-true e
  agg (node expr line Expr.Map f kids) d u e = not-true e
  agg (node expr line Expr.Call f (args ▸ end)) d u e =
      let n : f.1.0 ≡ cell a b i fn_args_at = ap (λ (x : Fields (expr_forms Expr.Call)). x.1.0) (shown room d.1).fields in
      let m = counted_as n (exprs_made N first below (left - 1) args (i + 1) d.3.0 u.0) in
      record {
        low = d.1.low;
        deep = d.2;
        place = (texts_at room d.1).0;
        list = m.list;
        stop = m.stop_is ∙ omega arith;
        text = λ A. rw (call_agg sheet a b i room f d.1, m.recs_are A);
      }
  agg (node expr line Expr.PatternPredicate f kids) d u e = not-true e
  agg (node expr line Expr.ListPredicate f kids) d u e = not-true e
  agg (node expr line Expr.Unresolved f kids) d u e = not-true e
  agg (node expr line Expr.Undesugared f kids) d u e = not-true e

-- ── an item's expression ──

-- what the code found
abbrev pub Told : (sheet : Bytes) (a b : List ℕ) (i : ℕ) → Bool → Type 0
Told sheet a b i is = (d : ℕ) (t : Tree expr) → Held sheet a b t d i → is ≡ is_aggregate t

-- two flags compared
differ : (x y : Bool) → not (beq x y) ≡ true → x ≡ y → ⊥
differ true true h e = false≢true h
differ true false h e = false≢true (sym e)
differ false true h e = false≢true e
differ false false h e = false≢true h

alike : (x y : Bool) → not (beq x y) ≡ false → x ≡ y
alike true true h = refl
alike true false h = absurd (false≢true (sym h))
alike false true h = absurd (false≢true (sym h))
alike false false h = refl

other_recs : (N : Notes) (A : Ops) (is aggs : Bool) (t : Tree expr) → is ≡ is_aggregate t → (is ≡ aggs → ⊥) → part_recs N A aggs t ≡ []
unfolding part_recs
other_recs N A true true t e z = absurd (z refl)
other_recs N A false true t e z = rw (← e)
other_recs N A true false t e z = rw (← e)
other_recs N A false false t e z = absurd (z refl)

module _ {sheet : Bytes} {a b os rest : List ℕ} {below base left i : ℕ} where
  pub some_expr : One sheet a b os rest below base left i → SomeExpr sheet a b i
  some_expr h = record { depth = left; held = record { tree = h.tree; is = h.held } }

  -- it is of the other part
  pub other_wrote : {is : Bool} (aggs : Bool) {next : ℕ} {p : Page} → Told sheet a b i is → not (beq is aggs) ≡ true → Ends a b i next → WrotePart sheet a b os rest below base left i aggs p next p
  unfolding spell_recs
  other_wrote {is} aggs told z ends h = (ends.each sheet expr left h.tree h.held, rw (other_recs (shift (noted rest) base) h.ops is aggs h.tree (told left h.tree h.held) (differ is aggs z)) stay)

  -- it is a key
  pub key_wrote : {is : Bool} (aggs : Bool) {next : ℕ} {p q : Page} → Told sheet a b i is → not (beq is aggs) ≡ false → is ≡ false → WroteOne sheet a b os rest below base left i p next q → WrotePart sheet a b os rest below base left i aggs p next q
  unfolding part_recs
  key_wrote {is} aggs told s e w h =
      let v = w h in
      let n : is_aggregate h.tree ≡ false = sym (told left h.tree h.held) ∙ e in
      (v.0, rw (← alike is aggs s, e, n) v.1)

  -- it is an aggregate
  module _ (room : Roomy a b) {is : Bool} (told : Told sheet a b i is) (e : is ≡ true) (h : One sheet a b os rest below base left i) where
    pub agg_is : Agg sheet a b (shift (noted rest) base) h.first below left i h.tree
    agg_is = agg sheet a b (shift (noted rest) base) h.first below left i room h.tree h.held h.under (sym (told left h.tree h.held) ∙ e)

    pub agg_in : TextAsked sheet a b i name_at
    agg_in = record { from = agg_is.place.from; to = agg_is.place.to }

    pub args : {n : ℕ} → n ≡ cell a b i fn_args_at → Many sheet a b os rest below base (left - 1) n (i + 1)
    args q = rw q (record { first = h.first; ops = h.ops; tabled = h.tabled; list = agg_is.list })

    pub agg_wrote : (aggs : Bool) {n next : ℕ} {p q r : Page} → not (beq is aggs) ≡ false → n ≡ cell a b i fn_args_at → Puts (agg_text sheet a b i) p q → WroteMany sheet a b os rest below base (left - 1) n (i + 1) q next r → (next ≡ i + size h.tree) × Puts (spell_recs (part_recs (shift (noted rest) base) h.ops aggs h.tree)) p r
    unfolding part_recs
    agg_wrote aggs {n} {next} {p} {q} {r} same c line many =
        let m : WroteMany sheet a b os rest below base (left - 1) (cell a b i fn_args_at) (i + 1) q next r = rw c at many in
        let w = m (record { first = h.first; ops = h.ops; tabled = h.tabled; list = agg_is.list }) in
        let y : is_aggregate h.tree ≡ true = sym (told left h.tree h.held) ∙ e in
        (w.0 ∙ agg_is.stop, rw (← alike is aggs same, e, y, agg_is.text h.ops) (line ⨾ w.1))

-- ── the loop ──

-- what is left of the items h
pub record PartsStill {sheet : Bytes} {a b os rest : List ℕ} {below base left n i : ℕ} (aggs : Bool) (h : Items sheet a b os rest below base left n i) (start : Page) (m at : ℕ) (p : Page) : Type 0 where
  pub others : Items sheet a b os rest below base left m at
  pub text : (q : Page) → Puts (spell_recs (parts_recs (shift (noted rest) base) others.ops aggs others.items)) p q → Puts (spell_recs (parts_recs (shift (noted rest) base) h.ops aggs h.items)) start q

pub record PartsGoing (sheet : Bytes) (a b os rest : List ℕ) (below base left n i : ℕ) (aggs : Bool) (start : Page) (m at : ℕ) (p : Page) : Type 0 where
  pub some : Items sheet a b os rest below base left m at
  pub each : (h : Items sheet a b os rest below base left n i) → PartsStill aggs h start m at p

parts_more : (N : Notes) (A : Ops) (aggs : Bool) {n : ℕ} (p : Tree projection) (ps : Trees projection n) → parts_recs N A aggs (p ∷ᵗ ps) ≡ part_recs N A aggs (item_expr p) ++ parts_recs N A aggs ps
unfolding parts_recs part_recs key_recs agg_recs
parts_more N A true p ps = refl
parts_more N A false p ps = refl

parts_none : (N : Notes) (A : Ops) (aggs : Bool) {m : ℕ} → m ≡ 0 → (ps : Trees projection m) → parts_recs N A aggs ps ≡ []
unfolding parts_recs key_recs agg_recs
parts_none N A true z []ᵗ = refl
parts_none N A false z []ᵗ = refl
parts_none N A aggs {m = suc m} z (p ∷ᵗ ps) = let e : suc m ≡ 0 = z in absurd (omega arith)

-- the first of some, and the others
record Apart (sheet : Bytes) (a b os rest : List ℕ) (first below base left at m : ℕ) (A : Ops) (aggs : Bool) (all : Recs) : Type 0 where
  tree : Tree expr
  held : Held sheet a b tree left (at + 1)
  under : Below (shift (noted rest) base) first below tree
  items : Trees projection m
  others : HeldOf sheet a b items left (at + 1 + size tree)
  below_others : BelowOf (shift (noted rest) base) first below items
  text : all ≡ part_recs (shift (noted rest) base) A aggs tree ++ parts_recs (shift (noted rest) base) A aggs items

module _ {sheet : Bytes} {a b os rest : List ℕ} {below base left : ℕ} where
  apart : {first : ℕ} (A : Ops) (aggs : Bool) (m at : ℕ) → (m ≡ 0 → ⊥) → (ps : Trees projection m) → HeldOf sheet a b ps left at → BelowOf (shift (noted rest) base) first below ps → Apart sheet a b os rest first below base left at (m - 1) A aggs (parts_recs (shift (noted rest) base) A aggs ps)
  unfolding Held Below below_in size
  apart A aggs zero at z []ᵗ h u = absurd (z refl)
  apart A aggs (suc m) at z (node projection line k f ((e ∷ᵗ []ᵗ) ▸ end) ∷ᵗ ps) h u =
      let d : suc m - 1 ≡ m = omega arith in
      let j : at + suc (size e + 0 + 0) ≡ at + 1 + size e = omega arith in
      rw d (record {
        tree = e;
        held = deeper sheet a b e (left - 1) left (at + 1) (omega arith) h.0.3.0.0;
        under = u.0.0.0;
        items = ps;
        others = rw j at h.1;
        below_others = u.1;
        text = parts_more (shift (noted rest) base) A aggs (node projection line k f ((e ∷ᵗ []ᵗ) ▸ end)) ps;
      })

  split : {m at : ℕ} (aggs : Bool) → (m ≡ 0 → ⊥) → (h : Items sheet a b os rest below base left m at) → Apart sheet a b os rest h.first below base left at (m - 1) h.ops aggs (parts_recs (shift (noted rest) base) h.ops aggs h.items)
  split {m} {at} aggs z h = apart h.ops aggs m at z h.items h.held h.under

  pub item_one : {m at : ℕ} → (m ≡ 0 → ⊥) → Items sheet a b os rest below base left m at → One sheet a b os rest below base left (at + 1)
  item_one z h = let s = split true z h in record { first = h.first; ops = h.ops; tabled = h.tabled; tree = s.tree; held = s.held; under = s.under }

  part_step : {n i m at next : ℕ} {aggs : Bool} {start p q : Page} → (m ≡ 0 → ⊥) → (h : Items sheet a b os rest below base left n i) → PartsStill aggs h start m at p → WrotePart sheet a b os rest below base left (at + 1) aggs p next q → PartsStill aggs h start (m - 1) next q
  part_step {next = next} {aggs = aggs} z h g w =
      let o = g.others in
      let s = split aggs z o in
      let v = w (record { first = o.first; ops = o.ops; tabled = o.tabled; tree = s.tree; held = s.held; under = s.under }) in
      rw v.0 (record {
        others = record { first = o.first; ops = o.ops; tabled = o.tabled; items = s.items; held = s.others; under = s.below_others };
        text = λ q r. g.text q (rw (s.text, spell_append (part_recs (shift (noted rest) base) o.ops aggs s.tree) (parts_recs (shift (noted rest) base) o.ops aggs s.items)) (v.1 ⨾ r));
      })

  pub parts_going : {n i : ℕ} {aggs : Bool} {p : Page} → Items sheet a b os rest below base left n i → PartsGoing sheet a b os rest below base left n i aggs p n i p
  parts_going h = record { some = h; each = λ h. record { others = h; text = λ q r. r } }

  pub parts_again : {n i m at next : ℕ} {aggs : Bool} {start p q : Page} → (m ≡ 0 → ⊥) → PartsGoing sheet a b os rest below base left n i aggs start m at p → WrotePart sheet a b os rest below base left (at + 1) aggs p next q → PartsGoing sheet a b os rest below base left n i aggs start (m - 1) next q
  parts_again z g w =
      record {
        some = (part_step z g.some (record { others = g.some; text = λ q r. r }) w).others;
        each = λ h. part_step z h (g.each h) w;
      }

  pub parts_done : {n i m at : ℕ} {aggs : Bool} {start p : Page} → m ≡ 0 → PartsGoing sheet a b os rest below base left n i aggs start m at p → WroteParts sheet a b os rest below base left n i aggs start p
  unfolding spell_recs
  parts_done {aggs = aggs} {p = p} z g h =
      let s = g.each h in
      s.text p (rw (parts_none (shift (noted rest) base) s.others.ops aggs z s.others.items) stay)

-- keys, and behind them aggregates
pub items_wrote : {sheet : Bytes} {a b os rest : List ℕ} {below base left n i : ℕ} {p q r : Page} → WroteParts sheet a b os rest below base left n i false p q → WroteParts sheet a b os rest below base left n i true q r → WroteItems sheet a b os rest below base left n i p r
unfolding parts_recs
items_wrote {rest = rest} {base = base} ks gs h = rw (spell_append (key_recs (shift (noted rest) base) h.ops h.items) (agg_recs (shift (noted rest) base) h.ops h.items)) (ks h ⨾ gs h)

-- ── a whole operator ──

module _ (k : ℕ) {sheet : Bytes} {a b os rest : List ℕ} {o : Op} (p : SomePlan sheet a b os rest k (k + 1)) (e : o ≡ op_at os k) (c : o.kind ≡ aggregate_kind) where
  pub items_of : Items sheet a b os rest k o.base o.left (cell a b o.idx items_at) (o.idx + 1)
  items_of = let s = of_kind aggregate_kind c (here k p e) in rw (sym s.counted) (record { first = p.first; ops = p.ops; tabled = tabled_below k p e; items = s.items; held = s.held; under = s.below })

  pub parted_wrote : {g g' g'' : Page} → WroteFirst sheet a b rest o g g' → WroteItems sheet a b os rest k o.base o.left (cell a b o.idx items_at) (o.idx + 1) g' g'' → Puts (spell_recs (p.ops k)) g g''
  unfolding shown_at
  parted_wrote {g} {g'} {g''} first items =
      let s = of_kind aggregate_kind c (here k p e) in
      let h : Items sheet a b os rest k o.base o.left s.count (o.idx + 1) = record { first = p.first; ops = p.ops; tabled = tabled_below k p e; items = s.items; held = s.held; under = s.below } in
      let v : WroteItems sheet a b os rest k o.base o.left s.count (o.idx + 1) g' g'' = rw (sym s.counted) at items in
      rw (first_more s.is) (first (shown_at k p e) ⨾ v h)
