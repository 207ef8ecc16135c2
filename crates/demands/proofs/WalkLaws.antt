-- The check's verdict is the first faulty line of the sheet, with its span; and what such a verdict has. Assumes nothing: these are laws with their proofs.
use Rattle.std.proofs.Math.Path.{◌≡◌, refl}
use Rattle.std.proofs.Common.{sym, ◌∙◌, ap, ap₂, arith, length-append}
use Rattle.std.specs.Prelude.{ℕ, zero, suc, ◌+◌, ◌≤◌, Bool, true, false, cond, length, Option, None, Some}
use mathlib.Core.List.{List, [], ◌∷◌, ◌++◌, map, append-nil, append_assoc}
use Rattle.std.proofs.lemmas.Option.{none-some}
use Rattle.model.specs.Text.{Bytes}
use Rattle.model.specs.Field.{Fields, Span}
use Rattle.model.specs.Kind.{Sort, Kind, Clause, PatternElement, Expr, statement, union_arm, clause, projection, order_item, pattern_part, pattern_element, name, yield_item, entry, expr, in_plan}
use Rattle.model.specs.Record.{Rec, rec, Group, forms, clause_forms, element_forms, expr_forms, children}
use Rattle.model.specs.Tree.{Tree, Trees, Forest, node, []ᵗ, ◌∷ᵗ◌, end, ◌▸◌, records, records_of, records_in}
use Rattle.model.specs.Check.{Verdict, fine, violated, and_then, clause_span, element_span, span_in, of_expr, of_elements, of_part, of_record, check, check_of, check_in, no_span, precheck_statement}
use Rattle.laws.specs.TreeLaws.{numbered, numbered_of, numbered_in}
use Rattle.demands.specs.Walk.{Line, lines, lines_of, lines_in, Fault, expr_fault, is_rel, rel_next, part_fault, fault_of, fault_at, Meets, span_field, own_span, or_span, span_at, report_or, first_fault, here, later}
use Rattle.demands.specs.WalkLaws.{Walked, met_none, met, this_line, later_line, named_fault, Named}

-- ── the lines are the records ──

map_append : {A B : Type 0} (g : A → B) (s t : List A) → map g (s ++ t) ≡ map g s ++ map g t
map_append g [] t = refl
map_append g (a ∷ s) t = ap (λ l. g a ∷ l) (map_append g s t)

mutual
  unfolding lines records

  pub lines_records : {s : Sort} (above : List Rec) (t : Tree s) → map (λ l. l.this) (lines above t) ≡ records t
  lines_records above (node s line k f kids) = ap (λ l. rec s k f ∷ l) (lines_in_records (rec s k f ∷ above) kids)

  lines_of_records : {s : Sort} {n : ℕ} (above : List Rec) (ts : Trees s n) → map (λ l. l.this) (lines_of above ts) ≡ records_of ts
  lines_of_records above []ᵗ = refl
  lines_of_records above (t ∷ᵗ ts) = map_append _ (lines above t) (lines_of above ts) ∙ ap₂ (λ a b. a ++ b) (lines_records above t) (lines_of_records above ts)

  lines_in_records : {gs : List Group} (above : List Rec) (f : Forest gs) → map (λ l. l.this) (lines_in above f) ≡ records_in f
  lines_in_records above end = refl
  lines_in_records above (ts ▸ f) = map_append _ (lines_of above ts) (lines_in above f) ∙ ap₂ (λ a b. a ++ b) (lines_of_records above ts) (lines_in_records above f)

-- ── the check's spans are those of the rule ──

clause_span_law : (k : Clause) (f : Fields (clause_forms k)) (around : Span) → clause_span k f ≡ or_span (span_field (clause_forms k) f) around
unfolding span_field or_span
clause_span_law Clause.Match f around = refl
clause_span_law Clause.Where f around = refl
clause_span_law Clause.With f around = refl
clause_span_law Clause.Return f around = refl
clause_span_law Clause.Unwind f around = refl
clause_span_law Clause.Call f around = refl
clause_span_law Clause.Write f around = refl

element_span_law : (k : PatternElement) (f : Fields (element_forms k)) (around : Span) → element_span k f ≡ or_span (span_field (element_forms k) f) around
unfolding span_field or_span
element_span_law PatternElement.Node f around = refl
element_span_law PatternElement.Rel f around = refl

span_in_law : (s : Sort) (k : Kind s) (f : Fields (forms s k)) (around : Span) → span_in s k f around ≡ or_span (own_span s k f) around
unfolding own_span or_span
span_in_law statement k f around = refl
span_in_law union_arm k f around = refl
span_in_law clause k f around = clause_span_law k f around
span_in_law projection k f around = refl
span_in_law order_item k f around = refl
span_in_law pattern_part k f around = refl
span_in_law pattern_element k f around = element_span_law k f around
span_in_law name k f around = refl
span_in_law yield_item k f around = refl
span_in_law entry k f around = refl
span_in_law expr k f around = refl
span_in_law (in_plan p) k f around = refl

-- ── what the check says of a record is what its line is ──

own_elements : {n : ℕ} (line m : ℕ) (above : List Rec) (ts : Trees pattern_element n) (s : Span) (behind : List Line) (v : Verdict) → and_then (of_elements line (numbered_of ts m) s) v ≡ report_or line s (part_fault n ((lines_of above ts ++ []) ++ behind)) v
unfolding and_then of_elements report_or part_fault rel_next is_rel numbered lines
own_elements line m above []ᵗ s behind v = refl
own_elements line m above (node pattern_element l PatternElement.Node f kids ∷ᵗ ts) s behind v = refl
own_elements line m above (node pattern_element l PatternElement.Rel f kids ∷ᵗ ts) s behind v = refl

own_part : {n : ℕ} (line m : ℕ) (above : List Rec) (x : Forest ((pattern_element, n) ∷ [])) (s : Span) (behind : List Line) (v : Verdict) → and_then (of_part line (numbered_in x m) s) v ≡ report_or line s (part_fault n (lines_in above x ++ behind)) v
unfolding of_part numbered lines
own_part line m above (ts ▸ end) s behind v = own_elements line m above ts s behind v

own_expr : (line : ℕ) (k : Expr) (f : Fields (expr_forms k)) (s : Span) (v : Verdict) → and_then (of_expr line k f s) v ≡ report_or line s (expr_fault k f) v
unfolding and_then of_expr report_or expr_fault
own_expr line (Expr.Over h) f s v = refl
own_expr line Expr.Var f s v = refl
own_expr line Expr.Map f s v = refl
own_expr line Expr.Call f s v = refl
own_expr line Expr.PatternPredicate f s v = refl
own_expr line Expr.ListPredicate f s v = refl
own_expr line Expr.Unresolved f s v = refl
own_expr line Expr.Undesugared f s v = refl

own : (s : Sort) (line m : ℕ) (k : Kind s) (f : Fields (forms s k)) (above : List Rec) (kids : Forest (children s k f)) (x : Span) (behind : List Line) (v : Verdict) → and_then (of_record s line k f (numbered_in kids m) x) v ≡ report_or line x (fault_of s k f (lines_in above kids ++ behind)) v
unfolding and_then of_record report_or fault_of
own statement line m k f above kids x behind v = refl
own union_arm line m k f above kids x behind v = refl
own clause line m k f above kids x behind v = refl
own projection line m k f above kids x behind v = refl
own order_item line m k f above kids x behind v = refl
own pattern_part line m k f above kids x behind v = own_part line m above kids x behind v
own pattern_element line m k f above kids x behind v = refl
own name line m k f above kids x behind v = refl
own yield_item line m k f above kids x behind v = refl
own entry line m k f above kids x behind v = refl
own expr line m k f above kids x behind v = own_expr line k f x v
own (in_plan p) line m k f above kids x behind v = refl

and_then_assoc : (u v w : Verdict) → and_then (and_then u v) w ≡ and_then u (and_then v w)
unfolding and_then
and_then_assoc fine v w = refl
and_then_assoc (violated r) v w = refl

fine_then : (v : Verdict) → and_then fine v ≡ v
unfolding and_then
fine_then v = refl

and_then_fine : (v : Verdict) → and_then v fine ≡ v
unfolding and_then
and_then_fine fine = refl
and_then_fine (violated r) = refl

-- ── the walk: the verdict on a tree, and then the first fault behind it ──

-- two verdicts and the first fault behind them
both_walk : (u v : Verdict) (x y z : Verdict) → and_then v x ≡ y → and_then u y ≡ z → and_then (and_then u v) x ≡ z
both_walk u v x y z p q = and_then_assoc u v x ∙ ap (λ w. and_then u w) p ∙ q

module _ (outside : Span) where
  mutual
    unfolding check lines numbered records first_fault fault_at span_at

    walk : {s : Sort} (t : Tree s) (n : ℕ) (above : List Rec) (behind : List Line) → and_then (check (numbered t n) (span_at outside above)) (first_fault outside (n + length (records t)) behind) ≡ first_fault outside n (lines above t ++ behind)
    walk (node s line k f kids) n above behind =
        let count : n + suc (length (records_in kids)) ≡ suc n + length (records_in kids) = omega arith in
        both_walk _ _ _ _ _
        (ap₂ (λ x m. and_then (check_in (numbered_in kids (suc n)) x) (first_fault outside m behind)) (span_in_law s k f (span_at outside above)) count ∙ walk_in kids (suc n) (rec s k f ∷ above) behind)
        (own s n (suc n) k f (rec s k f ∷ above) kids (span_at outside above) behind _)

    walk_of : {s : Sort} {m : ℕ} (ts : Trees s m) (n : ℕ) (above : List Rec) (behind : List Line) → and_then (check_of (numbered_of ts n) (span_at outside above)) (first_fault outside (n + length (records_of ts)) behind) ≡ first_fault outside n (lines_of above ts ++ behind)
    walk_of []ᵗ n above behind = fine_then _ ∙ ap (λ m. first_fault outside m behind) (omega arith)
    walk_of (t ∷ᵗ ts) n above behind =
        let count : n + length (records t ++ records_of ts) ≡ n + length (records t) + length (records_of ts) = omega (arith, length-append (records t) (records_of ts)) in
        both_walk _ _ _ _ _
        (ap (λ m. and_then (check_of (numbered_of ts (n + length (records t))) (span_at outside above)) (first_fault outside m behind)) count ∙ walk_of ts (n + length (records t)) above behind)
        (walk t n above (lines_of above ts ++ behind) ∙ ap (λ l. first_fault outside n l) (sym (append_assoc (lines above t) (lines_of above ts) behind)))

    walk_in : {gs : List Group} (x : Forest gs) (n : ℕ) (above : List Rec) (behind : List Line) → and_then (check_in (numbered_in x n) (span_at outside above)) (first_fault outside (n + length (records_in x)) behind) ≡ first_fault outside n (lines_in above x ++ behind)
    walk_in end n above behind = fine_then _ ∙ ap (λ m. first_fault outside m behind) (omega arith)
    walk_in (ts ▸ x) n above behind =
        let count : n + length (records_of ts ++ records_in x) ≡ n + length (records_of ts) + length (records_in x) = omega (arith, length-append (records_of ts) (records_in x)) in
        both_walk _ _ _ _ _
        (ap (λ m. and_then (check_in (numbered_in x (n + length (records_of ts))) (span_at outside above)) (first_fault outside m behind)) count ∙ walk_in x (n + length (records_of ts)) above behind)
        (walk_of ts n above (lines_in above x ++ behind) ∙ ap (λ l. first_fault outside n l) (sym (append_assoc (lines_of above ts) (lines_in above x) behind)))

-- ── no line is reported outside a clause ──

clause_anywhere : (c : Tree clause) (a b : Span) → check c a ≡ check c b
unfolding check of_record
clause_anywhere (node clause line k f kids) a b = refl

clauses_anywhere : {n : ℕ} (cs : Trees clause n) (a b : Span) → check_of cs a ≡ check_of cs b
unfolding check
clauses_anywhere []ᵗ a b = refl
clauses_anywhere (c ∷ᵗ cs) a b = ap₂ (λ u v. and_then u v) (clause_anywhere c a b) (clauses_anywhere cs a b)

arms_anywhere : {n : ℕ} (arms : Trees union_arm n) (a b : Span) → check_of arms a ≡ check_of arms b
unfolding check of_record
arms_anywhere []ᵗ a b = refl
arms_anywhere (node union_arm line k f (cs ▸ end) ∷ᵗ arms) a b = ap₂ (λ u v. and_then (and_then fine (and_then u fine)) v) (clauses_anywhere cs a b) (arms_anywhere arms a b)

anywhere : (t : Tree statement) (a b : Span) → check t a ≡ check t b
unfolding check of_record
anywhere (node statement line k f (cs ▸ arms ▸ end)) a b = ap₂ (λ u v. and_then fine (and_then u (and_then v fine))) (clauses_anywhere cs a b) (arms_anywhere arms a b)

-- the check's verdict on the tree of a sheet
pub first_fault_law : (t : Tree statement) → numbered t 1 ≡ t → (outside : Span) → precheck_statement t ≡ first_fault outside 1 (lines [] t)
unfolding precheck_statement first_fault span_at
first_fault_law t e outside =
    anywhere t no_span outside
    ∙ ap (λ u. check u outside) (sym e)
    ∙ sym (and_then_fine (check (numbered t 1) outside))
    ∙ walk outside t 1 [] []
    ∙ ap (λ l. first_fault outside 1 l) (append-nil (lines [] t))

-- ── what is found, if something is ──

some_none : {A : Type 0} {a : A} → Some a ≡ None → ⊥
some_none e = none-some _ (sym e)

unfoldable some_line : List Line → Type 0
some_line [] = ⊥
some_line (l ∷ ls) = Unit {0}

meets_some : {ls : List Line} → Meets ls → some_line ls
unfolding some_line
meets_some (here e) = tt
meets_some (later m) = tt

nothing_met : Meets [] → ⊥
unfolding some_line
nothing_met m = meets_some m

not_met : {l : Line} {ls : List Line} → fault_at l ls ≡ None → (Meets ls → ⊥) → Meets (l ∷ ls) → ⊥
not_met e f (here q) = some_none (sym q ∙ e)
not_met e f (later m) = f m

walked_on : {n : ℕ} {l : Line} {ls : List Line} {v : Verdict} → fault_at l ls ≡ None → Walked (suc n) ls v → Walked n (l ∷ ls) v
walked_on e (met_none f) = met_none (not_met e f)
walked_on {n} e (met line s x m le) =
    let earlier : n ≤ line = omega arith in
    met line s x (later m) earlier

walked_at : (outside : Span) (n : ℕ) (l : Line) (ls : List Line) (o : Option Fault) → fault_at l ls ≡ o → Walked (suc n) ls (first_fault outside (suc n) ls) → Walked n (l ∷ ls) (report_or n (span_at outside l.above) o (first_fault outside (suc n) ls))
unfolding report_or
walked_at outside n l ls None e h = walked_on e h
walked_at outside n l ls (Some x) e h = met n _ x (here e) (omega arith)

pub walked : (outside : Span) (n : ℕ) (ls : List Line) → Walked n ls (first_fault outside n ls)
unfolding first_fault
walked outside n [] = met_none nothing_met
walked outside n (l ∷ ls) = walked_at outside n l ls (fault_at l ls) refl (walked outside (suc n) ls)

-- ── the name that is carried ──

part_nameless : (n : ℕ) (behind : List Line) (x : Bytes) → part_fault n behind ≡ Some (Fault.UnresolvedName x) → ⊥
unfolding part_fault
part_nameless zero behind x e = let z : ◌≡◌ {A = ℕ} 0 1 = cc in omega arith
part_nameless (suc n) behind x e = go (rel_next behind) e
  where
    go : (b : Bool) → cond b (Some Fault.EmptyPatternPart) None ≡ Some (Fault.UnresolvedName x) → ⊥
    go true q = let z : ◌≡◌ {A = ℕ} 0 1 = cc in omega arith
    go false q = some_none (sym q)

expr_named : (k : Expr) (f : Fields (expr_forms k)) (x : Bytes) → expr_fault k f ≡ Some (Fault.UnresolvedName x) → rec expr k f ≡ rec expr Expr.Unresolved (x, tt)
unfolding expr_fault
expr_named (Expr.Over h) f x e = absurd (some_none (sym e))
expr_named Expr.Var f x e = absurd (some_none (sym e))
expr_named Expr.Map f x e = absurd (some_none (sym e))
expr_named Expr.Call f x e = absurd (some_none (sym e))
expr_named Expr.PatternPredicate f x e = absurd (some_none (sym e))
expr_named Expr.ListPredicate f x e = absurd (some_none (sym e))
expr_named Expr.Unresolved (y, _) x e = let z : y ≡ x = cc in rw z
expr_named Expr.Undesugared f x e = let z : ◌≡◌ {A = ℕ} 0 1 = cc in absurd (omega arith)

of_named : (s : Sort) (k : Kind s) (f : Fields (forms s k)) (behind : List Line) (x : Bytes) → fault_of s k f behind ≡ Some (Fault.UnresolvedName x) → rec s k f ≡ rec expr Expr.Unresolved (x, tt)
unfolding fault_of
of_named statement k f behind x e = absurd (some_none (sym e))
of_named union_arm k f behind x e = absurd (some_none (sym e))
of_named clause k f behind x e = absurd (some_none (sym e))
of_named projection k f behind x e = absurd (some_none (sym e))
of_named order_item k f behind x e = absurd (some_none (sym e))
of_named pattern_part k (_, (_, (n, _))) behind x e = absurd (part_nameless n behind x e)
of_named pattern_element k f behind x e = absurd (some_none (sym e))
of_named name k f behind x e = absurd (some_none (sym e))
of_named yield_item k f behind x e = absurd (some_none (sym e))
of_named entry k f behind x e = absurd (some_none (sym e))
of_named expr k f behind x e = expr_named k f x e
of_named (in_plan p) k f behind x e = absurd (some_none (sym e))

module _ (outside : Span) (line : ℕ) (s : Span) (x : Bytes) where
  named_at : (n : ℕ) (l : Line) (ls : List Line) (o : Option Fault) → fault_at l ls ≡ o → report_or n (span_at outside l.above) o (first_fault outside (suc n) ls) ≡ named_fault outside line s x → (first_fault outside (suc n) ls ≡ named_fault outside line s x → Named outside line s x (suc n) ls) → Named outside line s x n (l ∷ ls)
  unfolding report_or fault_at
  named_at n l ls None e q h = later_line (h q)
  named_at n l ls (Some (Fault.UnresolvedName y)) e q h =
      let p : n ≡ line = cc in
      let z : y ≡ x = cc in
      rw p (this_line (of_named l.this.sort l.this.kind l.this.fields ls x (e ∙ rw z)))
  named_at n l ls (Some (Fault.UndesugaredExpr kind)) e q h = let z : ◌≡◌ {A = ℕ} 0 1 = cc in absurd (omega arith)
  named_at n l ls (Some Fault.EmptyPatternPart) e q h = let z : ◌≡◌ {A = ℕ} 0 1 = cc in absurd (omega arith)

  -- the name of a first fault is the one in the record of its line: so whoever has the line has the name
  pub carried_name : (n : ℕ) (ls : List Line) → first_fault outside n ls ≡ named_fault outside line s x → Named outside line s x n ls
  unfolding first_fault
  carried_name n [] e = let z : ◌≡◌ {A = ℕ} 0 1 = cc in absurd (omega arith)
  carried_name n (l ∷ ls) e = named_at n l ls (fault_at l ls) refl e (carried_name (suc n) ls)
