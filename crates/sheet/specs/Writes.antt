-- The first `write` record of a sheet is that of its tree. Assumes nothing.
use Rattle.std.specs.Prelude.{◌≡◌, refl, ℕ, suc, ◌+◌, Bool, true, false, cond, List, [], ◌∷◌, ◌++◌, length, Option, None, Some}
use Rattle.std.proofs.Common.{sym, ◌∙◌, ap, add-zero, arith, append_assoc, append-nil, length-append}
use Rattle.std.proofs.lemmas.Bool.{false≢true}
use Rattle.model.specs.Field.{Fields}
use Rattle.model.specs.Kind.{Sort, Kind, Clause, PatternElement, Expr}
use Rattle.model.specs.Kind.{statement, union_arm, clause, projection, order_item, pattern_part, pattern_element, name, yield_item, entry, expr, in_plan}
use Rattle.model.specs.Record.{Rec, rec, Group, forms, clause_forms, clause_children, children}
use Rattle.model.specs.Tree.{Tree, Trees, Forest, node, []ᵗ, ◌∷ᵗ◌, end, ◌▸◌, records, records_of, records_in}
use Rattle.model.specs.Sheet.{or_else, is_write, write_in, write_in_arms, first_write}
use Rattle.laws.specs.TreeLaws.{numbered, numbered_of}

abbrev pub clause_writes : Clause → Bool
clause_writes Clause.Match = false
clause_writes Clause.Where = false
clause_writes Clause.With = false
clause_writes Clause.Return = false
clause_writes Clause.Unwind = false
clause_writes Clause.Call = false
clause_writes Clause.Write = true

abbrev pub writes : (s : Sort) → Kind s → Bool
writes statement k = false
writes union_arm k = false
writes clause k = clause_writes k
writes projection k = false
writes order_item k = false
writes pattern_part k = false
writes pattern_element k = false
writes name k = false
writes yield_item k = false
writes entry k = false
writes expr k = false
writes (in_plan p) k = false

-- the number of the first write among records numbered from n on
unfoldable pub write_among : ℕ → List Rec → Option ℕ
write_among n [] = None
write_among n (r ∷ rs) = cond (writes r.sort r.kind) (Some n) (write_among (suc n) rs)

-- the sorts inside a clause
abbrev inner : Sort → Bool
inner statement = false
inner union_arm = false
inner clause = false
inner projection = true
inner order_item = true
inner pattern_part = true
inner pattern_element = true
inner name = true
inner yield_item = true
inner entry = true
inner expr = true
inner (in_plan p) = false

abbrev Inner : List Group → Type 0
Inner [] = Unit {0}
Inner (g ∷ gs) = (inner g.0 ≡ true) × Inner gs

inner_quiet : (s : Sort) (k : Kind s) → inner s ≡ true → writes s k ≡ false
inner_quiet statement k e = refl
inner_quiet union_arm k e = refl
inner_quiet clause k e = absurd (false≢true e)
inner_quiet projection k e = refl
inner_quiet order_item k e = refl
inner_quiet pattern_part k e = refl
inner_quiet pattern_element k e = refl
inner_quiet name k e = refl
inner_quiet yield_item k e = refl
inner_quiet entry k e = refl
inner_quiet expr k e = refl
inner_quiet (in_plan p) k e = refl

inner_children : (s : Sort) (k : Kind s) (f : Fields (forms s k)) → inner s ≡ true → Inner (children s k f)
inner_children statement k f e = absurd (false≢true e)
inner_children union_arm k f e = absurd (false≢true e)
inner_children clause k f e = absurd (false≢true e)
inner_children projection k f e = (refl, tt)
inner_children order_item k f e = (refl, tt)
inner_children pattern_part k f e = (refl, tt)
inner_children pattern_element PatternElement.Node f e = (refl, (refl, tt))
inner_children pattern_element PatternElement.Rel f e = (refl, (refl, tt))
inner_children name k f e = tt
inner_children yield_item k f e = tt
inner_children entry k f e = (refl, tt)
inner_children expr (Expr.Over h) f e = (refl, tt)
inner_children expr Expr.Var f e = tt
inner_children expr Expr.Map f e = (refl, tt)
inner_children expr Expr.Call f e = (refl, tt)
inner_children expr Expr.PatternPredicate f e = (refl, tt)
inner_children expr Expr.ListPredicate f e = (refl, tt)
inner_children expr Expr.Unresolved f e = tt
inner_children expr Expr.Undesugared f e = tt
inner_children (in_plan p) k f e = absurd (false≢true e)

inner_clause : (k : Clause) (f : Fields (clause_forms k)) → Inner (clause_children k f)
inner_clause Clause.Match f = (refl, tt)
inner_clause Clause.Where f = (refl, tt)
inner_clause Clause.With f = (refl, (refl, (refl, (refl, (refl, tt)))))
inner_clause Clause.Return f = (refl, (refl, (refl, (refl, tt))))
inner_clause Clause.Unwind f = (refl, tt)
inner_clause Clause.Call f = (refl, (refl, tt))
inner_clause Clause.Write f = tt

-- records without a write are passed over
abbrev Quiet : List Rec → Type 0
Quiet rs = (n : ℕ) (ss : List Rec) → write_among n (rs ++ ss) ≡ write_among (n + length rs) ss

quiet_none : Quiet []
quiet_none n ss = rw (add-zero n)

quiet_both : (rs us : List Rec) → Quiet rs → Quiet us → Quiet (rs ++ us)
quiet_both rs us h g n ss =
    ap (λ l. write_among n l) (append_assoc rs us ss)
    ∙ h n (us ++ ss)
    ∙ g (n + length rs) ss
    ∙ ap (λ m. write_among m ss) (omega (arith, length-append rs us))

quiet_more : (r : Rec) (rs : List Rec) → writes r.sort r.kind ≡ false → Quiet rs → Quiet (r ∷ rs)
unfolding write_among
quiet_more r rs e h n ss = rw e (h (suc n) ss ∙ ap (λ m. write_among m ss) (omega arith))

mutual
  unfolding records

  quiet : {s : Sort} (t : Tree s) → inner s ≡ true → Quiet (records t)
  quiet (node s line k f kids) e = quiet_more (rec s k f) (records_in kids) (inner_quiet s k e) (quiet_in kids (inner_children s k f e))

  quiet_of : {s : Sort} {n : ℕ} (ts : Trees s n) → inner s ≡ true → Quiet (records_of ts)
  quiet_of []ᵗ e = quiet_none
  quiet_of (t ∷ᵗ ts) e = quiet_both (records t) (records_of ts) (quiet t e) (quiet_of ts e)

  quiet_in : {gs : List Group} (f : Forest gs) → Inner gs → Quiet (records_in f)
  quiet_in end e = quiet_none
  quiet_in (ts ▸ f) e = quiet_both (records_of ts) (records_in f) (quiet_of ts e.0) (quiet_in f e.1)

-- records, in which the first write, if any, is w
abbrev Seen : (rs : List Rec) → ℕ → Option ℕ → Type 0
Seen rs n w = (ss : List Rec) → write_among n (rs ++ ss) ≡ or_else w (write_among (n + length rs) ss)

seen_none : (n : ℕ) → Seen [] n None
unfolding or_else
seen_none n ss = rw (add-zero n)

or_else_assoc : {A : Type 0} (u v w : Option A) → or_else u (or_else v w) ≡ or_else (or_else u v) w
unfolding or_else
or_else_assoc None v w = refl
or_else_assoc (Some a) v w = refl

seen_both : (rs us : List Rec) (n : ℕ) (v w : Option ℕ) → Seen rs n v → Seen us (n + length rs) w → Seen (rs ++ us) n (or_else v w)
seen_both rs us n v w h g ss =
    ap (λ l. write_among n l) (append_assoc rs us ss)
    ∙ h (us ++ ss)
    ∙ ap (λ o. or_else v o) (g ss)
    ∙ or_else_assoc v w _
    ∙ ap (λ m. or_else (or_else v w) (write_among m ss)) (omega (arith, length-append rs us))

seen_clause : (c : Tree clause) (n : ℕ) → Seen (records c) n (is_write (numbered c n))
unfolding records numbered is_write or_else write_among
seen_clause (node clause line Clause.Match f kids) n ss = quiet_in kids (inner_clause Clause.Match f) (suc n) ss ∙ ap (λ m. write_among m ss) (omega arith)
seen_clause (node clause line Clause.Where f kids) n ss = quiet_in kids (inner_clause Clause.Where f) (suc n) ss ∙ ap (λ m. write_among m ss) (omega arith)
seen_clause (node clause line Clause.With f kids) n ss = quiet_in kids (inner_clause Clause.With f) (suc n) ss ∙ ap (λ m. write_among m ss) (omega arith)
seen_clause (node clause line Clause.Return f kids) n ss = quiet_in kids (inner_clause Clause.Return f) (suc n) ss ∙ ap (λ m. write_among m ss) (omega arith)
seen_clause (node clause line Clause.Unwind f kids) n ss = quiet_in kids (inner_clause Clause.Unwind f) (suc n) ss ∙ ap (λ m. write_among m ss) (omega arith)
seen_clause (node clause line Clause.Call f kids) n ss = quiet_in kids (inner_clause Clause.Call f) (suc n) ss ∙ ap (λ m. write_among m ss) (omega arith)
seen_clause (node clause line Clause.Write f kids) n ss = refl

seen_clauses : {m : ℕ} (cs : Trees clause m) (n : ℕ) → Seen (records_of cs) n (write_in (numbered_of cs n))
unfolding records numbered write_in
seen_clauses []ᵗ n = seen_none n
seen_clauses (c ∷ᵗ cs) n = seen_both (records c) (records_of cs) n (is_write (numbered c n)) (write_in (numbered_of cs (n + length (records c)))) (seen_clause c n) (seen_clauses cs (n + length (records c)))

pub or_else_none : {A : Type 0} (v : Option A) → or_else v None ≡ v
unfolding or_else
or_else_none None = refl
or_else_none (Some a) = refl

-- a record that is no write, before records that were seen
seen_more : (r : Rec) (rs : List Rec) (n : ℕ) (w : Option ℕ) → writes r.sort r.kind ≡ false → Seen rs (suc n) w → Seen (r ∷ rs) n w
unfolding write_among
seen_more r rs n w e h ss = rw e (h ss ∙ ap (λ m. or_else w (write_among m ss)) (omega arith))

-- the last group of a record
seen_last : (rs : List Rec) (n : ℕ) (w : Option ℕ) → Seen rs n w → Seen (rs ++ []) n w
seen_last rs n w h = rw (append-nil rs) h

seen_arms : {m : ℕ} (arms : Trees union_arm m) (n : ℕ) → Seen (records_of arms) n (write_in_arms (numbered_of arms n))
unfolding records numbered write_in_arms
seen_arms []ᵗ n = seen_none n
seen_arms (node union_arm line k f (cs ▸ end) ∷ᵗ arms) n =
    seen_both (rec union_arm k f ∷ (records_of cs ++ [])) (records_of arms) n (write_in (numbered_of cs (suc n))) _
    (seen_more (rec union_arm k f) (records_of cs ++ []) n (write_in (numbered_of cs (suc n))) refl (seen_last (records_of cs) (suc n) (write_in (numbered_of cs (suc n))) (seen_clauses cs (suc n))))
    (seen_arms arms (n + suc (length (records_of cs ++ []))))

statement_seen : {m n : ℕ} (k : Kind statement) (f : Fields (forms statement k)) (cs : Trees clause m) (arms : Trees union_arm n) → Seen (rec statement k f ∷ (records_of cs ++ (records_of arms ++ []))) 1 (or_else (write_in (numbered_of cs 2)) (write_in_arms (numbered_of arms (2 + length (records_of cs)))))
statement_seen k f cs arms =
    seen_more (rec statement k f) (records_of cs ++ (records_of arms ++ [])) 1 _ refl
    (seen_both (records_of cs) (records_of arms ++ []) 2 (write_in (numbered_of cs 2)) _ (seen_clauses cs 2) (seen_last (records_of arms) _ _ (seen_arms arms (2 + length (records_of cs)))))

pub first_write_law : (t : Tree statement) → first_write (numbered t 1) ≡ write_among 1 (records t)
unfolding records numbered first_write write_among
first_write_law (node statement line k f (cs ▸ arms ▸ end)) =
    sym (or_else_none _)
    ∙ sym (statement_seen k f cs arms [])
    ∙ ap (λ l. write_among 1 l) (append-nil (rec statement k f ∷ (records_of cs ++ (records_of arms ++ []))))
