-- Expressions one after another: taken apart as the loop over them does, and made of the groups of a record. Assumes nothing: every law is proved.
use mathlib.Core.Path.{◌≡◌, refl, sym, ap, ◌∙◌}
use Prim.Native.Nat.{ℕ, zero, suc, ◌+◌, ◌-◌, ◌≤◌, ◌<◌}
use native.Mathlib.Nat.{add-zero, add_assoc}
use native.Mathlib.Omega.{arith}
use mathlib.Core.Bool.{Bool, true, false, cond}
use mathlib.Core.List.{List, [], ◌∷◌, ◌++◌, append-nil, append_assoc}
use lib.ListN.{length}
use Rattle.model.specs.Text.{Bytes}
use Rattle.model.specs.Kind.{Sort, Expr, projection, order_item, entry, expr, in_plan, order_key, plan_entry}
use Rattle.model.specs.Record.{Group, rec, beside, spell_rec, spell_recs}
use Rattle.model.specs.Tree.{Tree, Trees, Forest, node, []ᵗ, ◌∷ᵗ◌, end, ◌▸◌}
use Rattle.model.specs.Lower.{Recs, item, synthesise_alias, expr_alias}
use Rattle.output.specs.declared.Page.{Page}
use Rattle.output.specs.Page.{Puts}
use Rattle.output.specs.Writes.{◌⨾◌, stay}
use Rattle.words.specs.Held.{Held, HeldOf, HeldIn, size, size_of, room_in}
use Rattle.lower.specs.Render.{Notes, Ops, recs_over, render, render_of, name_of, Below, BelowOf, below_in}
use Rattle.lower.specs.Shows.{shift}
use Rattle.plan_sheet.specs.Due.{Tabled, noted, ExprAt, ItemAt, named_rec, item_name, Line, SomeLine, One, Carried, carried_recs, carried_end, Many, many_text, WroteOne, WroteMany, WroteLine}
use Rattle.plan_sheet.specs.Due

pub spell_append : (rs ss : Recs) → spell_recs (rs ++ ss) ≡ spell_recs rs ++ spell_recs ss
unfolding spell_recs
spell_append [] ss = refl
spell_append (r ∷ rs) ss = ap (λ (t : Bytes). spell_rec r ++ t) (spell_append rs ss) ∙ sym (append_assoc (spell_rec r) (spell_recs rs) (spell_recs ss))

-- of n that are gone over k are done
pub due_yet : {n k : ℕ} → k < n → n - k ≡ 0 → ⊥
due_yet h e = omega arith

pub tabled_less : {sheet : Bytes} {a b os rest : List ℕ} {first n k : ℕ} {A : Ops} → k ≤ n → Tabled sheet a b os rest first n A → Tabled sheet a b os rest first k A
tabled_less h p = record { few = omega (arith, p.few); stored = λ j f l. p.stored j f (omega arith) }

none_list : {sheet : Bytes} {a b : List ℕ} {N : Notes} {first below left : ℕ} (A : Ops) (n i : ℕ) → n ≡ 0 → (c : Carried sheet a b N first below left n i) → (i ≡ carried_end c) × (carried_recs A c ≡ [])
unfolding carried_recs carried_end
none_list A zero i z Due.none = (refl, refl)
none_list A (suc n) i z c = let e : suc n ≡ 0 = z in absurd (omega arith)

-- what is left of h
pub record Still {sheet : Bytes} {a b os rest : List ℕ} {below base left n i : ℕ} (h : Many sheet a b os rest below base left n i) (start : Page) (m at : ℕ) (p : Page) : Type 0 where
  pub others : Many sheet a b os rest below base left m at
  pub stop : carried_end others.list ≡ carried_end h.list
  pub text : (q : Page) → Puts (many_text others) p q → Puts (many_text h) start q

-- the loop, of which m expressions from record `at` on are left
pub record Going (sheet : Bytes) (a b os rest : List ℕ) (below base left n i : ℕ) (start : Page) (m at : ℕ) (p : Page) : Type 0 where
  pub some : Many sheet a b os rest below base left m at
  pub each : (h : Many sheet a b os rest below base left n i) → Still h start m at p
  pub long : length p.bytes.now ≡ length start.bytes.now

-- expressions made of a group of trees
pub record Made (sheet : Bytes) (a b : List ℕ) (N : Notes) (first below left n i : ℕ) (recs : Ops → Recs) (stop : ℕ) : Type 0 where
  pub list : Carried sheet a b N first below left n i
  pub recs_are : (A : Ops) → carried_recs A list ≡ recs A
  pub stop_is : carried_end list ≡ stop

-- ── one of them ──

one_of : ◌≡◌ {A = ℕ} 1 0 → ⊥
one_of e = omega arith

module _ {sheet : Bytes} {a b os rest : List ℕ} {below base left : ℕ} where
  -- the first of some, and the others
  pub record Split {n i : ℕ} (h : Many sheet a b os rest below base left n i) (m : ℕ) : Type 0 where
    pub recs : Recs
    pub j : ℕ
    pub line : Line sheet a b i recs j
    pub tree : Tree expr
    pub held : Held sheet a b tree left j
    pub under : Below (shift (noted rest) base) h.first below tree
    pub others : Carried sheet a b (shift (noted rest) base) h.first below left m (j + size tree)
    pub stop : carried_end others ≡ carried_end h.list
    pub text : many_text h ≡ spell_recs recs ++ (spell_recs (render (shift (noted rest) base) h.ops tree) ++ spell_recs (carried_recs h.ops others))

  split_list : {first : ℕ} (A : Ops) (p : Tabled sheet a b os rest first below A) (n i : ℕ) → (n ≡ 0 → ⊥) → (c : Carried sheet a b (shift (noted rest) base) first below left n i) → Split (record { first = first; ops = A; tabled = p; list = c }) (n - 1)
  unfolding carried_recs carried_end
  split_list A p zero i z c = absurd (z refl)
  split_list A p (suc n) i z (Due.more recs j l t h u c) =
      let e : suc n - 1 ≡ n = omega arith in
      rw e (record {
        recs = recs;
        j = j;
        line = l;
        tree = t;
        held = h;
        under = u;
        others = c;
        stop = refl;
        text = spell_append recs (render (shift (noted rest) base) A t ++ carried_recs A c) ∙ ap (λ (s : Bytes). spell_recs recs ++ s) (spell_append (render (shift (noted rest) base) A t) (carried_recs A c));
      })

  pub split : {n i : ℕ} → (n ≡ 0 → ⊥) → (h : Many sheet a b os rest below base left n i) → Split h (n - 1)
  split {n} {i} z h = split_list h.ops h.tabled n i z h.list

  -- ── the loop ──

  pub going : {n i : ℕ} {p : Page} → Many sheet a b os rest below base left n i → Going sheet a b os rest below base left n i p n i p
  going h = record { some = h; each = λ h. record { others = h; stop = refl; text = λ q r. r }; long = refl }

  pub some_line : {n i : ℕ} → (n ≡ 0 → ⊥) → Many sheet a b os rest below base left n i → SomeLine sheet a b i
  some_line z h = let s = split z h in record { recs = s.recs; behind = s.j; line = s.line }

  -- a line keeps the slice's length
  pub line_long : {n i next : ℕ} {p q : Page} → (n ≡ 0 → ⊥) → Many sheet a b os rest below base left n i → WroteLine sheet a b i p next q → length q.bytes.now ≡ length p.bytes.now
  line_long z h w = let s = split z h in (w s.recs s.j s.line).1.long

  -- the expression behind its line
  pub one_there : {n i next : ℕ} {p q : Page} → (n ≡ 0 → ⊥) → (h : Many sheet a b os rest below base left n i) → WroteLine sheet a b i p next q → One sheet a b os rest below base left next
  one_there {n} {i} {next} z h w =
      let s = split z h in
      let e : next ≡ s.j = (w s.recs s.j s.line).0 in
      record { first = h.first; ops = h.ops; tabled = h.tabled; tree = s.tree; held = rw e s.held; under = s.under }

  pub first_line : {i : ℕ} → Many sheet a b os rest below base left 1 i → SomeLine sheet a b i
  first_line h = some_line one_of h

  pub first_there : {i next : ℕ} {p q : Page} → Many sheet a b os rest below base left 1 i → WroteLine sheet a b i p next q → One sheet a b os rest below base left next
  first_there h w = one_there one_of h w

  -- a line and the expression behind it
  pub lined : {i next last : ℕ} {p q r : Page} → WroteLine sheet a b i p next q → WroteOne sheet a b os rest below base left next q last r → WroteMany sheet a b os rest below base left 1 i p last r
  unfolding one_there spell_recs
  lined {i} {next} {last} {p} {q} {r} w v h =
      let s = split one_of h in
      let e = w s.recs s.j s.line in
      let o = v (one_there one_of h w) in
      let f : last ≡ s.j + size s.tree = o.0 ∙ ap (λ (x : ℕ). x + size s.tree) e.0 in
      let n = none_list h.ops 0 (s.j + size s.tree) refl s.others in
      (f ∙ n.0 ∙ s.stop, rw (s.text, n.1) (e.1 ⨾ o.1 ⨾ stay))

  -- the first of some, alone
  first_list : {n i : ℕ} (h : Many sheet a b os rest below base left n i) {m : ℕ} → Split h m → Many sheet a b os rest below base left 1 i
  first_list h s = record { first = h.first; ops = h.ops; tabled = h.tabled; list = Due.more s.recs s.j s.line s.tree s.held s.under Due.none }

  pub first_one : {n i : ℕ} → (n ≡ 0 → ⊥) → Many sheet a b os rest below base left n i → Many sheet a b os rest below base left 1 i
  first_one z h = first_list h (split z h)

  step : {n i m at last : ℕ} {start p q : Page} → (m ≡ 0 → ⊥) → (h : Many sheet a b os rest below base left n i) → Still h start m at p → WroteMany sheet a b os rest below base left 1 at p last q → Still h start (m - 1) last q
  unfolding first_list carried_recs carried_end
  step {n} {i} {m} {at} {last} {start} {p} {q} z h g w =
      let s = split z g.others in
      let N = shift (noted rest) base in
      let A = g.others.ops in
      let o = w (first_list g.others s) in
      let put : Puts (spell_recs s.recs ++ spell_recs (render N A s.tree)) p q = rw (append-nil (render N A s.tree), spell_append s.recs (render N A s.tree)) at o.1 in
      let all = s.text ∙ sym (append_assoc (spell_recs s.recs) (spell_recs (render N A s.tree)) (spell_recs (carried_recs A s.others))) in
      rw o.0 (record {
        others = record { first = g.others.first; ops = A; tabled = g.others.tabled; list = s.others };
        stop = s.stop ∙ g.stop;
        text = λ q r. g.text q (rw all (put ⨾ r));
      })

  pub again : {n i m at last : ℕ} {start p q : Page} → (m ≡ 0 → ⊥) → Going sheet a b os rest below base left n i start m at p → WroteMany sheet a b os rest below base left 1 at p last q → Going sheet a b os rest below base left n i start (m - 1) last q
  again z g w =
      record {
        some = (step z g.some (record { others = g.some; stop = refl; text = λ q r. r }) w).others;
        each = λ h. step z h (g.each h) w;
        long = (w (first_one z g.some)).1.long ∙ g.long;
      }

  -- nothing is due
  pub none_wrote : {n i : ℕ} {p : Page} → n ≡ 0 → WroteMany sheet a b os rest below base left n i p i p
  unfolding spell_recs
  none_wrote {n} {i} z h = let e = none_list h.ops n i z h.list in (e.0, rw e.1 stay)

  pub done : {n i m at : ℕ} {start p : Page} → m ≡ 0 → Going sheet a b os rest below base left n i start m at p → WroteMany sheet a b os rest below base left n i start at p
  unfolding spell_recs
  done {n} {i} {m} {at} {start} {p} z g h =
      let s = g.each h in
      let e = none_list s.others.ops m at z s.others.list in
      (e.0 ∙ s.stop, s.text p (rw e.1 stay))

-- ── groups of trees ──

unfoldable pub expr_of : {sheet : Bytes} {a b : List ℕ} (left : ℕ) (t : Tree expr) (i : ℕ) → Held sheet a b t left i → ExprAt sheet a b i
unfolding Held
expr_of left (node expr line k f kids) i h = record { kind = k; fields = f; at = h.1 }

-- what is held may be deeper
room_more : (s : Sort) (d e : ℕ) → d ≤ e → room_in s d ≤ room_in s e
room_more s d e l = by_side (beside s) d e l
  where
    by_side : (t : Bool) (d e : ℕ) → d ≤ e → cond t d (d - 1) ≤ cond t e (e - 1)
    by_side true d e l = l
    by_side false d e l = omega arith

module _ (sheet : Bytes) (a b : List ℕ) where
  mutual
    unfolding Held

    pub deeper : {s : Sort} (t : Tree s) (d e i : ℕ) → d ≤ e → Held sheet a b t d i → Held sheet a b t e i
    deeper (node s line k f kids) d e i l h = (h.0, h.1, omega (arith, l, h.2), forest_deeper kids (room_in s d) (room_in s e) (i + 1) (room_more s d e l) h.3)

    pub trees_deeper : {s : Sort} {n : ℕ} (ts : Trees s n) (d e i : ℕ) → d ≤ e → HeldOf sheet a b ts d i → HeldOf sheet a b ts e i
    trees_deeper []ᵗ d e i l h = tt
    trees_deeper (t ∷ᵗ ts) d e i l h = (deeper t d e i l h.0, trees_deeper ts d e (i + size t) l h.1)

    pub forest_deeper : {gs : List Group} (f : Forest gs) (d e i : ℕ) → d ≤ e → HeldIn sheet a b f d i → HeldIn sheet a b f e i
    forest_deeper end d e i l h = tt
    forest_deeper (ts ▸ f) d e i l h = (trees_deeper ts d e i l h.0, forest_deeper f d e (i + size_of ts) l h.1)

-- the name of an expression, by its first record
pub name_by : (sheet : Bytes) (a b : List ℕ) (left : ℕ) (t : Tree expr) (i : ℕ) (h : Held sheet a b t left i) → synthesise_alias t ≡ expr_alias (expr_of left t i h).kind (expr_of left t i h).fields
unfolding expr_of synthesise_alias
name_by sheet a b left (node expr line (Expr.Over o) f kids) i h = refl
name_by sheet a b left (node expr line Expr.Var f kids) i h = refl
name_by sheet a b left (node expr line Expr.Map f kids) i h = refl
name_by sheet a b left (node expr line Expr.Call f kids) i h = refl
name_by sheet a b left (node expr line Expr.PatternPredicate f kids) i h = refl
name_by sheet a b left (node expr line Expr.ListPredicate f kids) i h = refl
name_by sheet a b left (node expr line Expr.Unresolved f kids) i h = refl
name_by sheet a b left (node expr line Expr.Undesugared f kids) i h = refl

module _ {sheet : Bytes} {a b : List ℕ} (N : Notes) (first below left : ℕ) where
  pub exprs_made : {n : ℕ} (ts : Trees expr n) (i : ℕ) → HeldOf sheet a b ts left i → BelowOf N first below ts → Made sheet a b N first below left n i (λ A. render_of N A ts) (i + size_of ts)
  unfolding HeldOf BelowOf render_of size_of carried_recs carried_end
  exprs_made []ᵗ i h u = record { list = Due.none; recs_are = λ A. refl; stop_is = sym (add-zero i) }
  exprs_made (t ∷ᵗ ts) i h u =
      let m = exprs_made ts (i + size t) h.1 u.1 in
      record {
        list = Due.more [] i (Line.bare (expr_of left t i h.0)) t h.0 u.0 m.list;
        recs_are = λ A. ap (λ (r : Recs). render N A t ++ r) (m.recs_are A);
        stop_is = m.stop_is ∙ add_assoc i (size t) (size_of ts);
      }

  pub entries_made : {n : ℕ} (ts : Trees entry n) (i : ℕ) → HeldOf sheet a b ts left i → BelowOf N first below ts → Made sheet a b N first below left n i (λ A. render_of N A ts) (i + size_of ts)
  unfolding Held Below render size below_in recs_over carried_recs carried_end
  entries_made []ᵗ i h u = record { list = Due.none; recs_are = λ A. refl; stop_is = sym (add-zero i) }
  entries_made (node entry line k f (e ∷ᵗ []ᵗ ▸ end) ∷ᵗ ts) i h u =
      let j : i + suc (size e + 0 + 0) ≡ i + 1 + size e = omega arith in
      let m = entries_made ts (i + 1 + size e) (rw j at h.1) u.1 in
      record {
        list = Due.more (rec (in_plan plan_entry) tt f ∷ []) (i + 1) (Line.named h.0.1) e h.0.3.0.0 u.0.0.0 m.list;
        recs_are = λ A. rw (append-nil (render N A e), append-nil (render N A e)) (ap (λ (r : Recs). rec (in_plan plan_entry) tt f ∷ (render N A e ++ r)) (m.recs_are A));
        stop_is = m.stop_is ∙ omega arith;
      }

  pub keys_made : {n : ℕ} (ts : Trees order_item n) (i : ℕ) → HeldOf sheet a b ts left i → BelowOf N first below ts → Made sheet a b N first below left n i (λ A. render_of N A ts) (i + size_of ts)
  unfolding Held Below render size below_in recs_over carried_recs carried_end
  keys_made []ᵗ i h u = record { list = Due.none; recs_are = λ A. refl; stop_is = sym (add-zero i) }
  keys_made (node order_item line k f (e ∷ᵗ []ᵗ ▸ end) ∷ᵗ ts) i h u =
      let j : i + suc (size e + 0 + 0) ≡ i + 1 + size e = omega arith in
      let m = keys_made ts (i + 1 + size e) (rw j at h.1) u.1 in
      record {
        list = Due.more (rec (in_plan order_key) tt f ∷ []) (i + 1) (Line.keyed h.0.1) e (deeper sheet a b e (left - 1) left (i + 1) (omega arith) h.0.3.0.0) u.0.0.0 m.list;
        recs_are = λ A. rw (append-nil (render N A e), append-nil (render N A e)) (ap (λ (r : Recs). rec (in_plan order_key) tt f ∷ (render N A e ++ r)) (m.recs_are A));
        stop_is = m.stop_is ∙ omega arith;
      }

  pub items_made : {n : ℕ} (ts : Trees projection n) (i : ℕ) → HeldOf sheet a b ts left i → BelowOf N first below ts → Made sheet a b N first below left n i (λ A. render_of N A ts) (i + size_of ts)
  unfolding Held Below render size below_in recs_over item name_of carried_recs carried_end
  items_made []ᵗ i h u = record { list = Due.none; recs_are = λ A. refl; stop_is = sym (add-zero i) }
  items_made (node projection line k f (e ∷ᵗ []ᵗ ▸ end) ∷ᵗ ts) i h u =
      let j : i + suc (size e + 0 + 0) ≡ i + 1 + size e = omega arith in
      let m = items_made ts (i + 1 + size e) (rw j at h.1) u.1 in
      let d : Held sheet a b e left (i + 1) = deeper sheet a b e (left - 1) left (i + 1) (omega arith) h.0.3.0.0 in
      let t : ItemAt sheet a b i = record { fields = f; at = h.0.1; expr = expr_of left e (i + 1) d } in
      record {
        list = Due.more (named_rec (item_name t) ∷ []) (i + 1) (Line.aliased t) e d u.0.0.0 m.list;
        recs_are = λ A. rw (name_by sheet a b left e (i + 1) d, append-nil (render N A e), append-nil (render N A e)) (ap (λ (r : Recs). named_rec (item_name t) ∷ (render N A e ++ r)) (m.recs_are A));
        stop_is = m.stop_is ∙ omega arith;
      }

  -- one group behind another
  join_list : {n i : ℕ} (c : Carried sheet a b N first below left n i) {m : ℕ} (d : Carried sheet a b N first below left m (carried_end c)) → Made sheet a b N first below left (n + m) i (λ A. carried_recs A c ++ carried_recs A d) (carried_end d)
  unfolding carried_recs carried_end
  join_list Due.none {m} d = let e : 0 + m ≡ m = omega arith in rw e (record { list = d; recs_are = λ A. refl; stop_is = refl })
  join_list (Due.more {n = n} recs j l t h u c) {m} d =
      let e : suc n + m ≡ suc (n + m) = omega arith in
      let r = join_list c d in
      rw e (record {
        list = Due.more recs j l t h u r.list;
        recs_are = λ A. ap (λ (x : Recs). recs ++ (render N A t ++ x)) (r.recs_are A) ∙ ap (λ (x : Recs). recs ++ x) (sym (append_assoc (render N A t) (carried_recs A c) (carried_recs A d))) ∙ sym (append_assoc recs (render N A t ++ carried_recs A c) (carried_recs A d));
        stop_is = r.stop_is;
      })

  pub joined : {n m i mid stop : ℕ} {R S : Ops → Recs} (r : Made sheet a b N first below left n i R mid) → Made sheet a b N first below left m (carried_end r.list) S stop → Made sheet a b N first below left (n + m) i (λ A. R A ++ S A) stop
  joined r s = let j = join_list r.list s.list in record { list = j.list; recs_are = λ A. j.recs_are A ∙ rw (r.recs_are A, s.recs_are A); stop_is = j.stop_is ∙ s.stop_is }
