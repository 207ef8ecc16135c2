-- What reading yields: between the place before a tree that is read and the place behind it stand the lines of its records, their fields fit, and its line numbers and depth are right. Assumes nothing: each law is proved.
use Rattle.std.specs.Prelude.{◌≡◌, Bool, true, cond, ◌||◌, ltb, length, Option, None, Some}
use Rattle.std.proofs.Math.Path.{refl, subst}
use Rattle.std.proofs.Common.{sym, ◌∙◌, ap, ap₂, subst₂, le_trans, arith, length-append, ltb-false}
use Rattle.std.proofs.Math.Bool.{false}
use mathlib.Core.List.{List, [], ◌∷◌, ◌++◌}
use Prim.Native.Nat.{ℕ, zero, suc, ◌+◌, ◌≤◌}
use Rattle.model.specs.Text.{Bytes, Pieces}
use Rattle.model.specs.Kind.{Sort}
use Rattle.model.specs.Record.{Rec, RecOf, read_rec, children, Group, beside}
use Rattle.model.specs.Tree.{Tree, Trees, Forest, node, ◌∷ᵗ◌, ◌▸◌, records, records_of, records_in}
use Rattle.model.specs.Sheet.{max_lines, Place, Reading, got, refused, then_read, Reader, formed, line_at, read_line, read_many, read_groups, read_node, read_tree}
use Rattle.model.specs.Refusal.{Refusal}
use Rattle.laws.specs.TextLaws.{Each, each[], ◌each∷◌, each_append}
use Rattle.laws.specs.RecordLaws.{rec_of, Fits, line_text, ahead, ahead_append, read_line_law}
use Rattle.laws.specs.TreeLaws.{level, level_mono, level_up, level_beside, depth, depth_of, depth_in, numbered, numbered_of, numbered_in}

-- ── what a reading yields, if it is not refused ──

pub data Yields {A : Type 0} (P : A → Place → Type 0) : Reading A → Type 0 where
  yields : {a : A} {p : Place} → P a p → Yields P (got a p)
  refuses : {r : Refusal} → Yields P (refused r)

module _ {A : Type 0} where
  pub got_value : {a b : A} {p q : Place} → got a p ≡ got b q → a ≡ b
  got_value e = cc

  pub got_place : {a b : A} {p q : Place} → got a p ≡ got b q → p ≡ q
  got_place e = cc

  is_got : Reading A → Type 0
  is_got (got a p) = Unit {0}
  is_got (refused r) = ⊥

  pub refused_got : {a : A} {p : Place} {r : Refusal} → refused r ≡ got a p → ⊥
  unfolding is_got
  refused_got e = subst is_got (sym e) tt

  -- what is got is as the reading yields it
  pub yielded : (P : A → Place → Type 0) {m : Reading A} → Yields P m → (a : A) (p : Place) → m ≡ got a p → P a p
  yielded P (yields h) a p e = subst₂ P (got_value e) (got_place e) h
  yielded P refuses a p e = absurd (refused_got e)

-- a step that yields P, and then one that yields Q from there
pub then : {A B : Type 0} {P : A → Place → Type 0} {Q : B → Place → Type 0} {m : Reading A} {k : A → Place → Reading B} → Yields P m → ((a : A) (p : Place) → P a p → Yields Q (k a p)) → Yields Q (then_read m k)
unfolding then_read
then (yields {a} {p} h) f = f a p h
then refuses f = refuses

-- ── a reading takes records ──

abbrev pub pieces_at : Place → Pieces
pieces_at p = record { first = p.text; more = p.more }

-- from the place p to the place q stand the lines of these records
pub record Took (rs : List Rec) (p q : Place) : Type 0 where
  pub lines : pieces_at p ≡ ahead rs (pieces_at q)
  pub line : q.line ≡ p.line + length rs
  pub fit : Each Fits rs
  -- the place behind the last line that may stand
  pub few : p.line ≤ suc max_lines → q.line ≤ suc max_lines

pub took_none : (p : Place) → Took [] p p
unfolding ahead
took_none p = record { lines = refl; line = omega arith; fit = each[]; few = λ h. h }

pub ◌⨾◌ : {rs ss : List Rec} {p q r : Place} → Took rs p q → Took ss q r → Took (rs ++ ss) p r
◌⨾◌ {rs} {ss} {p} {q} {r} a b = record {
  lines = a.lines ∙ ap (λ x. ahead rs x) b.lines ∙ sym (ahead_append rs ss (pieces_at r));
  line = omega (arith, a.line, b.line, length-append rs ss);
  fit = each_append a.fit b.fit;
  few = λ h. b.few (a.few h);
}

infixr 50 ◌⨾◌
-- a line that is read is one record
took_one : (r : Rec) (line : ℕ) (text m : Bytes) (ms : List Bytes) → line ≤ max_lines → (text ≡ line_text r) × Fits r → Took (r ∷ []) (record { line = line; text = text; more = m ∷ ms }) (record { line = suc line; text = m; more = ms })
unfolding ahead
took_one r line text m ms h (e, f) = record { lines = ap (λ l. record { first = l; more = m ∷ ms }) e; line = omega arith; fit = f each∷ each[]; few = λ _. omega arith }

formed_took : (s : Sort) (line : ℕ) (text m : Bytes) (ms : List Bytes) → line ≤ max_lines → (o : Option (RecOf s)) → read_rec s text ≡ o → Yields (λ x q. Took (rec_of s x ∷ []) (record { line = line; text = text; more = m ∷ ms }) q) (formed line (record { line = suc line; text = m; more = ms }) o)
unfolding formed
formed_took s line text m ms h None e = refuses
formed_took s line text m ms h (Some x) e = yields (took_one (rec_of s x) line text m ms h (read_line_law s text x e))

line_took : (s : Sort) (deep : Bool) (line : ℕ) (text : Bytes) (more : List Bytes) → Yields (λ x q. Took (rec_of s x ∷ []) (record { line = line; text = text; more = more }) q) (line_at s deep line text more)
unfolding line_at
line_took s deep line text [] = refuses
line_took s deep line text (m ∷ ms) = go deep (ltb max_lines line) refl
  where
    go : (d b : Bool) → ltb max_lines line ≡ b → Yields (λ x q. Took (rec_of s x ∷ []) (record { line = line; text = text; more = m ∷ ms }) q) (cond (d || b) (refused (Refusal.BigTree line)) (formed line (record { line = suc line; text = m; more = ms }) (read_rec s text)))
    go true b e = refuses
    go false true e = refuses
    go false false e = formed_took s line text m ms (ltb-false max_lines line e) (read_rec s text) refl

-- ── a reading takes a tree ──

-- a value with its records, its depth and its line numbers was read between two places, at most e deep
pub record TookAs {A : Type 0} (recs : A → List Rec) (deep : A → ℕ) (number : A → ℕ → A) (e : ℕ) (p : Place) (a : A) (q : Place) : Type 0 where
  pub took : Took (recs a) p q
  pub depth : deep a ≤ e
  pub numbers : number a p.line ≡ a

abbrev pub TookTree : {s : Sort} → ℕ → Place → Tree s → Place → Type 0
TookTree = TookAs (λ t. records t) (λ t. depth t) (λ t n. numbered t n)

abbrev pub TookTrees : {s : Sort} {n : ℕ} → ℕ → Place → Trees s n → Place → Type 0
TookTrees = TookAs (λ t. records_of t) (λ t. depth_of t) (λ t n. numbered_of t n)

abbrev pub TookForest : {gs : List Group} → ℕ → Place → Forest gs → Place → Type 0
TookForest = TookAs (λ t. records_in t) (λ t. depth_in t) (λ t n. numbered_in t n)

-- a reader takes trees at most e deep
abbrev pub Takes : ℕ → ((s : Sort) → Reader (Tree s)) → Type 0
Takes e r = (s : Sort) (p : Place) → Yields (λ t q. TookTree e p t q) (r s p)

-- one tree and then the others, one group and then the others, a record and then its children
trees_cons : {s : Sort} {n e : ℕ} {p q r : Place} (t : Tree s) (ts : Trees s n) → TookTree e p t q → TookTrees e q ts r → TookTrees e p (t ∷ᵗ ts) r
unfolding records depth numbered
trees_cons t ts a b = record { took = a.took ⨾ b.took; depth = omega (arith, a.depth, b.depth); numbers = ap₂ (λ x xs. x ∷ᵗ xs) a.numbers (ap (λ n. numbered_of ts n) (sym a.took.line) ∙ b.numbers) }

forest_cons : {s : Sort} {n e : ℕ} {gs : List Group} {p q r : Place} (ts : Trees s n) (f : Forest gs) → TookTrees e p ts q → TookForest e q f r → TookForest e p (ts ▸ f) r
unfolding records depth numbered
forest_cons ts f a b = record { took = a.took ⨾ b.took; depth = omega (arith, a.depth, b.depth); numbers = ap₂ (λ x xs. x ▸ xs) a.numbers (ap (λ n. numbered_in f n) (sym a.took.line) ∙ b.numbers) }

zero-le : (e : ℕ) → 0 ≤ e
zero-le e = omega arith

node_cons : (s : Sort) (x : RecOf s) (e : ℕ) (p q r : Place) (f : Forest (children s x.0 x.1)) → Took (rec_of s x ∷ []) p q → TookForest e q f r → TookTree (level (beside s) e) p (node s p.line x.0 x.1 f) r
unfolding records depth numbered
node_cons s x e p q r f a b = record { took = a ⨾ b.took; depth = level_mono (beside s) (depth_in f) e b.depth; numbers = ap (λ y. node s p.line x.0 x.1 y) (ap (λ n. numbered_in f n) (omega (arith, a.line)) ∙ b.numbers) }

module _ (e : ℕ) (r : (s : Sort) → Reader (Tree s)) (h : Takes e r) where
  many_takes : (s : Sort) (n : ℕ) (p : Place) → Yields (λ t q. TookTrees e p t q) (read_many (λ q. r s q) n p)
  unfolding read_many records depth numbered
  many_takes s zero p = yields (record { took = took_none p; depth = zero-le e; numbers = refl })
  many_takes s (suc n) p = then (h s p) (λ t q a. then (many_takes s n q) (λ ts q' b. yields (trees_cons t ts a b)))

  groups_takes : (gs : List Group) (p : Place) → Yields (λ t q. TookForest e p t q) (read_groups r gs p)
  unfolding read_groups records depth numbered
  groups_takes [] p = yields (record { took = took_none p; depth = zero-le e; numbers = refl })
  groups_takes (g ∷ gs) p = then (many_takes g.0 g.1 p) (λ t q a. then (groups_takes gs q) (λ ts q' b. yields (forest_cons t ts a b)))

  node_takes : (s : Sort) (p : Place) → Yields (λ t q. TookTree (level (beside s) e) p t q) (read_node r s p)
  unfolding read_node read_line
  node_takes s p = then (line_took s false p.line p.text p.more) (λ x q a. then (groups_takes (children s x.0 x.1) q) (λ f q' b. yields (node_cons s x e p q q' f a b)))

-- a larger bound on the depth
deeper : {s : Sort} {e e' : ℕ} {p : Place} {m : Reading (Tree s)} → e ≤ e' → Yields (λ t q. TookTree e p t q) m → Yields (λ t q. TookTree e' p t q) m
deeper h (yields a) = yields (record { took = a.took; depth = le_trans a.depth h; numbers = a.numbers })
deeper h refuses = refuses

-- between the two places of a tree that is read stand its records
pub tree_takes : (d : ℕ) → Takes d (λ s p. read_tree d s p)
unfolding read_tree read_line
tree_takes zero s p = then (line_took s true p.line p.text p.more) (λ x q a. refuses)
tree_takes (suc d) s p = go (beside s) refl (tree_takes d)
  where
    go : (b : Bool) → beside s ≡ b → Takes d (λ c q. read_tree d c q) → Yields (λ t q. TookTree (suc d) p t q) (read_node (cond b (read_node (λ c q. read_tree d c q)) (λ c q. read_tree d c q)) s p)
    go true e h = deeper (rw e (level_beside d)) (node_takes (suc d) (read_node (λ c q. read_tree d c q)) (λ c q. deeper (level_up (beside c) d) (node_takes d (λ c q. read_tree d c q) h c q)) s p)
    go false e h = deeper (level_up (beside s) d) (node_takes d (λ c q. read_tree d c q) h s p)
