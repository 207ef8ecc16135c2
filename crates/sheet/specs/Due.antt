-- What is left to read when some groups are still due, and the step that one line makes: its record, then its children before what was due behind it. So that a reader with a stack of due groups reads what the definition reads. Assumes nothing.
use Rattle.std.specs.Prelude.{◌≡◌, Bool, true, false, cond}
use Rattle.std.proofs.Math.Path.{refl, sym, ap}
use Rattle.std.proofs.Common.{◌∙◌}
use Prim.Native.Nat.{ℕ, zero, suc}
use mathlib.Core.List.{List, [], ◌∷◌, ◌++◌, append_assoc}
use Rattle.std.proofs.lemmas.Bool.{false≢true}
use Rattle.model.specs.Kind.{Sort, PlanSort, Kind, PlanKind}
use Rattle.model.specs.Kind.{statement, union_arm, clause, projection, order_item, pattern_part, pattern_element, name, yield_item, entry, expr, in_plan}
use Rattle.model.specs.Kind.{plan, read_op, rel_spec, node_spec, plan_projection, agg_expr, order_key, path_element, plan_entry, plan_expr}
use Rattle.model.specs.Record.{Rec, rec, Group, RecOf, forms, plan_forms, children, plan_children, beside, plan_beside}
use Rattle.model.specs.Tree.{Tree, Trees, node, ◌∷ᵗ◌, ◌▸◌, records, records_of, records_in}
use Rattle.model.specs.Text.{Bytes}
use Rattle.model.specs.Field.{Fields}
use Rattle.model.specs.Sheet.{line_at, Place, Reading, got, refused, then_read, Reader, read_line, read_many, read_groups, read_node, read_tree}
use Rattle.laws.specs.SpelledLaws.{then_read_same}

-- a value mapped
unfoldable pub mapped : {A B : Type 0} → (A → B) → Reading A → Reading B
mapped f (got a p) = got (f a) p
mapped f (refused y) = refused y

-- n records of a sort are due, each with its children at most `room` deep
pub record Due : Type 0 where
  pub sort : Sort
  pub count : ℕ
  pub room : ℕ

abbrev pub due : Sort → ℕ → ℕ → Due
due s n d = record { sort = s; count = n; room = d }

unfoldable pub is_zero : ℕ → Bool
is_zero zero = true
is_zero (suc d) = false

-- the room of a record's children
unfoldable pub room_below : Sort → ℕ → ℕ
room_below s zero = zero
room_below s (suc d) = cond (beside s) (suc d) d

-- the records that are due, read by the definition
unfoldable pub read_due : List Due → Reader (List Rec)
read_due [] p = got [] p
read_due (g ∷ st) p = then_read (read_many (λ q. read_tree g.room g.sort q) g.count p) (λ ts p'. mapped (λ rs. records_of ts ++ rs) (read_due st p'))

-- a record's groups
unfoldable pub due_of : ℕ → List Group → List Due
due_of d [] = []
due_of d (g ∷ gs) = due g.0 g.1 d ∷ due_of d gs

then_read_assoc : {A B C : Type 0} (r : Reading A) (f : A → Place → Reading B) (g : B → Place → Reading C) → then_read (then_read r f) g ≡ then_read r (λ a p. then_read (f a p) g)
unfolding then_read
then_read_assoc (got a p) f g = refl
then_read_assoc (refused y) f g = refl

mapped_then_read : {A B C : Type 0} (h : B → C) (r : Reading A) (f : A → Place → Reading B) → mapped h (then_read r f) ≡ then_read r (λ a p. mapped h (f a p))
unfolding then_read mapped
mapped_then_read h (got a p) f = refl
mapped_then_read h (refused y) f = refl

pub mapped_mapped : {A B C : Type 0} (h : B → C) (f : A → B) (r : Reading A) → mapped h (mapped f r) ≡ mapped (λ a. h (f a)) r
unfolding mapped
mapped_mapped h f (got a p) = refl
mapped_mapped h f (refused y) = refl

pub mapped_ext : {A B : Type 0} (r : Reading A) (f g : A → B) → ((a : A) → f a ≡ g a) → mapped f r ≡ mapped g r
unfolding mapped
mapped_ext (got a p) f g h = ap (λ b. got b p) (h a)
mapped_ext (refused y) f g h = refl

pub mapped_id : {A : Type 0} (r : Reading A) → mapped (λ a. a) r ≡ r
unfolding mapped
mapped_id (got a p) = refl
mapped_id (refused y) = refl

too_deep_at : {A : Type 0} (s : Sort) (line : ℕ) (text : Bytes) (ms : List Bytes) (f g : RecOf s → Place → Reading A) → then_read (line_at s true line text ms) f ≡ then_read (line_at s true line text ms) g
unfolding line_at then_read
too_deep_at s line text [] f g = refl
too_deep_at s line text (m ∷ ms) f g = refl

-- groups that r reads as the definition reads them at some room
module _ (d : ℕ) (r : (s : Sort) → Reader (Tree s)) where
  abbrev pub ReadsGroups : List Group → Type 0
  ReadsGroups [] = Unit {0}
  ReadsGroups (g ∷ gs) = ((q : Place) → r g.0 q ≡ read_tree d g.0 q) × ReadsGroups gs

  many_same : (s : Sort) (n : ℕ) → ((q : Place) → r s q ≡ read_tree d s q) → (p : Place) → read_many (λ q. r s q) n p ≡ read_many (λ q. read_tree d s q) n p
  unfolding read_many
  many_same s zero h p = refl
  many_same s (suc n) h p = rw (h p) (then_read_same (read_tree d s p) _ _ (λ t q. rw (many_same s n h q)))

  -- a group, then those behind it
  group_then :
      {s : Sort} {n : ℕ} (ts : Trees s n) (st : List Due) (gs : List Group) (p : Place)
      → then_read (read_groups r gs p) (λ f q. mapped (λ rs. records_in f ++ rs) (read_due st q)) ≡ read_due (due_of d gs ++ st) p
      → then_read (then_read (read_groups r gs p) (λ f q. got (ts ▸ f) q)) (λ f q. mapped (λ rs. records_in f ++ rs) (read_due st q)) ≡ mapped (λ rs. records_of ts ++ rs) (read_due (due_of d gs ++ st) p)
  unfolding records_in then_read
  group_then ts st gs p e =
      then_read_assoc (read_groups r gs p) _ _
      ∙ then_read_same (read_groups r gs p) _ (λ f q. mapped (λ rs. records_of ts ++ rs) (mapped (λ rs. records_in f ++ rs) (read_due st q))) (λ f q. mapped_ext (read_due st q) _ _ (λ rs. append_assoc (records_of ts) (records_in f) rs) ∙ sym (mapped_mapped _ _ (read_due st q)))
      ∙ sym (mapped_then_read _ (read_groups r gs p) _)
      ∙ ap (mapped (λ rs. records_of ts ++ rs)) e

  groups_due : (st : List Due) (gs : List Group) → ReadsGroups gs → (p : Place) → then_read (read_groups r gs p) (λ f q. mapped (λ rs. records_in f ++ rs) (read_due st q)) ≡ read_due (due_of d gs ++ st) p
  unfolding read_groups read_due due_of then_read records_in
  groups_due st [] h p = mapped_id (read_due st p)
  groups_due st (g ∷ gs) h p =
      rw (many_same g.0 g.1 h.0 p)
      (then_read_assoc (read_many (λ q. read_tree d g.0 q) g.1 p) _ _
      ∙ then_read_same (read_many (λ q. read_tree d g.0 q) g.1 p) _ _ (λ ts q. group_then ts st gs q (groups_due st gs h.1 q)))

-- a record that is too deep is not got
too_deep : {A : Type 0} (s : Sort) (p : Place) (f g : RecOf s → Place → Reading A) → then_read (read_line s true p) f ≡ then_read (read_line s true p) g
unfolding read_line
too_deep s p f g = too_deep_at s p.line p.text p.more f g

-- a record whose children stand beside it has none that has such children
abbrev pub NotBeside : List Group → Type 0
NotBeside [] = Unit {0}
NotBeside (g ∷ gs) = (beside g.0 ≡ false) × NotBeside gs

not_beside_plan : (s : PlanSort) (k : PlanKind s) (f : Fields (plan_forms s k)) → plan_beside s ≡ true → NotBeside (plan_children s k f)
not_beside_plan plan k f e = absurd (false≢true e)
not_beside_plan read_op k f e = absurd (false≢true e)
not_beside_plan rel_spec k f e = absurd (false≢true e)
not_beside_plan node_spec k f e = absurd (false≢true e)
not_beside_plan plan_projection k f e = absurd (false≢true e)
not_beside_plan agg_expr k f e = absurd (false≢true e)
not_beside_plan order_key k f e = absurd (false≢true e)
not_beside_plan path_element k f e = absurd (false≢true e)
not_beside_plan PlanSort.mapped k f e = absurd (false≢true e)
not_beside_plan plan_entry k f e = (refl, tt)
not_beside_plan plan_expr k f e = absurd (false≢true e)

pub not_beside : (s : Sort) (k : Kind s) (f : Fields (forms s k)) → beside s ≡ true → NotBeside (children s k f)
not_beside statement k f e = absurd (false≢true e)
not_beside union_arm k f e = absurd (false≢true e)
not_beside clause k f e = absurd (false≢true e)
not_beside projection k f e = absurd (false≢true e)
not_beside order_item k f e = absurd (false≢true e)
not_beside pattern_part k f e = absurd (false≢true e)
not_beside pattern_element k f e = absurd (false≢true e)
not_beside name k f e = absurd (false≢true e)
not_beside yield_item k f e = absurd (false≢true e)
not_beside entry k f e = (refl, tt)
not_beside expr k f e = absurd (false≢true e)
not_beside (in_plan s) k f e = not_beside_plan s k f e

beside_reads : (d : ℕ) (gs : List Group) → NotBeside gs → ReadsGroups (suc d) (read_node (λ c q. read_tree d c q)) gs
unfolding read_tree
beside_reads d [] h = tt
beside_reads d (g ∷ gs) h = (λ q. rw h.0, beside_reads d gs h.1)

plain_reads : (d : ℕ) (gs : List Group) → ReadsGroups d (λ c q. read_tree d c q) gs
plain_reads d [] = tt
plain_reads d (g ∷ gs) = (λ q. refl, plain_reads d gs)

-- a record and what is put before what comes behind it
put_before : (r : Reading (List Rec)) (x : Rec) (ks ls : List Rec) → mapped (λ rs. (x ∷ (ks ++ ls)) ++ rs) r ≡ mapped (λ rs. x ∷ rs) (mapped (λ rs. ks ++ rs) (mapped (λ rs. ls ++ rs) r))
unfolding mapped
put_before (got rs q) x ks ls = ap (λ l. got (x ∷ l) q) (append_assoc ks ls rs)
put_before (refused y) x ks ls = refl

put_before_then_read : {A : Type 0} (r : Reading A) (g : A → List Rec) (k : Place → Reading (List Rec)) (x : Rec) (ks : List Rec) → then_read r (λ a q. mapped (λ rs. (x ∷ (ks ++ g a)) ++ rs) (k q)) ≡ mapped (λ rs. x ∷ rs) (mapped (λ rs. ks ++ rs) (then_read r (λ a q. mapped (λ rs. g a ++ rs) (k q))))
unfolding then_read mapped
put_before_then_read (got a p) g k x ks = put_before (k p) x ks (g a)
put_before_then_read (refused y) g k x ks = refl

-- a record, its groups, and its siblings behind it
module _ (s : Sort) (n d e : ℕ) (st : List Due) (line : ℕ) (r : (c : Sort) → Reader (Tree c)) where
  forest_then :
      (k : Kind s) (f : Fields (forms s k))
      → ReadsGroups e r (children s k f)
      → (p : Place)
      → then_read (then_read (read_groups r (children s k f) p) (λ kids q. got (node s line k f kids) q)) (λ t q. then_read (then_read (read_many (λ z. read_tree d s z) n q) (λ ts z. got (t ∷ᵗ ts) z)) (λ ts z. mapped (λ rs. records_of ts ++ rs) (read_due st z))) ≡ mapped (λ rs. rec s k f ∷ rs) (read_due (due_of e (children s k f) ++ (due s n d ∷ st)) p)
  unfolding records read_due then_read
  forest_then k f h p =
      then_read_assoc (read_groups r (children s k f) p) _ _
      ∙ then_read_same (read_groups r (children s k f) p) _ (λ kids q. mapped (λ rs. rec s k f ∷ rs) (mapped (λ rs. records_in kids ++ rs) (read_due (due s n d ∷ st) q))) (λ kids q. then_read_assoc (read_many (λ z. read_tree d s z) n q) _ _ ∙ put_before_then_read (read_many (λ z. read_tree d s z) n q) (λ ts. records_of ts) (λ z. read_due st z) (rec s k f) (records_in kids))
      ∙ sym (mapped_then_read (λ rs. rec s k f ∷ rs) (read_groups r (children s k f) p) (λ kids q. mapped (λ rs. records_in kids ++ rs) (read_due (due s n d ∷ st) q)))
      ∙ ap (mapped (λ rs. rec s k f ∷ rs)) (groups_due e r (due s n d ∷ st) (children s k f) h p)

-- the reader of a record's children, by whether they stand beside it
below : ℕ → Bool → (c : Sort) → Reader (Tree c)
below d b = cond b (read_node (λ c q. read_tree d c q)) (λ c q. read_tree d c q)

below_reads : (d : ℕ) (s : Sort) (k : Kind s) (f : Fields (forms s k)) (b : Bool) → beside s ≡ b → ReadsGroups (cond b (suc d) d) (below d b) (children s k f)
unfolding below
below_reads d s k f true h = beside_reads d (children s k f) (not_beside s k f h)
below_reads d s k f false h = plain_reads d (children s k f)

-- one line: its record, then its children, then what was due behind it
pub step : (s : Sort) (n d : ℕ) (st : List Due) (p : Place) → read_due (due s (suc n) d ∷ st) p ≡ then_read (read_line s (is_zero d) p) (λ x q. mapped (λ rs. rec s x.0 x.1 ∷ rs) (read_due (due_of (room_below s d) (children s x.0 x.1) ++ (due s n d ∷ st)) q))
unfolding read_due read_many read_tree read_node is_zero room_below below
step s n zero st p = then_read_assoc (then_read (read_line s true p) _) _ _ ∙ then_read_assoc (read_line s true p) _ _ ∙ too_deep s p _ _
step s n (suc d) st p =
    then_read_assoc (then_read (read_line s false p) _) _ _
    ∙ then_read_assoc (read_line s false p) _ _
    ∙ then_read_same (read_line s false p) _ _ (λ x q. forest_then s n (suc d) (cond (beside s) (suc d) d) st p.line (below d (beside s)) x.0 x.1 (below_reads d s x.0 x.1 (beside s) refl) q)

-- a group of none is not due
pub none_due : (s : Sort) (d : ℕ) (st : List Due) (p : Place) → read_due (due s zero d ∷ st) p ≡ read_due st p
unfolding read_due read_many then_read records_of
none_due s d st p = mapped_id (read_due st p)
