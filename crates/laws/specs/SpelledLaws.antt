-- The lines of a tree's records are read as the tree, if the records fit and it is not too long or too deep. Assumes nothing: each law is proved.
use Rattle.std.specs.Prelude.{◌≡◌, refl, Bool, true, false, cond, List, [], ◌∷◌, ◌++◌, ℕ, zero, suc, ◌+◌, ◌≤◌, length}
use Rattle.std.proofs.Common.{◌∙◌, ap, arith, length-append, le-ltb}
use Rattle.std.proofs.Math.Path.{fun_ext}
use Rattle.std.proofs.lemmas.Bool.{false≢true}
use Rattle.model.specs.Text.{Pieces}
use Rattle.model.specs.Field.{Fields}
use Rattle.model.specs.Kind.{Sort, PlanSort, Kind}
use Rattle.model.specs.Kind.{statement, union_arm, clause, projection, order_item, pattern_part, pattern_element, name, yield_item, entry, expr, in_plan}
use Rattle.model.specs.Kind.{plan, read_op, rel_spec, node_spec, plan_projection, agg_expr, order_key, path_element, mapped, plan_entry, plan_expr}
use Rattle.model.specs.Record.{Rec, rec, RecOf, forms, children, Group, beside}
use Rattle.model.specs.Tree.{Tree, Trees, Forest, node, []ᵗ, ◌∷ᵗ◌, end, ◌▸◌, records, records_of, records_in}
use Rattle.model.specs.Sheet.{max_lines, Place, Reading, got, refused, then_read, Reader, formed, line_at, read_line, read_many, read_groups, read_node, read_tree}
use Rattle.laws.specs.TextLaws.{Each, each[], ◌each∷◌, each_head, each_tail, each_left, each_right, each_map}
use Rattle.laws.specs.RecordLaws.{rec_of, Fits, ahead, ahead_append, line_read}
use Rattle.laws.specs.TreeLaws.{below, level_below, level_positive, depth, depth_of, depth_in, numbered, numbered_of, numbered_in}

-- ── the depth that a record's children may have ──

-- no record stands beside another twice
plan_beside_law : (p : PlanSort) → beside (in_plan p) ≡ true → (k : Kind (in_plan p)) (f : Fields (forms (in_plan p) k)) → Each (λ g. beside g.0 ≡ false) (children (in_plan p) k f)
plan_beside_law plan e k f = absurd (false≢true e)
plan_beside_law read_op e k f = absurd (false≢true e)
plan_beside_law rel_spec e k f = absurd (false≢true e)
plan_beside_law node_spec e k f = absurd (false≢true e)
plan_beside_law plan_projection e k f = absurd (false≢true e)
plan_beside_law agg_expr e k f = absurd (false≢true e)
plan_beside_law order_key e k f = absurd (false≢true e)
plan_beside_law path_element e k f = absurd (false≢true e)
plan_beside_law mapped e k f = absurd (false≢true e)
plan_beside_law plan_entry e k f = refl each∷ each[]
plan_beside_law plan_expr e k f = absurd (false≢true e)

beside_once : (s : Sort) → beside s ≡ true → (k : Kind s) (f : Fields (forms s k)) → Each (λ g. beside g.0 ≡ false) (children s k f)
beside_once statement e k f = absurd (false≢true e)
beside_once union_arm e k f = absurd (false≢true e)
beside_once clause e k f = absurd (false≢true e)
beside_once projection e k f = absurd (false≢true e)
beside_once order_item e k f = absurd (false≢true e)
beside_once pattern_part e k f = absurd (false≢true e)
beside_once pattern_element e k f = absurd (false≢true e)
beside_once name e k f = absurd (false≢true e)
beside_once yield_item e k f = absurd (false≢true e)
beside_once entry e k f = refl each∷ each[]
beside_once expr e k f = absurd (false≢true e)
beside_once (in_plan p) e k f = plan_beside_law p e k f

-- what follows may be anything that reads the same
pub then_read_same : {A B : Type 0} (m : Reading A) (k l : A → Place → Reading B) → ((a : A) (p : Place) → k a p ≡ l a p) → then_read m k ≡ then_read m l
unfolding then_read
then_read_same (got a p) k l h = h a p
then_read_same (refused r) k l h = refl

-- groups are read alike by readers that agree on their sorts
groups_same : (r r' : (s : Sort) → Reader (Tree s)) (gs : List Group) → Each (λ g. (q : Place) → r g.0 q ≡ r' g.0 q) gs → (p : Place) → read_groups r gs p ≡ read_groups r' gs p
unfolding read_groups
groups_same r r' [] h p = refl
groups_same r r' (g ∷ gs) (a each∷ bs) p = ap (λ m. then_read m (λ ts p'. then_read (read_groups r gs p') (λ f p''. got (ts ▸ f) p''))) (ap (λ x. read_many x g.1 p) (fun_ext a)) ∙ then_read_same (read_many (λ q. r' g.0 q) g.1 p) _ _ (λ ts p'. ap (λ m. then_read m (λ f p''. got (ts ▸ f) p'')) (groups_same r r' gs bs p'))

node_same : (r r' : (s : Sort) → Reader (Tree s)) (s : Sort) → ((k : Kind s) (f : Fields (forms s k)) → Each (λ g. (q : Place) → r g.0 q ≡ r' g.0 q) (children s k f)) → (p : Place) → read_node r s p ≡ read_node r' s p
unfolding read_node
node_same r r' s h p = then_read_same (read_line s false p) _ _ (λ x q. ap (λ m. then_read m (λ f p''. got (node s p.line x.0 x.1 f) p'')) (groups_same r r' (children s x.0 x.1) (h x.0 x.1) q))

-- a sort that stands beside nothing
plain_step : (d : ℕ) (s : Sort) → beside s ≡ false → (p : Place) → read_node (λ c q. read_tree d c q) s p ≡ read_tree (suc d) s p
unfolding read_tree
plain_step d s e p = rw e

-- a tree is its record and then its children, so deep as they may be
tree_step : (d : ℕ) (s : Sort) (p : Place) → read_tree (suc d) s p ≡ read_node (λ c q. read_tree (below (beside s) d) c q) s p
unfolding read_tree below
tree_step d s p = go (beside s) refl
  where
    go : (b : Bool) → beside s ≡ b → read_node (cond b (read_node (λ c q. read_tree d c q)) (λ c q. read_tree d c q)) s p ≡ read_node (λ c q. read_tree (below b d) c q) s p
    go true e = node_same (read_node (λ c q. read_tree d c q)) (λ c q. read_tree (suc d) c q) s (λ k f. each_map (λ g h q. plain_step d g.0 h q) (beside_once s e k f)) p
    go false e = refl

-- ── spelled lines are read ──

abbrev pub place : ℕ → Pieces → Place
place n p = record { line = n; text = p.first; more = p.more }

-- a line
pub line_got : (s : Sort) (x : RecOf s) (n : ℕ) (p : Pieces) → Fits (rec_of s x) → n ≤ max_lines → read_line s false (place n (ahead (rec_of s x ∷ []) p)) ≡ got x (place (suc n) p)
unfolding read_line line_at formed ahead
line_got s x n p h l = rw (le-ltb max_lines n l, line_read s x h)

-- a record's line, and then its children
node_got : (s : Sort) (line : ℕ) (k : Kind s) (f : Fields (forms s k)) (kids : Forest (children s k f)) (d n : ℕ) (p : Pieces)
    → ((e : ℕ) → depth_in kids ≤ e → read_groups (λ c q. read_tree e c q) (children s k f) (place (suc n) (ahead (records_in kids) p)) ≡ got (numbered_in kids (suc n)) (place (suc n + length (records_in kids)) p))
    → depth (node s line k f kids) ≤ d → Fits (rec s k f) → n ≤ max_lines
    → read_tree d s (place n (ahead (rec s k f ∷ records_in kids) p)) ≡ got (node s n k f (numbered_in kids (suc n))) (place (suc n + length (records_in kids)) p)
unfolding depth read_node then_read ahead
node_got s line k f kids zero n p ih deep fit few = absurd (level_positive (beside s) (depth_in kids) deep)
node_got s line k f kids (suc d) n p ih deep fit few = tree_step d s (place n (ahead (rec s k f ∷ records_in kids) p)) ∙ rw (line_got s (k, f) n (ahead (records_in kids) p) fit few, ih (below (beside s) d) (level_below (beside s) (depth_in kids) d deep)) refl

-- behind some records and then others
behind_both : (n : ℕ) (rs ss : List Rec) (p : Pieces) → place (n + length rs + length ss) p ≡ place (n + length (rs ++ ss)) p
behind_both n rs ss p = ap (λ m. place m p) (omega (arith, length-append rs ss))

mutual
  unfolding depth records numbered read_many read_groups then_read ahead

  -- the lines of a tree's records are read as the tree, with the numbers of these lines
  pub tree_got : {s : Sort} (t : Tree s) (d n : ℕ) (p : Pieces) → depth t ≤ d → Each Fits (records t) → n + length (records t) ≤ suc max_lines → read_tree d s (place n (ahead (records t) p)) ≡ got (numbered t n) (place (n + length (records t)) p)
  tree_got (node s line k f kids) d n p deep fit few = node_got s line k f kids d n p (λ e h. forest_got kids e (suc n) p h (each_tail fit) (omega arith)) deep (each_head fit) (omega arith) ∙ ap (λ m. got (node s n k f (numbered_in kids (suc n))) (place m p)) (omega arith)

  pub trees_got : {s : Sort} {m : ℕ} (ts : Trees s m) (d n : ℕ) (p : Pieces) → depth_of ts ≤ d → Each Fits (records_of ts) → n + length (records_of ts) ≤ suc max_lines → read_many (λ q. read_tree d s q) m (place n (ahead (records_of ts) p)) ≡ got (numbered_of ts n) (place (n + length (records_of ts)) p)
  trees_got []ᵗ d n p deep fit few = ap (λ m. got []ᵗ (place m p)) (omega arith)
  trees_got (t ∷ᵗ ts) d n p deep fit few =
      rw (
        ahead_append (records t) (records_of ts) p,
        tree_got t d n (ahead (records_of ts) p) (omega arith) (each_left (records t) (records_of ts) fit) (omega (arith, length-append (records t) (records_of ts))),
        trees_got ts d (n + length (records t)) p (omega arith) (each_right (records t) (records_of ts) fit) (omega (arith, length-append (records t) (records_of ts))),
      )
      (ap (λ q. got (numbered t n ∷ᵗ numbered_of ts (n + length (records t))) q) (behind_both n (records t) (records_of ts) p))

  pub forest_got : {gs : List Group} (f : Forest gs) (d n : ℕ) (p : Pieces) → depth_in f ≤ d → Each Fits (records_in f) → n + length (records_in f) ≤ suc max_lines → read_groups (λ c q. read_tree d c q) gs (place n (ahead (records_in f) p)) ≡ got (numbered_in f n) (place (n + length (records_in f)) p)
  forest_got end d n p deep fit few = ap (λ m. got end (place m p)) (omega arith)
  forest_got (ts ▸ f) d n p deep fit few =
      rw (
        ahead_append (records_of ts) (records_in f) p,
        trees_got ts d n (ahead (records_in f) p) (omega arith) (each_left (records_of ts) (records_in f) fit) (omega (arith, length-append (records_of ts) (records_in f))),
        forest_got f d (n + length (records_of ts)) p (omega arith) (each_right (records_of ts) (records_in f) fit) (omega (arith, length-append (records_of ts) (records_in f))),
      )
      (ap (λ q. got (numbered_of ts n ▸ numbered_in f (n + length (records_of ts))) q) (behind_both n (records_of ts) (records_in f) p))
