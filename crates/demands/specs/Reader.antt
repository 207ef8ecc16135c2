-- With what the reader and the test for writes refuse: 3 and 4 at a line, 5 at a line, each line counted from 1. Assumes nothing: these are definitions, and laws with their proofs.
use Rattle.std.specs.Prelude.{ℕ, zero, suc, ◌+◌, ◌≤◌, Bool, true, false, cond, ◌||◌, List, [], ◌∷◌, ltb, length, Option, None, Some}
use Rattle.std.proofs.Common.{arith}
use Rattle.model.specs.Text.{Bytes}
use Rattle.model.specs.Kind.{Sort, Clause, statement, union_arm, clause}
use Rattle.model.specs.Record.{Group, RecOf, read_rec, children, beside}
use Rattle.model.specs.Tree.{Tree, Trees, node, []ᵗ, ◌∷ᵗ◌, end, ◌▸◌, records, records_of}
use Rattle.model.specs.Sheet.{max_lines, Place, Reading, got, refused, then_read, Reader, formed, line_at, read_line, read_many, read_groups, read_node, read_tree, at_end, read_sheet, or_else, is_write, write_in, write_in_arms, first_write}
use Rattle.model.specs.Refusal.{Refusal}
use Rattle.laws.specs.TreeLaws.{numbered, numbered_of}

-- ── the reader refuses with 3 or 4, at a line ──

pub data Numbered {A : Type 0} : Reading A → Type 0 where
  read : {a : A} {p : Place} → 1 ≤ p.line → Numbered (got a p)
  three : {line : ℕ} → 1 ≤ line → Numbered (refused (Refusal.BadLine line))
  four : {line : ℕ} → 1 ≤ line → Numbered (refused (Refusal.BigTree line))

then_read_numbered : {A B : Type 0} {m : Reading A} {k : A → Place → Reading B} → Numbered m → ((a : A) (p : Place) → 1 ≤ p.line → Numbered (k a p)) → Numbered (then_read m k)
unfolding then_read
then_read_numbered (read {a = a} {p = p} l) f = f a p l
then_read_numbered (three l) f = three l
then_read_numbered (four l) f = four l

formed_numbered : {A : Type 0} (line : ℕ) (p : Place) (o : Option A) → 1 ≤ line → 1 ≤ p.line → Numbered (formed line p o)
unfolding formed
formed_numbered line p None l q = three l
formed_numbered line p (Some a) l q = read q

line_numbered : (s : Sort) (deep : Bool) (line : ℕ) (text : Bytes) (more : List Bytes) → 1 ≤ line → Numbered (line_at s deep line text more)
unfolding line_at
line_numbered s deep line text [] l = three l
line_numbered s deep line text (m ∷ ms) l = go (deep || ltb max_lines line) (formed_numbered line (record { line = suc line; text = m; more = ms }) (read_rec s text) l (omega arith))
  where
    go : (b : Bool) {r : Reading (RecOf s)} → Numbered r → Numbered (cond b (refused (Refusal.BigTree line)) r)
    go true h = four l
    go false h = h

many_numbered : {s : Sort} (r : Reader (Tree s)) → ((p : Place) → 1 ≤ p.line → Numbered (r p)) → (n : ℕ) (p : Place) → 1 ≤ p.line → Numbered (read_many r n p)
unfolding read_many
many_numbered r h zero p l = read l
many_numbered r h (suc n) p l = then_read_numbered (h p l) λ t p' l'. then_read_numbered (many_numbered r h n p' l') λ ts p'' l''. read l''

groups_numbered : (r : (s : Sort) → Reader (Tree s)) → ((s : Sort) (p : Place) → 1 ≤ p.line → Numbered (r s p)) → (gs : List Group) (p : Place) → 1 ≤ p.line → Numbered (read_groups r gs p)
unfolding read_groups
groups_numbered r h [] p l = read l
groups_numbered r h (g ∷ gs) p l = then_read_numbered (many_numbered (λ q. r g.0 q) (λ q. h g.0 q) g.1 p l) λ ts p' l'. then_read_numbered (groups_numbered r h gs p' l') λ f p'' l''. read l''

node_numbered : (r : (s : Sort) → Reader (Tree s)) → ((s : Sort) (p : Place) → 1 ≤ p.line → Numbered (r s p)) → (s : Sort) (p : Place) → 1 ≤ p.line → Numbered (read_node r s p)
unfolding read_node read_line
node_numbered r h s p l = then_read_numbered (line_numbered s false p.line p.text p.more l) λ x p' l'. then_read_numbered (groups_numbered r h (children s x.0 x.1) p' l') λ f p'' l''. read l''

beside_numbered : (b : Bool) (r : (s : Sort) → Reader (Tree s)) → ((s : Sort) (p : Place) → 1 ≤ p.line → Numbered (r s p)) → (s : Sort) (p : Place) → 1 ≤ p.line → Numbered (cond b (read_node r) r s p)
beside_numbered true r h s p l = node_numbered r h s p l
beside_numbered false r h s p l = h s p l

tree_numbered : (d : ℕ) (s : Sort) (p : Place) → 1 ≤ p.line → Numbered (read_tree d s p)
unfolding read_tree read_line
tree_numbered zero s p l = then_read_numbered (line_numbered s true p.line p.text p.more l) λ x p' l'. four l
tree_numbered (suc d) s p l = node_numbered (cond (beside s) (read_node (λ c q. read_tree d c q)) (λ c q. read_tree d c q)) (λ c q m. beside_numbered (beside s) (λ c q. read_tree d c q) (λ c q. tree_numbered d c q) c q m) s p l

end_numbered : {A : Type 0} (a : A) (line : ℕ) (text : Bytes) (more : List Bytes) → 1 ≤ line → Numbered (at_end a line text more)
unfolding at_end
end_numbered a line [] [] l = read l
end_numbered a line [] (m ∷ ms) l = three l
end_numbered a line (b ∷ t) ms l = three l

pub sheet_numbered : (d : ℕ) (sheet : Bytes) → Numbered (read_sheet d sheet)
unfolding read_sheet
sheet_numbered d sheet = then_read_numbered (tree_numbered d statement _ (omega arith)) λ t q l. end_numbered t q.line q.text q.more l

-- ── the line of a `write` ──

pub data AtLeast (n : ℕ) : Option ℕ → Type 0 where
  nowhere : AtLeast n None
  at_line : {line : ℕ} → n ≤ line → AtLeast n (Some line)

or_least : {m n : ℕ} {o p : Option ℕ} → n ≤ m → AtLeast n o → AtLeast m p → AtLeast n (or_else o p)
unfolding or_else
or_least le nowhere nowhere = nowhere
or_least {m} {n} le nowhere (at_line {line = line} l) =
    let low : n ≤ line = omega arith in
    at_line low
or_least le (at_line l) h = at_line l

lower_least : {m n : ℕ} {o : Option ℕ} → n ≤ m → AtLeast m o → AtLeast n o
lower_least le nowhere = nowhere
lower_least {m} {n} le (at_line {line = line} l) =
    let low : n ≤ line = omega arith in
    at_line low

is_write_least : (c : Tree clause) (n : ℕ) → AtLeast n (is_write (numbered c n))
unfolding is_write numbered
is_write_least (node clause line Clause.Match f kids) n = nowhere
is_write_least (node clause line Clause.Where f kids) n = nowhere
is_write_least (node clause line Clause.With f kids) n = nowhere
is_write_least (node clause line Clause.Return f kids) n = nowhere
is_write_least (node clause line Clause.Unwind f kids) n = nowhere
is_write_least (node clause line Clause.Call f kids) n = nowhere
is_write_least (node clause line Clause.Write f kids) n = at_line {line = n} (omega arith)

write_in_least : {i : ℕ} (cs : Trees clause i) (n : ℕ) → AtLeast n (write_in (numbered_of cs n))
unfolding write_in numbered
write_in_least []ᵗ n = nowhere
write_in_least (c ∷ᵗ cs) n = or_least {m = n + length (records c)} (omega arith) (is_write_least c n) (write_in_least cs (n + length (records c)))

arms_least : {i : ℕ} (arms : Trees union_arm i) (n : ℕ) → AtLeast n (write_in_arms (numbered_of arms n))
unfolding write_in_arms numbered
arms_least []ᵗ n = nowhere
arms_least (node union_arm line k f (cs ▸ end) ∷ᵗ arms) n =
    or_least {m = n + length (records (node union_arm line k f (cs ▸ end)))} (omega arith)
    (lower_least {m = suc n} (omega arith) (write_in_least cs (suc n)))
    (arms_least arms (n + length (records (node union_arm line k f (cs ▸ end)))))

pub write_least : (t : Tree statement) (n : ℕ) → AtLeast n (first_write (numbered t n))
unfolding first_write numbered
write_least (node statement line k f (cs ▸ arms ▸ end)) n =
    or_least {m = suc n + length (records_of cs)} (omega arith)
    (lower_least {m = suc n} (omega arith) (write_in_least cs (suc n)))
    (arms_least arms (suc n + length (records_of cs)))
