-- Reading a sheet: refusals 3 and 4 at a line, or the tree; then refusal 5. Assumes nothing: these are definitions.
use Rattle.std.specs.Prelude.{ℕ, zero, suc, Bool, true, false, cond, ◌||◌, List, [], ◌∷◌, ltb, Option, None, Some}
use Rattle.model.specs.Text.{Bytes, split, line_feed}
use Rattle.model.specs.Kind.{Sort, Clause, statement, union_arm, clause}
use Rattle.model.specs.Record.{Group, RecOf, read_rec, children, beside}
use Rattle.model.specs.Tree.{Tree, Trees, Forest, node, []ᵗ, ◌∷ᵗ◌, end, ◌▸◌}
use Rattle.model.specs.Refusal.{Refusal}

-- a sheet has at most so many lines
abbrev pub max_lines : ℕ
max_lines = 2048

-- where reading stands
pub record Place : Type 0 where
  -- the line's number, from 1
  pub line : ℕ
  -- what is left of the sheet up to the next line feed, or to its end
  pub text : Bytes
  -- and behind that line feed, piece by piece; nothing where there is none
  pub more : List Bytes

-- a value and the place behind it; or a refusal
pub data Reading (A : Type 0) : Type 0 where
  got : A → Place → Reading A
  refused : Refusal → Reading A

unfoldable pub then_read : {A B : Type 0} → Reading A → (A → Place → Reading B) → Reading B
then_read (got a p) k = k a p
then_read (refused r) k = refused r

-- a reader of something
abbrev pub Reader : Type 0 → Type 0
Reader A = Place → Reading A

unfoldable pub formed : {A : Type 0} → ℕ → Place → Option A → Reading A
formed line p None = refused (Refusal.BadLine line)
formed line p (Some a) = got a p

-- A record is due. No line feed gives 3, then too many lines or too deep gives 4, then another form than the due one 3.
unfoldable pub line_at : (s : Sort) (deep : Bool) (line : ℕ) (text : Bytes) → List Bytes → Reading (RecOf s)
line_at s deep line text [] = refused (Refusal.BadLine line)
line_at s deep line text (m ∷ ms) = cond (deep || ltb max_lines line) (refused (Refusal.BigTree line)) (formed line (record { line = suc line; text = m; more = ms }) (read_rec s text))

unfoldable pub read_line : (s : Sort) → Bool → Reader (RecOf s)
read_line s deep p = line_at s deep p.line p.text p.more

-- n of them, and groups of them, one after another
unfoldable pub read_many : {s : Sort} → Reader (Tree s) → (n : ℕ) → Reader (Trees s n)
read_many r zero p = got []ᵗ p
read_many r (suc n) p = then_read (r p) (λ t p'. then_read (read_many r n p') (λ ts p''. got (t ∷ᵗ ts) p''))

unfoldable pub read_groups : ((s : Sort) → Reader (Tree s)) → (gs : List Group) → Reader (Forest gs)
read_groups r [] p = got end p
read_groups r (g ∷ gs) p = then_read (read_many (λ q. r g.0 q) g.1 p) (λ ts p'. then_read (read_groups r gs p') (λ f p''. got (ts ▸ f) p''))

-- a record and its children, which r reads
unfoldable pub read_node : ((s : Sort) → Reader (Tree s)) → (s : Sort) → Reader (Tree s)
read_node r s p = then_read (read_line s false p) (λ x p'. then_read (read_groups r (children s x.0 x.1) p') (λ f p''. got (node s p.line x.0 x.1 f) p''))

-- a tree, which may be d records deep
unfoldable pub read_tree : ℕ → (s : Sort) → Reader (Tree s)
read_tree zero s p = then_read (read_line s true p) (λ x p'. refused (Refusal.BigTree p.line))
read_tree (suc d) s p = read_node (cond (beside s) (read_node (λ c q. read_tree d c q)) (λ c q. read_tree d c q)) s p

-- behind the last due record nothing may follow
unfoldable pub at_end : {A : Type 0} → A → (line : ℕ) (text : Bytes) → List Bytes → Reading A
at_end a line [] [] = got a (record { line = line; text = []; more = [] })
at_end a line [] (m ∷ ms) = refused (Refusal.BadLine line)
at_end a line (b ∷ t) ms = refused (Refusal.BadLine line)

-- depth d at most
unfoldable pub read_sheet : ℕ → Bytes → Reading (Tree statement)
read_sheet d sheet =
    let p = split line_feed sheet in
    then_read (read_tree d statement (record { line = 1; text = p.first; more = p.more })) (λ t q. at_end t q.line q.text q.more)

-- the line of the first `write`
unfoldable pub or_else : {A : Type 0} → Option A → Option A → Option A
or_else None o = o
or_else (Some a) o = Some a

unfoldable pub is_write : Tree clause → Option ℕ
is_write (node clause line Clause.Match f kids) = None
is_write (node clause line Clause.Where f kids) = None
is_write (node clause line Clause.With f kids) = None
is_write (node clause line Clause.Return f kids) = None
is_write (node clause line Clause.Unwind f kids) = None
is_write (node clause line Clause.Call f kids) = None
is_write (node clause line Clause.Write f kids) = Some line

unfoldable pub write_in : {n : ℕ} → Trees clause n → Option ℕ
write_in []ᵗ = None
write_in (c ∷ᵗ cs) = or_else (is_write c) (write_in cs)

unfoldable pub write_in_arms : {n : ℕ} → Trees union_arm n → Option ℕ
write_in_arms []ᵗ = None
write_in_arms (node union_arm line k f (cs ▸ end) ∷ᵗ arms) = or_else (write_in cs) (write_in_arms arms)

unfoldable pub first_write : Tree statement → Option ℕ
first_write (node statement line k f (cs ▸ arms ▸ end)) = or_else (write_in cs) (write_in_arms arms)
