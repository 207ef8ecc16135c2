-- How the work slices hold the state of the lowering: eight words an operator in one slice, of which the last seven are used; in the other the notes, and from word vars_at on the named variables, two words each, then the index of the first of them, a word of links for each. Assumes nothing: these are definitions.
use Rattle.std.specs.Prelude.{◌≡◌, ℕ, zero, suc, ◌+◌, ◌*◌, ◌-◌, ◌/◌, ◌%◌, ◌≤◌, ◌<◌, List, [], ◌∷◌, cond, eqb, length, get_or, drop, set, Option, None, Some}
use Rattle.model.specs.Call.{work_words}
use Rattle.model.specs.Lower.{Recs, Lowering}
use Rattle.model.specs.Lower
use Rattle.context.specs.declared.LowerCtx.{LowerCtx}
pub use Rattle.context.specs.declared.op.Op.{Op}
use Rattle.context.specs.declared.Numbered.{Numbered}

-- so many operators are stored; those beyond are counted alone
abbrev pub max_stored : ℕ
max_stored = 2048

-- an operator has so many words
abbrev pub op_words : ℕ
op_words = 8

-- where the words of an operator stand among its eight; the first is free
abbrev pub kind_word : ℕ
kind_word = 1

abbrev pub idx_word : ℕ
idx_word = 2

abbrev pub input_word : ℕ
input_word = 3

abbrev pub x_word : ℕ
x_word = 4

abbrev pub y_word : ℕ
y_word = 5

abbrev pub left_word : ℕ
left_word = 6

abbrev pub base_word : ℕ
base_word = 7

-- the notes, one for each line of two passes, end, and the variables begin, at this word
abbrev pub vars_at : ℕ
vars_at = 4097

-- there is room for so many variables
abbrev pub max_vars : ℕ
max_vars = 5119

-- The promises of the lowering and the writer are for trees of at most this depth, whatever a call's own limit is: the variables' words have room for one more for each level.
abbrev pub deepest : ℕ
deepest = 1024

-- the notes of a second pass begin at this word
abbrev pub second_pass : ℕ
second_pass = 2048

-- operators and numbers are fewer, so that one more fits into a word
abbrev pub max_count : ℕ
max_count = 65536

-- a named variable has so many words: its id, and its number at this place behind it
abbrev pub named_words : ℕ
named_words = 2

abbrev pub number_word : ℕ
number_word = 1

-- so many words at least stand behind the notes
abbrev pub var_words : ℕ
var_words = 12286

-- the first n variables, the newest first
unfoldable pub vars_of : ℕ → List ℕ → List (ℕ × ℕ)
vars_of zero vs = []
vars_of (suc n) vs = (get_or vs (n * named_words) 0, get_or vs (n * named_words + number_word) 0) ∷ vars_of n vs

-- ── the index ──

-- so many variables are in the index; those beyond are searched one by one
abbrev pub max_indexed : ℕ
max_indexed = 2048

-- a word of links for each of them, behind the variables' words
abbrev pub links_at : ℕ
links_at = 10238

-- a word of links has two halves, each below this
abbrev pub half_word : ℕ
half_word = 65536

-- the id of a variable
abbrev pub id_of : List ℕ → ℕ → ℕ
id_of vs j = get_or vs (j * named_words) 0

-- The half of a word of links that the last bit of `bits` names: the lower half for 0, the upper one for 1.
unfoldable pub half : ℕ → ℕ → ℕ
half w bits = cond (eqb (bits % 2) 0) (w % half_word) (w / half_word)

-- a word of links of which that half, until now 0, is l
unfoldable pub with_half : ℕ → ℕ → ℕ → ℕ
with_half w bits l = cond (eqb (bits % 2) 0) (w + l) (w + l * half_word)

-- the child of variable p on the side that `bits` names, its place and one; 0 where there is none
abbrev pub child_of : List ℕ → ℕ → ℕ → ℕ
child_of vs p bits = half (get_or vs (links_at + p) 0) bits

-- the variable that a half of a word of links names
unfoldable pub linked : ℕ → Option ℕ
linked zero = None
linked (suc q) = Some q

-- The way down from variable p, for an id whose bits in `bits` are still to come, ends at variable j, the first one met that has the id.
pub data Leads (vs : List ℕ) (id : ℕ) : ℕ → ℕ → ℕ → Type 0 where
  here : {bits p j : ℕ} → p ≡ j → id_of vs j ≡ id → Leads vs id bits p j
  on : {bits p q j : ℕ} → ((id_of vs p ≡ id) → ⊥) → child_of vs p bits ≡ suc q → Leads vs id (bits / 2) q j → Leads vs id bits p j

-- The first n variables are a digital search tree: variable 0 is its root, the way down for a variable's id leads to it, and a child is a later variable. The words behind these do not matter, so that none need to be cleared before the first variable.
pub record Treed (n : ℕ) (vs : List ℕ) : Type 0 where
  pub leads : (j : ℕ) → j < n → Leads vs (id_of vs j) (id_of vs j) 0 j
  pub later : (j bits q : ℕ) → j < n → child_of vs j bits ≡ suc q → (j < q) × (q < n)

-- the index is right for those of n variables that it has room for
abbrev pub Indexed : ℕ → List ℕ → Type 0
Indexed n vs = Treed (n - (n - max_indexed)) vs

-- the variables' words, with an index that is right for n of them
pub record IndexHeld (n : ℕ) (vs : List ℕ) : Type 0 where
  pub long : var_words ≤ length vs
  pub index : Indexed n vs

-- the first n variables keep their ids, and every child that one of them has
pub record Kept (n : ℕ) (vs vs' : List ℕ) : Type 0 where
  pub ids : (j : ℕ) → j < n → id_of vs' j ≡ id_of vs j
  pub children : (j bits q : ℕ) → j < n → child_of vs j bits ≡ suc q → child_of vs' j bits ≡ suc q

-- The way down from the root for an id has come to variable p, with the bits in `bits` still to come: from p it leads to every variable that has the id, and what it leads to from p in a tree that keeps this one, it leads to from the root.
pub record Descends (vs : List ℕ) (n id p bits : ℕ) : Type 0 where
  pub low : p < n
  pub all : (j : ℕ) → j < n → id_of vs j ≡ id → Leads vs id bits p j
  pub back : (vs' : List ℕ) (j : ℕ) → Kept n vs vs' → Leads vs' id bits p j → Leads vs' id id 0 j

-- the way down has come to its end: to a variable that has the id, or to one that has no child on the side
pub record Descended (vs : List ℕ) (n id p bits : ℕ) : Type 0 where
  pub way : Descends vs n id p bits
  pub end : ((id_of vs p ≡ id) → ⊥) → child_of vs p bits ≡ 0

-- variable k is the root, or the child at the end of the way down for its id
pub data Joined (k id : ℕ) (vs vs' : List ℕ) : Type 0 where
  root : k ≡ 0 → vs' ≡ vs → Joined k id vs vs'
  child : (p bits : ℕ) → Descends vs k id p bits → child_of vs p bits ≡ 0 → vs' ≡ set vs (links_at + p) (with_half (get_or vs (links_at + p) 0) bits (k + 1)) → Joined k id vs vs'

-- The words of the index for one more variable. Once the variable's own words are written too, the index is right for it.
pub record Entered (k id : ℕ) (vs vs' : List ℕ) : Type 0 where
  pub long : length vs' ≡ length vs
  pub vars : (q : ℕ) → q < links_at → get_or vs' q 0 ≡ get_or vs q 0
  pub index : (vs'' : List ℕ) → ((j : ℕ) → j < k → id_of vs'' j ≡ id_of vs j) → id_of vs'' k ≡ id → ((q : ℕ) → links_at ≤ q → get_or vs'' q 0 ≡ get_or vs' q 0) → Indexed (k + 1) vs''

-- a state of the definition, by its operators, the counts and the variables' words
abbrev pub state_of : List Recs → LowerCtx → List ℕ → Lower.LowerCtx
state_of ops c vs = record { ops = ops; scope = record { vars = vars_of c.mapped vs; next_var = c.numbers } }

-- an operator as it is stored, by the words of the operators' slice
unfoldable pub op_at : List ℕ → ℕ → Op
op_at o k = record { kind = get_or o (k * op_words + kind_word) 0; idx = get_or o (k * op_words + idx_word) 0; input = get_or o (k * op_words + input_word) 0; x = get_or o (k * op_words + x_word) 0; y = get_or o (k * op_words + y_word) 0; left = get_or o (k * op_words + left_word) 0; base = get_or o (k * op_words + base_word) 0 }

-- a step of the definition issues a number over the variables' words
pub record Issued (step : Lowering ℕ) (c : LowerCtx) (vs vs' : List ℕ) (r : Numbered) : Type 0 where
  pub is : (ops : List Recs) → step (state_of ops c vs) ≡ (r.number, state_of ops r.ctx vs')
  pub ops : r.ctx.ops ≡ c.ops
  pub low : r.ctx.numbers ≤ c.numbers + 1
  pub met : r.ctx.mapped ≤ c.mapped + 1
  pub index : Indexed c.mapped vs → Indexed r.ctx.mapped vs'

-- a number can be issued over the variables' words
pub record CanMap (c : LowerCtx) (vs : List ℕ) : Type 0 where
  pub met : c.mapped < max_vars
  pub low : c.numbers < max_count
  pub held : IndexHeld c.mapped vs

-- the word at a place has changed, and no other among the notes
pub record Noted (place v : ℕ) (rest rest' : List ℕ) : Type 0 where
  pub here : get_or rest' place 0 ≡ v
  pub other : (q : ℕ) → q < vars_at → ((q ≡ place) → ⊥) → get_or rest' q 0 ≡ get_or rest q 0

-- a step issues a number, which is noted at a place
pub record Numbers (step : Lowering ℕ) (place : ℕ) (c : LowerCtx) (rest rest' : List ℕ) (r : Numbered) : Type 0 where
  pub issued : Issued step c (drop vars_at rest) (drop vars_at rest') r
  pub noted : Noted place r.number rest rest'

-- a note that is no variable's number
pub record NoteWritten (place v : ℕ) (rest rest' : List ℕ) : Type 0 where
  pub noted : Noted place v rest rest'
  pub vars : drop vars_at rest' ≡ drop vars_at rest

-- a number can be issued and noted at a place
pub record CanNumber (c : LowerCtx) (place : ℕ) (rest : List ℕ) : Type 0 where
  pub met : c.mapped < max_vars
  pub low : c.numbers < max_count
  pub noted : place < vars_at
  pub long : work_words ≤ length rest
  pub index : Indexed c.mapped (drop vars_at rest)

-- one more operator can be pushed
pub record CanPush (c : LowerCtx) (ops : List ℕ) : Type 0 where
  pub few : c.ops < max_count
  pub long : work_words ≤ length ops

-- one more operator, stored if the table has room
pub record Pushed (c r : LowerCtx) (o o' : List ℕ) (x : Op) : Type 0 where
  pub count : r.ops ≡ c.ops + 1
  pub numbers : r.numbers ≡ c.numbers
  pub mapped : r.mapped ≡ c.mapped
  pub here : c.ops < max_stored → op_at o' c.ops ≡ x
  pub other : (k : ℕ) → k < c.ops → k < max_stored → op_at o' k ≡ op_at o k
