-- The reader's promise: a tree's records stand in the words from a record on, one after another in sheet order, within a depth. The crates above rest on this alone. Assumes nothing: these are definitions.
use Rattle.std.specs.Prelude.{◌≡◌, ℕ, suc, ◌+◌, ◌-◌, ◌%◌, ◌<◌, ◌≤◌, cond, List, [], ◌∷◌, length, get_or, Some}
use Rattle.std.proofs.Math.Seq.{slice}
use Rattle.model.specs.Text.{Bytes}
use Rattle.model.specs.Field.{Form, Fields, num, flag, var, var_or_absent, num_or_absent, number, number_or_absent, int, float, text, alias, span, spell}
use Rattle.model.specs.Field
use Rattle.model.specs.Kind.{Sort, Kind}
use Rattle.model.specs.Record.{Group, rec, forms, children, beside, spell_rec}
use Rattle.model.specs.Tree.{Tree, Trees, Forest, node, []ᵗ, ◌∷ᵗ◌, end, ◌▸◌}
unfoldable pub use Rattle.model.specs.Tree.{size, size_of, size_in}
use Rattle.words.specs.Places.{line_start_at, children_at, line_end_at}
use Rattle.words.specs.Words.{part, decode, field_of, first_at, second_at, pieces_of, max_records, two32}

-- a flag's word is 0 or 1
abbrev pub Flag : Form → ℕ → Type 0
Flag (num l) x = Unit {0}
Flag flag x = x ≤ 1
Flag var x = Unit {0}
Flag var_or_absent x = x ≤ 1
Flag (num_or_absent l) x = x ≤ 1
Flag (number n) x = Unit {0}
Flag (number_or_absent n) x = x ≤ 1
Flag int x = Unit {0}
Flag float x = Unit {0}
Flag text x = Unit {0}
Flag alias x = Unit {0}
Flag span x = Unit {0}
Flag Field.length x = Unit {0}

-- so in the fields from field g on
abbrev pub Flags : List Form → List ℕ → ℕ → Type 0
Flags [] ws g = Unit {0}
Flags (f ∷ fs) ws g = Flag f (get_or ws (first_at g) 0) × Flags fs ws (suc g)

-- a field that stands in the sheet from x up to y is spelled as the sheet has it
pub record PlaceAt (f : Form) (sheet : Bytes) (x y : ℕ) : Type 0 where
  pub from : x ≤ y
  pub to : y ≤ length sheet
  pub spelled : spell f (field_of f sheet x y) ≡ pieces_of (slice x y sheet)

-- of the forms whose words are a place; no name stands at the place 0
abbrev pub Text : Form → Bytes → ℕ → ℕ → Type 0
Text (num l) sheet x y = Unit {0}
Text flag sheet x y = Unit {0}
Text var sheet x y = Unit {0}
Text var_or_absent sheet x y = Unit {0}
Text (num_or_absent l) sheet x y = Unit {0}
Text (number n) sheet x y = Unit {0}
Text (number_or_absent n) sheet x y = Unit {0}
Text int sheet x y = Unit {0}
Text float sheet x y = Unit {0}
Text text sheet x y = PlaceAt text sheet x y
Text alias sheet x y = 0 < x → PlaceAt text sheet x y
Text span sheet x y = Unit {0}
Text Field.length sheet x y = PlaceAt Field.length sheet x y

-- so in the fields from field g on
abbrev pub Texts : List Form → Bytes → List ℕ → ℕ → Type 0
Texts [] sheet ws g = Unit {0}
Texts (f ∷ fs) sheet ws g = Text f sheet (get_or ws (first_at g) 0) (get_or ws (second_at g) 0) × Texts fs sheet ws (suc g)

-- how deep the children may be of a record that may be d deep: a map's key and its expression stand side by side
abbrev pub room_in : Sort → ℕ → ℕ
room_in s d = cond (beside s) d (d - 1)

-- a record's line stands in the sheet from x up to y, as it is spelled
pub record LineAt (s : Sort) (k : Kind s) (f : Fields (forms s k)) (sheet : Bytes) (x y : ℕ) : Type 0 where
  pub from : x ≤ y
  pub to : y ≤ length sheet
  pub spelled : slice x y sheet ≡ spell_rec (rec s k f)

-- how many children some groups ask for
abbrev pub total : List Group → ℕ
total [] = 0
total (g ∷ gs) = g.1 + total gs

-- record i is one of the first 2,048, and its words are those of a kind, its fields, its line and, as far as a word holds it, the number of its children
pub record RecordAt (sheet : Bytes) (a b : List ℕ) (i : ℕ) (s : Sort) (k : Kind s) (f : Fields (forms s k)) : Type 0 where
  pub low : i < max_records
  pub is : decode s sheet (part a b i) ≡ Some (k, f)
  pub flags : Flags (forms s k) (part a b i) 0
  pub texts : Texts (forms s k) sheet (part a b i) 0
  pub line : LineAt s k f sheet (get_or (part a b i) line_start_at 0) (get_or (part a b i) line_end_at 0)
  pub kids : get_or (part a b i) children_at 0 ≡ total (children s k f) % two32

-- `Held d i t`: the tree t, at most d deep, has the records from i on; its lines are one more than those
module _ (sheet : Bytes) (a b : List ℕ) where
  unfoldable mutual
    pub Held : {s : Sort} → Tree s → (d i : ℕ) → Type 0
    Held (node s line k f kids) d i = (line ≡ suc i) × RecordAt sheet a b i s k f × (0 < d) × HeldIn kids (room_in s d) (i + 1)

    pub HeldOf : {s : Sort} {n : ℕ} → Trees s n → (d i : ℕ) → Type 0
    HeldOf []ᵗ d i = Unit {0}
    HeldOf (t ∷ᵗ ts) d i = Held t d i × HeldOf ts d (i + size t)

    pub HeldIn : {gs : List Group} → Forest gs → (d i : ℕ) → Type 0
    HeldIn end d i = Unit {0}
    HeldIn (ts ▸ f) d i = HeldOf ts d i × HeldIn f d (i + size_of ts)

-- some tree is held: what a walk over the words requires
pub record HeldSome (sheet : Bytes) (a b : List ℕ) (s : Sort) (d i : ℕ) : Type 0 where
  pub tree : Tree s
  pub is : Held sheet a b tree d i

-- n trees of a sort
pub record HeldMany (sheet : Bytes) (a b : List ℕ) (s : Sort) (n d i : ℕ) : Type 0 where
  pub trees : Trees s n
  pub are : HeldOf sheet a b trees d i
