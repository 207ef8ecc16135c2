-- The code's tables as lists, and what each entry stands for. Kinds are numbered as words hold them. Assumes nothing: these are definitions.
use Rattle.std.specs.Prelude.{ℕ, zero, suc, ◌+◌, ◌*◌, ◌-◌, cond, List, [], ◌∷◌, ltb, get_or, drop}
use Rattle.model.specs.Text.{Bytes}
use Rattle.model.specs.Field.{Form, u32, num, flag, var, var_or_absent, int, float, text, alias, span}
use Rattle.model.specs.Field
use Rattle.model.specs.Kind.{Sort, statement, union_arm, clause, projection, order_item, pattern_part, pattern_element, name, yield_item, entry, expr}
use Rattle.model.specs.Record.{Group}
use Rattle.words.specs.Places.{stmt_kind, arm_kind, match_kind, item_kind, key_kind, part_kind, node_kind, name_kind, yield_kind, entry_kind, null_kind, kind_count, number_form}

-- ── sorts ──

unfoldable pub sorts : List Sort
sorts = statement ∷ union_arm ∷ clause ∷ projection ∷ order_item ∷ pattern_part ∷ pattern_element ∷ name ∷ yield_item ∷ entry ∷ expr ∷ []

-- the sort of a number below sort_count
unfoldable pub sort_of : ℕ → Sort
unfolding sorts
sort_of n = get_or sorts n expr

-- the first kind of each sort, and the number of kinds
abbrev pub first : List ℕ
first = stmt_kind ∷ arm_kind ∷ match_kind ∷ item_kind ∷ key_kind ∷ part_kind ∷ node_kind ∷ name_kind ∷ yield_kind ∷ entry_kind ∷ null_kind ∷ kind_count ∷ []

-- ── keywords ──

-- a byte has so many values
abbrev pub byte_values : ℕ
byte_values = 256

-- no keyword has more bytes
abbrev pub max_keyword : ℕ
max_keyword = 7

-- bytes as digits behind a number
unfoldable pub pack_on : ℕ → Bytes → ℕ
pack_on v [] = v
pack_on v (b ∷ s) = pack_on (v * byte_values + b) s

unfoldable pub packed : Bytes → ℕ
packed s = pack_on 1 s

abbrev pub keys : List ℕ
keys =
    6231977332  -- stmt
    ∷ 23163501  -- arm
    ∷ 1569298080616  -- match
    ∷ 1612364214885  -- where
    ∷ 6298367080  -- with
    ∷ 407255047828078  -- return
    ∷ 410592286961252  -- unwind
    ∷ 5962296428  -- call
    ∷ 1612532249701  -- write
    ∷ 6064203117  -- item
    ∷ 23815545  -- key
    ∷ 6180401780  -- part
    ∷ 6147761253  -- node
    ∷ 24274284  -- rel
    ∷ 6146846053  -- name
    ∷ 1620970925156  -- yield
    ∷ 6146846053  -- name (a map's)
    ∷ 6148156524  -- null
    ∷ 5946437484  -- bool
    ∷ 23686772  -- int
    ∷ 1539417530740  -- float
    ∷ 24343666  -- str
    ∷ 1582182850925  -- param
    ∷ 6181515120  -- prop
    ∷ 1552335267192  -- index
    ∷ 1595251712869  -- slice
    ∷ 6113817460  -- list
    ∷ 23226734  -- bin
    ∷ 95598  -- un
    ∷ 5962298213  -- case
    ∷ 397419472055404  -- isnull
    ∷ 92526  -- in
    ∷ 24535410  -- var
    ∷ 23945584  -- map
    ∷ 91758  -- fn
    ∷ 24142196  -- pat
    ∷ 1565137269872  -- listp
    ∷ 1603875792243  -- unres
    ∷ 1603874874739  -- undes
    ∷ []

-- ── rows ──

-- entries as hexadecimal digits behind a number
abbrev pub digits_on : ℕ → List ℕ → ℕ
digits_on v [] = v
digits_on v (d ∷ ds) = digits_on (v * 16 + d) ds

-- a row's entries as one number
abbrev pub in_digits : List ℕ → ℕ
in_digits ds = digits_on 0 ds

-- ── fields ──

-- the last binary operator
abbrev pub last_binary : ℕ
last_binary = 19

-- the numbers' limits, from the code of a number on
abbrev pub limits : List ℕ
limits = u32 ∷ 1 ∷ 2 ∷ 3 ∷ last_binary ∷ []

-- so many
abbrev pub limit_count : ℕ
limit_count = 5

-- the other forms, from code 0 on; code 0 ends a row
unfoldable pub other_forms : List Form
other_forms = flag ∷ flag ∷ var ∷ var_or_absent ∷ int ∷ float ∷ text ∷ alias ∷ span ∷ Field.length ∷ []

unfoldable pub form_of : ℕ → Form
unfolding other_forms
form_of c = cond (ltb c number_form) (get_or other_forms c flag) (num (get_or limits (c - number_form) 0))

-- a record has at most so many fields
abbrev pub max_fields : ℕ
max_fields = 6

-- a row of forms has so many codes
abbrev pub field_count : ℕ
field_count = 7

-- seven codes a kind
abbrev pub codes : List (List ℕ)
codes =
    (10 ∷ 10 ∷ 0 ∷ 0 ∷ 0 ∷ 0 ∷ 0 ∷ [])  -- stmt
    ∷ (1 ∷ 10 ∷ 0 ∷ 0 ∷ 0 ∷ 0 ∷ 0 ∷ [])  -- arm
    ∷ (1 ∷ 10 ∷ 8 ∷ 0 ∷ 0 ∷ 0 ∷ 0 ∷ [])  -- match
    ∷ (8 ∷ 0 ∷ 0 ∷ 0 ∷ 0 ∷ 0 ∷ 0 ∷ [])  -- where
    ∷ (10 ∷ 1 ∷ 10 ∷ 1 ∷ 1 ∷ 8 ∷ 0 ∷ [])  -- with
    ∷ (10 ∷ 1 ∷ 10 ∷ 1 ∷ 1 ∷ 8 ∷ 0 ∷ [])  -- return
    ∷ (2 ∷ 8 ∷ 0 ∷ 0 ∷ 0 ∷ 0 ∷ 0 ∷ [])  -- unwind
    ∷ (6 ∷ 10 ∷ 10 ∷ 1 ∷ 8 ∷ 0 ∷ 0 ∷ [])  -- call
    ∷ (8 ∷ 0 ∷ 0 ∷ 0 ∷ 0 ∷ 0 ∷ 0 ∷ [])  -- write
    ∷ (7 ∷ 0 ∷ 0 ∷ 0 ∷ 0 ∷ 0 ∷ 0 ∷ [])  -- item
    ∷ (1 ∷ 0 ∷ 0 ∷ 0 ∷ 0 ∷ 0 ∷ 0 ∷ [])  -- key
    ∷ (3 ∷ 12 ∷ 10 ∷ 0 ∷ 0 ∷ 0 ∷ 0 ∷ [])  -- part
    ∷ (3 ∷ 10 ∷ 1 ∷ 8 ∷ 0 ∷ 0 ∷ 0 ∷ [])  -- node
    ∷ (3 ∷ 10 ∷ 12 ∷ 9 ∷ 1 ∷ 8 ∷ 0 ∷ [])  -- rel
    ∷ (6 ∷ 0 ∷ 0 ∷ 0 ∷ 0 ∷ 0 ∷ 0 ∷ [])  -- name
    ∷ (6 ∷ 2 ∷ 0 ∷ 0 ∷ 0 ∷ 0 ∷ 0 ∷ [])  -- yield
    ∷ (6 ∷ 0 ∷ 0 ∷ 0 ∷ 0 ∷ 0 ∷ 0 ∷ [])  -- name (a map's)
    ∷ (0 ∷ 0 ∷ 0 ∷ 0 ∷ 0 ∷ 0 ∷ 0 ∷ [])  -- null
    ∷ (1 ∷ 0 ∷ 0 ∷ 0 ∷ 0 ∷ 0 ∷ 0 ∷ [])  -- bool
    ∷ (4 ∷ 0 ∷ 0 ∷ 0 ∷ 0 ∷ 0 ∷ 0 ∷ [])  -- int
    ∷ (5 ∷ 0 ∷ 0 ∷ 0 ∷ 0 ∷ 0 ∷ 0 ∷ [])  -- float
    ∷ (6 ∷ 0 ∷ 0 ∷ 0 ∷ 0 ∷ 0 ∷ 0 ∷ [])  -- str
    ∷ (6 ∷ 0 ∷ 0 ∷ 0 ∷ 0 ∷ 0 ∷ 0 ∷ [])  -- param
    ∷ (6 ∷ 0 ∷ 0 ∷ 0 ∷ 0 ∷ 0 ∷ 0 ∷ [])  -- prop
    ∷ (0 ∷ 0 ∷ 0 ∷ 0 ∷ 0 ∷ 0 ∷ 0 ∷ [])  -- index
    ∷ (1 ∷ 1 ∷ 0 ∷ 0 ∷ 0 ∷ 0 ∷ 0 ∷ [])  -- slice
    ∷ (10 ∷ 0 ∷ 0 ∷ 0 ∷ 0 ∷ 0 ∷ 0 ∷ [])  -- list
    ∷ (14 ∷ 0 ∷ 0 ∷ 0 ∷ 0 ∷ 0 ∷ 0 ∷ [])  -- bin
    ∷ (11 ∷ 0 ∷ 0 ∷ 0 ∷ 0 ∷ 0 ∷ 0 ∷ [])  -- un
    ∷ (1 ∷ 10 ∷ 1 ∷ 0 ∷ 0 ∷ 0 ∷ 0 ∷ [])  -- case
    ∷ (1 ∷ 0 ∷ 0 ∷ 0 ∷ 0 ∷ 0 ∷ 0 ∷ [])  -- isnull
    ∷ (0 ∷ 0 ∷ 0 ∷ 0 ∷ 0 ∷ 0 ∷ 0 ∷ [])  -- in
    ∷ (2 ∷ 0 ∷ 0 ∷ 0 ∷ 0 ∷ 0 ∷ 0 ∷ [])  -- var
    ∷ (10 ∷ 0 ∷ 0 ∷ 0 ∷ 0 ∷ 0 ∷ 0 ∷ [])  -- map
    ∷ (6 ∷ 10 ∷ 1 ∷ 0 ∷ 0 ∷ 0 ∷ 0 ∷ [])  -- fn
    ∷ (10 ∷ 0 ∷ 0 ∷ 0 ∷ 0 ∷ 0 ∷ 0 ∷ [])  -- pat
    ∷ (13 ∷ 2 ∷ 1 ∷ 0 ∷ 0 ∷ 0 ∷ 0 ∷ [])  -- listp
    ∷ (6 ∷ 0 ∷ 0 ∷ 0 ∷ 0 ∷ 0 ∷ 0 ∷ [])  -- unres
    ∷ (13 ∷ 0 ∷ 0 ∷ 0 ∷ 0 ∷ 0 ∷ 0 ∷ [])  -- undes
    ∷ []

-- code g of kind n
abbrev pub code_at : ℕ → ℕ → ℕ
code_at n g = get_or (get_or codes n []) g 0

-- the forms up to the first 0
unfoldable pub forms_in : List ℕ → List Form
forms_in [] = []
forms_in (zero ∷ cs) = []
forms_in (suc c ∷ cs) = form_of (suc c) ∷ forms_in cs

-- the forms of kind n, from field g on
unfoldable pub forms_from : ℕ → ℕ → List Form
forms_from n g = forms_in (drop g (get_or codes n []))

unfoldable pub forms_at : ℕ → List Form
forms_at n = forms_from n 0

-- ── children ──

-- a kind has so many groups of children at most
abbrev pub group_count : ℕ
group_count = 5

-- and its row so many entries
abbrev pub entry_count : ℕ
entry_count = 10

-- five groups a kind, each a sort and where its count is from
abbrev pub groups : List (List ℕ)
groups =
    (2 ∷ 3 ∷ 1 ∷ 4 ∷ 0 ∷ 0 ∷ 0 ∷ 0 ∷ 0 ∷ 0 ∷ [])  -- stmt
    ∷ (2 ∷ 4 ∷ 0 ∷ 0 ∷ 0 ∷ 0 ∷ 0 ∷ 0 ∷ 0 ∷ 0 ∷ [])  -- arm
    ∷ (5 ∷ 4 ∷ 0 ∷ 0 ∷ 0 ∷ 0 ∷ 0 ∷ 0 ∷ 0 ∷ 0 ∷ [])  -- match
    ∷ (10 ∷ 1 ∷ 0 ∷ 0 ∷ 0 ∷ 0 ∷ 0 ∷ 0 ∷ 0 ∷ 0 ∷ [])  -- where
    ∷ (3 ∷ 3 ∷ 10 ∷ 4 ∷ 4 ∷ 5 ∷ 10 ∷ 6 ∷ 10 ∷ 7 ∷ [])  -- with
    ∷ (3 ∷ 3 ∷ 4 ∷ 5 ∷ 10 ∷ 6 ∷ 10 ∷ 7 ∷ 0 ∷ 0 ∷ [])  -- return
    ∷ (10 ∷ 1 ∷ 0 ∷ 0 ∷ 0 ∷ 0 ∷ 0 ∷ 0 ∷ 0 ∷ 0 ∷ [])  -- unwind
    ∷ (10 ∷ 4 ∷ 8 ∷ 5 ∷ 0 ∷ 0 ∷ 0 ∷ 0 ∷ 0 ∷ 0 ∷ [])  -- call
    ∷ (0 ∷ 0 ∷ 0 ∷ 0 ∷ 0 ∷ 0 ∷ 0 ∷ 0 ∷ 0 ∷ 0 ∷ [])  -- write
    ∷ (10 ∷ 1 ∷ 0 ∷ 0 ∷ 0 ∷ 0 ∷ 0 ∷ 0 ∷ 0 ∷ 0 ∷ [])  -- item
    ∷ (10 ∷ 1 ∷ 0 ∷ 0 ∷ 0 ∷ 0 ∷ 0 ∷ 0 ∷ 0 ∷ 0 ∷ [])  -- key
    ∷ (6 ∷ 5 ∷ 0 ∷ 0 ∷ 0 ∷ 0 ∷ 0 ∷ 0 ∷ 0 ∷ 0 ∷ [])  -- part
    ∷ (7 ∷ 4 ∷ 10 ∷ 5 ∷ 0 ∷ 0 ∷ 0 ∷ 0 ∷ 0 ∷ 0 ∷ [])  -- node
    ∷ (7 ∷ 4 ∷ 10 ∷ 7 ∷ 0 ∷ 0 ∷ 0 ∷ 0 ∷ 0 ∷ 0 ∷ [])  -- rel
    ∷ (0 ∷ 0 ∷ 0 ∷ 0 ∷ 0 ∷ 0 ∷ 0 ∷ 0 ∷ 0 ∷ 0 ∷ [])  -- name
    ∷ (0 ∷ 0 ∷ 0 ∷ 0 ∷ 0 ∷ 0 ∷ 0 ∷ 0 ∷ 0 ∷ 0 ∷ [])  -- yield
    ∷ (10 ∷ 1 ∷ 0 ∷ 0 ∷ 0 ∷ 0 ∷ 0 ∷ 0 ∷ 0 ∷ 0 ∷ [])  -- name (a map's)
    ∷ (0 ∷ 0 ∷ 0 ∷ 0 ∷ 0 ∷ 0 ∷ 0 ∷ 0 ∷ 0 ∷ 0 ∷ [])  -- null
    ∷ (0 ∷ 0 ∷ 0 ∷ 0 ∷ 0 ∷ 0 ∷ 0 ∷ 0 ∷ 0 ∷ 0 ∷ [])  -- bool
    ∷ (0 ∷ 0 ∷ 0 ∷ 0 ∷ 0 ∷ 0 ∷ 0 ∷ 0 ∷ 0 ∷ 0 ∷ [])  -- int
    ∷ (0 ∷ 0 ∷ 0 ∷ 0 ∷ 0 ∷ 0 ∷ 0 ∷ 0 ∷ 0 ∷ 0 ∷ [])  -- float
    ∷ (0 ∷ 0 ∷ 0 ∷ 0 ∷ 0 ∷ 0 ∷ 0 ∷ 0 ∷ 0 ∷ 0 ∷ [])  -- str
    ∷ (0 ∷ 0 ∷ 0 ∷ 0 ∷ 0 ∷ 0 ∷ 0 ∷ 0 ∷ 0 ∷ 0 ∷ [])  -- param
    ∷ (10 ∷ 1 ∷ 0 ∷ 0 ∷ 0 ∷ 0 ∷ 0 ∷ 0 ∷ 0 ∷ 0 ∷ [])  -- prop
    ∷ (10 ∷ 2 ∷ 0 ∷ 0 ∷ 0 ∷ 0 ∷ 0 ∷ 0 ∷ 0 ∷ 0 ∷ [])  -- index
    ∷ (10 ∷ 1 ∷ 10 ∷ 3 ∷ 10 ∷ 4 ∷ 0 ∷ 0 ∷ 0 ∷ 0 ∷ [])  -- slice
    ∷ (10 ∷ 3 ∷ 0 ∷ 0 ∷ 0 ∷ 0 ∷ 0 ∷ 0 ∷ 0 ∷ 0 ∷ [])  -- list
    ∷ (10 ∷ 2 ∷ 0 ∷ 0 ∷ 0 ∷ 0 ∷ 0 ∷ 0 ∷ 0 ∷ 0 ∷ [])  -- bin
    ∷ (10 ∷ 1 ∷ 0 ∷ 0 ∷ 0 ∷ 0 ∷ 0 ∷ 0 ∷ 0 ∷ 0 ∷ [])  -- un
    ∷ (10 ∷ 3 ∷ 10 ∷ 4 ∷ 10 ∷ 4 ∷ 10 ∷ 5 ∷ 0 ∷ 0 ∷ [])  -- case
    ∷ (10 ∷ 1 ∷ 0 ∷ 0 ∷ 0 ∷ 0 ∷ 0 ∷ 0 ∷ 0 ∷ 0 ∷ [])  -- isnull
    ∷ (10 ∷ 2 ∷ 0 ∷ 0 ∷ 0 ∷ 0 ∷ 0 ∷ 0 ∷ 0 ∷ 0 ∷ [])  -- in
    ∷ (0 ∷ 0 ∷ 0 ∷ 0 ∷ 0 ∷ 0 ∷ 0 ∷ 0 ∷ 0 ∷ 0 ∷ [])  -- var
    ∷ (9 ∷ 3 ∷ 0 ∷ 0 ∷ 0 ∷ 0 ∷ 0 ∷ 0 ∷ 0 ∷ 0 ∷ [])  -- map
    ∷ (10 ∷ 4 ∷ 0 ∷ 0 ∷ 0 ∷ 0 ∷ 0 ∷ 0 ∷ 0 ∷ 0 ∷ [])  -- fn
    ∷ (5 ∷ 3 ∷ 0 ∷ 0 ∷ 0 ∷ 0 ∷ 0 ∷ 0 ∷ 0 ∷ 0 ∷ [])  -- pat
    ∷ (10 ∷ 1 ∷ 10 ∷ 5 ∷ 0 ∷ 0 ∷ 0 ∷ 0 ∷ 0 ∷ 0 ∷ [])  -- listp
    ∷ (0 ∷ 0 ∷ 0 ∷ 0 ∷ 0 ∷ 0 ∷ 0 ∷ 0 ∷ 0 ∷ 0 ∷ [])  -- unres
    ∷ (0 ∷ 0 ∷ 0 ∷ 0 ∷ 0 ∷ 0 ∷ 0 ∷ 0 ∷ 0 ∷ 0 ∷ [])  -- undes
    ∷ []

-- how many groups each kind has
abbrev pub group_numbers : List ℕ
group_numbers =
    2 ∷ 1 ∷ 1 ∷ 1 ∷ 5 ∷ 4 ∷ 1 ∷ 2 ∷ 0 ∷ 1 ∷ 1 ∷ 1 ∷ 2 ∷
    2 ∷ 0 ∷ 0 ∷ 1 ∷ 0 ∷ 0 ∷ 0 ∷ 0 ∷ 0 ∷ 0 ∷ 1 ∷ 1 ∷ 3 ∷
    1 ∷ 1 ∷ 1 ∷ 4 ∷ 1 ∷ 1 ∷ 0 ∷ 1 ∷ 1 ∷ 1 ∷ 2 ∷ 0 ∷ 0 ∷ []

-- a group has so many entries: its sort, and behind it the source of its count
abbrev pub group_entries : ℕ
group_entries = 2

abbrev pub group_sort : ℕ → ℕ → ℕ
group_sort n g = get_or (get_or groups n []) (g * group_entries) 0

abbrev pub group_source : ℕ → ℕ → ℕ
group_source n g = get_or (get_or groups n []) (g * group_entries + 1) 0

-- a source is below this
abbrev pub source_count : ℕ
source_count = 8

-- a source below this is itself the count; from it on it stands for field 0, 1, ..
abbrev pub fixed_sources : ℕ
fixed_sources = 3

-- twice such a source less this is the place of the field's first word
abbrev pub source_shift : ℕ
source_shift = 4

abbrev pub count_of : List ℕ → ℕ → ℕ
count_of ws c = cond (ltb c fixed_sources) c (get_or ws (c + c - source_shift) 0)

-- group g of a record of kind n
abbrev pub group_at : ℕ → List ℕ → ℕ → Group
group_at n ws g = (sort_of (group_sort n g), count_of ws (group_source n g))

-- k groups from group g on
unfoldable pub groups_from : ℕ → List ℕ → ℕ → ℕ → List Group
groups_from n ws g zero = []
groups_from n ws g (suc k) = group_at n ws g ∷ groups_from n ws (suc g) k

unfoldable pub groups_of : ℕ → List ℕ → List Group
groups_of n ws = groups_from n ws 0 group_count
