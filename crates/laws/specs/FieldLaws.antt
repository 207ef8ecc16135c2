-- Laws of fields: reading is the inverse of spelling, for every form and for a record's fields; a spelled field holds no separator. Assumes nothing: each law is proved.
use Rattle.std.specs.Prelude.{◌≡◌, refl, Bool, true, false, ◌&&◌, List, [], ◌∷◌, ◌++◌, ℕ, ◌<◌, ◌≤◌, leb, take, drop, Option, None, Some}
use Rattle.std.proofs.Common.{◌∙◌, ap, ap₂, subst, arith, take-append-drop, take_at, drop_at, leb-true}
use Rattle.std.proofs.lemmas.Option.{none-some, same_Some}
use Rattle.std.proofs.Math.ListN as ListN
use Rattle.model.specs.Text.{Bytes, minus, dash, equals, digit0, digit1, bytes_from, bytes, same, same_by, decimal}
use Rattle.model.specs.Field.{Form, num, flag, var, var_or_absent, num_or_absent, number, number_or_absent, int, float, text, alias, span, length, u32, u64, float_digits, Val, Span, RelLength, Single, Variable, width, spell_flag, spell_option, spell_alias, spell_length, spell, fits_option, fits_length, fits, option_value, alias_value, length_value, piece, meaning, read, Fields, spell_fields, both, read_fields}
use Rattle.laws.specs.TextLaws.{and_left, and_right, pieces_sound, pieces_refl, Each, each[], ◌each∷◌, each_append, every, Free, above_free, Separator, separator_low}
use Rattle.laws.specs.NumberLaws.{decimal_value, decimal_free, signed_value_law, signed_free, hex_value_law, hex_free, unescape_escape, escape_free}

-- no limit is above 64 bits, so that `max_digits` are enough
unfoldable pub limited : Form → Bool
limited (num l) = leb l u64
limited flag = true
limited var = true
limited var_or_absent = true
limited (num_or_absent l) = leb l u64
limited (number n) = true
limited (number_or_absent n) = true
limited int = true
limited float = true
limited text = true
limited alias = true
limited span = true
limited length = true

-- ── one field ──

pub spell_width : (f : Form) (v : Val f) → ListN.length (spell f v) ≡ width f
unfolding spell spell_length width
spell_width (num l) v = refl
spell_width flag v = refl
spell_width var v = refl
spell_width var_or_absent v = refl
spell_width (num_or_absent l) v = refl
spell_width (number n) v = refl
spell_width (number_or_absent n) v = refl
spell_width int v = refl
spell_width float v = refl
spell_width text v = refl
spell_width alias v = refl
spell_width span v = refl
spell_width length Single = refl
spell_width length (Variable min max) = refl

-- a number is no dash
no_dash : (s : Bytes) → Free minus s → same s dash ≡ false
unfolding same same_by
no_dash [] h = refl
no_dash (b ∷ s) (p each∷ ps) = rw p

option_value_law : (l : ℕ) → l ≤ u64 → (o : Option ℕ) → fits_option l o ≡ true → option_value (spell_option o) ≡ o
unfolding option_value spell_option fits_option same same_by
option_value_law l h None e = refl
option_value_law l h (Some n) e = rw (no_dash (decimal n) (decimal_free minus (omega arith) n), decimal_value n (omega (arith, leb-true n l e)))

alias_value_law : (a : Option Bytes) → alias_value (spell_alias a) ≡ a
unfolding alias_value spell_alias same same_by
alias_value_law None = refl
alias_value_law (Some t) = rw (unescape_escape t)

span_bounds : (s : Span) → (leb s.start s.end && leb s.end u32) ≡ true → (s.start ≤ s.end) × (s.end ≤ u32)
span_bounds s h = (leb-true _ _ (and_left _ _ h), leb-true _ _ (and_right (leb s.start s.end) _ h))

-- the pieces that spell a value mean it
pub meaning_spell : (f : Form) → limited f ≡ true → (v : Val f) → fits f v ≡ true → meaning f (spell f v) ≡ v
unfolding meaning spell spell_flag spell_length piece fits fits_length fits_option limited length_value bytes_from bytes same same_by
meaning_spell (num l) b n h = decimal_value n (omega (arith, leb-true n l h, leb-true l u64 b))
meaning_spell flag b false h = refl
meaning_spell flag b true h = refl
meaning_spell var b n h = decimal_value n (omega (arith, leb-true n u32 h))
meaning_spell var_or_absent b o h = option_value_law u32 (omega arith) o h
meaning_spell (num_or_absent l) b o h = option_value_law l (leb-true l u64 b) o h
meaning_spell (number n) b k h = decimal_value k (omega (arith, leb-true k u32 h))
meaning_spell (number_or_absent n) b o h = option_value_law u32 (omega arith) o h
meaning_spell int b z h = signed_value_law z h
meaning_spell float b n h = hex_value_law n (leb-true n u64 h)
meaning_spell text b t h = unescape_escape t
meaning_spell alias b a h = alias_value_law a
meaning_spell span b s h = rw (decimal_value s.start (omega (arith, span_bounds s h)), decimal_value s.end (omega (arith, span_bounds s h)))
meaning_spell length b Single h = refl
meaning_spell length b (Variable min max) h = rw (option_value_law u64 (omega arith) min (and_left (fits_option u64 min) (fits_option u64 max) h), option_value_law u64 (omega arith) max (and_right (fits_option u64 min) (fits_option u64 max) h))

-- what a value spells reads as it
pub spell_read : (f : Form) → limited f ≡ true → (v : Val f) → fits f v ≡ true → read f (spell f v) ≡ Some v
unfolding read
spell_read f b v h = rw (meaning_spell f b v h, h, pieces_refl (spell f v))

-- what reads as a value is its spelling, and in range
pub read_spell : (f : Form) (ps : List Bytes) (v : Val f) → read f ps ≡ Some v → (spell f v ≡ ps) × (fits f v ≡ true)
unfolding read
read_spell f ps v e = go (fits f (meaning f ps)) refl (same_by (λ s t. same s t) (spell f (meaning f ps)) ps) refl
  where
    go : (a : Bool) → fits f (meaning f ps) ≡ a → (b : Bool) → same_by (λ s t. same s t) (spell f (meaning f ps)) ps ≡ b → (spell f v ≡ ps) × (fits f v ≡ true)
    go true p true q = subst (λ w. (spell f w ≡ ps) × (fits f w ≡ true)) (same_Some _ _ (rw (p, q) at e)) (pieces_sound _ ps q, p)
    go true p false q = absurd (none-some _ (rw (p, q) at e))
    go false p b q = absurd (none-some _ (rw p at e))

-- a spelled field holds no separator
option_free : (sep : ℕ) → sep < minus → (o : Option ℕ) → Free sep (spell_option o)
unfolding spell_option every
option_free sep h None = above_free minus sep h dash refl
option_free sep h (Some n) = decimal_free sep (omega arith) n

alias_free : {sep : ℕ} → Separator sep → (a : Option Bytes) → Free sep (spell_alias a)
unfolding spell_alias every
alias_free {sep} q None = above_free minus sep (separator_low q) dash refl
alias_free {sep} q (Some t) = each_append (above_free minus sep (separator_low q) (equals ∷ []) refl) (escape_free q t)

flag_free : (sep : ℕ) → sep < minus → (b : Bool) → Free sep (spell_flag b)
unfolding spell_flag every
flag_free sep h false = above_free minus sep h (digit0 ∷ []) refl
flag_free sep h true = above_free minus sep h (digit1 ∷ []) refl

length_free : (sep : ℕ) → sep < minus → (l : RelLength) → Each (Free sep) (spell_length l)
unfolding spell_length spell_option bytes_from bytes every
length_free sep h Single = above_free minus sep h (bytes "one") refl each∷ option_free sep h None each∷ option_free sep h None each∷ each[]
length_free sep h (Variable min max) = above_free minus sep h (bytes "var") refl each∷ option_free sep h min each∷ option_free sep h max each∷ each[]

pub spell_free : {sep : ℕ} → Separator sep → (f : Form) (v : Val f) → Each (Free sep) (spell f v)
unfolding spell
spell_free {sep} q (num l) n = decimal_free sep (omega (arith, separator_low q)) n each∷ each[]
spell_free {sep} q flag b = flag_free sep (separator_low q) b each∷ each[]
spell_free {sep} q var n = decimal_free sep (omega (arith, separator_low q)) n each∷ each[]
spell_free {sep} q var_or_absent o = option_free sep (separator_low q) o each∷ each[]
spell_free {sep} q (num_or_absent l) o = option_free sep (separator_low q) o each∷ each[]
spell_free {sep} q (number n) k = decimal_free sep (omega (arith, separator_low q)) k each∷ each[]
spell_free {sep} q (number_or_absent n) o = option_free sep (separator_low q) o each∷ each[]
spell_free {sep} q int z = signed_free sep (separator_low q) z each∷ each[]
spell_free {sep} q float n = hex_free sep (omega (arith, separator_low q)) float_digits n each∷ each[]
spell_free q text t = escape_free q t each∷ each[]
spell_free q alias a = alias_free q a each∷ each[]
spell_free {sep} q span s = decimal_free sep (omega (arith, separator_low q)) s.start each∷ decimal_free sep (omega (arith, separator_low q)) s.end each∷ each[]
spell_free {sep} q length l = length_free sep (separator_low q) l

-- ── the fields of a record ──

unfoldable pub all_limited : List Form → Bool
all_limited [] = true
all_limited (f ∷ fs) = limited f && all_limited fs

unfoldable pub fits_all : (fs : List Form) → Fields fs → Bool
fits_all [] _ = true
fits_all (f ∷ fs) (v, vs) = fits f v && fits_all fs vs

-- what fields spell reads as them
pub spell_fields_read : (fs : List Form) → all_limited fs ≡ true → (v : Fields fs) → fits_all fs v ≡ true → read_fields fs (spell_fields fs v) ≡ Some v
unfolding all_limited fits_all spell_fields read_fields both
spell_fields_read [] b v h = refl
spell_fields_read (f ∷ fs) b (v, vs) h = rw (take_at (spell f v) (spell_fields fs vs) (width f) (spell_width f v), drop_at (spell f v) (spell_fields fs vs) (width f) (spell_width f v), spell_read f (and_left _ _ b) v (and_left _ _ h), spell_fields_read fs (and_right (limited f) _ b) vs (and_right (fits f v) _ h))

-- two readings that both succeed
both_some : {A B : Type 0} (a : Option A) (b : Option B) (x : A × B) → both a b ≡ Some x → (a ≡ Some x.0) × (b ≡ Some x.1)
unfolding both
both_some None b x e = absurd (none-some _ e)
both_some (Some a) None x e = absurd (none-some _ e)
both_some {A} {B} (Some a) (Some b) x e =
    let p : (a, b) ≡ x = same_Some _ _ e in
    (ap (λ y. Some y.0) p, ap (λ y. Some y.1) p)

-- what reads as fields is their spelling, and in range
pub read_fields_spell : (fs : List Form) (ps : List Bytes) (v : Fields fs) → read_fields fs ps ≡ Some v → (spell_fields fs v ≡ ps) × (fits_all fs v ≡ true)
unfolding fits_all spell_fields read_fields
read_fields_spell [] [] v e = (refl, refl)
read_fields_spell [] (p ∷ ps) v e = absurd (none-some _ e)
read_fields_spell (f ∷ fs) ps v e =
    let h = both_some (read f (take (width f) ps)) (read_fields fs (drop (width f) ps)) v e in
    let one = read_spell f (take (width f) ps) v.0 h.0 in
    let rest = read_fields_spell fs (drop (width f) ps) v.1 h.1 in
    (ap₂ (λ s t. s ++ t) one.0 rest.0 ∙ take-append-drop (width f) ps, rw one.1 rest.1)

pub spell_fields_free : {sep : ℕ} → Separator sep → (fs : List Form) (v : Fields fs) → Each (Free sep) (spell_fields fs v)
unfolding spell_fields
spell_fields_free q [] v = each[]
spell_fields_free q (f ∷ fs) (v, vs) = each_append (spell_free q f v) (spell_fields_free q fs vs)
