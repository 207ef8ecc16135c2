-- From the promise to the words: a record's kind number is its first word, and its fields are read off the others, word by word. Assumes nothing.
use Rattle.std.specs.Prelude.{◌≡◌, refl, ℕ, zero, suc, ◌+◌, ◌*◌, ◌-◌, ◌<◌, ◌≤◌, Bool, true, false, cond, ◌&&◌, List, [], ◌∷◌, eqb, ltb, length, get_or, Option, None, Some}
use Rattle.std.proofs.Common.{sym, ap, subst, ◌∙◌, add-zero, arith, ltb-true, ltb-false, eqb-true}
use Rattle.std.proofs.Math.Seq.{slice, slice-cons, slice_empty}
use Rattle.std.proofs.lemmas.Bool.{eqb-false}
use Rattle.model.specs.Text.{Bytes}
use Rattle.model.specs.Field.{Fields}
use Rattle.model.specs.Kind.{Sort, Kind}
use Rattle.model.specs.Record.{one, RecOf, forms, kinds}
use Rattle.words.specs.Words.{Roomy, cell, part, first_kind, nth, kind_of, rec_of, decode, fields_of, max_records, record_words, first_records}
use Rattle.words.specs.Held.{RecordAt, Flags}

-- ── the words ──

-- n values of a function, from c on
abbrev pub upto : ℕ → ℕ → (ℕ → ℕ) → List ℕ
upto zero c w = []
upto (suc n) c w = w c ∷ upto n (suc c) w

-- the sixteen words of a record, word by word
abbrev pub cells : List ℕ → List ℕ → ℕ → List ℕ
cells a b i = upto record_words 0 (λ c. cell a b i c)

slice_upto : (l : List ℕ) (f n c : ℕ) → f + c + n ≤ length l → slice (f + c) (f + c + n) l ≡ upto n c (λ x. get_or l (f + x) 0)
slice_upto l f zero c h = rw add-zero (slice_empty (f + c) l)
slice_upto l f (suc n) c h =
    let e : f + c + suc n ≡ f + suc c + n = omega arith in
    let e' : suc (f + c) ≡ f + suc c = omega arith in
    slice-cons (f + c) (f + c + suc n) l 0 (omega arith) h ∙ rw (e, e') (ap (λ t. get_or l (f + c) 0 ∷ t) (slice_upto l f n (suc c) (omega arith)))

-- the words of a record that begins at word f
words_from : (l : List ℕ) (f : ℕ) → f + record_words ≤ length l → slice f (f + record_words) l ≡ upto record_words 0 (λ c. get_or l (f + c) 0)
words_from l f h = subst (λ (x : ℕ). slice x (x + record_words) l ≡ upto record_words 0 (λ c. get_or l (f + c) 0)) (add-zero f) (slice_upto l f record_words 0 (rw add-zero h))

in_half : (t : Bool) (a b : List ℕ) (x y : ℕ) → (t ≡ true → x + record_words ≤ length a) → (t ≡ false → y + record_words ≤ length b) → cond t (slice x (x + record_words) a) (slice y (y + record_words) b) ≡ upto record_words 0 (λ c. cond t (get_or a (x + c) 0) (get_or b (y + c) 0))
in_half true a b x y ha hb = words_from a x (ha refl)
in_half false a b x y ha hb = words_from b y (hb refl)

pub part_cells : (a b : List ℕ) (i : ℕ) → Roomy a b → i < max_records → part a b i ≡ cells a b i
unfolding part
part_cells a b i room low =
    in_half (ltb i first_records) a b (i * record_words) ((i - first_records) * record_words)
    (λ h. let l : i < first_records = ltb-true i first_records h in omega arith)
    (λ h. let l : first_records ≤ i = ltb-false i first_records h in omega arith)

-- ── the record ──

-- what the words of a record show: the number of its kind, its fields, and that flags are 0 or 1
pub record Shown (sheet : Bytes) (a b : List ℕ) (i : ℕ) (s : Sort) (k : Kind s) (f : Fields (forms s k)) : Type 0 where
  pub kind : kind_of s (cell a b i 0) ≡ Some k
  pub fields : f ≡ fields_of (forms s k) sheet (cells a b i) 0
  pub flags : Flags (forms s k) (cells a b i) 0

decoded : (s : Sort) (sheet : Bytes) (ws : List ℕ) (o : Option (Kind s)) (k : Kind s) (f : Fields (forms s k)) → rec_of s sheet ws o ≡ Some (k, f) → (o ≡ Some k) × (f ≡ fields_of (forms s k) sheet ws 0)
unfolding rec_of
decoded s sheet ws None k f h = let z : ◌≡◌ {A = ℕ} 0 1 = cc in absurd (omega arith)
decoded s sheet ws (Some k') k f h =
    let p : ◌≡◌ {A = RecOf s} (k', fields_of (forms s k') sheet ws 0) (k, f) = cc in
    (ap (λ (x : RecOf s). Some x.0) p, subst (λ (x : RecOf s). ◌≡◌ {A = Fields (forms s x.0)} x.1 (fields_of (forms s x.0) sheet ws 0)) p refl)

pub shown : {sheet : Bytes} {a b : List ℕ} {i : ℕ} {s : Sort} {k : Kind s} {f : Fields (forms s k)} → Roomy a b → RecordAt sheet a b i s k f → Shown sheet a b i s k f
unfolding decode
shown {sheet} {a} {b} {i} {s} {k} {f} room h =
    let e : part a b i ≡ cells a b i = part_cells a b i room h.low in
    let d : (kind_of s (cell a b i 0) ≡ Some k) × (f ≡ fields_of (forms s k) sheet (cells a b i) 0) = decoded s sheet (cells a b i) (kind_of s (cell a b i 0)) k f (rw e at h.is) in
    record { kind = d.0; fields = d.1; flags = rw e at h.flags }

-- ── the numbers of kinds ──

-- the kinds of a list are numbered one after another from n on
unfoldable pub numbered : {A : Type 0} → (A → ℕ) → ℕ → List A → Bool
numbered c n [] = true
numbered c n (k ∷ ks) = eqb (c k) n && numbered c (suc n) ks

and-true : (t u : Bool) → (t && u) ≡ true → (t ≡ true) × (u ≡ true)
and-true true u h = (refl, h)
and-true false u h = let z : ◌≡◌ {A = ℕ} 0 1 = cc in absurd (omega arith)

nth_number : {A : Type 0} (c : A → ℕ) (n : ℕ) (ks : List A) → numbered c n ks ≡ true → (m : ℕ) (k : A) → nth ks m ≡ Some k → n + m ≡ c k
unfolding numbered nth
nth_number c n [] t m k h = let z : ◌≡◌ {A = ℕ} 0 1 = cc in absurd (omega arith)
nth_number c n (x ∷ ks) t zero k h =
    let e : x ≡ k = cc in
    rw (add-zero, ← e) (sym (eqb-true (c x) n (and-true (eqb (c x) n) (numbered c (suc n) ks) t).0))
nth_number c n (x ∷ ks) t (suc m) k h =
    let e : suc n + m ≡ c k = nth_number c (suc n) ks (and-true (eqb (c x) n) (numbered c (suc n) ks) t).1 m k h in
    omega arith

number_in : (t : Bool) (f n : ℕ) {A : Type 0} (c : A → ℕ) (ks : List A) (k : A) → t ≡ ltb n f → numbered c f ks ≡ true → cond t None (nth ks (n - f)) ≡ Some k → n ≡ c k
number_in true f n c ks k l t h = let z : ◌≡◌ {A = ℕ} 0 1 = cc in absurd (omega arith)
number_in false f n c ks k l t h =
    let e : f + (n - f) ≡ c k = nth_number c f ks t (n - f) k h in
    let g : f ≤ n = ltb-false n f (sym l) in
    omega arith

-- the first word of a record is the number of its kind, if c numbers the kinds of its sort
pub number_of : (s : Sort) (c : Kind s → ℕ) → numbered c (first_kind s) (kinds s) ≡ true → (n : ℕ) (k : Kind s) → kind_of s n ≡ Some k → n ≡ c k
unfolding kind_of
number_of s c t n k h = number_in (ltb n (first_kind s)) (first_kind s) n c (kinds s) k refl t h

-- ── flags ──

-- a flag's word counts what it says to follow
pub flag_counts : (t : Bool) (x : ℕ) → t ≡ eqb x 1 → x ≤ 1 → one t ≡ x
flag_counts true x t h = sym (eqb-true x 1 (sym t))
flag_counts false x t h = let n : (x ≡ 1 → ⊥) = eqb-false x 1 (sym t) in omega arith

pub flag_word : (x : ℕ) → x ≤ 1 → one (eqb x 1) ≡ x
flag_word x h = flag_counts (eqb x 1) x refl h
