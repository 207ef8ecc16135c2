-- The tables say what the record table of the definitions says, kind by kind, by computation. Assumes nothing.
use Rattle.std.specs.Prelude.{◌≡◌, refl, ℕ, zero, suc, ◌+◌, ◌-◌, ◌<◌, ◌≤◌, Bool, true, false, cond, ◌&&◌, List, [], ◌∷◌, ltb, leb, eqb, length, get_or, drop, None, Some}
use Rattle.std.proofs.Common.{sym, ◌∙◌, add-zero, add-suc, suc-add, arith, ltb-true, ltb-false, leb-true, eqb-true}
use Rattle.std.proofs.lemmas.Bool.{false≢true, eqb-false}
use Rattle.std.proofs.lemmas.Option.{none-some, same_Some}
use Rattle.model.specs.Text.{Bytes, bytes, bytes_from}
use Rattle.model.specs.Kind.{Sort, Kind}
use Rattle.model.specs.Record.{forms, kinds, sames, keyword, same_keyword, expr_keyword, clause_keyword, element_keyword}
use Rattle.words.specs.Words.{first_kind, nth, kind_of}
use Rattle.words.specs.Places.{kind_count, sort_count, form_count}
use Rattle.words.specs.Table.{field_count, max_fields, max_keyword, byte_values, sorts, sort_of, first, pack_on, packed, keys, codes, code_at, other_forms, form_of, forms_in, forms_from, forms_at}

-- both of two tests pass
pub and_left : (a b : Bool) → (a && b) ≡ true → a ≡ true
and_left true b e = refl
and_left false b e = e

pub and_right : (a b : Bool) → (a && b) ≡ true → b ≡ true
and_right true b e = e
and_right false b e = absurd (false≢true e)

-- each number of a list is below another
unfoldable pub each_below : ℕ → List ℕ → Bool
each_below m [] = true
each_below m (b ∷ s) = ltb b m && each_below m s

pub below_at : (m : ℕ) (s : List ℕ) → each_below m s ≡ true → (i : ℕ) → i < length s → get_or s i 0 < m
unfolding each_below
below_at m [] e i h = absurd (omega arith)
below_at m (b ∷ s) e zero h = ltb-true b m (and_left (ltb b m) (each_below m s) e)
below_at m (b ∷ s) e (suc i) h = below_at m s (and_right (ltb b m) (each_below m s) e) i (omega arith)

-- bytes, and few enough for a keyword
unfoldable pub short : Bytes → Bool
short s = leb (length s) max_keyword && each_below byte_values s

-- row n of the tables is that of a kind
pub record Row (s : Sort) (n : ℕ) (k : Kind s) : Type 0 where
  pub low : ltb n kind_count ≡ true
  pub key : get_or keys n 0 ≡ packed (keyword s k)
  pub plain : short (keyword s k) ≡ true
  pub fields : forms_at n ≡ forms s k

-- something holds of each of some kinds and its number, from n on
pub data Rows (s : Sort) (P : ℕ → Kind s → Type 0) : ℕ → List (Kind s) → Type 0 where
  done : {n : ℕ} → Rows s P n []
  ◌▸◌ : {n : ℕ} {k : Kind s} {ks : List (Kind s)} → P n k → Rows s P (suc n) ks → Rows s P n (k ∷ ks)

infixr 30 ◌▸◌
row : {s : Sort} {n : ℕ} {k : Kind s} → ltb n kind_count ≡ true → get_or keys n 0 ≡ packed (keyword s k) → short (keyword s k) ≡ true → forms_at n ≡ forms s k → Row s n k
row a b c d = record { low = a; key = b; plain = c; fields = d }

pub record Tabled (n : ℕ) : Type 0 where
  pub from : get_or first n 0 ≡ first_kind (sort_of n)
  pub to : get_or first (n + 1) 0 ≡ first_kind (sort_of n) + length (kinds (sort_of n))
  pub rows : Rows (sort_of n) (λ m k. Row (sort_of n) m k) (first_kind (sort_of n)) (kinds (sort_of n))

pub tabled : (n : ℕ) → n < sort_count → Tabled n
unfolding sorts sort_of first_kind kinds sames keyword same_keyword expr_keyword clause_keyword element_keyword bytes bytes_from packed pack_on short each_below forms_at forms_from forms_in form_of other_forms
tabled zero h = record { from = refl; to = refl; rows = row refl refl refl refl ▸ done }
tabled (suc zero) h = record { from = refl; to = refl; rows = row refl refl refl refl ▸ done }
tabled (suc (suc zero)) h = record { from = refl; to = refl; rows = row refl refl refl refl ▸ row refl refl refl refl ▸ row refl refl refl refl ▸ row refl refl refl refl ▸ row refl refl refl refl ▸ row refl refl refl refl ▸ row refl refl refl refl ▸ done }
tabled (suc (suc (suc zero))) h = record { from = refl; to = refl; rows = row refl refl refl refl ▸ done }
tabled (suc (suc (suc (suc zero)))) h = record { from = refl; to = refl; rows = row refl refl refl refl ▸ done }
tabled (suc (suc (suc (suc (suc zero))))) h = record { from = refl; to = refl; rows = row refl refl refl refl ▸ done }
tabled (suc (suc (suc (suc (suc (suc zero)))))) h = record { from = refl; to = refl; rows = row refl refl refl refl ▸ row refl refl refl refl ▸ done }
tabled (suc (suc (suc (suc (suc (suc (suc zero))))))) h = record { from = refl; to = refl; rows = row refl refl refl refl ▸ done }
tabled (suc (suc (suc (suc (suc (suc (suc (suc zero)))))))) h = record { from = refl; to = refl; rows = row refl refl refl refl ▸ done }
tabled (suc (suc (suc (suc (suc (suc (suc (suc (suc zero))))))))) h = record { from = refl; to = refl; rows = row refl refl refl refl ▸ done }
tabled (suc (suc (suc (suc (suc (suc (suc (suc (suc (suc zero)))))))))) h =
    record {
      from = refl;
      to = refl;
      rows =
          row refl refl refl refl ▸ row refl refl refl refl ▸ row refl refl refl refl ▸ row refl refl refl refl ▸ row refl refl refl refl ▸ row refl refl refl refl ▸
          row refl refl refl refl ▸ row refl refl refl refl ▸ row refl refl refl refl ▸ row refl refl refl refl ▸ row refl refl refl refl ▸ row refl refl refl refl ▸
          row refl refl refl refl ▸ row refl refl refl refl ▸ row refl refl refl refl ▸ row refl refl refl refl ▸ row refl refl refl refl ▸ row refl refl refl refl ▸
          row refl refl refl refl ▸ row refl refl refl refl ▸ row refl refl refl refl ▸ row refl refl refl refl ▸ done;
    }
tabled (suc (suc (suc (suc (suc (suc (suc (suc (suc (suc (suc n))))))))))) h = absurd (omega arith)

-- ── rows of forms ──

-- a test passes at each number below n
unfoldable pub passes_to : (ℕ → Bool) → ℕ → Bool
passes_to f zero = true
passes_to f (suc n) = f n && passes_to f n

pub passes_at : (f : ℕ → Bool) (n : ℕ) → passes_to f n ≡ true → (i : ℕ) → i < n → f i ≡ true
unfolding passes_to
passes_at f zero e i h = absurd (omega arith)
passes_at f (suc n) e i h = go (λ k. passes_at f n (and_right (f n) (passes_to f n) e) i k) (eqb i n) refl
  where
    go : (i < n → f i ≡ true) → (t : Bool) → eqb i n ≡ t → f i ≡ true
    go r true q = rw (eqb-true i n q) (and_left (f n) (passes_to f n) e)
    go r false q = r (omega (arith, eqb-false i n q))

-- row n has its codes, each of a form, and not too many forms
pub record CodeRow (n : ℕ) : Type 0 where
  pub long : length (get_or codes n []) ≡ field_count
  pub low : (g : ℕ) → g < field_count → code_at n g < form_count
  pub few : length (forms_at n) ≤ max_fields

row_test : ℕ → Bool
row_test n = eqb (length (get_or codes n [])) field_count && (each_below form_count (get_or codes n []) && leb (length (forms_at n)) max_fields)

pub code_row : (n : ℕ) → n < kind_count → CodeRow n
unfolding row_test passes_to each_below forms_at forms_from forms_in form_of other_forms
code_row n h =
    let test = passes_at row_test kind_count refl n h in
    let rest = and_right (eqb (length (get_or codes n [])) field_count) _ test in
    let long = eqb-true (length (get_or codes n [])) field_count (and_left _ _ test) in
    record {
      long = long;
      low = λ g k. below_at form_count (get_or codes n []) (and_left _ _ rest) g (omega (arith, long));
      few = leb-true (length (forms_at n)) max_fields (and_right (each_below form_count (get_or codes n [])) _ rest);
    }

-- ── a kind by its number ──

-- kind j of some, and what holds of it
pub record Nth (s : Sort) (P : ℕ → Kind s → Type 0) (n : ℕ) (ks : List (Kind s)) (j : ℕ) : Type 0 where
  pub kind : Kind s
  pub is : nth ks j ≡ Some kind
  pub onward : drop j ks ≡ kind ∷ drop (suc j) ks
  pub row : P (n + j) kind

pub nth_row : {s : Sort} {P : ℕ → Kind s → Type 0} {n : ℕ} {ks : List (Kind s)} → Rows s P n ks → (j : ℕ) → j < length ks → Nth s P n ks j
unfolding nth
nth_row done j h = absurd (omega arith)
nth_row {s} {P} {n} (◌▸◌ {k = k} r rs) zero h = record { kind = k; is = refl; onward = refl; row = rw add-zero r }
nth_row {s} {P} {n} (◌▸◌ {k = k} r rs) (suc j) h =
    let t = nth_row rs j (omega arith) in
    record { kind = t.kind; is = t.is; onward = t.onward; row = rw (add-suc, ← suc-add) t.row }

nth_low : {A : Type 0} (l : List A) (j : ℕ) (a : A) → nth l j ≡ Some a → j < length l
unfolding nth
nth_low [] j a e = absurd (none-some a e)
nth_low (b ∷ l) zero a e = omega arith
nth_low (b ∷ l) (suc j) a e = omega (arith, nth_low l j a e)

-- what holds of a kind by its number
pub kind_row : (s : Sort) (P : ℕ → Kind s → Type 0) → Rows s P (first_kind s) (kinds s) → (n : ℕ) (k : Kind s) → kind_of s n ≡ Some k → P n k
unfolding kind_of
kind_row s P rs n k e = go (ltb n (first_kind s)) refl e
  where
    go : (t : Bool) → ltb n (first_kind s) ≡ t → cond t None (nth (kinds s) (n - first_kind s)) ≡ Some k → P n k
    go true p q = absurd (none-some k q)
    go false p q =
        let t = nth_row rs (n - first_kind s) (nth_low (kinds s) _ k q) in
        let same : t.kind ≡ k = same_Some _ _ (sym t.is ∙ q) in
        let at : first_kind s + (n - first_kind s) ≡ n = omega (arith, ltb-false n (first_kind s) p) in
        rw (← at, ← same) t.row
