-- What 'inputs are earlier operators' means: the inputs of a record, and lists of operators in which every operator has only earlier ones as inputs, in copies inside it too. Assumes nothing: these are definitions, and lemmas with their proofs.
use Rattle.std.specs.Prelude.{ℕ, suc, ◌<◌, ◌≤◌, Bool, true, false, cond, List, [], ◌∷◌, ◌++◌, ◌≡◌, refl, eqb, length}
use Rattle.std.proofs.Common.{lt_of_lt_of_le, arith, eqb-true}
use Rattle.model.specs.Record.{inputs}
use Rattle.model.specs.Lower.{Recs, at}

-- every element of a list
pub data All {A : Type 0} (P : A → Type 0) : List A → Type 0 where
  []ᵃ : All P []
  ◌∷ᵃ◌ : {a : A} {l : List A} → P a → All P l → All P (a ∷ l)

infixr 50 ◌∷ᵃ◌
pub all_append : {A : Type 0} {P : A → Type 0} {l m : List A} → All P l → All P m → All P (l ++ m)
all_append []ᵃ q = q
all_append (p ∷ᵃ ps) q = p ∷ᵃ all_append ps q

pub all_map : {A : Type 0} {P Q : A → Type 0} {l : List A} → ((a : A) → P a → Q a) → All P l → All Q l
all_map f []ᵃ = []ᵃ
all_map f (◌∷ᵃ◌ {a = a} p ps) = f a p ∷ᵃ all_map f ps

-- ── inputs ──

-- every input in some records is below n. An operator is its records, those of its copies among them.
abbrev pub Low : ℕ → Recs → Type 0
Low n rs = All (λ r. All (λ k. k < n) (inputs r)) rs

-- operators, the newest first: the number of each is how many are older
pub data Earlier : List Recs → Type 0 where
  []ᵉ : Earlier []
  ◌∷ᵉ◌ : {op : Recs} {ops : List Recs} → Low (length ops) op → Earlier ops → Earlier (op ∷ ops)

infixr 50 ◌∷ᵉ◌
-- ── lemmas ──

pub raise : {m n : ℕ} {rs : Recs} → m ≤ n → Low m rs → Low n rs
raise le h = all_map (λ r. all_map (λ k l. lt_of_lt_of_le l le)) h

-- in a list in which each operator has earlier inputs, every number's has
pub at_low : {ops : List Recs} → Earlier ops → (k : ℕ) → Low k (at ops k)
unfolding at
at_low []ᵉ k = []ᵃ
at_low (◌∷ᵉ◌ {op = o} {ops = os} h e) k = choose (at_low e k) (eqb k (length os)) refl
  where
    choose : Low k (at os k) → (b : Bool) → eqb k (length os) ≡ b → Low k (cond b o (at os k))
    choose older true q = raise (omega (arith, eqb-true k (length os) q)) h
    choose older false q = older

-- so a copy of an operator may stand in the next one
pub copy_low : {ops : List Recs} → Earlier ops → (k : ℕ) → Low (length ops) (at ops k)
unfolding at
copy_low []ᵉ k = []ᵃ
copy_low (◌∷ᵉ◌ {op = o} {ops = os} h e) k = choose (copy_low e k) (eqb k (length os))
  where
    choose : Low (length os) (at os k) → (b : Bool) → Low (suc (length os)) (cond b o (at os k))
    choose older true = raise (omega arith) h
    choose older false = raise (omega arith) older
