-- What holds of every step of the lowering: inputs stay earlier, the mapped numbers stay in order, and only so many operators and numbers are added. Assumes nothing: these are definitions, and lemmas with their proofs.
use Rattle.std.specs.Prelude.{ℕ, ◌+◌, ◌<◌, ◌≤◌, List, [], ◌∷◌, ◌≡◌, refl, length, Option, None, Some}
use Rattle.std.proofs.Common.{le_refl, lt_of_lt_of_le, arith, subst}
use Rattle.model.specs.Lower.{Recs, LowerCtx, Lowering, ◌>>=◌, ret, push, copy, lookup, issue, numbered, map_var, fresh, upcoming, endpoint_var, source, push_source_all, or_source_all}
use Rattle.bounds.specs.Earlier.{[]ᵃ, ◌∷ᵃ◌, Low, Earlier, ◌∷ᵉ◌, copy_low}

-- mapped variables, the newest first: each number is below the one before it, and the first below a bound
pub data Falling : ℕ → List (ℕ × ℕ) → Type 0 where
  []ᶠ : {bound : ℕ} → Falling bound []
  ◌∷ᶠ◌ : {bound : ℕ} {v : ℕ × ℕ} {vs : List (ℕ × ℕ)} → v.1 < bound → Falling v.1 vs → Falling bound (v ∷ vs)

infixr 50 ◌∷ᶠ◌
pub falling_raise : {m n : ℕ} {vs : List (ℕ × ℕ)} → m ≤ n → Falling m vs → Falling n vs
falling_raise le []ᶠ = []ᶠ
falling_raise le (lt ∷ᶠ vs) = lt_of_lt_of_le lt le ∷ᶠ vs

pub record Ordered (c : LowerCtx) : Type 0 where
  pub earlier : Earlier c.ops
  pub falling : Falling c.scope.next_var c.scope.vars

-- between two states: no operator is lost, at most k are added, and at most j numbers issued
pub record Spent (k j : ℕ) (c d : LowerCtx) : Type 0 where
  pub kept : length c.ops ≤ length d.ops
  pub added : length d.ops ≤ length c.ops + k
  pub issued : d.scope.next_var ≤ c.scope.next_var + j

-- a result with the number of operators behind it
abbrev pub Post : Type 0 → Type 1
Post A = A → ℕ → Type 0

pub record Ran {A : Type 0} (P : Post A) (k j : ℕ) (c : LowerCtx) (r : A × LowerCtx) : Type 0 where
  pub ordered : Ordered r.1
  pub spent : Spent k j c r.1
  pub post : P r.0 (length r.1.ops)

-- a step that begins at exactly n operators, adds at most k, issues at most j numbers, and gives P
pub record Bounded {A : Type 0} (n : ℕ) (P : Post A) (k j : ℕ) (m : Lowering A) : Type 0 where
  pub run : (c : LowerCtx) → n ≡ length c.ops → Ordered c → Ran P k j c (m c)

-- what the steps give: an operator's number, records with such inputs, or anything
abbrev pub Old : Post ℕ
Old k n = k < n

abbrev pub Lows : Post Recs
Lows rs n = Low n rs

abbrev pub Any : {A : Type 0} → Post A
Any a n = Unit {0}

-- ── the laws ──

pub bind✓ : {A B : Type 0} {n k k' j j' : ℕ} {P : Post A} {Q : Post B} {m : Lowering A} {f : A → Lowering B} → Bounded n P k j m → ((a : A) (n' : ℕ) → n ≤ n' → P a n' → Bounded n' Q k' j' (f a)) → Bounded n Q (k + k') (j + j') (m >>= f)
unfolding ◌>>=◌
bind✓ {n} {k} {k'} {j} {j'} {Q} {m} {f} h g = record {
  run = λ c e ordered.
      let r = h.run c e ordered in
      let s = (g (m c).0 (length (m c).1.ops) (omega (arith, e, r.spent.kept)) r.post).run (m c).1 refl r.ordered in
      record { ordered = s.ordered; spent = record { kept = omega (arith, r.spent.kept, s.spent.kept); added = omega (arith, r.spent.added, s.spent.added); issued = omega (arith, r.spent.issued, s.spent.issued) }; post = s.post };
}

pub within : {A : Type 0} {n k k' j j' : ℕ} {P : Post A} {m : Lowering A} → Bounded n P k j m → k ≤ k' → j ≤ j' → Bounded n P k' j' m
within h a b = record {
  run = λ c e ordered.
      let r = h.run c e ordered in
      record { ordered = r.ordered; spent = record { kept = r.spent.kept; added = omega (arith, r.spent.added, a); issued = omega (arith, r.spent.issued, b) }; post = r.post };
}

pub still : (c : LowerCtx) → Spent 0 0 c c
still c = record { kept = omega arith; added = omega arith; issued = omega arith }

pub ret✓ : {A : Type 0} {n : ℕ} {P : Post A} (a : A) → P a n → Bounded n P 0 0 (ret a)
unfolding ret
ret✓ {P} a p = record { run = λ c e ordered. record { ordered = ordered; spent = still c; post = subst (λ x. P a x) e p } }

pub push✓ : {n : ℕ} {op : Recs} → Low n op → Bounded n Old 1 0 (push op)
unfolding push
push✓ {op} low = record { run = λ c e ordered. record { ordered = record { earlier = subst (λ x. Low x op) e low ∷ᵉ ordered.earlier; falling = ordered.falling }; spent = record { kept = omega arith; added = omega arith; issued = omega arith }; post = le_refl _ } }

pub copy✓ : {n : ℕ} (k : ℕ) → Bounded n Lows 0 0 (copy k)
unfolding copy
copy✓ k = record { run = λ c e ordered. record { ordered = ordered; spent = still c; post = copy_low ordered.earlier k } }

pub numbered✓ : {n : ℕ} (id : ℕ) (o : Option ℕ) → Bounded n Any 0 1 (issue (λ s. numbered id o s))
unfolding issue numbered
numbered✓ id None = record { run = λ c e ordered. record { ordered = record { earlier = ordered.earlier; falling = le_refl _ ∷ᶠ ordered.falling }; spent = record { kept = omega arith; added = omega arith; issued = omega arith }; post = tt } }
numbered✓ id (Some k) = record { run = λ c e ordered. record { ordered = ordered; spent = record { kept = omega arith; added = omega arith; issued = omega arith }; post = tt } }

pub map_var✓ : {n : ℕ} (id : ℕ) → Bounded n Any 0 1 (map_var id)
unfolding map_var issue
map_var✓ id = record { run = λ c e ordered. (numbered✓ id (lookup c.scope.vars id)).run c e ordered }

pub fresh✓ : {n : ℕ} → Bounded n Any 0 1 fresh
unfolding fresh issue
fresh✓ = record { run = λ c e ordered. record { ordered = record { earlier = ordered.earlier; falling = falling_raise (omega arith) ordered.falling }; spent = record { kept = omega arith; added = omega arith; issued = omega arith }; post = tt } }

pub upcoming✓ : {n : ℕ} → Bounded n Any 0 0 upcoming
unfolding upcoming issue
upcoming✓ = record { run = λ c e ordered. record { ordered = ordered; spent = still c; post = tt } }

pub endpoint_var✓ : {n : ℕ} (o : Option ℕ) → Bounded n Any 0 1 (endpoint_var o)
unfolding endpoint_var
endpoint_var✓ None = fresh✓
endpoint_var✓ (Some id) = map_var✓ id

pub push_source_all✓ : {n : ℕ} → Bounded n Old 1 0 push_source_all
unfolding push_source_all source
push_source_all✓ = bind✓ upcoming✓ λ bind n' le _. push✓ ([]ᵃ ∷ᵃ []ᵃ)

-- an operator before, if there is one
pub data Before (n : ℕ) : Option ℕ → Type 0 where
  nothing : Before n None
  operator : {k : ℕ} → k < n → Before n (Some k)

pub before_raise : {m n : ℕ} {o : Option ℕ} → m ≤ n → Before m o → Before n o
before_raise le nothing = nothing
before_raise le (operator lt) = operator (lt_of_lt_of_le lt le)

pub or_source_all✓ : {n : ℕ} {o : Option ℕ} → Before n o → Bounded n Old 1 0 (or_source_all o)
unfolding or_source_all
or_source_all✓ nothing = push_source_all✓
or_source_all✓ (operator lt) = within (ret✓ _ lt) (omega arith) (omega arith)
