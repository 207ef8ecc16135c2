-- Steps of the lowering that do alike on states alike: the same operators, the same next number, and variables joined place by place. Assumes nothing but the parameters: R, which joins the ids, and that R is one to one.
use Rattle.std.specs.Prelude.{◌≡◌, ℕ, Bool, cond, eqb, Option, None, Some}
use mathlib.Core.List.{List, [], ◌++◌}
use Rattle.model.specs.Lower.{Recs, LowerCtx, Lowering, ◌>>=◌, ret, push, copy, lookup, issue, numbered, map_var, fresh, upcoming, endpoint_var, in_order, source, push_source_all, or_source_all}
use Rattle.alike.specs.Relation.{Equal, equal, Option~, none~, some~, List~, []~, ◌∷~◌}

module _ (R : ℕ → ℕ → Type 0) where
  -- an id and its number
  pub data Var~ : ℕ × ℕ → ℕ × ℕ → Type 0 where
    var~ : {a b n : ℕ} → R a b → Var~ (a, n) (b, n)

  pub data Ctx~ : LowerCtx → LowerCtx → Type 0 where
    ctx~ : {ops : List Recs} {vs ws : List (ℕ × ℕ)} {number : ℕ} → List~ Var~ vs ws →
        Ctx~ (record { ops = ops; scope = record { vars = vs; next_var = number } }) (record { ops = ops; scope = record { vars = ws; next_var = number } })

  -- results that W joins, and states alike
  pub data Ran~ {A : Type 0} (W : A → A → Type 0) : A × LowerCtx → A × LowerCtx → Type 0 where
    ran~ : {a b : A} {c d : LowerCtx} → W a b → Ctx~ c d → Ran~ W (a, c) (b, d)

  pub record Action~ {A : Type 0} (W : A → A → Type 0) (m n : Lowering A) : Type 0 where
    pub run : (c d : LowerCtx) → Ctx~ c d → Ran~ W (m c) (n d)

  -- the results are the same
  abbrev pub Does~ : {A : Type 0} → Lowering A → Lowering A → Type 0
  Does~ m n = Action~ (λ a b. Equal a b) m n

  -- ── steps that look at no id ──

  module _ {A B : Type 0} {W : A → A → Type 0} {X : B → B → Type 0} where
    after~ : (k l : A → Lowering B) → ((a b : A) → W a b → Action~ X (k a) (l b)) → (x y : A × LowerCtx) → Ran~ W x y → Ran~ X (k x.0 x.1) (l y.0 y.1)
    after~ k l q x y (ran~ w e) = (q _ _ w).run _ _ e

    pub bind~ : {m n : Lowering A} {k l : A → Lowering B} → Action~ W m n → ((a b : A) → W a b → Action~ X (k a) (l b)) → Action~ X (m >>= k) (n >>= l)
    unfolding ◌>>=◌
    bind~ {m} {n} {k} {l} p q = record { run = λ c d e. after~ k l q (m c) (n d) (p.run c d e) }

  -- the same result on both sides
  module _ {A B : Type 0} {X : B → B → Type 0} {k l : A → Lowering B} (q : (a : A) → Action~ X (k a) (l a)) where
    on~ : (a b : A) → Equal a b → Action~ X (k a) (l b)
    on~ a b equal = q a

    pub with~ : {m n : Lowering A} → Does~ m n → Action~ X (m >>= k) (n >>= l)
    with~ p = bind~ p on~

  pub then~ : {A B : Type 0} {X : B → B → Type 0} {m n : Lowering A} {k l : A → Lowering B} → Does~ m n → ((a : A) → Action~ X (k a) (l a)) → Action~ X (m >>= k) (n >>= l)
  then~ p q = with~ q p

  pub gives~ : {A : Type 0} (W : A → A → Type 0) (a b : A) → W a b → Action~ W (ret a) (ret b)
  unfolding ret
  gives~ W a b w = record { run = λ c d e. ran~ w e }

  pub ret~ : {A : Type 0} (a : A) → Does~ (ret a) (ret a)
  ret~ a = gives~ (λ a b. Equal a b) a a equal

  -- the same result, made of the same thing
  pub ret_of~ : {A B : Type 0} (h : A → B) (a b : A) → Equal a b → Does~ (ret (h a)) (ret (h b))
  ret_of~ h a b equal = ret~ (h a)

  -- an action alike is one that does alike on the parts of a state
  abbrev Parts~ : {A : Type 0} → (A → A → Type 0) → Lowering A → Lowering A → Type 0
  Parts~ W m n = (ops : List Recs) (vs ws : List (ℕ × ℕ)) (number : ℕ) → List~ Var~ vs ws → Ran~ W (m (record { ops = ops; scope = record { vars = vs; next_var = number } })) (n (record { ops = ops; scope = record { vars = ws; next_var = number } }))

  by_parts~ : {A : Type 0} {W : A → A → Type 0} (m n : Lowering A) → Parts~ W m n → Action~ W m n
  by_parts~ {W} m n h = record { run = go }
    where
      go : (c d : LowerCtx) → Ctx~ c d → Ran~ W (m c) (n d)
      go c d (ctx~ v) = h _ _ _ _ v

  pub push~ : (op : Recs) → Does~ (push op) (push op)
  unfolding push
  push~ op = by_parts~ _ _ λ ops vs ws number v. ran~ equal (ctx~ v)

  pub copy~ : (k : ℕ) → Does~ (copy k) (copy k)
  unfolding copy
  copy~ k = by_parts~ _ _ λ ops vs ws number v. ran~ equal (ctx~ v)

  pub fresh~ : Does~ fresh fresh
  unfolding fresh issue
  fresh~ = by_parts~ _ _ λ ops vs ws number v. ran~ equal (ctx~ v)

  upcoming~ : Does~ upcoming upcoming
  unfolding upcoming issue
  upcoming~ = by_parts~ _ _ λ ops vs ws number v. ran~ equal (ctx~ v)

  pub push_source_all~ : Does~ push_source_all push_source_all
  unfolding push_source_all
  push_source_all~ = then~ upcoming~ λ bind. push~ (source bind [])

  pub or_source_all~ : (o : Option ℕ) → Does~ (or_source_all o) (or_source_all o)
  unfolding or_source_all
  or_source_all~ None = push_source_all~
  or_source_all~ (Some k) = ret~ k

  pub in_order~ : {ms ns : List (Lowering Recs)} → List~ (λ m n. Does~ m n) ms ns → Does~ (in_order ms) (in_order ns)
  unfolding in_order
  in_order~ []~ = ret~ []
  in_order~ (p ∷~ ps) = then~ p λ rs. then~ (in_order~ ps) λ ss. ret~ (rs ++ ss)

  -- ── the steps that look up an id: the one place where R is one to one ──

  module _ (one : (a b x y : ℕ) → R a b → R x y → eqb a x ≡ eqb b y) where
    found~ : (a b : Bool) → a ≡ b → (n : ℕ) (o p : Option ℕ) → Equal o p → Equal (cond a (Some n) o) (cond b (Some n) p)
    found~ a b e n o p equal = rw e equal

    lookup~ : {vs ws : List (ℕ × ℕ)} → List~ Var~ vs ws → (a b : ℕ) → R a b → Equal (lookup vs a) (lookup ws b)
    unfolding lookup
    lookup~ []~ a b r = equal
    lookup~ (var~ {a = x} {b = y} {n = n} q ∷~ vs) a b r = found~ (eqb x a) (eqb y b) (one x y a b q r) n _ _ (lookup~ vs a b r)

    numbered~ : (a b : ℕ) → R a b → (o p : Option ℕ) → Equal o p → Does~ (issue (λ s. numbered a o s)) (issue (λ s. numbered b p s))
    unfolding issue numbered
    numbered~ a b r None p equal = by_parts~ _ _ λ ops vs ws number v. ran~ equal (ctx~ (var~ r ∷~ v))
    numbered~ a b r (Some n) p equal = by_parts~ _ _ λ ops vs ws number v. ran~ equal (ctx~ v)

    pub map_var~ : (a b : ℕ) → R a b → Does~ (map_var a) (map_var b)
    unfolding map_var issue
    map_var~ a b r = by_parts~ _ _ λ ops vs ws number v. (numbered~ a b r (lookup vs a) (lookup ws b) (lookup~ v a b r)).run _ _ (ctx~ v)

    pub endpoint_var~ : {o p : Option ℕ} → Option~ R o p → Does~ (endpoint_var o) (endpoint_var p)
    unfolding endpoint_var
    endpoint_var~ none~ = fresh~
    endpoint_var~ (some~ r) = map_var~ _ _ r
