-- Clauses, arms and statements as their words have them. Assumes nothing.
use mathlib.Core.Path.{◌≡◌, refl, ap}
use Prim.Native.Nat.{ℕ, suc, ◌+◌, ◌-◌, ◌≤◌}
use native.Mathlib.Omega.{arith}
use mathlib.Core.List.{List, [], ◌∷◌, ◌++◌}
use Rattle.std.specs.Prelude.{Option, None, Some}
use lib.Dec.{eqb}
use Rattle.model.specs.Text.{Bytes}
use Rattle.model.specs.Field.{Fields}
use Rattle.model.specs.Kind.{Clause, ReadOp, statement, union_arm, clause, pattern_part, yield_item, expr}
use Rattle.model.specs.Record.{forms, children}
use Rattle.model.specs.Tree.{Tree, Trees, Forest, node, []ᵗ, ◌∷ᵗ◌, end, ◌▸◌, to_list, fold, fold_of}
use Rattle.model.specs.Lower.{Lowered, made, ◌>>=◌, ret, push, op, filter, or_source_all, map_var, optional_join, lower_match_pattern, lower_pattern, lower_expr, lower_exprs, lower_yields, lower_clause, lower_clauses, lower_arms}
use Rattle.model.specs.Lower
use Rattle.words.specs.Words.{Roomy, cell, fields_of, field_of}
use Rattle.words.specs.Held.{Held, HeldOf, RecordAt, size, size_of}
use Rattle.words.specs.Cells.{shown}
use Rattle.words.specs.Numbers.{Others, clause_number, clause_number_law}
use Rattle.words.specs.Places.{match_kind, where_kind, with_kind, return_kind, unwind_kind, call_kind, write_kind, kind_at, stmt_clauses_at, stmt_arms_at, arm_all_at, arm_clauses_at, match_optional_at, match_parts_at, unwind_var_at, call_args_at, call_yields_at}
use Rattle.lower.specs.Rep.{State}
use Rattle.lower.specs.Patterns.{parts_l}
use Rattle.words.specs.Kinds.{by_clause}
use Rattle.clauses.specs.Steps.{lower_arm}

-- ── the number of the kind ──

number_at : {sheet : Bytes} {a b : List ℕ} {i : ℕ} {k : Clause} {f : Fields (forms clause k)} → Roomy a b → RecordAt sheet a b i clause k f → cell a b i kind_at ≡ clause_number k
number_at {k = k} room h = clause_number_law _ k (shown room h).kind

-- ── a pattern's parts ──

pub pattern_parts : {n : ℕ} (ts : Trees pattern_part n) → lower_pattern ts ≡ to_list n (fold_of Lowered made ts)
unfolding lower_pattern to_list fold
pattern_parts []ᵗ = refl
pattern_parts (t ∷ᵗ ts) = rw (pattern_parts ts)

pub record IsMatch (sheet : Bytes) (a b : List ℕ) (d i : ℕ) (t : Tree clause) : Type 0 where
  pub n : ℕ
  pub parts : Trees pattern_part n
  pub many : n ≡ cell a b i match_parts_at
  pub held : HeldOf sheet a b parts (d - 1) (i + 1)
  pub sized : size t ≡ suc (size_of parts)
  pub lower : (o : Option ℕ) (s : State) → lower_clause t o s ≡ (Some (optional_join (eqb (cell a b i match_optional_at) 1) o (parts_l parts s).0 (parts_l parts s).1).0, (optional_join (eqb (cell a b i match_optional_at) 1) o (parts_l parts s).0 (parts_l parts s).1).1)

-- a `where`: its expression alone
pub record IsWhere (sheet : Bytes) (a b : List ℕ) (d i : ℕ) (t : Tree clause) : Type 0 where
  pub tree : Tree expr
  pub held : Held sheet a b tree (d - 1) (i + 1)
  pub sized : size t ≡ suc (size tree)
  pub lower : (o : Option ℕ) (s : State) → lower_clause t o s ≡ (lower_expr tree >>= λ rs. or_source_all o >>= λ input. push (filter input rs) >>= λ k. ret (Some k)) s

pub record IsUnwind (sheet : Bytes) (a b : List ℕ) (d i : ℕ) (t : Tree clause) : Type 0 where
  pub tree : Tree expr
  pub held : Held sheet a b tree (d - 1) (i + 1)
  pub sized : size t ≡ suc (size tree)
  pub lower : (o : Option ℕ) (s : State) → lower_clause t o s ≡ (or_source_all o >>= λ input. lower_expr tree >>= λ rs. map_var (cell a b i unwind_var_at) >>= λ bind. push (op ReadOp.Unwind (input, (bind, tt)) ∷ rs) >>= λ k. ret (Some k)) s

pub record IsCall (sheet : Bytes) (a b : List ℕ) (d i : ℕ) (t : Tree clause) : Type 0 where
  pub fields : Fields (forms clause Clause.Call)
  pub at : RecordAt sheet a b i clause Clause.Call fields
  pub args : Trees expr fields.1.0
  pub yields : Trees yield_item fields.1.1.0
  pub many : fields.1.0 ≡ cell a b i call_args_at
  pub yielded : fields.1.1.0 ≡ cell a b i call_yields_at
  pub held_args : HeldOf sheet a b args (d - 1) (i + 1)
  pub held_yields : HeldOf sheet a b yields (d - 1) (i + 1 + size_of args)
  pub sized : size t ≡ suc (size_of args + size_of yields)
  pub lower : (o : Option ℕ) (s : State) → lower_clause t o s ≡ (lower_exprs args >>= λ rs. lower_yields yields >>= λ ss. push (op ReadOp.ProcedureCall (o, (fields.0, (fields.1.0, (fields.1.1.0, (fields.1.1.1.0, tt))))) ∷ (rs ++ ss)) >>= λ k. ret (Some k)) s

module _ {sheet : Bytes} {a b : List ℕ} {d i : ℕ} (room : Roomy a b) where
  match_of : (line : ℕ) (f : Fields (forms clause Clause.Match)) (kids : Forest (children clause Clause.Match f)) → Held sheet a b (node clause line Clause.Match f kids) d i → IsMatch sheet a b d i (node clause line Clause.Match f kids)
  unfolding Held size fields_of field_of lower_clause lower_match_pattern ◌>>=◌ ret
  match_of line (optional, (n, u)) (ts ▸ end) hd =
      let v = shown room hd.1 in
      let e₁ : optional ≡ eqb (cell a b i match_optional_at) 1 = ap (λ (x : Fields (forms clause Clause.Match)). x.0) v.fields in
      let e₂ : n ≡ cell a b i match_parts_at = ap (λ (x : Fields (forms clause Clause.Match)). x.1.0) v.fields in
      record { n = n; parts = ts; many = e₂; held = hd.3.0; sized = omega arith; lower = λ o s. rw (e₁, pattern_parts ts) }

  pub a_match : (t : Tree clause) → Held sheet a b t d i → cell a b i kind_at ≡ match_kind → IsMatch sheet a b d i t
  unfolding clause_number
  a_match t hd e = by_clause sheet d i room (λ t. IsMatch sheet a b d i t) Clause.Match (λ line f kids hd. match_of line f kids hd) t hd e

  where_of : (line : ℕ) (f : Fields (forms clause Clause.Where)) (kids : Forest (children clause Clause.Where f)) → Held sheet a b (node clause line Clause.Where f kids) d i → IsWhere sheet a b d i (node clause line Clause.Where f kids)
  unfolding Held size lower_clause
  where_of line f ((x ∷ᵗ []ᵗ) ▸ end) hd = record { tree = x; held = hd.3.0.0; sized = omega arith; lower = λ o s. refl }

  pub a_where : (t : Tree clause) → Held sheet a b t d i → cell a b i kind_at ≡ where_kind → IsWhere sheet a b d i t
  unfolding clause_number
  a_where t hd e = by_clause sheet d i room (λ t. IsWhere sheet a b d i t) Clause.Where (λ line f kids hd. where_of line f kids hd) t hd e

  unwind_of : (line : ℕ) (f : Fields (forms clause Clause.Unwind)) (kids : Forest (children clause Clause.Unwind f)) → Held sheet a b (node clause line Clause.Unwind f kids) d i → IsUnwind sheet a b d i (node clause line Clause.Unwind f kids)
  unfolding Held size fields_of field_of lower_clause
  unwind_of line (id, u) ((x ∷ᵗ []ᵗ) ▸ end) hd =
      let e₁ : id ≡ cell a b i unwind_var_at = ap (λ (x : Fields (forms clause Clause.Unwind)). x.0) (shown room hd.1).fields in
      record { tree = x; held = hd.3.0.0; sized = omega arith; lower = λ o s. rw e₁ }

  pub an_unwind : (t : Tree clause) → Held sheet a b t d i → cell a b i kind_at ≡ unwind_kind → IsUnwind sheet a b d i t
  unfolding clause_number
  an_unwind t hd e = by_clause sheet d i room (λ t. IsUnwind sheet a b d i t) Clause.Unwind (λ line f kids hd. unwind_of line f kids hd) t hd e

  call_of : (line : ℕ) (f : Fields (forms clause Clause.Call)) (kids : Forest (children clause Clause.Call f)) → Held sheet a b (node clause line Clause.Call f kids) d i → IsCall sheet a b d i (node clause line Clause.Call f kids)
  unfolding Held size fields_of field_of lower_clause
  call_of line (procedure, (args, (yields, (optional, u)))) (es ▸ ys ▸ end) hd =
      let w = (shown room hd.1).fields in
      record {
        fields = (procedure, (args, (yields, (optional, u))));
        at = hd.1;
        args = es;
        yields = ys;
        many = ap (λ (x : Fields (forms clause Clause.Call)). x.1.0) w;
        yielded = ap (λ (x : Fields (forms clause Clause.Call)). x.1.1.0) w;
        held_args = hd.3.0;
        held_yields = hd.3.1.0;
        sized = omega arith;
        lower = λ o s. refl;
      }

  pub a_call : (t : Tree clause) → Held sheet a b t d i → cell a b i kind_at ≡ call_kind → IsCall sheet a b d i t
  unfolding clause_number
  a_call t hd e = by_clause sheet d i room (λ t. IsCall sheet a b d i t) Clause.Call (λ line f kids hd. call_of line f kids hd) t hd e

-- a clause that writes leaves all as it is
pub record IsWrite (t : Tree clause) : Type 0 where
  pub sized : size t ≡ 1
  pub lower : (o : Option ℕ) (s : State) → lower_clause t o s ≡ (o, s)

module _ (sheet : Bytes) {a b : List ℕ} (d i : ℕ) (room : Roomy a b) where
  write_of_law : (line : ℕ) (f : Fields (forms clause Clause.Write)) (kids : Forest (children clause Clause.Write f)) → Held sheet a b (node clause line Clause.Write f kids) d i → IsWrite (node clause line Clause.Write f kids)
  unfolding Held size lower_clause ret
  write_of_law line f end hd = record { sized = refl; lower = λ o s. refl }

  pub a_write : (t : Tree clause) → Held sheet a b t d i → cell a b i kind_at ≡ write_kind → IsWrite t
  unfolding clause_number
  a_write t hd e = by_clause sheet d i room (λ t. IsWrite t) Clause.Write (λ line f kids hd. write_of_law line f kids hd) t hd e

  -- the one kind that is left
  pub call_kind_law : (t : Tree clause) → Held sheet a b t d i → Others (cell a b i kind_at) (unwind_kind ∷ return_kind ∷ with_kind ∷ where_kind ∷ match_kind ∷ []) → ((cell a b i kind_at ≡ write_kind) → ⊥) → cell a b i kind_at ≡ call_kind
  unfolding Held clause_number
  call_kind_law (node clause line Clause.Match f kids) hd o w = absurd (o.0.0.0.0.1 (number_at room hd.1))
  call_kind_law (node clause line Clause.Where f kids) hd o w = absurd (o.0.0.0.1 (number_at room hd.1))
  call_kind_law (node clause line Clause.With f kids) hd o w = absurd (o.0.0.1 (number_at room hd.1))
  call_kind_law (node clause line Clause.Return f kids) hd o w = absurd (o.0.1 (number_at room hd.1))
  call_kind_law (node clause line Clause.Unwind f kids) hd o w = absurd (o.1 (number_at room hd.1))
  call_kind_law (node clause line Clause.Call f kids) hd o w = number_at room hd.1
  call_kind_law (node clause line Clause.Write f kids) hd o w = absurd (w (number_at room hd.1))

-- ── arms and statements ──

pub record IsArm (sheet : Bytes) (a b : List ℕ) (d i : ℕ) (t : Tree union_arm) : Type 0 where
  pub n : ℕ
  pub clauses : Trees clause n
  pub many : n ≡ cell a b i arm_clauses_at
  pub held : HeldOf sheet a b clauses (d - 1) (i + 1)
  pub sized : size t ≡ suc (size_of clauses)
  pub lower : (o : Option ℕ) (s : State) → lower_arm t o s ≡ (lower_clauses clauses None >>= λ below. or_source_all o >>= λ left. or_source_all below >>= λ right. push (op ReadOp.Union (left, (right, (eqb (cell a b i arm_all_at) 1, tt))) ∷ []) >>= λ both. ret (Some both)) s

pub record IsStatement (sheet : Bytes) (a b : List ℕ) (d : ℕ) (t : Tree statement) : Type 0 where
  pub n : ℕ
  pub clauses : Trees clause n
  pub n' : ℕ
  pub arms : Trees union_arm n'
  pub many : n ≡ cell a b 0 stmt_clauses_at
  pub armed : n' ≡ cell a b 0 stmt_arms_at
  pub held_clauses : HeldOf sheet a b clauses (d - 1) 1
  pub held_arms : HeldOf sheet a b arms (d - 1) (1 + size_of clauses)
  pub sized : size t ≡ 1 + size_of clauses + size_of arms
  pub deep : 1 ≤ d
  pub lower : (s : State) → Lower.lower t s ≡ lower_arms arms (lower_clauses clauses None s).0 (lower_clauses clauses None s).1

module _ {sheet : Bytes} {a b : List ℕ} (room : Roomy a b) where
  pub an_arm : {d i : ℕ} (t : Tree union_arm) → Held sheet a b t d i → IsArm sheet a b d i t
  unfolding Held size fields_of field_of lower_arm
  an_arm {d} {i} (node union_arm line k (all, (n, u)) (cs ▸ end)) hd =
      let v = shown room hd.1 in
      let e₁ : all ≡ eqb (cell a b i arm_all_at) 1 = ap (λ (x : Fields (forms union_arm tt)). x.0) v.fields in
      let e₂ : n ≡ cell a b i arm_clauses_at = ap (λ (x : Fields (forms union_arm tt)). x.1.0) v.fields in
      record { n = n; clauses = cs; many = e₂; held = hd.3.0; sized = omega arith; lower = λ o s. rw e₁ }

  pub a_statement : {d : ℕ} (t : Tree statement) → Held sheet a b t d 0 → IsStatement sheet a b d t
  unfolding Held size fields_of field_of Lower.lower ◌>>=◌
  a_statement (node statement line k (n, (n', u)) (cs ▸ arms ▸ end)) hd =
      let w = (shown room hd.1).fields in
      record {
        n = n;
        clauses = cs;
        n' = n';
        arms = arms;
        many = ap (λ (x : Fields (forms statement tt)). x.0) w;
        armed = ap (λ (x : Fields (forms statement tt)). x.1.0) w;
        held_clauses = hd.3.0;
        held_arms = hd.3.1.0;
        sized = omega arith;
        deep = hd.2;
        lower = λ s. refl;
      }
