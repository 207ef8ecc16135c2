-- A variable that has no number yet gets its words and its place in the index. Assumes nothing.
use mathlib.Core.Path.{◌≡◌, refl, ◌∙◌}
use mathlib.Core.List.{List}
use Rattle.std.specs.Prelude.{None}
use Prim.Native.Nat.{ℕ, ◌+◌, ◌*◌, ◌≤◌, ◌<◌}
use native.Mathlib.Numerals.{add-one}
use native.Mathlib.Omega.{arith}
use lib.ListN.{length, get_or, set, length-set}
use lib.Seq.{get_or-set_same, get_or-set_other}
use Rattle.model.specs.Lower.{lookup, issue, map_var, numbered}
use Rattle.context.specs.Tables.{vars_of, Entered, Issued, var_words, named_words, number_word, max_vars}
use Rattle.context.specs.declared.LowerCtx.{LowerCtx}
use Rattle.context.proofs.Laws.{vars_same}

module _ (c : LowerCtx) (vs vs₁ : List ℕ) (id : ℕ) (h : c.mapped < max_vars) (l : var_words ≤ length vs) (d : Entered c.mapped id vs vs₁) where
  abbrev vs' : List ℕ
  vs' = set (set vs₁ (c.mapped * named_words) id) (c.mapped * named_words + number_word) c.numbers

  abbrev n : ℕ
  n = c.mapped

  id_here : get_or vs' (n * named_words) 0 ≡ id
  id_here = get_or-set_other (set vs₁ (n * named_words) id) (n * named_words + number_word) (n * named_words) c.numbers 0 (omega arith) ∙ get_or-set_same vs₁ (n * named_words) id 0 (rw d.long (omega arith))

  number_here : get_or vs' (n * named_words + number_word) 0 ≡ c.numbers
  number_here = get_or-set_same (set vs₁ (n * named_words) id) (n * named_words + number_word) c.numbers 0 (rw (length-set, d.long) (omega arith))

  other : (q : ℕ) → ((q ≡ n * named_words) → ⊥) → ((q ≡ n * named_words + number_word) → ⊥) → get_or vs' q 0 ≡ get_or vs₁ q 0
  other q e₁ e₂ = get_or-set_other (set vs₁ (n * named_words) id) (n * named_words + number_word) q c.numbers 0 e₂ ∙ get_or-set_other vs₁ (n * named_words) q id 0 e₁

  below : (q : ℕ) → q < n * named_words → get_or vs' q 0 ≡ get_or vs q 0
  below q g = other q (omega arith) (omega arith) ∙ d.vars q (omega arith)

  pub new_var : lookup (vars_of n vs) id ≡ None → Issued (map_var id) c vs vs' (record { number = c.numbers; ctx = record { ops = c.ops; numbers = c.numbers + 1; mapped = c.mapped + 1 } })
  unfolding map_var issue numbered vars_of
  new_var e =
      let z : vars_of n vs' ≡ vars_of n vs = vars_same n vs vs' below in
      record {
        is = λ ops. rw (e, add-one n, add-one c.numbers, id_here, number_here, z);
        ops = refl;
        low = omega arith;
        met = omega arith;
        index = λ _. d.index vs' (λ j g. below (j * named_words) (omega arith)) id_here (λ q g. other q (omega arith) (omega arith));
      }
