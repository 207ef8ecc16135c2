-- Of the plan of a pair: every input is an earlier operator, in copies too; the last operator is the pair's `union`; how many operators, numbers and mapped variables there are. Assumes nothing: these are theorems with their proofs.
use Rattle.std.specs.Prelude.{ℕ, ◌+◌, ◌*◌, ◌<◌, ◌≤◌, Bool, length}
use Rattle.std.proofs.Common.{arith}
use Rattle.std.proofs.Math.Path.{refl}
use Rattle.model.specs.Kind.{ReadOp, statement}
use Rattle.model.specs.Tree.{Tree, node, end, ◌▸◌}
use Rattle.model.specs.Record.{inputs}
use Rattle.model.specs.Lower.{at, empty, forget_vars, lower, lower_union_pair, lower_pair}
use Rattle.model.specs.Plan.{mapped_recs}
use Rattle.model.specs.Call.{record_count, record_operators, record_numbers}
use Rattle.bounds.specs.Earlier.{All, []ᵃ, ◌∷ᵃ◌, Earlier, at_low}
use Rattle.bounds.specs.Bounded.{[]ᶠ, Spent, Bounded, Any, Old, bind✓, within, push✓, nothing, before_raise, or_source_all✓}
use Rattle.bounds.specs.Size.{size, size_records}
use Rattle.bounds.proofs.Clause.{lower_clauses✓, lower_arms✓}
use Rattle.bounds.proofs.Inputs.{ordered_empty}
use Rattle.bounds.specs.Counts.{Rising}
use Rattle.bounds.proofs.Counts.{falling_few, falling_rising}
use Rattle.bounds.specs.Ends.{Ending}
use Rattle.bounds.specs.Root.{Newest, Leads, Always, any, then, pushes}

-- with no variables the mapped numbers are in order, whatever the next one is
forget_vars✓ : {n : ℕ} → Bounded n Any 0 0 forget_vars
unfolding forget_vars
forget_vars✓ = record { run = λ c e ordered. record { ordered = record { earlier = ordered.earlier; falling = []ᶠ }; spent = record { kept = omega arith; added = omega arith; issued = omega arith }; post = tt } }

-- as much as the sides alone may add: a `stmt` adds nothing itself, so there is room for a source for each side and for the `union`
pub lower_union_pair✓ : {n : ℕ} (left right : Tree statement) (all : Bool) → Bounded n Old (record_operators * (size left + size right)) (record_numbers * (size left + size right)) (lower_union_pair left right all)
unfolding lower_union_pair lower size
lower_union_pair✓ (node statement line k f (cs ▸ arms ▸ end)) (node statement line' k' f' (ds ▸ brms ▸ end)) all =
    within
    (bind✓ (bind✓ (lower_clauses✓ cs nothing) λ head n le before. lower_arms✓ arms before) λ left_root n₁ le₁ before₁.
    bind✓ forget_vars✓ λ forgotten n₂ le₂ _.
    bind✓ (bind✓ (lower_clauses✓ ds nothing) λ head n le before. lower_arms✓ brms before) λ right_root n₃ le₃ before₃.
    bind✓ (or_source_all✓ (before_raise le₃ (before_raise le₂ before₁))) λ l n₄ le₄ lt₄.
    bind✓ (or_source_all✓ (before_raise le₄ before₃)) λ r n₅ le₅ lt₅.
    push✓ ((omega arith ∷ᵃ lt₅ ∷ᵃ []ᵃ) ∷ᵃ []ᵃ))
    (omega arith) (omega arith)

union_last : (left right : Tree statement) (all : Bool) → Leads Always (λ n ops. Newest (Ending.Union all) n ops) (lower_union_pair left right all)
unfolding lower_union_pair
union_last left right all = then any λ left_root. then any λ forgotten. then any λ right_root. then any λ l. then any λ r. pushes ReadOp.Union _ _

module _ (left right : Tree statement) (all : Bool) where
  -- ── inputs ──

  pub pair_earlier : Earlier (lower_pair left right all).ops
  unfolding lower_pair empty
  pair_earlier = ((lower_union_pair✓ left right all).run empty refl ordered_empty).ordered.earlier

  -- of every operator k, every record r, the records of its copies among them, and every number n under input, left or right in r
  pub pair_inputs_earlier : (k : ℕ) → All (λ r. All (λ n. n < k) (inputs r)) (at (lower_pair left right all).ops k)
  pair_inputs_earlier k = at_low pair_earlier k

  -- ── the last operator ──

  -- the result is the number of the last operator, which is the pair's own `union`
  pub pair_ends : Newest (Ending.Union all) (lower_union_pair left right all empty).0 (lower_pair left right all).ops
  unfolding lower_pair
  pair_ends = (union_last left right all).run empty tt

  -- ── counts ──

  pair_spent : Spent (record_operators * (size left + size right)) (record_numbers * (size left + size right)) empty (lower_pair left right all)
  unfolding lower_pair empty
  pair_spent = ((lower_union_pair✓ left right all).run empty refl ordered_empty).spent

  pub pair_operators_few : length (lower_pair left right all).ops ≤ record_operators * (record_count left + record_count right)
  unfolding record_count empty
  pair_operators_few = omega (arith, pair_spent.added, size_records left, size_records right)

  pub pair_numbers_few : (lower_pair left right all).scope.next_var ≤ record_numbers * (record_count left + record_count right)
  unfolding record_count empty
  pair_numbers_few = omega (arith, pair_spent.issued, size_records left, size_records right)

  -- ── mapped variables ──

  pub pair_mapped_rising : Rising 0 (lower_pair left right all).scope.next_var (mapped_recs (lower_pair left right all).scope.vars)
  unfolding lower_pair empty
  pair_mapped_rising = falling_rising ((lower_union_pair✓ left right all).run empty refl ordered_empty).ordered.falling

  pub pair_mapped_few : length (lower_pair left right all).scope.vars ≤ (lower_pair left right all).scope.next_var
  unfolding lower_pair empty
  pair_mapped_few = falling_few ((lower_union_pair✓ left right all).run empty refl ordered_empty).ordered.falling
