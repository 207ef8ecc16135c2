-- Where both passes over a clause have notes, and where they have none yet. Assumes nothing.
use Rattle.std.specs.Prelude.{ℕ, suc, ◌+◌, ◌≤◌, ◌<◌, ◌∷◌}
use Rattle.std.proofs.Common.{le_refl, arith, inl, inr, ⊎_elim}
use Rattle.words.specs.Words.{max_records}
use Rattle.context.specs.Tables.{second_pass}
use Rattle.lower.specs.Rep.{Written, Sub}
use Rattle.lower.specs.Clauses.{both_passes, BothBlank}
use Rattle.lower.specs.State.{sub_more, sub_then, sub_within, blank_within, blank_before, blank_behind}

-- ── the notes are among others ──

pub sub_both : {W : Written} {lo hi : ℕ} → Sub W (both_passes lo hi W)
sub_both {W} {lo} {hi} = sub_then (sub_more (second_pass + lo, second_pass + hi) W) (sub_more (lo, hi) ((second_pass + lo, second_pass + hi) ∷ W))

-- notes of the first pass alone
pub sub_first : {W : Written} {x y lo hi : ℕ} → lo ≤ x → y ≤ hi → Sub ((x, y) ∷ W) (both_passes lo hi W)
sub_first l h = sub_within l h sub_both

-- a range inside the second one adds nothing
pub sub_second : {W U : Written} {w : ℕ × ℕ} {x y lo hi : ℕ} → lo ≤ x → y ≤ hi → Sub W (w ∷ (lo, hi) ∷ U) → Sub ((x, y) ∷ W) (w ∷ (lo, hi) ∷ U)
sub_second {W} {U} {w} {x} {y} {lo} {hi} l h p = record { at = λ q i. ⊎_elim (λ (z : (x ≤ q) × (q < y)). inr (inl (let u = z.0 in omega arith, let v = z.1 in omega arith))) (λ z. p.at q z) i }

-- two ranges one after another
pub sub_turns : {W : Written} (i j e : ℕ) → i ≤ j → j ≤ e → Sub (both_passes (suc j) (suc e) (both_passes (suc i) (suc j) W)) (both_passes (suc i) (suc e) W)
sub_turns i j e l l' = sub_within (omega arith) (omega arith) (sub_second (omega arith) (omega arith) (sub_within (omega arith) (omega arith) (sub_second (omega arith) (omega arith) sub_both)))

-- from the record before on
pub sub_before : {W : Written} (i e : ℕ) → Sub (both_passes (suc (i + 1)) (suc e) W) (both_passes (suc i) (suc e) W)
sub_before i e = sub_within (omega arith) (omega arith) (sub_second (omega arith) (omega arith) sub_both)

-- ── there are none ──

pub both_within : {W : Written} {lo hi x y : ℕ} → lo ≤ x → y ≤ hi → BothBlank W lo hi → BothBlank W x y
both_within l h p = record { first = blank_within l h p.first; second = blank_within (omega arith) (omega arith) p.second }

pub both_next : {W : Written} (i e : ℕ) → BothBlank W (suc i) (suc e) → BothBlank W (suc (i + 1)) (suc e)
both_next i e p = both_within (omega arith) (le_refl _) p

-- what is behind stays blank
pub both_behind : {W : Written} (i j e : ℕ) → i ≤ j → j ≤ e → e ≤ max_records → BothBlank W (suc i) (suc e) → BothBlank (both_passes (suc i) (suc j) W) (suc j) (suc e)
both_behind i j e l l' h p = record {
  first = blank_behind (omega arith) (blank_before (omega arith) (blank_within (omega arith) (omega arith) p.first));
  second = blank_behind (omega arith) (blank_behind (omega arith) (blank_within (omega arith) (omega arith) p.second));
}
