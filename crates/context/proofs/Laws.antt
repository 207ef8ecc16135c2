-- What the small steps of the lowering's state do to the words. Assumes nothing.
use mathlib.Core.Path.{◌≡◌, refl, sym, ◌∙◌}
use mathlib.Core.List.{List, ◌++◌, append-nil}
use Rattle.std.specs.Prelude.{Option, None, Some}
use Prim.Native.Nat.{ℕ, zero, suc, ◌+◌, ◌*◌, ◌-◌, ◌≤◌, ◌<◌}
use native.Mathlib.Numerals.{add-one, sub-one}
use native.Mathlib.Omega.{arith}
use lib.ListN.{length, take, drop, get_or, set}
use lib.Seq.{take_all, get_or-set_same, get_or-set_other, drop-set-lt, drop_at, length-take-le, get_or-take}
use lib.ListN.{get_or-append, length-drop, drop_of_length-le}
use borrow.Author.Tests.{eq-eqb, ne_eqb}
use Rattle.model.specs.Lower.{lookup, issue, map_var, numbered, fresh, endpoint_var}
use Rattle.context.specs.Tables.{vars_of, named_words, number_word, Indexed, Issued, NoteWritten, Numbers, vars_at}
use Rattle.context.specs.declared.LowerCtx.{LowerCtx}
use Rattle.context.specs.declared.Numbered.{Numbered}
use Rattle.model.specs.Call.{work_words}

-- ── looking up ──

abbrev pub from : List ℕ → ℕ → ℕ → Option ℕ
from vs k id = lookup (vars_of k vs) id

pub hit_last : (vs : List ℕ) (k id : ℕ) → get_or vs (k * named_words) 0 ≡ id → Some (get_or vs (k * named_words + number_word) 0) ≡ from vs (suc k) id
unfolding vars_of lookup
hit_last vs k id e = rw (eq-eqb _ _ e)

pub hit : (vs : List ℕ) (k id : ℕ) → ((k ≡ 0) → ⊥) → get_or vs ((k - 1) * named_words) 0 ≡ id → Some (get_or vs ((k - 1) * named_words + number_word) 0) ≡ from vs k id
hit vs zero id h e = absurd (h refl)
hit vs (suc k) id h e = rw sub-one (hit_last vs k id (rw sub-one at e))

pub pass : (vs : List ℕ) (k id : ℕ) → ((get_or vs (k * named_words) 0 ≡ id) → ⊥) → from vs (suc k) id ≡ from vs k id
unfolding vars_of lookup
pass vs k id e = rw (ne_eqb _ _ e)

pub miss : (vs : List ℕ) (k id : ℕ) → ((k ≡ 0) → ⊥) → ((get_or vs ((k - 1) * named_words) 0 ≡ id) → ⊥) → from vs k id ≡ from vs (k - 1) id
miss vs zero id h e = absurd (h refl)
miss vs (suc k) id h e = rw sub-one (pass vs k id (rw sub-one at e))

pub nothing : (vs : List ℕ) (k id : ℕ) → k ≡ 0 → None ≡ from vs k id
unfolding vars_of lookup
nothing vs k id e = rw e

-- ── issuing ──

pub vars_same : (n : ℕ) (vs vs' : List ℕ) → ((q : ℕ) → q < n * named_words → get_or vs' q 0 ≡ get_or vs q 0) → vars_of n vs' ≡ vars_of n vs
unfolding vars_of
vars_same zero vs vs' h = refl
vars_same (suc n) vs vs' h = rw (h (n * named_words) (omega arith), h (n * named_words + number_word) (omega arith), vars_same n vs vs' (λ q l. h q (omega arith)))

pub old_var : (c : LowerCtx) (vs : List ℕ) (id n : ℕ) {r : Option ℕ} → r ≡ lookup (vars_of c.mapped vs) id → r ≡ Some n → Issued (map_var id) c vs vs (record { number = n; ctx = c })
unfolding map_var issue numbered
old_var c vs id n h e = let found : lookup (vars_of c.mapped vs) id ≡ Some n = sym h ∙ e in record { is = λ ops. rw found; ops = refl; low = omega arith; met = omega arith; index = λ x. x }

-- ── notes ──

pub notes : (rest : List ℕ) (place v : ℕ) → place < vars_at → work_words ≤ length rest → NoteWritten place v rest (set rest place v)
notes rest place v h l = record { noted = record { here = get_or-set_same rest place v 0 (omega arith); other = λ q _ e. get_or-set_other rest place q v 0 e }; vars = drop-set-lt vars_at rest place v h }

-- the variables' words, as a part behind the notes
module _ (rest : List ℕ) (vs' : List ℕ) (l : work_words ≤ length rest) where
  pub part_drop : drop vars_at (take vars_at rest ++ vs') ≡ vs'
  part_drop = drop_at (take vars_at rest) vs' vars_at (length-take-le vars_at rest (omega arith))

  pub part_note : (q : ℕ) → q < vars_at → get_or (take vars_at rest ++ vs') q 0 ≡ get_or rest q 0
  part_note q h = get_or-append (take vars_at rest) vs' 0 q (rw (length-take-le vars_at rest (omega arith)) h) ∙ get_or-take vars_at rest q 0 h

pub index_part : (m n : ℕ) (rest : List ℕ) → n ≡ length rest - vars_at → Indexed m (drop vars_at rest) → Indexed m (take n (drop vars_at rest))
index_part m n rest en x = rw (take_all n (drop vars_at rest) (rw (length-drop, en) (omega arith))) x

pub number_law : (id place n : ℕ) (c : LowerCtx) (rest vs' rest' : List ℕ) (r : Numbered) → work_words ≤ length rest → n ≡ length rest - vars_at → Issued (map_var id) c (take n (drop vars_at rest)) vs' r → NoteWritten place r.number (take vars_at rest ++ (vs' ++ drop n (drop vars_at rest))) rest' → Numbers (map_var id) place c rest rest' r
number_law id place n c rest vs' rest' r l en i k =
    let h : length (drop vars_at rest) ≤ n = rw (length-drop, en) (omega arith) in
    let e₁ : take n (drop vars_at rest) ≡ drop vars_at rest = take_all n (drop vars_at rest) h in
    let e₂ : vs' ++ drop n (drop vars_at rest) ≡ vs' = rw (drop_of_length-le (drop vars_at rest) h) (append-nil vs') in
    let k' : NoteWritten place r.number (take vars_at rest ++ vs') rest' = rw e₂ at k in
    let i' : Issued (map_var id) c (drop vars_at rest) vs' r = rw e₁ at i in
    let e : drop vars_at rest' ≡ vs' = k'.vars ∙ part_drop rest vs' l in
    record { issued = rw e i'; noted = record { here = k'.noted.here; other = λ q h x. k'.noted.other q h x ∙ part_note rest vs' l q h } }

pub unnamed_law : (b : Option ℕ) (place : ℕ) (c : LowerCtx) (rest rest' : List ℕ) (r : Numbered) → b ≡ None → (r.number ≡ c.numbers) × (r.ctx.ops ≡ c.ops) × (r.ctx.numbers ≡ c.numbers + 1) × (r.ctx.mapped ≡ c.mapped) → NoteWritten place r.number rest rest' → Numbers (endpoint_var b) place c rest rest' r
unfolding endpoint_var fresh issue
unnamed_law b place c rest rest' r z f n =
    rw z (record { issued = record { is = λ ops. rw (n.vars, f.0, f.2, f.3, add-one); ops = f.1; low = omega (arith, f.2); met = omega (arith, f.3); index = λ x. rw (n.vars, f.3) x }; noted = n.noted })

pub named_law : (b : Option ℕ) (id place : ℕ) (c : LowerCtx) (rest rest' : List ℕ) (r : Numbered) → b ≡ Some id → Numbers (map_var id) place c rest rest' r → Numbers (endpoint_var b) place c rest rest' r
unfolding endpoint_var
named_law b id place c rest rest' r z n = rw z n
