-- Digits that are stored from the last on, and what stands then in the part of the slice that is for them. Assumes nothing: every law is proved.
use Rattle.std.proofs.Common.{◌≡◌, sym, ◌∙◌, [], ◌∷◌, ◌++◌, ℕ, zero, suc, ◌+◌, ◌-◌, ◌/◌, ◌%◌, ◌<◌, ◌≤◌, ap, arith, add-one, append-nil, append_assoc, length, set, take, drop, length-drop}
use Rattle.std.proofs.lemmas.List.{drop-set}
use Rattle.std.proofs.Math.Seq.{drop-length, take-length, length-take-le}
use Rattle.model.specs.Text.{Bytes, tab, digit0, decimal}
use Rattle.output.specs.Wide.{Counted, tens, spelled}

-- ── the loop: k digits of v are left, before those that stand behind them in q ──

pub fill_start : (p : Bytes) (n : ℕ) → tens (length p) n ++ drop (length p) p ≡ tens (length p) n
fill_start p n = rw (drop-length p) (append-nil (tens (length p) n))

pub fill_more : (k v : ℕ) (q : Bytes) {t : Bytes} → 0 < k → k ≤ length q → tens k v ++ drop k q ≡ t → tens (k - 1) (v / 10) ++ drop (k - 1) (set q (k - 1) (digit0 + v % 10)) ≡ t
unfolding tens
fill_more zero v q some low is = absurd (omega arith)
fill_more (suc k) v q some low is =
    let less : suc k - 1 ≡ k = omega arith in
    let x : ℕ = digit0 + v % 10 in
    rw (less, drop-set q k x (omega arith), add-one k) (sym (append_assoc (tens k (v / 10)) (x ∷ []) (drop (suc k) q)) ∙ is)

pub fill_all : (k v : ℕ) {q t : Bytes} → k ≤ 0 → tens k v ++ drop k q ≡ t → q ≡ t
unfolding tens
fill_all k v z is = let none : k ≡ 0 = omega arith in rw none at is

-- ── the d bytes of a slice from `at` on, for as many digits ──

pub part_long : (p : Bytes) (at d : ℕ) → at + d ≤ length p → length (take (at + d - at) (drop at p)) ≡ d
part_long p at d f = let behind = length-drop at p in length-take-le (at + d - at) (drop at p) (omega arith) ∙ omega arith

pub all_digits : (n : ℕ) (p : Bytes) (at : ℕ) {d : ℕ} {t : Bytes} → Counted n d → at + d ≤ length p → t ≡ tens (length (take (at + d - at) (drop at p))) n → t ≡ decimal n
all_digits n p at {d} c f is = is ∙ rw (part_long p at d f, spelled c)

-- the first is a tab, and the digits stand behind it
pub behind_tab : (n d : ℕ) (part : Bytes) {t : Bytes} → Counted n d → length part ≡ d + 1 → t ≡ tens (length (take (length (set part 0 tab) - 1) (drop 1 (set part 0 tab)))) n → take 1 (set part 0 tab) ++ (t ++ drop (length (set part 0 tab) - 1) (drop 1 (set part 0 tab))) ≡ tab ∷ decimal n
behind_tab n d [] c l is = absurd (omega arith)
behind_tab n d (x ∷ part) {t} c l is =
    let less : suc (length part) - 1 ≡ length part = omega arith in
    let long : length part ≡ d = omega arith in
    let digits : t ≡ decimal n = rw (less, take-length part, long) at is ∙ rw (spelled c) in
    rw (less, drop-length part, digits) (ap (λ (s : Bytes). tab ∷ s) (append-nil (decimal n)))
