-- Expressions gone over from record to record: what is below one comes next, before those behind it. Assumes nothing: every law is proved.
use mathlib.Core.Path.{◌≡◌, refl, ap, ◌∙◌}
use Prim.Native.Nat.{ℕ, ◌+◌, ◌-◌, ◌≤◌, ◌<◌}
use native.Mathlib.Omega.{arith}
use mathlib.Core.List.{List, ◌∷◌, ◌++◌, append_assoc}
use Rattle.model.specs.Text.{Bytes}
use Rattle.model.specs.Kind.{expr}
use Rattle.model.specs.Record.{spell_rec, spell_recs}
use Rattle.model.specs.Lower.{Recs, expr_head}
use Rattle.output.specs.declared.Page.{Page}
use Rattle.output.specs.Page.{Puts}
use Rattle.output.specs.Writes.{◌⨾◌}
use Rattle.words.specs.Words.{Roomy, cell, max_records}
use Rattle.words.specs.Held.{size}
use Rattle.words.specs.Fits.{tree_fits}
use Rattle.words.specs.Count.{count_at, Ends}
use Rattle.words.specs.Places.{kind_at, pat_kind}
use Rattle.context.specs.Read.{note_of}
use Rattle.lower.specs.Render.{Notes, render}
use Rattle.lower.specs.Shows.{shift}
use Rattle.plan_sheet.specs.Due.{noted, ExprAt, Line, One, Carried, carried_recs, carried_end, Many, many_text, WroteLine}
use Rattle.plan_sheet.specs.Due
use Rattle.plan_sheet.proofs.DueLaws.{one_there, line_long, Made, Still, Going, split, joined, deeper, spell_append}
use Rattle.plan_sheet.proofs.CycleLaws.{one_at, kid_parts}

-- ── how many are due ──

line_on : {sheet : Bytes} {a b : List ℕ} {i j : ℕ} {recs : Recs} → Line sheet a b i recs j → i ≤ j
line_on (Line.bare h) = omega arith
line_on (Line.named h) = omega arith
line_on (Line.keyed h) = omega arith
line_on (Line.aliased h) = omega arith

-- each has a record of its own
pub list_few : {sheet : Bytes} {a b : List ℕ} {N : Notes} {first below left n i : ℕ} → Carried sheet a b N first below left n i → (n ≡ 0 → ⊥) → i + n ≤ max_records
list_few Due.none z = absurd (z refl)
list_few {sheet} {a} {b} {left = left} (Due.more {n = n} recs j l t h u Due.none) z = let p = tree_fits sheet a b t left j h in omega (arith, line_on l, p.0, p.1)
list_few {sheet} {a} {b} {left = left} {i = i} (Due.more recs j l t h u (Due.more {n = n} recs' j' l' t' h' u' c)) z =
    let p = tree_fits sheet a b t left j h in
    let q = list_few (Due.more recs' j' l' t' h' u' c) (λ e. omega (arith, e)) in
    omega (arith, line_on l, p.0, q)

-- the record behind an expression is a later one
pub behind_later : {sheet : Bytes} {a b os rest : List ℕ} {below base left n i next : ℕ} {p q : Page} → (n ≡ 0 → ⊥) → Many sheet a b os rest below base left n i → WroteLine sheet a b i p next q → i ≤ next
behind_later z h w = let s = split z h in let e = (w s.recs s.j s.line).0 in omega (arith, line_on s.line, e)

pub ends_later : {sheet : Bytes} {a b os rest : List ℕ} {below base left i last : ℕ} → One sheet a b os rest below base left i → Ends a b i last → i < last
ends_later {sheet} {a} {b} {left = left} {i = i} h e = let p = tree_fits sheet a b h.tree left i h.held in let q = e.each sheet expr left h.tree h.held in omega (arith, p.0, q)

-- ── one turn ──

module _ {sheet : Bytes} {a b : List ℕ} (N : Notes) (first below : ℕ) where
  -- they may be deeper
  list_deeper : {d e n i : ℕ} → d ≤ e → (c : Carried sheet a b N first below d n i) → Made sheet a b N first below e n i (λ A. carried_recs A c) (carried_end c)
  unfolding carried_recs carried_end
  list_deeper l Due.none = record { list = Due.none; recs_are = λ A. refl; stop_is = refl }
  list_deeper {d} {e} l (Due.more recs j line t h u c) =
      let m = list_deeper l c in
      record {
        list = Due.more recs j line t (deeper sheet a b t d e j l h) u m.list;
        recs_are = λ A. ap (λ (r : Recs). recs ++ (render N A t ++ r)) (m.recs_are A);
        stop_is = m.stop_is;
      }

module _ {sheet : Bytes} {a b os rest : List ℕ} {below base left : ℕ} (room : Roomy a b) where
  -- the first of those that are left is put but for what is below it, which comes next
  module _ {m at next k number : ℕ} {p q r : Page} (some : m ≡ 0 → ⊥) (line : WroteLine sheet a b at p next q) (count : k ≡ count_at a b next) (other : cell a b next kind_at ≡ pat_kind → ⊥) (noted_is : number ≡ note_of rest base next) (head : (x : ExprAt sheet a b next) → Puts (spell_rec (expr_head number x.kind x.fields)) q r) where
    step_below : {n i : ℕ} {start : Page} (h : Many sheet a b os rest below base left n i) → Still h start m at p → Still h start (m - 1 + k) (next + 1) r
    unfolding spell_recs
    step_below {start = start} h g =
        let N = shift (noted rest) base in
        let A = g.others.ops in
        let s = split some g.others in
        let e = line s.recs s.j s.line in
        let o : One sheet a b os rest below base left next = record { first = g.others.first; ops = A; tabled = g.others.tabled; tree = s.tree; held = rw e.0 s.held; under = s.under } in
        let kids = kid_parts room count other o in
        let below-it = list_deeper N g.others.first below {d = left - 1} {e = left} (omega arith) kids.list in
        let stop : carried_end below-it.list ≡ s.j + size s.tree = below-it.stop_is ∙ kids.stop ∙ ap (λ (x : ℕ). x + size s.tree) e.0 in
        let behind_it : Made sheet a b N g.others.first below left (m - 1) (s.j + size s.tree) (λ A. carried_recs A s.others) (carried_end s.others) = record { list = s.others; recs_are = λ A. refl; stop_is = refl } in
        let then_it : Made sheet a b N g.others.first below left (m - 1) (carried_end below-it.list) (λ A. carried_recs A s.others) (carried_end s.others) = rw stop behind_it in
        let both = joined N g.others.first below left below-it then_it in
        let recs : render N A s.tree ≡ expr_head number (one_at o).kind (one_at o).fields ∷ carried_recs A kids.list = rw (← noted_is) at (kids.recs A) in
        let due : m - 1 + k ≡ k + (m - 1) = omega arith in
        rw due (record {
          others = record { first = g.others.first; ops = A; tabled = g.others.tabled; list = both.list };
          stop = both.stop_is ∙ s.stop ∙ g.stop;
          text = λ x put.
              let rest_put : Puts (spell_recs (carried_recs A kids.list) ++ spell_recs (carried_recs A s.others)) r x = rw (both.recs_are A, spell_append (carried_recs A kids.list) (carried_recs A s.others)) at put in
              let expr_put : Puts (spell_rec (expr_head number (one_at o).kind (one_at o).fields) ++ (spell_recs (carried_recs A kids.list) ++ spell_recs (carried_recs A s.others))) q x = head (one_at o) ⨾ rest_put in
              g.text x (rw (s.text, recs, append_assoc (spell_rec (expr_head number (one_at o).kind (one_at o).fields)) (spell_recs (carried_recs A kids.list)) (spell_recs (carried_recs A s.others))) (e.1 ⨾ expr_put));
        })

    pub again_below : {n i : ℕ} {start : Page} → Going sheet a b os rest below base left n i start m at p → Going sheet a b os rest below base left n i start (m - 1 + k) (next + 1) r
    again_below g =
        record {
          some = (step_below g.some (record { others = g.some; stop = refl; text = λ q r. r })).others;
          each = λ h. step_below h (g.each h);
          long = (head (one_at (one_there some g.some line))).long ∙ line_long some g.some line ∙ g.long;
        }
