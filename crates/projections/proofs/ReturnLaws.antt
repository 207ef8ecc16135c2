-- A `return`: both lowerings of its items, and what trails it. Assumes nothing.
use mathlib.Core.Path.{◌≡◌, sym, ap, subst, ◌∙◌}
use Prim.Native.Nat.{ℕ, suc, ◌+◌, ◌-◌, ◌≤◌}
use native.Mathlib.Omega.{arith}
use mathlib.Core.List.{List, ◌∷◌}
use Rattle.std.specs.Prelude.{Some, Option}
use lib.Dec.{eqb}
use Rattle.model.specs.Text.{Bytes}
use Rattle.model.specs.Kind.{clause, projection}
use Rattle.model.specs.Tree.{Tree}
use Rattle.model.specs.Lower.{lower_clause}
use Rattle.words.specs.Words.{Roomy, cell, max_records}
use Rattle.words.specs.Held.{Held, HeldMany, size, size_of}
use Rattle.words.specs.Places.{items_at, return_distinct_at}
use Rattle.context.specs.Tables.{second_pass, deepest}
use Rattle.lower.specs.Side.{side}
use Rattle.lower.specs.Rep.{State, Mem, Written, Sub, Blank, Rep, RoomFor}
use Rattle.lower.specs.Clauses.{MovedTwice, both_passes, BothBlank, Leaves, LowersClause}
use Rattle.lower.specs.State.{sub_within, blank_within, blank_before, blank_behind, to_then, to_wider}
use Rattle.projections.specs.Promises.{SomeTail, LowersTail, LowersPass, first_l, second_l}
use Rattle.projections.specs.Asked.{ReturnAsked}
use Rattle.projections.specs.Room.{twice_then}
use Rattle.projections.specs.Room
use Rattle.projections.specs.Passes.{sub_both, sub_second}
use Rattle.projections.proofs.Opened.{IsReturn, a_return}

-- the notes of both passes and of what trails are among the clause's own
return_sub : (i j p q e : ℕ) (W : Written) → i + 1 ≤ j → j ≡ p → p ≡ q → p ≤ e → Sub ((0 + suc q, 0 + suc e) ∷ (second_pass + suc (i + 1), second_pass + suc p) ∷ (0 + suc (i + 1), 0 + suc j) ∷ W) (both_passes (suc i) (suc e) W)
return_sub i j p q e W l₁ e₁ e₂ l₂ = sub_within (omega arith) (omega arith) (sub_second (omega arith) (omega arith) (sub_within (omega arith) (omega arith) sub_both))

-- where each lowering finds no notes
first_blank : {W : Written} (i j e : ℕ) → j ≤ e → BothBlank W (suc i) (suc e) → Blank W (0 + suc (i + 1)) (0 + suc j)
first_blank i j e l bl = blank_within (omega arith) (omega arith) bl.first

second_blank : {W : Written} (i j p e : ℕ) → j ≤ max_records → p ≤ e → BothBlank W (suc i) (suc e) → Blank ((0 + suc (i + 1), 0 + suc j) ∷ W) (second_pass + suc (i + 1)) (second_pass + suc p)
second_blank i j p e l l' bl = blank_behind (omega arith) (blank_within (omega arith) (omega arith) bl.second)

tail_blank : {W : Written} (i j p q e : ℕ) → i + 1 ≤ j → j ≡ p → p ≡ q → e ≤ max_records → BothBlank W (suc i) (suc e) → Blank ((second_pass + suc (i + 1), second_pass + suc p) ∷ (0 + suc (i + 1), 0 + suc j) ∷ W) (0 + suc q) (0 + suc e)
tail_blank i j p q e l e₁ e₂ h bl = blank_before (omega arith) (blank_behind (omega arith) (blank_within (omega arith) (omega arith) bl.first))

module _ {sheet : Bytes} {a b : List ℕ} {d i : ℕ} {current : Option ℕ} {m : Mem} (room : Roomy a b) (g : ReturnAsked sheet a b d i current m) where
  pub return_items : {n : ℕ} → n ≡ cell a b i items_at → HeldMany sheet a b projection n (d - 1) (i + 1)
  return_items en = let v = a_return room g.held.tree g.held.is g.asked.kind in rw (en ∙ sym v.counted) (record { trees = v.items; are = v.held_items })

  module _ {n j k₁ : ℕ} {m₁ : Mem} (en : n ≡ cell a b i items_at) (p : LowersPass sheet a b n (d - 1) 0 (i + 1) j k₁ (first_l n current) m m₁) where
    first_as : (x : ℕ) → x ≡ cell a b i items_at → LowersPass sheet a b x (d - 1) 0 (i + 1) j k₁ (first_l x current) m m₁
    first_as x e = subst (λ (z : ℕ). LowersPass sheet a b z (d - 1) 0 (i + 1) j k₁ (first_l z current) m m₁) (en ∙ sym e) p

    first_end : (t : Tree clause) (v : IsReturn sheet a b d i t) → j ≡ i + 1 + size_of v.items
    first_end t v = (first_as v.n v.counted).next v.items v.held_items

    -- there is room for the second
    pub room_second : {d' : ℕ} → d' ≤ deepest → RoomFor d' (i + 1) m₁
    room_second l =
        let r = g.asked.ready in
        let low = Room.low g.asked.tree in
        record { few = omega (arith, r.few, p.few, p.here); low = omega (arith, r.low, p.fresh, p.here); met = omega (arith, r.met, p.met, p.here); here = omega arith; in_ops = rw p.in_ops r.in_ops; in_rest = rw p.in_rest r.in_rest; index = p.index r.index }

    module _ {x j₂ k₂ : ℕ} {m₂ : Mem} (ex : x ≡ cell a b i return_distinct_at) (q : LowersPass sheet a b n (d - 1) second_pass (i + 1) j₂ k₂ (second_l n (eqb x 1) k₁) m₁ m₂) where
      second_as : (y : ℕ) → y ≡ cell a b i items_at → LowersPass sheet a b y (d - 1) second_pass (i + 1) j₂ k₂ (second_l y (eqb (cell a b i return_distinct_at) 1) k₁) m₁ m₂
      second_as y e =
          subst (λ (z : ℕ). LowersPass sheet a b z (d - 1) second_pass (i + 1) j₂ k₂ (second_l z (eqb (cell a b i return_distinct_at) 1) k₁) m₁ m₂) (en ∙ sym e)
          (subst (λ (z : ℕ). LowersPass sheet a b n (d - 1) second_pass (i + 1) j₂ k₂ (second_l n (eqb z 1) k₁) m₁ m₂) ex q)

      second_end : (t : Tree clause) (v : IsReturn sheet a b d i t) → j₂ ≡ i + 1 + size_of v.items
      second_end t v = (second_as v.n v.counted).next v.items v.held_items

      both_end : j ≡ j₂
      both_end = let v = a_return room g.held.tree g.held.is g.asked.kind in first_end g.held.tree v ∙ sym (second_end g.held.tree v)

      pub return_moved : MovedTwice i j₂ m m₂
      return_moved =
          let e = both_end in
          record { up = omega (arith, q.up); here = q.here; grow = omega (arith, p.grow, q.grow); few = omega (arith, p.few, q.few, p.up); low = omega (arith, p.fresh, q.fresh, p.up); met = omega (arith, p.met, q.met, p.up); in_ops = q.in_ops ∙ p.in_ops; in_rest = q.in_rest ∙ p.in_rest; index = λ z. q.index (p.index z) }

      pub return_tail : SomeTail a b (d - 1) i j₂
      return_tail = let v = a_return room g.held.tree g.held.is g.asked.kind in rw (second_end g.held.tree v) (record { sheet = sheet; tail = v.tail })

      module _ {e k : ℕ} {m₃ : Mem} (tl : LowersTail a b (d - 1) k₂ i j₂ e k m₂ m₃) where
        tail_as : (t : Tree clause) (v : IsReturn sheet a b d i t) → LowersTail a b (d - 1) k₂ i (i + 1 + size_of v.items) e k m₂ m₃
        tail_as t v = rw (second_end t v) at tl

        return_next : (t : Tree clause) → Held sheet a b t d i → e ≡ i + size t
        return_next t hd =
            let v = a_return room t hd g.asked.kind in
            let x = (tail_as t v).next sheet v.tail in
            let y = v.sized in
            omega arith

        return_run : {first : ℕ} (t : Tree clause) → Held sheet a b t d i → (W : Written) (s : State) → Rep (side sheet a b first) W s m → BothBlank W (suc i) (suc e) → Leaves (side sheet a b first) W (λ s. lower_clause t current s) (Some k) (suc i) (suc e) s m m₃
        return_run t hd W s r bl =
            let v = a_return room t hd g.asked.kind in
            let P : ℕ = i + 1 + size_of v.items in
            let eq = both_end in
            let ep = second_end t v in
            let l = tl.moved.up in
            let x₁ = (first_as v.n v.counted).run v.items v.held_items W s r (first_blank i j e (omega (arith, eq, l)) bl) in
            let x₂ = (second_as v.n v.counted).run v.items v.held_items _ _ x₁.to.rep (second_blank i j j₂ e p.here l bl) in
            let x₃ = (tail_as t v).run sheet v.tail _ _ x₂.to.rep (tail_blank i j j₂ P e p.up eq ep tl.moved.here bl) in
            let D = v.def current s k₁ k₂ x₁.root x₂.root in
            record {
              to = rw D (to_wider (return_sub i j j₂ P e W p.up eq ep l) (to_then x₁.to (to_then x₂.to x₃.to)));
              gives = rw D (ap (λ (z : ℕ). Some z) (sym x₃.root));
            }

        pub return_law : LowersClause sheet a b d i e current (Some k) m m₃
        return_law = record { moved = twice_then return_moved tl.moved; stands = tl.low; next = return_next; run = return_run }
