-- The variables' index: the way down its tree, looking up by it, and one more variable. Assumes nothing.
use mathlib.Core.Path.{◌≡◌, refl, sym, ap, subst, ◌∙◌}
use mathlib.Core.Bool.{Bool, true, false}
use mathlib.Core.List.{List}
use mathlib.Core.Logic.{◌⊎◌, inl, inr, ⊎_elim}
use Prim.Native.Nat.{ℕ, zero, suc, ◌+◌, ◌*◌, ◌-◌, ◌/◌, ◌%◌, ◌≤◌, ◌<◌}
use native.Mathlib.Numerals.{add-one}
use native.Mathlib.Omega.{arith}
use lib.ListN.{length, get_or, set, length-set}
use lib.Dec.{eqb}
use lib.Seq.{get_or-set_same, get_or-set_other}
use borrow.Author.Tests.{eq-eqb, ne_eqb, eqb-true, eqb-false}
use Rattle.context.specs.Tables.{links_at, id_of, half, with_half, child_of, linked, Leads, here, on, Treed, Indexed, Kept, Descends, Descended, Joined, root, child, Entered, max_indexed, var_words, named_words, number_word, half_word}
use Rattle.std.specs.Prelude.{None, Some}
use Rattle.std.proofs.lemmas.Option.{none-some, same_Some}
use Rattle.context.proofs.Laws

same_by_law : (x y : ℕ) (t : Bool) → eqb x y ≡ t → (x ≡ y) ⊎ ((x ≡ y) → ⊥)
same_by_law x y true e = inl (eqb-true x y e)
same_by_law x y false e = inr (eqb-false x y e)

same : (x y : ℕ) → (x ≡ y) ⊎ ((x ≡ y) → ⊥)
same x y = same_by_law x y (eqb x y) refl

-- ── the halves of a word of links ──

pub half_left : (w bits : ℕ) → bits % 2 ≡ 0 → w % half_word ≡ half w bits
unfolding half
half_left w bits e = rw (eq-eqb _ _ e)

pub half_right : (w bits : ℕ) → ((bits % 2 ≡ 0) → ⊥) → w / half_word ≡ half w bits
unfolding half
half_right w bits e = rw (ne_eqb _ _ e)

pub with_left : (w bits l : ℕ) → bits % 2 ≡ 0 → w + l ≡ with_half w bits l
unfolding with_half
with_left w bits l e = rw (eq-eqb _ _ e)

pub with_right : (w bits l : ℕ) → ((bits % 2 ≡ 0) → ⊥) → w + l * half_word ≡ with_half w bits l
unfolding with_half
with_right w bits l e = rw (ne_eqb _ _ e)

module _ (w bits l : ℕ) (none : half w bits ≡ 0) (low : l < half_word) where
  half_new : half (with_half w bits l) bits ≡ l
  half_new =
      ⊎_elim
      (λ (e : bits % 2 ≡ 0). omega (arith, none, low, half_left w bits e, with_left w bits l e, half_left (with_half w bits l) bits e))
      (λ (e : (bits % 2 ≡ 0) → ⊥). omega (arith, none, low, half_right w bits e, with_right w bits l e, half_right (with_half w bits l) bits e))
      (same (bits % 2) 0)

  -- a half was empty and is filled, or it is as before
  half_cases : (r : ℕ) → ((half w r ≡ 0) × (half (with_half w bits l) r ≡ l)) ⊎ (half (with_half w bits l) r ≡ half w r)
  half_cases r =
      ⊎_elim
      (λ (e : bits % 2 ≡ 0).
      ⊎_elim
      (λ (d : r % 2 ≡ 0). inl (omega (arith, none, half_left w bits e, half_left w r d), omega (arith, none, low, half_left w bits e, with_left w bits l e, half_left (with_half w bits l) r d)))
      (λ (d : (r % 2 ≡ 0) → ⊥). inr (omega (arith, none, low, half_left w bits e, with_left w bits l e, half_right w r d, half_right (with_half w bits l) r d)))
      (same (r % 2) 0))
      (λ (e : (bits % 2 ≡ 0) → ⊥).
      ⊎_elim
      (λ (d : r % 2 ≡ 0). inr (omega (arith, none, low, half_right w bits e, with_right w bits l e, half_left w r d, half_left (with_half w bits l) r d)))
      (λ (d : (r % 2 ≡ 0) → ⊥). inl (omega (arith, none, half_right w bits e, half_right w r d), omega (arith, none, low, half_right w bits e, with_right w bits l e, half_right (with_half w bits l) r d)))
      (same (r % 2) 0))
      (same (bits % 2) 0)

half_none : (bits : ℕ) → half 0 bits ≡ 0
half_none bits = ⊎_elim (λ (e : bits % 2 ≡ 0). omega (arith, half_left 0 bits e)) (λ (e : (bits % 2 ≡ 0) → ⊥). omega (arith, half_right 0 bits e)) (same (bits % 2) 0)

-- what a half names, read back
linked_some : (l q : ℕ) → Some q ≡ linked l → l ≡ suc q
unfolding linked
linked_some zero q e = absurd (none-some q (sym e))
linked_some (suc p) q e = ap suc (sym (same_Some _ _ e))

pub linked_none : (l : ℕ) → None ≡ linked l → l ≡ 0
unfolding linked
linked_none zero e = refl
linked_none (suc p) e = absurd (none-some p e)

-- ── the way down ──

-- behind a variable that does not have the id the way goes on at its child
go_on : {vs : List ℕ} {id bits p q j : ℕ} → ((id_of vs p ≡ id) → ⊥) → child_of vs p bits ≡ suc q → Leads vs id bits p j → Leads vs id (bits / 2) q j
go_on {vs = vs} d e (here z h) = absurd (d (ap (λ i. id_of vs i) z ∙ h))
go_on {vs = vs} {id = id} {bits = bits} {q = q} {j = j} d e (on {q = q'} d' e' x) = let z : q' ≡ q = omega (arith, e, e') in subst (λ i. Leads vs id (bits / 2) i j) z x

module _ (n : ℕ) (vs : List ℕ) (id : ℕ) (x : Treed n vs) where
  descends_child : (p bits q : ℕ) → Descends vs n id p bits → ((id_of vs p ≡ id) → ⊥) → child_of vs p bits ≡ suc q → Descends vs n id q (bits / 2)
  descends_child p bits q w d e = record {
    low = (x.later p bits q w.low e).1;
    all = λ j l h. go_on d e (w.all j l h);
    back = λ vs' j k y. w.back vs' j k (on (λ (z : id_of vs' p ≡ id). d (sym (k.ids p w.low) ∙ z)) (k.children p bits q w.low e) y);
  }

  pub descends_on : (p bits q : ℕ) → Descends vs n id p bits → ((id_of vs p ≡ id) → ⊥) → Some q ≡ linked (child_of vs p bits) → Descends vs n id q (bits / 2) × (p < q)
  descends_on p bits q w d e = let z : child_of vs p bits ≡ suc q = linked_some _ _ e in (descends_child p bits q w d z, (x.later p bits q w.low z).0)

-- ── looking up ──

ends : {vs : List ℕ} {id bits p j : ℕ} → id_of vs p ≡ id → Leads vs id bits p j → j ≡ p
ends h (here z _) = sym z
ends h (on d _ _) = absurd (d h)

ends_not : {vs : List ℕ} {id bits p j : ℕ} → ((id_of vs p ≡ id) → ⊥) → child_of vs p bits ≡ 0 → Leads vs id bits p j → ⊥
ends_not {vs = vs} d e (here z h) = d (ap (λ i. id_of vs i) z ∙ h)
ends_not d e (on _ e' _) = omega (arith, e, e')

found_only : (vs : List ℕ) (n id p : ℕ) → p < n → id_of vs p ≡ id → ((j : ℕ) → j < n → id_of vs j ≡ id → j ≡ p) → Some (get_or vs (p * named_words + number_word) 0) ≡ Laws.from vs n id
found_only vs zero id p l h f = absurd (omega arith)
found_only vs (suc n) id p l h f =
    ⊎_elim
    (λ (e : id_of vs n ≡ id).
    let z : n ≡ p = f n (omega arith) e in
    subst (λ i. Some (get_or vs (i * named_words + number_word) 0) ≡ Laws.from vs (suc n) id) z (Laws.hit_last vs n id e))
    (λ (e : (id_of vs n ≡ id) → ⊥).
    let z : (p ≡ n) → ⊥ = λ (w : p ≡ n). e (ap (λ i. id_of vs i) (sym w) ∙ h) in
    found_only vs n id p (omega arith) h (λ j lj. f j (omega arith)) ∙ sym (Laws.pass vs n id e))
    (same (id_of vs n) id)

found_none : (vs : List ℕ) (n id : ℕ) → ((j : ℕ) → j < n → id_of vs j ≡ id → ⊥) → None ≡ Laws.from vs n id
found_none vs zero id f = Laws.nothing vs 0 id refl
found_none vs (suc n) id f = found_none vs n id (λ j l. f j (omega arith)) ∙ sym (Laws.pass vs n id (f n (omega arith)))

pub found_at : (vs : List ℕ) (n id p bits : ℕ) → Descended vs n id p bits → id_of vs p ≡ id → Some (get_or vs (p * named_words + number_word) 0) ≡ Laws.from vs n id
found_at vs n id p bits w h = found_only vs n id p w.way.low h (λ j l e. ends h (w.way.all j l e))

pub found_not : (vs : List ℕ) (n id p bits : ℕ) → Descended vs n id p bits → ((id_of vs p ≡ id) → ⊥) → None ≡ Laws.from vs n id
found_not vs n id p bits w h = found_none vs n id (λ j l e. ends_not h (w.end h) (w.way.all j l e))

-- what is not found is no variable's id
pub not_met : (vs : List ℕ) (n id : ℕ) → Laws.from vs n id ≡ None → (j : ℕ) → j < n → id_of vs j ≡ id → ⊥
not_met vs zero id f j l h = absurd (omega arith)
not_met vs (suc n) id f j l h =
    ⊎_elim
    (λ (e : id_of vs n ≡ id). none-some _ (sym (Laws.hit_last vs n id e ∙ f)))
    (λ (e : (id_of vs n ≡ id) → ⊥).
    let z : (j ≡ n) → ⊥ = λ (w : j ≡ n). e (ap (λ i. id_of vs i) (sym w) ∙ h) in
    not_met vs n id (sym (Laws.pass vs n id e) ∙ f) j (omega arith) h)
    (same (id_of vs n) id)

-- ── those of the variables that are in the index ──

pub all_indexed : (k : ℕ) (vs : List ℕ) → k ≤ max_indexed → Indexed k vs → Treed k vs
all_indexed k vs h x = let e : k - (k - max_indexed) ≡ k = omega arith in subst (λ n. Treed n vs) e x

-- a variable behind the index does not change what is in it
pub late : (k : ℕ) → max_indexed < k → k - 1 - (k - 1 - max_indexed) ≡ k - (k - max_indexed)
late k h = omega arith

pub index_late : (count k : ℕ) (vs : List ℕ) → k - (k - max_indexed) ≡ count - (count - max_indexed) → Indexed count vs → Indexed k vs
index_late count k vs e x = subst (λ n. Treed n vs) (sym e) x

-- ── one more ──

module _ (n : ℕ) (vs vs' : List ℕ) (x : Treed n vs) (k : Kept n vs vs') where
  leads_kept : {id bits p j : ℕ} → p < n → Leads vs id bits p j → Leads vs' id bits p j
  leads_kept {j = j} l (here z h) = here z (k.ids j (rw (sym z) l) ∙ h)
  leads_kept {id = id} {bits = bits} {p = p} l (on {q = q} d e w) = on (λ (z : id_of vs' p ≡ id). d (sym (k.ids p l) ∙ z)) (k.children p bits q l e) (leads_kept (x.later p bits q l e).1 w)

  kept_leads : (j : ℕ) → j < n → Leads vs' (id_of vs' j) (id_of vs' j) 0 j
  kept_leads j l = subst (λ i. Leads vs' i i 0 j) (sym (k.ids j l)) (leads_kept (omega arith) (x.leads j l))

treed_same : (n : ℕ) (vs vs' : List ℕ) → ((j : ℕ) → j < n → id_of vs' j ≡ id_of vs j) → ((j : ℕ) → j < n → get_or vs' (links_at + j) 0 ≡ get_or vs (links_at + j) 0) → Treed n vs → Treed n vs'
treed_same n vs vs' hi hw x = record {
  leads = kept_leads n vs vs' x (record { ids = hi; children = λ j bits q l e. ap (λ w. half w bits) (hw j l) ∙ e });
  later = λ j bits q l e. x.later j bits q l (sym (ap (λ w. half w bits) (hw j l)) ∙ e);
}

-- the links of variable k are empty, and it is the child of p on the side of `bits`, where there was none
module _ (k id : ℕ) (vs vs' : List ℕ) (low : k < max_indexed) (x : Treed k vs) (ids : (j : ℕ) → j < k → id_of vs' j ≡ id_of vs j) (idk : id_of vs' k ≡ id) (empty : get_or vs' (links_at + k) 0 ≡ 0) where
  no_child : (bits q : ℕ) → child_of vs' k bits ≡ suc q → ⊥
  no_child bits q e = omega (arith, e, ap (λ w. half w bits) empty, half_none bits)

  first : k ≡ 0 → Treed (suc k) vs'
  first z = record {
    leads = λ j l. (let e : 0 ≡ j = omega arith in here e refl);
    later = λ j bits q l e. (let z : j ≡ k = omega arith in absurd (no_child bits q (rw z at e)));
  }

  module _ (p bits : ℕ) (d : Descends vs k id p bits) (none : child_of vs p bits ≡ 0) (new : (id_of vs p ≡ id) → ⊥) (filled : get_or vs' (links_at + p) 0 ≡ with_half (get_or vs (links_at + p) 0) bits (suc k)) (other : (j : ℕ) → j < k → ((j ≡ p) → ⊥) → get_or vs' (links_at + j) 0 ≡ get_or vs (links_at + j) 0) where
    abbrev links : ℕ
    links = get_or vs (links_at + p) 0

    -- a variable's child is as before, or it is k, where it had none
    child_cases : (j r : ℕ) → j < k → ((child_of vs j r ≡ 0) × (child_of vs' j r ≡ suc k)) ⊎ (child_of vs' j r ≡ child_of vs j r)
    child_cases j r l =
        ⊎_elim
        (λ (e : j ≡ p). rw (e, filled) (half_cases links bits (suc k) none (omega arith) r))
        (λ (e : (j ≡ p) → ⊥). inr (ap (λ w. half w r) (other j l e)))
        (same j p)

    kept : Kept k vs vs'
    kept = record {
      ids = ids;
      children = λ j r q l e. ⊎_elim (λ (w : (child_of vs j r ≡ 0) × (child_of vs' j r ≡ suc k)). absurd (omega (arith, e, w.0))) (λ (w : child_of vs' j r ≡ child_of vs j r). w ∙ e) (child_cases j r l);
    }

    leads_new : Leads vs' id id 0 k
    leads_new = d.back vs' k kept (on (λ (z : id_of vs' p ≡ id). new (sym (ids p d.low) ∙ z)) (ap (λ w. half w bits) filled ∙ half_new links bits (suc k) none (omega arith)) (here refl idk))

    later_child : (j r q : ℕ) → j < k → child_of vs' j r ≡ suc q → (j < q) × (q < suc k)
    later_child j r q l e =
        ⊎_elim
        (λ (w : (child_of vs j r ≡ 0) × (child_of vs' j r ≡ suc k)). omega (arith, e, w.1, l))
        (λ (w : child_of vs' j r ≡ child_of vs j r). (let y = x.later j r q l (sym w ∙ e) in omega (arith, y.0, y.1)))
        (child_cases j r l)

    next : Treed (suc k) vs'
    next = record {
      leads = λ j l. ⊎_elim (λ (e : j ≡ k). rw (e, idk) leads_new) (λ (e : (j ≡ k) → ⊥). kept_leads k vs vs' x kept j (omega arith)) (same j k);
      later = λ j r q l e. ⊎_elim (λ (z : j ≡ k). absurd (no_child r q (rw z at e))) (λ (z : (j ≡ k) → ⊥). later_child j r q (omega arith) e) (same j k);
    }

-- ── what entering leaves ──

module _ (k id : ℕ) (vs : List ℕ) (x : Indexed k vs) where
  pub entered_full : max_indexed ≤ k → Entered k id vs vs
  entered_full h = record {
    long = refl;
    vars = λ q l. refl;
    index = λ vs'' ids idk words.
        let e : k - (k - max_indexed) ≡ k + 1 - (k + 1 - max_indexed) = omega arith in
        subst (λ n. Treed n vs'') e (treed_same (k - (k - max_indexed)) vs vs'' (λ j l. ids j (omega arith)) (λ j l. words (links_at + j) (omega arith)) x);
  }

  module _ (low : k < max_indexed) (len : var_words ≤ length vs) where
    indexed_next : (vs'' : List ℕ) → Treed (suc k) vs'' → Indexed (k + 1) vs''
    indexed_next vs'' t = let e : suc k ≡ k + 1 - (k + 1 - max_indexed) = omega arith in subst (λ n. Treed n vs'') e t

    entered_root : k ≡ 0 → Entered k id vs (set vs (links_at + k) 0)
    entered_root z = record {
      long = length-set vs (links_at + k) 0;
      vars = λ q l. get_or-set_other vs (links_at + k) q 0 0 (omega arith);
      index = λ vs'' ids idk words. indexed_next vs'' (first k id vs vs'' low (all_indexed k vs (omega arith) x) ids idk (words (links_at + k) (omega arith) ∙ get_or-set_same vs (links_at + k) 0 0 (omega arith)) z);
    }

    module _ (p bits : ℕ) (d : Descends vs k id p bits) (none : child_of vs p bits ≡ 0) (new : (id_of vs p ≡ id) → ⊥) where
      abbrev vs₁ : List ℕ
      vs₁ = set vs (links_at + p) (with_half (get_or vs (links_at + p) 0) bits (k + 1))

      abbrev vs₂ : List ℕ
      vs₂ = set vs₁ (links_at + k) 0

      long₁ : length vs₁ ≡ length vs
      long₁ = length-set vs (links_at + p) (with_half (get_or vs (links_at + p) 0) bits (k + 1))

      other₂ : (q : ℕ) → ((q ≡ links_at + p) → ⊥) → ((q ≡ links_at + k) → ⊥) → get_or vs₂ q 0 ≡ get_or vs q 0
      other₂ q e₁ e₂ = get_or-set_other vs₁ (links_at + k) q 0 0 e₂ ∙ get_or-set_other vs (links_at + p) q (with_half (get_or vs (links_at + p) 0) bits (k + 1)) 0 e₁

      empty₂ : get_or vs₂ (links_at + k) 0 ≡ 0
      empty₂ = get_or-set_same vs₁ (links_at + k) 0 0 (rw long₁ (omega arith))

      filled₂ : get_or vs₂ (links_at + p) 0 ≡ with_half (get_or vs (links_at + p) 0) bits (suc k)
      filled₂ = get_or-set_other vs₁ (links_at + k) (links_at + p) 0 0 (omega (arith, d.low)) ∙ get_or-set_same vs (links_at + p) (with_half (get_or vs (links_at + p) 0) bits (k + 1)) 0 (omega (arith, d.low)) ∙ ap (λ l. with_half (get_or vs (links_at + p) 0) bits l) (add-one k)

      entered_child : Entered k id vs vs₂
      entered_child = record {
        long = length-set vs₁ (links_at + k) 0 ∙ long₁;
        vars = λ q l. other₂ q (omega arith) (omega arith);
        index = λ vs'' ids idk words.
            indexed_next vs''
            (next k id vs vs'' low (all_indexed k vs (omega arith) x) ids idk (words (links_at + k) (omega arith) ∙ empty₂) p bits d none new (words (links_at + p) (omega arith) ∙ filled₂)
            (λ j l e. words (links_at + j) (omega arith) ∙ other₂ (links_at + j) (omega arith) (omega arith)));
      }

    pub entered_room : {vs₁ : List ℕ} → Laws.from vs k id ≡ None → Joined k id vs vs₁ → Entered k id vs (set vs₁ (links_at + k) 0)
    entered_room f (root z e) = rw e (entered_root z)
    entered_room f (child p bits d none e) = rw e (entered_child p bits d none (not_met vs k id f p d.low))
