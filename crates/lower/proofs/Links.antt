-- Elements one after another, and the loop over them. Assumes nothing.
use mathlib.Core.Path.{◌≡◌, refl, sym, subst, ◌∙◌}
use Prim.Native.Nat.{ℕ, suc, ◌+◌, ◌-◌, ◌≤◌, ◌<◌}
use native.Mathlib.Nat.{le_refl, le_trans}
use native.Mathlib.Omega.{arith}
use mathlib.Core.List.{List, ◌∷◌, append-nil}
use Rattle.model.specs.Text.{Bytes}
use Rattle.model.specs.Kind.{pattern_element}
use Rattle.model.specs.Tree.{Trees, []ᵗ, ◌∷ᵗ◌, to_list, fold}
use Rattle.model.specs.Lower.{◌>>=◌, ret, lower_element, lower_elements}
use Rattle.model.specs.Lower
use Rattle.words.specs.Held.{Held, HeldOf, size, size_of}
use Rattle.lower.specs.Side.{side}
use Rattle.lower.specs.Render.{kept_from}
use Rattle.lower.specs.Rep.{State, mem, Written, Sub, Blank, Rep, RoomFor}
use Rattle.lower.specs.Pieces.{SomeTree}
use Rattle.lower.specs.Patterns.{SomeTrees}
use Rattle.lower.specs.Chains.{from, step_of, SameChain, ChainInBounds, Anchored, ChainedAll, LowersElement, LowersElements}
use Rattle.lower.specs.Asked.{ChainAsked}
use Rattle.context.specs.Tables.{second_pass, deepest}
use Rattle.lower.specs.declared.Chain.{Chain}
use Rattle.lower.specs.State.{sub_more, sub_within, blank_within, blank_behind, back, to_refl, to_then, to_wider}
use Rattle.lower.specs.Exprs.{moved_refl, moved_then, room_after, narrow}

none_size : (ch : Chain) (ts : Trees pattern_element 0) → ch.at.i ≡ ch.at.i + size_of ts
unfolding size
none_size ch []ᵗ = omega arith

module _ {a b : List ℕ} (d base : ℕ) (ch : Chain) (os rs : List ℕ) where
  none_run : (sheet : Bytes) {first : ℕ} (ts : Trees pattern_element 0) (W : Written) (s : State) (c : Lower.Chain) → Rep (side sheet a b first) W s (mem ch.ctx os rs) → SameChain sheet a b d ch c → ChainedAll (side sheet a b first) W d base ch ch ts c s (mem ch.ctx os rs) (mem ch.ctx os rs)
  unfolding lower_elements ret to_list fold kept_from
  none_run sheet []ᵗ W s c r l = record { to = to_wider (sub_more (base + suc (from ch), base + suc (from ch)) W) (to_refl r); same = l; path = λ N A f. sym (append-nil c.path) }

  pub none_law : ChainInBounds ch → Anchored a b d ch → LowersElements a b 0 d base ch ch os os rs rs
  none_law st an = record {
    moved = moved_refl (let q = st.from in let q' = st.next in omega arith);
    bounded = st;
    anchored = an;
    ahead = le_refl _;
    stays = (refl, refl);
    since = λ n l h. h;
    next = λ sheet ts hd. none_size ch ts;
    run = λ sheet ts hd W s c r l bl. none_run sheet ts W s c r l;
  }

module _ {a b : List ℕ} {n d base : ℕ} {ch ch₁ ch₂ : Chain} {os os₁ os₂ rs rs₁ rs₂ : List ℕ} (st : ChainInBounds ch) (p : LowersElement a b d base ch ch₁ os os₁ rs rs₁) (q : LowersElements a b n d base ch₁ ch₂ os₁ os₂ rs₁ rs₂) where
  both_next : (sheet : Bytes) (ts : Trees pattern_element (suc n)) → HeldOf sheet a b ts d ch.at.i → ch₂.at.i ≡ ch.at.i + size_of ts
  unfolding Held size
  both_next sheet (t ∷ᵗ ts) h =
      let x = p.next sheet t h.0 in
      let y = q.next sheet ts (rw x h.1) in
      omega arith

  both_run : (sheet : Bytes) {first : ℕ} (ts : Trees pattern_element (suc n)) → HeldOf sheet a b ts d ch.at.i → (W : Written) (s : State) (c : Lower.Chain) → Rep (side sheet a b first) W s (mem ch.ctx os rs) →
      SameChain sheet a b d ch c → Blank W (base + suc (from ch)) (base + suc ch₂.at.i) → ChainedAll (side sheet a b first) W d base ch ch₂ ts c s (mem ch.ctx os rs) (mem ch₂.ctx os₂ rs₂)
  unfolding Held lower_elements ◌>>=◌ to_list fold
  both_run sheet (t ∷ᵗ ts) h W s c r l bl =
      let x = p.next sheet t h.0 in
      let u₁ = p.moved.up in
      let u₂ = q.moved.up in
      let g₁ = q.ahead in
      let f₁ = p.bounded.from in
      let y = p.run sheet t h.0 W s c r l (blank_within (le_refl _) (omega arith) bl) in
      let c₁ : Lower.Chain = (lower_element c (step_of t) s).0 in
      let z = q.run sheet ts (rw x h.1) _ _ c₁ y.to.rep y.same (blank_behind (le_refl _) (blank_within (omega arith) (le_refl _) bl)) in
      let u : Sub ((base + suc (from ch₁), base + suc (from ch₂)) ∷ (base + suc (from ch), base + suc (from ch₁)) ∷ W) ((base + suc (from ch), base + suc (from ch₂)) ∷ W) = sub_within (omega arith) (le_refl _) (sub_within (le_refl _) (omega arith) (sub_more (base + suc (from ch), base + suc (from ch₂)) W)) in
      record {
        to = to_wider u (to_then y.to z.to);
        same = z.same;
        path = λ N A f. z.path N A (narrow u f) ∙ y.path N A (back z.to (narrow u f)) ts;
      }

  pub more_law : LowersElements a b (suc n) d base ch ch₂ os os₂ rs rs₂
  more_law = record { moved = moved_then p.moved q.moved; bounded = q.bounded; anchored = q.anchored; ahead = let x = p.ahead in let y = q.ahead in omega arith; stays = (q.stays.0 ∙ p.stays.0, q.stays.1 ∙ p.stays.1); since = λ n l h. q.since n (le_trans l p.moved.grow) (p.since n l h); next = both_next; run = both_run }

-- ── the loop ──

-- k elements remain, and once they are lowered from here, all is done
pub record Remaining (a b : List ℕ) (d base : ℕ) (Done : Chain → List ℕ → List ℕ → Type 0) (k : ℕ) (ch : Chain) (os rs : List ℕ) : Type 0 where
  pub some : SomeTrees a b pattern_element k d ch.at.i
  pub room_for : RoomFor d (from ch) (mem ch.ctx os rs)
  pub bounded : ChainInBounds ch
  pub anchored : Anchored a b d ch
  pub stays : (ch.at.base ≡ base) × (ch.at.left ≡ d)
  pub finish : (ch' : Chain) (os' rs' : List ℕ) → LowersElements a b k d base ch ch' os os' rs rs' → Done ch' os' rs'

child_by : {a b : List ℕ} {d : ℕ} (i : ℕ) (sheet : Bytes) {k : ℕ} (ts : Trees pattern_element k) → ((k ≡ 0) → ⊥) → HeldOf sheet a b ts d i → SomeTree a b pattern_element d i
unfolding Held
child_by i sheet []ᵗ h hd = absurd (h refl)
child_by i sheet (t ∷ᵗ ts) h hd = record { sheet = sheet; tree = t; held = hd.0 }

behind : {a b : List ℕ} {d base : ℕ} {ch ch₁ : Chain} {os os₁ rs rs₁ : List ℕ} (sheet : Bytes) {k : ℕ} (ts : Trees pattern_element (suc k)) → LowersElement a b d base ch ch₁ os os₁ rs rs₁ → HeldOf sheet a b ts d ch.at.i → SomeTrees a b pattern_element k d ch₁.at.i
unfolding Held
behind sheet (t ∷ᵗ ts) p hd = record { sheet = sheet; trees = ts; held = rw (p.next sheet t hd.0) hd.1 }

-- of n, x are lowered
module _ {a b : List ℕ} {d base : ℕ} {Done : Chain → List ℕ → List ℕ → Type 0} where
  pub begun : {n : ℕ} {ch : Chain} {os rs : List ℕ} → Remaining a b d base Done n ch os rs → Remaining a b d base Done (n - 0) ch os rs
  begun {n} {ch} {os} {rs} p = let e : n ≡ n - 0 = omega arith in subst (λ (k : ℕ). Remaining a b d base Done k ch os rs) e p

  pub child : {n x : ℕ} {ch : Chain} {os rs : List ℕ} → x < n → Remaining a b d base Done (n - x) ch os rs → SomeTree a b pattern_element d ch.at.i
  child {n} {x} {ch} l p = child_by ch.at.i p.some.sheet p.some.trees (λ (z : n - x ≡ 0). absurd (omega arith)) p.some.held

  again_by : {k k' : ℕ} {ch ch₁ : Chain} {os os₁ rs rs₁ : List ℕ} → k ≡ suc k' → Remaining a b d base Done k ch os rs → LowersElement a b d base ch ch₁ os os₁ rs rs₁ → Remaining a b d base Done k' ch₁ os₁ rs₁
  again_by {k' = k'} {ch = ch} {os = os} {rs = rs} e p q =
      let p' : Remaining a b d base Done (suc k') ch os rs = subst (λ (k : ℕ). Remaining a b d base Done k ch os rs) e p in
      record {
        some = behind p'.some.sheet p'.some.trees q p'.some.held;
        room_for = room_after q.moved p'.room_for;
        bounded = q.bounded;
        anchored = q.anchored;
        stays = (q.stays.0 ∙ p'.stays.0, q.stays.1 ∙ p'.stays.1);
        finish = λ ch' os' rs' r. p'.finish ch' os' rs' (more_law p'.bounded q r);
      }

  -- the chain has the depth and the pass of the whole part
  pub asked : {n x : ℕ} {ch : Chain} {os rs : List ℕ} → x < n → d ≤ deepest → base ≤ second_pass → Remaining a b d base Done (n - x) ch os rs → ChainAsked a b ch os rs
  asked {ch = ch} l ld lb p = record {
    tree = rw p.stays.1 (child l p);
    room = rw p.stays.1 p.room_for;
    depth = rw p.stays.1 ld;
    pass = rw p.stays.0 lb;
    bounded = p.bounded;
    anchored = subst (λ (x : ℕ). Anchored a b x ch) (sym p.stays.1) p.anchored;
  }

  pub again : {n x : ℕ} {ch ch₁ : Chain} {os os₁ rs rs₁ : List ℕ} → x < n → Remaining a b d base Done (n - x) ch os rs → LowersElement a b ch.at.left ch.at.base ch ch₁ os os₁ rs rs₁ → Remaining a b d base Done (n - (x + 1)) ch₁ os₁ rs₁
  again {n} {x} {ch} {ch₁} {os} {os₁} {rs} {rs₁} l p q =
      let q' = subst (λ (x : ℕ). LowersElement a b x ch.at.base ch ch₁ os os₁ rs rs₁) p.stays.1 q in
      again_by {k = n - x} {k' = n - (x + 1)} (omega arith) p (subst (λ (x : ℕ). LowersElement a b d x ch ch₁ os os₁ rs rs₁) p.stays.0 q')

  pub done : {n x : ℕ} {ch : Chain} {os rs : List ℕ} → n ≤ x → Remaining a b d base Done (n - x) ch os rs → Done ch os rs
  done {n} {x} {ch} {os} {rs} l p = let e : n - x ≡ 0 = omega arith in p.finish ch os rs (rw e (none_law d base ch os rs p.bounded p.anchored))
