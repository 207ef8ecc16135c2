-- Demand 3 for pairs: of two pairs of sheets alike on each side, the call with two sheets refuses both alike, or gives plans alike, with maps paired by the right's renumbering. Each side is renumbered in its own way. Assumes nothing: the premises are the theorems' own.
use Rattle.std.specs.Prelude.{◌≡◌, refl, ℕ, suc, ◌≤◌, Bool, cond, ◌||◌, List, [], ◌∷◌, eqb, length, Option, None, Some}
use Rattle.std.proofs.Common.{arith, le-ltb}
use Rattle.std.proofs.Math.Bool.{true, false}
use Rattle.std.proofs.Math.Dec.{ltb}
use Rattle.model.specs.Text.{Bytes}
use Rattle.model.specs.Kind.{ReadOp, statement}
use Rattle.model.specs.Record.{Rec}
use Rattle.model.specs.Tree.{Tree, Many, records}
use Rattle.model.specs.Refusal.{Refusal}
use Rattle.model.specs.Side.{SideRefusal, side_values, whole_call, left_side}
use Rattle.model.specs.Sheet.{Place, got, read_sheet, first_write}
use Rattle.model.specs.Check.{Verdict, precheck_statement}
use Rattle.model.specs.Lower.{LowerCtx, Lowering, ◌>>=◌, op, push, or_source_all, without_vars, forget_vars, lower, empty, lower_union_pair, lower_pair}
use Rattle.model.specs.Plan.{plan_sheet}
use Rattle.model.specs.Call.{Test, refuse, pass, short, max_bytes, max_depth, max_plan, test_work, test_bytes, test_reading, test_write, test_check, test_plan}
use Rattle.model.specs.Pair.{SideTest, refuse_side, pass_side, then_sides, on_side, each, checked_sides, planned_pair, sides_outcome, pair_call}
use Rattle.alike.specs.Statement.{Named, ids, Stands, TwoSheets, PairLongEnough, RefusedAlike, AlikeOutcomes, refused_alike, accepted_alike}
use Rattle.alike.specs.Relation.{Equal, equal, []~, Tree~}
use Rattle.alike.specs.Action.{Ctx~, ctx~, Ran~, ran~, Does~, then~, push~, or_source_all~}
use Rattle.alike.proofs.Lowering.{lower~, state~}
use Rattle.alike.specs.Checking.{Refusal~, unresolved~, undesugared~, empty_part~, Verdict~, fine~, violated~, precheck_statement~, first_write~}
use Rattle.alike.proofs.Relating.{standing_one}
use Rattle.alike.proofs.Alike.{written_holds, plans_alike, alike_tree}

-- ── the lowering ──

-- what comes behind the left's lowering and the forgetting
abbrev behind_left : Tree statement → Bool → Option ℕ → Lowering ℕ
behind_left right all left_root = do
  right_root ← lower right
  l ← or_source_all left_root
  r ← or_source_all right_root
  push (op ReadOp.Union (l, (r, (all, tt))) ∷ [])

-- L joins the ids of the left sheets, R those of the right ones
module _ (L R : ℕ → ℕ → Type 0) (one_l : (a b x y : ℕ) → L a b → L x y → eqb a x ≡ eqb b y) (one_r : (a b x y : ℕ) → R a b → R x y → eqb a x ≡ eqb b y) where
  behind_left~ : {r s : Tree statement} → Named r → Tree~ R statement r s → (all : Bool) (left_root : Option ℕ) → Does~ R (behind_left r all left_root) (behind_left s all left_root)
  behind_left~ w p all left_root = then~ R (lower~ R one_r w p) λ right_root. then~ R (or_source_all~ R left_root) λ l. then~ R (or_source_all~ R right_root) λ r. push~ R _

  -- no variable of the left is left, so what joined them is not needed any more
  forgotten~ : {r s : Tree statement} → Named r → Tree~ R statement r s → (all : Bool) (x y : Option ℕ × LowerCtx) → Ran~ L (λ a b. Equal a b) x y → Ctx~ R (behind_left r all x.0 (without_vars x.1)).1 (behind_left s all y.0 (without_vars y.1)).1
  forgotten~ {r} {s} w p all x y (ran~ {a = o} equal (ctx~ v)) = state~ R one_r _ _ ((behind_left~ w p all o).run _ _ (ctx~ []~))

  pub lower_pair~ : {l k r s : Tree statement} → Named l → Tree~ L statement l k → Named r → Tree~ R statement r s → (all : Bool) → Ctx~ R (lower_pair l r all) (lower_pair k s all)
  unfolding lower_pair lower_union_pair forget_vars empty ◌>>=◌
  lower_pair~ {l} {k} u p w q all = forgotten~ w q all (lower l empty) (lower k empty) ((lower~ L one_l u p).run empty empty (ctx~ []~))

-- ── the tests ──

-- refused alike: the same side, and the same but for spans
pub data SideRefusal~ : SideRefusal → SideRefusal → Type 0 where
  write~ : {side line : ℕ} → SideRefusal~ (record { side = side; refusal = Refusal.WriteClause line }) (record { side = side; refusal = Refusal.WriteClause line })
  tree~ : {side : ℕ} {x y : Refusal} → Refusal~ x y → SideRefusal~ (record { side = side; refusal = x }) (record { side = side; refusal = y })
  full~ : SideRefusal~ (record { side = whole_call; refusal = Refusal.PlanFull }) (record { side = whole_call; refusal = Refusal.PlanFull })

pub data Test~ {A : Type 0} (W : A → A → Type 0) : SideTest A → SideTest A → Type 0 where
  refused~ : {x y : SideRefusal} → SideRefusal~ x y → Test~ W (refuse_side x) (refuse_side y)
  passed~ : {a b : A} → W a b → Test~ W (pass_side a) (pass_side b)

then_test~ : {A B : Type 0} {W : A → A → Type 0} {X : B → B → Type 0} {m n : SideTest A} {k l : A → SideTest B} → Test~ W m n → ((a b : A) → W a b → Test~ X (k a) (l b)) → Test~ X (then_sides m k) (then_sides n l)
unfolding then_sides
then_test~ (refused~ r) q = refused~ r
then_test~ (passed~ {a = a} {b = b} w) q = q a b w

-- a test that is alike on each of two sides
two~ : {A : Type 0} {P Q : A → A → Type 0} (f : A → Test A) (side : ℕ) → ((s : ℕ) (x y : A) → P x y → Test~ P (on_side s (f x)) (on_side s (f y))) → ((s : ℕ) (x y : A) → Q x y → Test~ Q (on_side s (f x)) (on_side s (f y))) →
    (x y : Many A 2) → P x.0 y.0 × Q x.1.0 y.1.0 → Test~ (λ a b. P a.0 b.0 × Q a.1.0 b.1.0) (each f side 2 x) (each f side 2 y)
unfolding each then_sides
two~ f side p q (x, (u, _)) (y, (v, _)) (h, k) = then_test~ (p side x y h) λ a b w. then_test~ (then_test~ (q (suc side) u v k) λ c d z. passed~ {a = (c, tt)} {b = (d, tt)} z) λ c d z. passed~ (w, z)

-- the trees of one side
pub record Side~ (R : ℕ → ℕ → Type 0) (t u : Tree statement) : Type 0 where
  pub named : Named t
  pub alike : Tree~ R statement t u

module _ (R : ℕ → ℕ → Type 0) where
  write_test~ : (side : ℕ) (t u : Tree statement) → Side~ R t u → Test~ (Side~ R) (on_side side (test_write t (first_write t))) (on_side side (test_write u (first_write u)))
  unfolding on_side test_write
  write_test~ side t u h = go (first_write t) (first_write u) (first_write~ R h.alike)
    where
      go : (o p : Option ℕ) → Equal o p → Test~ (Side~ R) (on_side side (test_write t o)) (on_side side (test_write u p))
      go None p equal = passed~ h
      go (Some line) p equal = refused~ write~

  check_test~ : (side : ℕ) (t u : Tree statement) → Side~ R t u → Test~ (Side~ R) (on_side side (test_check t (precheck_statement t))) (on_side side (test_check u (precheck_statement u)))
  unfolding on_side test_check
  check_test~ side t u h = go (precheck_statement~ R h.alike)
    where
      go : {v w : Verdict} → Verdict~ v w → Test~ (Side~ R) (on_side side (test_check t v)) (on_side side (test_check u w))
      go fine~ = passed~ h
      go (violated~ r) = refused~ (tree~ r)

  plan_test~ : {c d : LowerCtx} → Ctx~ R c d → Test~ (λ a b. Ctx~ R a b) (on_side whole_call (test_plan c)) (on_side whole_call (test_plan d))
  unfolding on_side test_plan
  plan_test~ (ctx~ {ops = ops} {vs = vs} {ws = ws} {number = number} h) = go (ltb max_plan (length ops) || ltb max_plan number)
    where
      go : (b : Bool) → Test~ (λ a b. Ctx~ R a b) (on_side whole_call (cond b (refuse Refusal.PlanFull) (pass (record { ops = ops; scope = record { vars = vs; next_var = number } })))) (on_side whole_call (cond b (refuse Refusal.PlanFull) (pass (record { ops = ops; scope = record { vars = ws; next_var = number } }))))
      go true = refused~ full~
      go false = passed~ (ctx~ h)

-- what the tests 1 to 4 leave of a call with two sheets, and the plan
unfoldable pub behind_reading : (left right : Tree statement) (all : Bool) → SideTest LowerCtx
behind_reading left right all =
    then_sides (then_sides (each (λ t. test_write t (first_write t)) left_side 2 (left, (right, tt))) λ ts. each (λ t. test_check t (precheck_statement t)) left_side 2 ts) λ ts.
    on_side whole_call (test_plan (lower_pair ts.0 ts.1.0 all))

pub read_both : (work : List ℕ) (left right : Bytes) (all : Bool) (l r : Tree statement) (p q : Place) → short work ≡ false → length left ≤ max_bytes → length right ≤ max_bytes → read_sheet max_depth left ≡ got l p → read_sheet max_depth right ≡ got r q → planned_pair max_depth work left right all ≡ behind_reading l r all
unfolding planned_pair behind_reading checked_sides each on_side then_sides test_work test_bytes test_reading
read_both work left right all l r p q w a b e f = rw (w, le-ltb max_bytes (length left) a, le-ltb max_bytes (length right) b, e, f)

module _ (L R : ℕ → ℕ → Type 0) (one_l : (a b x y : ℕ) → L a b → L x y → eqb a x ≡ eqb b y) (one_r : (a b x y : ℕ) → R a b → R x y → eqb a x ≡ eqb b y) where
  pub behind_reading~ : {l k r s : Tree statement} → Side~ L l k → Side~ R r s → (all : Bool) → Test~ (λ a b. Ctx~ R a b) (behind_reading l r all) (behind_reading k s all)
  unfolding behind_reading
  behind_reading~ {l} {k} {r} {s} p q all =
      then_test~ (then_test~ (two~ _ 1 (write_test~ L) (write_test~ R) (l, (r, tt)) (k, (s, tt)) (p, q)) λ x y h. two~ _ 1 (check_test~ L) (check_test~ R) x y h) λ x y h.
      plan_test~ R (lower_pair~ L R one_l one_r h.0.named h.0.alike h.1.named h.1.alike all)

-- ── the outcomes ──

pub sides_refused : {x y : SideRefusal} {slice slice' : Bytes} → SideRefusal~ x y → RefusedAlike (record { answer = side_values x; slice = slice }) (record { answer = side_values y; slice = slice' })
sides_refused write~ = record { refused = λ e. omega arith; number = refl; line = refl; kind = refl }
sides_refused (tree~ unresolved~) = record { refused = λ e. omega arith; number = refl; line = refl; kind = refl }
sides_refused (tree~ undesugared~) = record { refused = λ e. omega arith; number = refl; line = refl; kind = refl }
sides_refused (tree~ empty_part~) = record { refused = λ e. omega arith; number = refl; line = refl; kind = refl }
sides_refused full~ = record { refused = λ e. omega arith; number = refl; line = refl; kind = refl }

module _ (s t : List ℕ) (slice slice' : Bytes) where
  tests_alike : {m n : SideTest LowerCtx} → Test~ (λ a b. Ctx~ (λ a b. Stands s t a b) a b) m n → ((c : LowerCtx) → m ≡ pass_side c → length (plan_sheet c) ≤ length slice) → ((c : LowerCtx) → n ≡ pass_side c → length (plan_sheet c) ≤ length slice') → AlikeOutcomes s t (sides_outcome slice m) (sides_outcome slice' n)
  unfolding sides_outcome
  tests_alike (refused~ r) x y = refused_alike (sides_refused r)
  tests_alike (passed~ {a = c} {b = d} h) x y = accepted_alike (plans_alike s t h (written_holds (plan_sheet c) slice (x c refl)) (written_holds (plan_sheet d) slice' (y d refl)))

-- ── demand 3 for pairs ──

-- S and T are the left sheets, S₂ and T₂ the right ones
module _ (S T S₂ T₂ : Bytes) (t t₂ : Tree statement) (rt rt₂ : List Rec) where
  pub alike_pairs : TwoSheets S T t rt → TwoSheets S₂ T₂ t₂ rt₂ → (all : Bool) (work work' : List ℕ) (slice slice' : Bytes) → PairLongEnough work S S₂ all slice → PairLongEnough work' T T₂ all slice' → AlikeOutcomes (ids (records t₂)) (ids rt₂) (pair_call work S S₂ all slice) (pair_call work' T T₂ all slice')
  unfolding pair_call
  alike_pairs h h₂ all work work' slice slice' l l' =
      let u = alike_tree S T t rt h in
      let u₂ = alike_tree S₂ T₂ t₂ rt₂ h₂ in
      let e = read_both work S S₂ all t t₂ h.behind h₂.behind l.words h.short_s h₂.short_s h.reads h₂.reads in
      let e' = read_both work' T T₂ all u.tree u₂.tree u.behind u₂.behind l'.words h.short_t h₂.short_t u.reads u₂.reads in
      rw (e, e') (tests_alike (ids (records t₂)) (ids rt₂) slice slice'
      (behind_reading~ (λ a b. Stands (ids (records t)) (ids rt) a b) (λ a b. Stands (ids (records t₂)) (ids rt₂) a b) (standing_one (ids (records t)) (ids rt) h.one_to_one) (standing_one (ids (records t₂)) (ids rt₂) h₂.one_to_one) (record { named = h.named; alike = u.alike }) (record { named = h₂.named; alike = u₂.alike }) all)
      (rw e at l.room) (rw e' at l'.room))
