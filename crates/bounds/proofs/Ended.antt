-- The lowering's result is the number of the last operator, and that is the one that `ends_on` names. Assumes nothing: these are theorems with their proofs.
use Rattle.std.proofs.Common.{sym}
use Rattle.std.specs.Prelude.{ℕ, suc, Bool, true, false, cond, not, ◌&&◌, List, ◌≡◌, refl, length, Option, None, Some}
use Rattle.std.proofs.lemmas.Option.{none-some}
use Rattle.std.proofs.Common.{subst}
use Rattle.model.specs.Field.{Fields}
use Rattle.model.specs.Kind.{Clause, ReadOp, statement, union_arm, clause, order_item, expr}
use Rattle.model.specs.Record.{one, op_forms}
use Rattle.model.specs.Tree.{Tree, Trees, node, []ᵗ, ◌∷ᵗ◌, end, ◌▸◌}
use Rattle.model.specs.Sheet.{or_else, is_write, write_in, first_write}
use Rattle.model.specs.Lower.{Recs, op, ◌>>=◌, ret, filter, optional_join, lower_match_pattern, order_by, over_expr, lower_trailers, distinct_if, lower_clause, lower_clauses, lower_arms, lower, empty, lower_statement}
use Rattle.bounds.specs.Ends.{Ending, ending_of, some?, latest, clause_end, clauses_end, arms_end, ends_on}
use Rattle.bounds.specs.Root.{Newest, newest, Leads, Always, any, then, given, gives, pushes, parts_ends}
use Rattle.bounds.specs.Ended.{Ended, nowhere, on, First, first, behind, Leaves}

-- ── order, skip, limit ──

pub order_by_ends : {k : Ending} {i : ℕ} (keys : Trees order_item i) (input : ℕ) → Leads (λ ops. Newest k input ops) (λ n ops. Newest (cond (some? i) (Ending.OrderBy i) k) n ops) (order_by input keys)
unfolding order_by some?
order_by_ends []ᵗ input = gives input
order_by_ends (key ∷ᵗ keys) input = then any λ rs. pushes ReadOp.OrderBy _ _

pub over_expr_ends : {k : Ending} (j : ReadOp) (f : Fields (op_forms j)) (b : Bool) (es : Trees expr (one b)) (input : ℕ) → Leads (λ ops. Newest k input ops) (λ n ops. Newest (cond b (ending_of j f) k) n ops) (over_expr (op j f) input es)
unfolding over_expr
over_expr_ends j f false []ᵗ input = gives input
over_expr_ends j f true (e ∷ᵗ []ᵗ) input = then any λ rs. pushes j f rs

pub trailers_ends : {k : Ending} {i : ℕ} (skip limit : Bool) (keys : Trees order_item i) (s : Trees expr (one skip)) (l : Trees expr (one limit)) (input : ℕ) → Leads (λ ops. Newest k input ops) (λ n ops. Newest (latest k i skip limit) n ops) (lower_trailers input keys s l)
unfolding lower_trailers latest
trailers_ends skip limit keys s l input =
    then (order_by_ends keys input) λ a.
    then (over_expr_ends ReadOp.Skip _ skip s a) λ b.
    over_expr_ends ReadOp.Limit _ limit l b

pub distinct_ends : {k : Ending} (b : Bool) (input : ℕ) → Leads (λ ops. Newest k input ops) (λ n ops. Newest (cond b Ending.Distinct k) n ops) (distinct_if b input)
unfolding distinct_if
distinct_ends false input = gives input
distinct_ends true input = pushes ReadOp.Distinct _ _

-- ── clauses ──

pub optional_ends : {k : Ending} {f : Bool} {o : Option ℕ} (optional : Bool) (root : ℕ) → First f o → Leads (λ ops. Newest k root ops) (λ n ops. Newest (cond (optional && not f) Ending.OptionalJoin k) n ops) (optional_join optional o root)
unfolding optional_join
optional_ends false root h = gives root
optional_ends true root first = gives root
optional_ends true root behind = then any λ inner. pushes ReadOp.OptionalJoin _ _

pub leaves : {k : Ending} (n : ℕ) → Leads (λ ops. Newest k n ops) (λ o ops. Leaves (Some k) o ops) (ret (Some n))
unfolding ret
leaves n = record { run = λ x h. record { ended = on h; next = behind } }

pub clause_ends : {f : Bool} {o : Option ℕ} (c : Tree clause) → is_write c ≡ None → First f o → Leads Always (λ p ops. Leaves (clause_end f c) p ops) (lower_clause c o)
unfolding is_write clause_end lower_clause lower_match_pattern filter
clause_ends (node clause line Clause.Match (optional, _) (parts ▸ end)) w h = then (then (parts_ends parts) λ root. optional_ends optional root h) λ k. leaves k
clause_ends (node clause line Clause.Where f (e ∷ᵗ []ᵗ ▸ end)) w h = then any λ predicate. then any λ input. then (pushes ReadOp.Filter _ _) λ k. leaves k
clause_ends (node clause line Clause.With (_, (_, (_, (s, (l, _))))) (items ▸ predicate ▸ keys ▸ skip ▸ limit ▸ end)) w h = then any λ input. then any λ rs. then any λ ss. then (pushes ReadOp.With _ _) λ k. then (trailers_ends s l keys skip limit k) λ root. leaves root
clause_ends (node clause line Clause.Return (_, (distinct, (_, (s, (l, _))))) (items ▸ keys ▸ skip ▸ limit ▸ end)) w h = then any λ input. then any λ first. then any λ a. then any λ rs. then (pushes ReadOp.Project _ _) λ b. then (distinct_ends distinct b) λ d. then (trailers_ends s l keys skip limit d) λ root. leaves root
clause_ends (node clause line Clause.Unwind f (e ∷ᵗ []ᵗ ▸ end)) w h = then any λ input. then any λ rs. then any λ bind. then (pushes ReadOp.Unwind _ _) λ k. leaves k
clause_ends (node clause line Clause.Call f (es ▸ ys ▸ end)) w h = then any λ rs. then any λ ss. then (pushes ReadOp.ProcedureCall _ _) λ k. leaves k
clause_ends (node clause line Clause.Write f kids) w h = absurd (none-some line (sym w))

-- ── the statement ──

pub or_else_none : {A : Type 0} (o p : Option A) → or_else o p ≡ None → (o ≡ None) × (p ≡ None)
unfolding or_else
or_else_none None p e = (refl, e)
or_else_none (Some a) p e = absurd (none-some a (sym e))

pub clauses_ends : {i : ℕ} {f : Bool} {o : Option ℕ} (c : Tree clause) (cs : Trees clause i) → write_in (c ∷ᵗ cs) ≡ None → First f o → Leads Always (λ p ops. Ended (clauses_end f (c ∷ᵗ cs)) p ops) (lower_clauses (c ∷ᵗ cs) o)
unfolding write_in clauses_end lower_clauses ret
clauses_ends c []ᵗ w h = then (clause_ends c (or_else_none (is_write c) None w).0 h) λ left. record { run = λ x q. q.ended }
clauses_ends c (d ∷ᵗ cs) w h =
    let q = or_else_none (is_write c) (write_in (d ∷ᵗ cs)) w in
    then (clause_ends c q.0 h) λ left. given λ ops l. clauses_ends d cs q.1 l.next

pub arms_ends : {i : ℕ} (a : Tree union_arm) (arms : Trees union_arm i) (e : Option Ending) (o : Option ℕ) → Leads Always (λ p ops. Ended (arms_end (a ∷ᵗ arms) e) p ops) (lower_arms (a ∷ᵗ arms) o)
unfolding arms_end lower_arms ret
arms_ends (node union_arm line k f (cs ▸ end)) []ᵗ e o = then any λ below. then any λ left. then any λ right. then (pushes ReadOp.Union _ _) λ both. record { run = λ x h. on h }
arms_ends (node union_arm line k f (cs ▸ end)) (b ∷ᵗ arms) e o = then any λ below. then any λ left. then any λ right. then any λ both. arms_ends b arms e (Some both)

pub lower_ends : {i j : ℕ} (cs : Trees clause i) (arms : Trees union_arm j) → write_in cs ≡ None → Ended (arms_end arms (clauses_end true cs)) ((lower_clauses cs None >>= λ head. lower_arms arms head) empty).0 ((lower_clauses cs None >>= λ head. lower_arms arms head) empty).1.ops
unfolding arms_end clauses_end lower_clauses lower_arms ◌>>=◌ ret empty
lower_ends []ᵗ []ᵗ w = nowhere
lower_ends (c ∷ᵗ cs) []ᵗ w = (clauses_ends c cs w first).run empty tt
lower_ends cs (a ∷ᵗ arms) w = (arms_ends a arms _ (lower_clauses cs None empty).0).run (lower_clauses cs None empty).1 tt

-- Without a `write`: either there is no operator and the lowering ends on none; or it ends on the last operator, whose number is the result, and whose first record is the one that `ends_on` names.
pub ends : (t : Tree statement) → first_write t ≡ None → Ended (ends_on t) (lower t empty).0 (lower_statement t).ops
unfolding first_write ends_on lower lower_statement
ends (node statement line k f (cs ▸ arms ▸ end)) w = lower_ends cs arms (or_else_none (write_in cs) _ w).0

-- so the result, where there is one, is the number of the last operator
pub newest_last : {e : Ending} {n : ℕ} {ops : List Recs} → Newest e n ops → suc n ≡ length ops
newest_last newest = refl

pub ended_last : {e : Option Ending} {n : ℕ} {ops : List Recs} → Ended e (Some n) ops → suc n ≡ length ops
ended_last (on h) = newest_last h

pub last_operator : (t : Tree statement) (n : ℕ) → first_write t ≡ None → (lower t empty).0 ≡ Some n → suc n ≡ length (lower_statement t).ops
last_operator t n w e = ended_last (subst (λ o. Ended (ends_on t) o (lower_statement t).ops) e (ends t w))
