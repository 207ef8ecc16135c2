-- The union of two operands, in one sheet and of a pair. Assumes nothing.
use Rattle.std.proofs.Common.{◌≡◌, refl, ◌∙◌, ℕ, ◌≤◌, ◌<◌, Bool, true, false, List, [], ◌∷◌, length, eqb, arith}
use Rattle.std.specs.Prelude.{Option}
use Rattle.model.specs.Kind.{ReadOp}
use Rattle.model.specs.Record.{one}
use Rattle.model.specs.Lower.{Recs, ◌>>=◌, op, push, or_source_all}
use Rattle.words.specs.Words.{max_records}
use Rattle.context.specs.Tables.{Pushed}
use Rattle.context.specs.Ops.{union_op}
use Rattle.context.specs.declared.LowerCtx.{LowerCtx}
use Rattle.lower.specs.Side.{Side}
use Rattle.lower.specs.Shows.{InBounds, shows_union}
use Rattle.lower.specs.Rep.{State, Mem, mem, Written, Rep}
use Rattle.lower.specs.Chains.{Sourced, OrSource}
use Rattle.lower.specs.State.{to_then, push_to}
use Rattle.clauses.specs.Pair.{union_of, Unites}

-- the word of a flag
flag_low : (q : Bool) → one q ≤ 1
flag_low true = omega arith
flag_low false = omega arith

flag_back : (q : Bool) → eqb (one q) 1 ≡ q
flag_back true = refl
flag_back false = refl

union_bounded : (i l r : ℕ) (all : Bool) → i < max_records → InBounds (union_op i l r (one all))
union_bounded i l r all h = record { shallow = omega arith; near = omega arith; low = h; far = λ e. absurd (omega arith); flagged = λ e. flag_low all }

union_is : (l l' r r' : ℕ) (all : Bool) → l ≡ l' → r ≡ r' → ◌≡◌ {A = Recs} (op ReadOp.Union (l', (r', (all, tt))) ∷ []) (op ReadOp.Union (l, (r, (eqb (one all) 1, tt))) ∷ [])
union_is l l' r r' all e e' = rw (e, e', flag_back all)

module _ (o o' : Option ℕ) (all : Bool) {k k' i : ℕ} {c : LowerCtx} {os : List ℕ} {m m₁ m₂ : Mem} (h : i < max_records)
    (ql : OrSource m.ctx.ops (or_source_all o) k m m₁)
    (qr : OrSource m₁.ctx.ops (or_source_all o') k' m₁ m₂)
    (pu : Pushed m₂.ctx c m₂.ops os (union_op i k k' (one all))) (lo : length os ≡ length m₂.ops) where
  unite_run : (S : Side) (W : Written) (s : State) → Rep S W s m → Sourced S (union_of o o' all) m₂.ctx.ops W s m (mem c os m₂.rest)
  unfolding union_of ◌>>=◌ push
  unite_run S W s r =
      let y = ql.run S W s r.from r in
      let z = qr.run S W _ y.to.rep.from y.to.rep in
      let recs : Recs = op ReadOp.Union ((or_source_all o s).0, ((or_source_all o' (or_source_all o s).1).0, (all, tt))) ∷ [] in
      let w = push_to m₂ c os (union_op i k k' (one all)) recs z.to.rep pu (λ N A f. record { bounded = union_bounded i k k' all h; shows = shows_union refl (union_is k _ k' _ all y.root z.root) }) in
      record { to = to_then y.to (to_then z.to w); root = z.to.rep.count }

  pub unite_law : Unites (union_of o o' all) m₂.ctx.ops m (mem c os m₂.rest)
  unite_law = record {
    grow = omega (arith, ql.grow, qr.grow);
    few = omega (arith, ql.few, qr.few);
    count = pu.count;
    numbers = pu.numbers ∙ qr.numbers ∙ ql.numbers;
    mapped = pu.mapped ∙ qr.mapped ∙ ql.mapped;
    rest = qr.rest ∙ ql.rest;
    in_ops = lo ∙ qr.in_ops ∙ ql.in_ops;
    run = unite_run;
  }
