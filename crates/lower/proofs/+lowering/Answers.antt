-- `expand_to`, of the cycle.
-- `lower_chain`, of the cycle.
-- `lower_element`, of the cycle.
-- `lower_elements`, of the cycle.
-- `lower_expr`, of the cycle.
-- `lower_exprs`, of the cycle.
-- `lower_parts`, of the cycle.
-- `lower_pattern_part`, of the cycle.
-- `lower_rel_element`, of the cycle.
-- `lower_shortest_path_part`, of the cycle.
-- `start_chain`, of the cycle.
-- `start_node`, of the cycle.
use Rattle.lower.proofs.Linking
use Rattle.lower.specs.Exprs
use Rattle.lower.proofs.Room
use Rattle.lower.proofs.Chaining
use Rattle.lower.proofs.Part
use Rattle.lower.proofs.Links
use Rattle.lower.proofs.Named
use Rattle.lower.proofs.Arms
use Rattle.lower.proofs.Parts
use Rattle.lower.proofs.Asking
use Rattle.lower.proofs.Special
use Rattle.lower.proofs.Start
use Prim.Native.Nat.{◌-◌, ◌+◌}
use Rattle.context.specs.OpLaws.{pushed_as}
use Rattle.context.specs.LentLaws.{same_refl, same_then}
use Rattle.lower.proofs.Reading.{endpoint_read, exprs_read, var_read, element_read, bind_read}
use mathlib.Core.Path.{refl, ◌∙◌, sym}
use native.Mathlib.Omega.{arith}
use native.Mathlib.Nat.{le_refl}
use Rattle.lower.proofs.+lowering.Goals as goal

-- ── expand_to ──

pub expand_to-endpoint_var-m-requires : goal.expand_to-endpoint_var-m-requires
expand_to-endpoint_var-m-requires t c =
    let l = Room.chain_bounds c.requires.chain in
    Room.can_number c.requires.chain.room _ _ _ c.requires.chain.pass (omega arith) refl

pub expand_to-lower_rel_element-s-requires : goal.expand_to-lower_rel_element-s-requires
expand_to-lower_rel_element-s-requires t c = (
  omega (arith, c.decreases),
  record {
    asked = record {
      tree = Room.waiting_rel c.args.r.now.roomy c.requires.waits c.requires.chain.anchored;
      room =
          Room.room_at
          (Room.from_rel c.args.ch c.requires.waits)
          (Room.numbered
          c.requires.chain.room
          c.endpoint_var-m.ensures.issued
          c.endpoint_var-m.auto.rest
          (Room.deep c.requires.chain.tree));
      depth = c.requires.chain.depth;
      pass = c.requires.chain.pass;
    };
    read = Room.waiting_read c.args.r.now.roomy c.requires.waits c.requires.chain.anchored;
  },
)

pub expand_to-overflow_sub-less : goal.expand_to-overflow_sub-less
expand_to-overflow_sub-less t c = omega (arith, Room.chain_bounds c.requires.chain)

pub expand_to-lower_exprs-t-requires : goal.expand_to-lower_exprs-t-requires
expand_to-lower_exprs-t-requires t c =
    let l₁ = Room.deep c.requires.chain.tree in
    let l₀ =
    Room.waiting_end
    c.args.r.now.roomy
    c.requires.waits
    c.requires.chain.anchored
    c.lower_rel_element-s.ensures.lowered
    in
    let l₀' = Room.names_low c.args.r.now.roomy c.requires.chain.tree in
    let n₀ = c.requires.read.first in
    let l₀'' = Room.low c.requires.chain.tree in
    let l₂ = c.requires.chain.depth in
    let l₃ = c.requires.chain.pass in (
      omega (arith, c.decreases),
      record {
        tree =
            Room.node_some
            c.args.r.now.roomy
            c.requires.chain.tree
            c.requires.is
            _
            _
            c.requires.read.props
            c.requires.read.first;
        room =
            Room.after_rel
            _
            (Room.room_at (Room.from_rel c.args.ch c.requires.waits) (Room.numbered
            c.requires.chain.room
            c.endpoint_var-m.ensures.issued
            c.endpoint_var-m.auto.rest
            (Room.deep c.requires.chain.tree)))
            c.lower_rel_element-s.ensures.lowered
            (omega arith)
            (omega arith);
        depth = omega arith;
        pass = c.requires.chain.pass;
      },
    )

pub expand_to-push-z-requires : goal.expand_to-push-z-requires
expand_to-push-z-requires t c =
    let l₀ =
    Room.waiting_end
    c.args.r.now.roomy
    c.requires.waits
    c.requires.chain.anchored
    c.lower_rel_element-s.ensures.lowered
    in
    let l₀' = Room.names_low c.args.r.now.roomy c.requires.chain.tree in
    let n₀ = c.requires.read.first in
    Exprs.can_push
    (Exprs.room_after
    c.lower_exprs-t.ensures.lowered.moved
    (Room.after_rel
    _
    (Room.room_at (Room.from_rel c.args.ch c.requires.waits) (Room.numbered
    c.requires.chain.room
    c.endpoint_var-m.ensures.issued
    c.endpoint_var-m.auto.rest
    (Room.deep c.requires.chain.tree)))
    c.lower_rel_element-s.ensures.lowered
    (omega arith)
    (omega arith)))

pub expand_to-returns-clause-lowered : goal.expand_to-returns-clause-lowered
expand_to-returns-clause-lowered t c =
    rw (c.push-z.ensures.next, c.push-z.ensures.op) (Linking.expand_law
    _
    _
    _
    c.args.r.now.roomy
    c.requires.chain.pass
    c.requires.chain.depth
    c.requires.chain.bounded
    c.requires.waits
    c.requires.has
    c.requires.is
    (Room.low c.requires.chain.tree)
    refl
    (endpoint_read c.requires.read.bind c.endpoint_var-m.ensures)
    c.endpoint_var-m.auto.rest
    refl
    c.lower_rel_element-s.ensures.lowered.noted
    c.lower_rel_element-s.ensures.lowered.kept
    refl
    c.lower_rel_element-s.ensures.lowered.props
    c.requires.read.props
    (exprs_read c.requires.read.first c.lower_exprs-t.ensures.lowered)
    (pushed_as c.expand.ensures c.push-z.ensures.pushed)
    c.push-z.auto.ops
    c.requires.chain.tree
    c.requires.chain.anchored)

-- ── lower_chain ──

pub lower_chain-count-n-requires : goal.lower_chain-count-n-requires
lower_chain-count-n-requires t c =
    (Room.low c.requires.tree, omega arith)

pub lower_chain-overflow_sub-less : goal.lower_chain-overflow_sub-less
lower_chain-overflow_sub-less t c = omega (arith, Room.bounds c.requires)

pub lower_chain-lower_elements-ch-requires : goal.lower_chain-lower_elements-ch-requires
lower_chain-lower_elements-ch-requires t c =
    let l = Room.bounds c.requires in (
      omega arith,
      Room.asked_on _ _ _ c.requires (omega arith)
          (record { low = l.low; trees = Chaining.some_elements c.args.r.now.roomy c.count-n.ensures.0 c.requires.tree })
          (Exprs.room_from (omega arith) (omega arith) (omega arith) c.requires.room),
    )

pub lower_chain-or_source_all-q-requires : goal.lower_chain-or_source_all-q-requires
lower_chain-or_source_all-q-requires t c =
    let l = Room.bounds c.requires in
    let room =
    Exprs.room_after
    c.lower_elements-ch.ensures.lowered.moved
    (Exprs.room_from
    {d' = c.args.at.left - 1}
    {j = c.args.at.i + 1}
    (omega arith)
    (omega arith)
    (omega arith)
    c.requires.room)
    in (
      Exprs.can_push room,
      Chaining.root_under c.root_of-root.ensures c.lower_elements-ch.ensures.lowered.bounded.last,
    )

pub lower_chain-returns-in_default-clause-lowered : goal.lower_chain-returns-in_default-clause-lowered
lower_chain-returns-in_default-clause-lowered t c =
    rw
    c.or_source_all-q.ensures.same
    (Chaining.unnamed_law
    _
    _
    c.args.r.now.roomy
    c.requires.pass
    c.count-n.ensures.0
    c.lower_elements-ch.ensures.lowered
    (Chaining.source_as c.root_of-root.ensures (c.or_source_all-q.ensures.source _))
    (c.or_source_all-q.ensures.since _ c.lower_elements-ch.ensures.lowered.moved.grow (Chaining.root_since c.root_of-root.ensures (Chaining.start_since _ c.lower_elements-ch.ensures.lowered)))
    (sym (bind_read c.at.ensures c.read_bind.ensures) ∙ c.in_default.is))

pub lower_chain-number-m-requires : goal.lower_chain-number-m-requires
lower_chain-number-m-requires t c =
    let l = Room.bounds c.requires in
    Room.source_number
    (Exprs.room_after
    c.lower_elements-ch.ensures.lowered.moved
    (Exprs.room_from {d' = c.args.at.left - 1} {j = c.args.at.i + 1} (omega arith) (omega arith) (omega arith) c.requires.room))
    (c.or_source_all-q.ensures.source _)
    _
    _
    _
    c.requires.pass
    (omega arith)
    refl

pub lower_chain-bind_path-requires : goal.lower_chain-bind_path-requires
lower_chain-bind_path-requires t c =
    let l = Room.bounds c.requires in
    Room.fits l.near (omega arith) (omega arith)

pub lower_chain-push-requires : goal.lower_chain-push-requires
lower_chain-push-requires t c =
    let l = Room.bounds c.requires in
    let x =
    (Room.source_few
    (Exprs.room_after
    c.lower_elements-ch.ensures.lowered.moved
    (Exprs.room_from
    {d' = c.args.at.left - 1}
    {j = c.args.at.i + 1}
    (omega arith)
    (omega arith)
    (omega arith)
    c.requires.room))
    (c.or_source_all-q.ensures.source _)).0
    in
    let y = c.number-m.ensures.issued.ops in
    record {
      few = omega arith;
      long = rw
          c.or_source_all-q.auto.ops
          (Exprs.room_after
          c.lower_elements-ch.ensures.lowered.moved
          (Exprs.room_from
          {d' = c.args.at.left - 1}
          {j = c.args.at.i + 1}
          (omega arith)
          (omega arith)
          (omega arith)
          c.requires.room)).in_ops;
    }

pub lower_chain-returns-clause-lowered : goal.lower_chain-returns-clause-lowered
lower_chain-returns-clause-lowered t c =
    rw
    (c.push.ensures.next, c.push.ensures.op, c.or_source_all-q.ensures.same)
    (Chaining.named_law
    _
    _
    c.args.r.now.roomy
    c.requires.pass
    c.count-n.ensures.0
    c.lower_elements-ch.ensures.lowered
    (Chaining.source_as c.root_of-root.ensures (c.or_source_all-q.ensures.source _))
    c.requires.depth
    (sym (bind_read c.at.ensures c.read_bind.ensures) ∙ c.in-Some.is)
    refl
    c.number-m.ensures
    c.number-m.auto.rest
    (pushed_as c.bind_path.ensures c.push.ensures.pushed)
    c.push.auto.ops)

-- ── lower_element ──

pub lower_element-at-requires : goal.lower_element-at-requires
lower_element-at-requires t c =
    Room.low c.requires.tree

pub lower_element-returns-in-Rel-clause-lowered : goal.lower_element-returns-in-Rel-clause-lowered
lower_element-returns-in-Rel-clause-lowered t c =
    Linking.rel_law
    _
    _
    _
    _
    _
    _
    c.args.r.now.roomy
    c.requires.bounded
    (Part.other_kind
    c.args.r.now.roomy
    c.requires.tree
    (Part.rel_read (element_read c.at.ensures c.read_element.ensures) c.in-Rel.is).is)
    c.skip-end.ensures
    (Part.rel_read (element_read c.at.ensures c.read_element.ensures) c.in-Rel.is).read
    c.requires.tree

-- ── lower_elements ──

pub lower_elements-loop-init : goal.lower_elements-loop-init
lower_elements-loop-init t c =
    let l = c.requires.tree.low in (
      Links.begun (record {
        some = c.requires.tree.trees;
        room_for = Exprs.room_from (le_refl _) (omega arith) (omega arith) c.requires.room;
        bounded = Chaining.start_bounded _ _ (omega arith);
        anchored = Chaining.start_anchored c.args.r.now.a.now c.args.r.now.b.now c.requires.tree.trees.sheet _ _ _;
        stays = (refl, refl);
        finish = λ ch' os' rs' q. q;
      }),
      same_refl,
    )

pub lower_elements-lower_element-ch-requires : goal.lower_elements-lower_element-ch-requires
lower_elements-lower_element-ch-requires t c = (omega (arith, c.loop.invariant.0.stays.1), Links.asked c.loop-test.true c.requires.depth c.requires.pass c.loop.invariant.0)

pub lower_elements-loop-preserved : goal.lower_elements-loop-preserved
lower_elements-loop-preserved t c = (Links.again c.loop-test.true c.loop.invariant.0 c.lower_element-ch.ensures.lowered, same_then c.loop.invariant.1 c.lower_element-ch.ensures.same)

pub lower_elements-returns-clause-lowered : goal.lower_elements-returns-clause-lowered
lower_elements-returns-clause-lowered t c = Links.done c.loop-test.false c.loop.invariant.0

pub lower_elements-returns-clause-same : goal.lower_elements-returns-clause-same
lower_elements-returns-clause-same t c = c.loop.invariant.1

-- ── lower_expr ──

pub lower_expr-word-kind-requires : goal.lower_expr-word-kind-requires
lower_expr-word-kind-requires t c =
    (Room.low c.requires.tree, omega arith)

pub lower_expr-children-n-requires : goal.lower_expr-children-n-requires
lower_expr-children-n-requires t c =
    Room.low c.requires.tree

pub lower_expr-overflow_sub-left : goal.lower_expr-overflow_sub-left
lower_expr-overflow_sub-left t c = omega (arith, Room.bounds c.requires)

pub lower_expr-word-id-requires : goal.lower_expr-word-id-requires
lower_expr-word-id-requires t c =
    (Room.low c.requires.tree, omega arith)

pub lower_expr-number-m-requires : goal.lower_expr-number-m-requires
lower_expr-number-m-requires t c =
    let l = Room.bounds c.requires in
    Room.can_number c.requires.room _ _ _ c.requires.pass (omega arith) refl

pub lower_expr-lower_exprs-requires : goal.lower_expr-lower_exprs-requires
lower_expr-lower_exprs-requires t c =
    let l = Room.bounds c.requires in (
      omega arith,
      Room.asked_on _ _ _ c.requires (omega arith)
          (
          Arms.headed_some
          (λ sheet t hd. Arms.mapped c.args.r.now.roomy t hd (sym c.word-kind.ensures ∙ c.in-33.is))
          c.children-n.ensures.0
          c.requires.tree)
          (Exprs.room_from (omega arith) (omega arith) (omega arith) c.requires.room),
    )

pub lower_expr-lower_parts-q-requires : goal.lower_expr-lower_parts-q-requires
lower_expr-lower_parts-q-requires t c =
    let l = Room.bounds c.requires in
    let k = sym c.word-kind.ensures ∙ c.in-35.is in (
      omega arith,
      Room.asked_on _ _ _ c.requires (omega arith)
          (record {
            low = l.low;
            trees =
                Named.pattern_some
                (λ sheet t hd. Named.pattern c.args.r.now.roomy t hd k)
                c.children-n.ensures.0
                c.requires.tree;
          })
          (Exprs.room_from (omega arith) (omega arith) (omega arith) c.requires.room),
    )

pub lower_expr-word-id-requires-in-36 : goal.lower_expr-word-id-requires-in-36
lower_expr-word-id-requires-in-36 t c =
    (Room.low c.requires.tree, omega arith)

pub lower_expr-number-m-requires-in-36 : goal.lower_expr-number-m-requires-in-36
lower_expr-number-m-requires-in-36 t c =
    let l = Room.bounds c.requires in
    Room.can_number c.requires.room _ _ _ c.requires.pass (omega arith) refl

pub lower_expr-lower_exprs-requires-in-36 : goal.lower_expr-lower_exprs-requires-in-36
lower_expr-lower_exprs-requires-in-36 t c =
    let l = Room.bounds c.requires in (
      omega arith,
      Room.asked_on _ _ _ c.requires (omega arith)
          (
          Named.naming_some
          (λ sheet t hd. Named.predicate c.args.r.now.roomy t hd (sym c.word-kind.ensures ∙ c.in-36.is))
          c.children-n.ensures.0
          c.requires.tree)
          (
          Room.numbered_on
          c.requires.room
          _
          _
          c.number-m-in-36.ensures.issued
          c.number-m-in-36.auto.rest
          (omega arith)
          (omega arith)
          (omega arith)),
    )

pub lower_expr-lower_exprs-requires-in_default : goal.lower_expr-lower_exprs-requires-in_default
lower_expr-lower_exprs-requires-in_default t c =
    let l = Room.bounds c.requires in (
      omega arith,
      Room.asked_on _ _ _ c.requires (omega arith)
          (Arms.headed_some
          (λ sheet t hd.
          Arms.plainly
          c.args.r.now.roomy
          t
          hd
          (λ e. c.in_default.in_default-own.rest.0.0.0.1 (c.word-kind.ensures ∙ e))
          (λ e. c.in_default.in_default-own.rest.0.0.1 (c.word-kind.ensures ∙ e))
          (λ e. c.in_default.in_default-own.rest.0.1 (c.word-kind.ensures ∙ e))
          (λ e. c.in_default.in_default-own.rest.1 (c.word-kind.ensures ∙ e)))
          c.children-n.ensures.0
          c.requires.tree)
          (Exprs.room_from (omega arith) (omega arith) (omega arith) c.requires.room),
    )

pub lower_expr-returns-in-32-clause-lowered : goal.lower_expr-returns-in-32-clause-lowered
lower_expr-returns-in-32-clause-lowered t c =
    let l = Room.bounds c.requires in
    Named.naming_law
    (λ sheet t hd. Named.variable c.args.r.now.roomy t hd (sym c.word-kind.ensures ∙ c.in-32.is))
    (Named.count_none c.args.r.now.roomy c.requires.tree (sym c.word-kind.ensures ∙ c.in-32.is))
    c.requires.pass
    (Room.low c.requires.tree)
    refl
    (var_read c.word-id.ensures c.number-m.ensures)
    c.number-m.auto.rest
    (Exprs.nil_law c.args.r.now.a.now c.args.r.now.b.now _ _ _ _ _ (omega arith))

pub lower_expr-returns-in-33-clause-lowered : goal.lower_expr-returns-in-33-clause-lowered
lower_expr-returns-in-33-clause-lowered t c =
    let l = Room.bounds c.requires in
    Arms.headed_law
    (λ sheet t hd. Arms.mapped c.args.r.now.roomy t hd (sym c.word-kind.ensures ∙ c.in-33.is))
    c.children-n.ensures.0
    (omega arith)
    c.lower_exprs.ensures.lowered

pub lower_expr-returns-in-35-clause-lowered : goal.lower_expr-returns-in-35-clause-lowered
lower_expr-returns-in-35-clause-lowered t c =
    Named.pattern_law
    (λ sheet t hd. Named.pattern c.args.r.now.roomy t hd (sym c.word-kind.ensures ∙ c.in-35.is))
    c.children-n.ensures.0
    c.requires.pass
    (Room.low c.requires.tree)
    refl
    c.lower_parts-q.ensures.lowered
    c.note.ensures
    c.note.auto.rest

pub lower_expr-returns-in-36-clause-lowered : goal.lower_expr-returns-in-36-clause-lowered
lower_expr-returns-in-36-clause-lowered t c =
    Named.naming_law
    (λ sheet t hd. Named.predicate c.args.r.now.roomy t hd (sym c.word-kind.ensures ∙ c.in-36.is))
    c.children-n.ensures.0
    c.requires.pass
    (Room.low c.requires.tree)
    refl
    (var_read c.word-id-in-36.ensures c.number-m-in-36.ensures)
    c.number-m-in-36.auto.rest
    c.lower_exprs-in-36.ensures.lowered

pub lower_expr-returns-in_default-clause-lowered : goal.lower_expr-returns-in_default-clause-lowered
lower_expr-returns-in_default-clause-lowered t c =
    let l = Room.bounds c.requires in
    Arms.headed_law
    (λ sheet t hd.
    Arms.plainly
    c.args.r.now.roomy
    t
    hd
    (λ e. c.in_default.in_default-own.rest.0.0.0.1 (c.word-kind.ensures ∙ e))
    (λ e. c.in_default.in_default-own.rest.0.0.1 (c.word-kind.ensures ∙ e))
    (λ e. c.in_default.in_default-own.rest.0.1 (c.word-kind.ensures ∙ e))
    (λ e. c.in_default.in_default-own.rest.1 (c.word-kind.ensures ∙ e)))
    c.children-n.ensures.0
    (omega arith)
    c.lower_exprs-in_default.ensures.lowered

-- ── lower_exprs ──

pub lower_exprs-loop-init : goal.lower_exprs-loop-init
lower_exprs-loop-init t c = (Exprs.begun (record { some = c.requires.tree; room_for = c.requires.room; finish = λ e m' q. q }), same_refl)

pub lower_exprs-overflow_add-i : goal.lower_exprs-overflow_add-i
lower_exprs-overflow_add-i t c =
    let l = Room.low (Exprs.child c.loop-test.true c.loop.invariant.0) in
    omega arith

pub lower_exprs-lower_expr-cur-requires : goal.lower_exprs-lower_expr-cur-requires
lower_exprs-lower_expr-cur-requires t c =
    let x = Exprs.child c.loop-test.true c.loop.invariant.0 in
    let l = Room.low x in
    (omega arith, Room.asked_on _ _ _ c.requires (le_refl _) x (Exprs.room_from (le_refl _) (omega arith) (omega arith) c.loop.invariant.0.room_for))

pub lower_exprs-loop-preserved : goal.lower_exprs-loop-preserved
lower_exprs-loop-preserved t c = (Exprs.again c.loop-test.true c.loop.invariant.0 c.lower_expr-cur.ensures.lowered, same_then c.loop.invariant.1 c.lower_expr-cur.ensures.same)

pub lower_exprs-returns-clause-lowered : goal.lower_exprs-returns-clause-lowered
lower_exprs-returns-clause-lowered t c = Exprs.done c.loop-test.false c.loop.invariant.0

pub lower_exprs-returns-clause-same : goal.lower_exprs-returns-clause-same
lower_exprs-returns-clause-same t c = c.loop.invariant.1

-- ── lower_parts ──

pub lower_parts-returns-then-n-eq0-clause-lowered : goal.lower_parts-returns-then-n-eq0-clause-lowered
lower_parts-returns-then-n-eq0-clause-lowered t c = rw c.if-n-eq0.true (c.lower_no_parts.ensures.1 c.args.r.now.a.now c.args.r.now.b.now _ _ _)

pub lower_parts-lower_pattern_part-cur-requires : goal.lower_parts-lower_pattern_part-cur-requires
lower_parts-lower_pattern_part-cur-requires t c =
    let h = c.requires.tree.low in (
      omega arith,
      Room.asked_on _ _ _ c.requires (le_refl _)
          (Parts.some_child c.if-n-eq0.false c.requires.tree.trees)
          (Exprs.room_from (le_refl _) (omega arith) (omega arith) c.requires.room),
    )

pub lower_parts-loop-init : goal.lower_parts-loop-init
lower_parts-loop-init t c =
    let h = c.requires.tree.low in (
      Parts.behind_first
          _
          c.if-n-eq0.false
          c.requires.tree.trees
          (Exprs.room_from (le_refl _) (omega arith) (omega arith) c.requires.room)
          c.lower_pattern_part-cur.ensures.lowered,
      same_refl,
    )

pub lower_parts-lower_pattern_part-cur-requires-in-loop : goal.lower_parts-lower_pattern_part-cur-requires-in-loop
lower_parts-lower_pattern_part-cur-requires-in-loop t c = (omega arith, Room.asked_on _ _ _ c.requires (le_refl _) (Parts.child c.loop-test.true c.loop.invariant.0) c.loop.invariant.0.room_for)

pub lower_parts-loop-preserved : goal.lower_parts-loop-preserved
lower_parts-loop-preserved t c = (Parts.again c.loop-test.true c.loop.invariant.0 c.lower_pattern_part-cur-in-loop.ensures.lowered, same_then c.loop.invariant.1 c.lower_pattern_part-cur-in-loop.ensures.same)

pub lower_parts-returns-clause-lowered : goal.lower_parts-returns-clause-lowered
lower_parts-returns-clause-lowered t c =
    Parts.first_done
    _
    c.if-n-eq0.false
    c.lower_pattern_part-cur.ensures.lowered
    (Parts.done c.loop-test.false c.loop.invariant.0)

pub lower_parts-returns-clause-same : goal.lower_parts-returns-clause-same
lower_parts-returns-clause-same t c = same_then c.lower_pattern_part-cur.ensures.same c.loop.invariant.1

-- ── lower_pattern_part ──

pub lower_pattern_part-word-shortest-requires : goal.lower_pattern_part-word-shortest-requires
lower_pattern_part-word-shortest-requires t c =
    (Room.low c.requires.tree, omega arith)

pub lower_pattern_part-returns-then-shortest-eq0-clause-lowered : goal.lower_pattern_part-returns-then-shortest-eq0-clause-lowered
lower_pattern_part-returns-then-shortest-eq0-clause-lowered t c =
    Part.chain_part
    (Part.no_shortest _ _ c.args.r.now.roomy (sym c.word-shortest.ensures ∙ c.if-shortest-eq0.true))
    c.lower_chain.ensures.lowered

pub lower_pattern_part-word-n-requires : goal.lower_pattern_part-word-n-requires
lower_pattern_part-word-n-requires t c =
    (Room.low c.requires.tree, omega arith)

pub lower_pattern_part-returns-then-n-ne-SPECIAL_ELEMENTS-clause-lowered : goal.lower_pattern_part-returns-then-n-ne-SPECIAL_ELEMENTS-clause-lowered
lower_pattern_part-returns-then-n-ne-SPECIAL_ELEMENTS-clause-lowered t c =
    Part.chain_part
    (Part.not_three _ _ c.args.r.now.roomy (λ e. c.if-n-ne-SPECIAL_ELEMENTS.true (c.word-n.ensures ∙ e)))
    c.lower_chain-then-n-ne-SPECIAL_ELEMENTS.ensures.lowered

pub lower_pattern_part-skip-rel-requires : goal.lower_pattern_part-skip-rel-requires
lower_pattern_part-skip-rel-requires t c =
    Part.starts (Part.first_some _ _ c.args.r.now.roomy (sym c.word-n.ensures ∙ c.if-n-ne-SPECIAL_ELEMENTS.false) c.requires.tree)

pub lower_pattern_part-at-requires : goal.lower_pattern_part-at-requires
lower_pattern_part-at-requires t c =
    Room.low (Part.first_some _ _ c.args.r.now.roomy (sym c.word-n.ensures ∙ c.if-n-ne-SPECIAL_ELEMENTS.false) c.requires.tree)

pub lower_pattern_part-returns-in_default-clause-lowered : goal.lower_pattern_part-returns-in_default-clause-lowered
lower_pattern_part-returns-in_default-clause-lowered t c =
    Part.chain_part
    (Part.not_first
    _
    _
    c.args.r.now.roomy
    (sym c.word-n.ensures ∙ c.if-n-ne-SPECIAL_ELEMENTS.false)
    c.skip-rel.ensures
    (Part.rel_read (element_read c.at.ensures c.read_element.ensures) c.in_default.is).is)
    c.lower_chain-in_default.ensures.lowered

pub lower_pattern_part-skip-far-requires : goal.lower_pattern_part-skip-far-requires
lower_pattern_part-skip-far-requires t c =
    Part.starts
    (Part.some_second
    _
    _
    c.args.r.now.roomy
    (sym c.word-n.ensures ∙ c.if-n-ne-SPECIAL_ELEMENTS.false)
    c.skip-rel.ensures
    c.requires.tree)

pub lower_pattern_part-at-requires-2 : goal.lower_pattern_part-at-requires-2
lower_pattern_part-at-requires-2 t c =
    Room.low
    (Part.some_second
    _
    _
    c.args.r.now.roomy
    (sym c.word-n.ensures ∙ c.if-n-ne-SPECIAL_ELEMENTS.false)
    c.skip-rel.ensures
    c.requires.tree)

pub lower_pattern_part-returns-in_default-read_element-clause-lowered : goal.lower_pattern_part-returns-in_default-read_element-clause-lowered
lower_pattern_part-returns-in_default-read_element-clause-lowered t c =
    Part.chain_part
    (Part.not_second
    _
    _
    c.args.r.now.roomy
    (sym c.word-n.ensures ∙ c.if-n-ne-SPECIAL_ELEMENTS.false)
    c.skip-rel.ensures
    (Part.node_read (element_read c.at.ensures c.read_element.ensures) c.in-Node.is).is
    (Part.node_read (element_read c.at-2.ensures c.read_element-2.ensures) c.in_default-read_element.is).is)
    c.lower_chain-in_default-read_element.ensures.lowered

pub lower_pattern_part-at-requires-3 : goal.lower_pattern_part-at-requires-3
lower_pattern_part-at-requires-3 t c =
    Room.low
    (Part.some_third
    _
    _
    c.args.r.now.roomy
    (sym c.word-n.ensures ∙ c.if-n-ne-SPECIAL_ELEMENTS.false)
    c.skip-rel.ensures
    c.skip-far.ensures
    c.requires.tree)

pub lower_pattern_part-returns-in_default-read_element-2-clause-lowered : goal.lower_pattern_part-returns-in_default-read_element-2-clause-lowered
lower_pattern_part-returns-in_default-read_element-2-clause-lowered t c =
    Part.chain_part
    (Part.not_third
    _
    _
    c.args.r.now.roomy
    (sym c.word-n.ensures ∙ c.if-n-ne-SPECIAL_ELEMENTS.false)
    c.skip-rel.ensures
    c.skip-far.ensures
    (Part.node_read (element_read c.at.ensures c.read_element.ensures) c.in-Node.is).is
    (Part.rel_read (element_read c.at-2.ensures c.read_element-2.ensures) c.in-Rel.is).is
    (Part.rel_read (element_read c.at-3.ensures c.read_element-3.ensures) c.in_default-read_element-2.is).is)
    c.lower_chain-in_default-read_element-2.ensures.lowered

pub lower_pattern_part-lower_shortest_path_part-requires : goal.lower_pattern_part-lower_shortest_path_part-requires
lower_pattern_part-lower_shortest_path_part-requires t c = (
  omega (arith, c.decreases),
  record {
    part = c.requires;
    special = record {
      shortest = λ e. c.if-shortest-eq0.false (c.word-shortest.ensures ∙ e);
      three = (sym c.word-n.ensures ∙ c.if-n-ne-SPECIAL_ELEMENTS.false);
      first = (Part.node_read (element_read c.at.ensures c.read_element.ensures) c.in-Node.is).is;
      second =
          Part.other_kind
          c.args.r.now.roomy
          (Part.some_second
          _
          _
          c.args.r.now.roomy
          (sym c.word-n.ensures ∙ c.if-n-ne-SPECIAL_ELEMENTS.false)
          c.skip-rel.ensures
          c.requires.tree)
          (Part.rel_read (element_read c.at-2.ensures c.read_element-2.ensures) c.in-Rel.is).is;
      third = (Part.node_read (element_read c.at-3.ensures c.read_element-3.ensures) c.in-Node-read_element.is).is;
      first_end = c.skip-rel.ensures;
      second_end = c.skip-far.ensures;
    };
    near = (Part.node_read (element_read c.at.ensures c.read_element.ensures) c.in-Node.is).read;
    rel = (Part.rel_read (element_read c.at-2.ensures c.read_element-2.ensures) c.in-Rel.is).read;
    to = (Part.node_read (element_read c.at-3.ensures c.read_element-3.ensures) c.in-Node-read_element.is).read;
  },
)

-- ── lower_rel_element ──

pub lower_rel_element-endpoint_var-m-requires : goal.lower_rel_element-endpoint_var-m-requires
lower_rel_element-endpoint_var-m-requires t c =
    let l = Room.element_bounds c.requires.asked in
    Room.can_number c.requires.asked.room _ _ _ c.requires.asked.pass (omega arith) refl

pub lower_rel_element-overflow_sub-less : goal.lower_rel_element-overflow_sub-less
lower_rel_element-overflow_sub-less t c = omega (arith, Room.element_bounds c.requires.asked)

pub lower_rel_element-lower_exprs-requires : goal.lower_rel_element-lower_exprs-requires
lower_rel_element-lower_exprs-requires t c =
    let l = Room.element_bounds c.requires.asked in
    let l₀' = Room.names_low c.args.r.now.roomy c.requires.asked.tree.tree in
    let n₀ = c.requires.read.first in (
      omega arith,
      Room.asked_on _ _ _ c.requires.asked (omega arith)
          (Room.prop_some
          c.args.r.now.roomy
          c.requires.asked.tree.tree
          c.requires.asked.tree.is
          _
          _
          c.requires.read.props
          c.requires.read.first)
          (Room.numbered_on
          c.requires.asked.room
          _
          _
          c.endpoint_var-m.ensures.issued
          c.endpoint_var-m.auto.rest
          (le_refl _)
          (omega arith)
          (omega arith)),
    )

pub lower_rel_element-returns-clause-lowered : goal.lower_rel_element-returns-clause-lowered
lower_rel_element-returns-clause-lowered t c =
    Room.rel_done
    _
    refl
    (endpoint_read c.requires.read.bind c.endpoint_var-m.ensures)
    c.endpoint_var-m.auto.rest
    c.requires.read.props
    c.requires.read.first
    c.lower_exprs.ensures.lowered

-- ── lower_shortest_path_part ──

pub lower_shortest_path_part-overflow_sub-left : goal.lower_shortest_path_part-overflow_sub-left
lower_shortest_path_part-overflow_sub-left t c =
    let l = Room.bounds c.requires.part in
    let l₄ = Room.low (Asking.first_of_law c.args.r.now.roomy c.requires).tree in
    omega arith

pub lower_shortest_path_part-endpoint_var-from-requires : goal.lower_shortest_path_part-endpoint_var-from-requires
lower_shortest_path_part-endpoint_var-from-requires t c =
    let l = Room.bounds c.requires.part in
    let l₄ = Room.low (Asking.first_of_law c.args.r.now.roomy c.requires).tree in
    Room.can_number c.requires.part.room _ _ _ c.requires.part.pass (omega arith) refl

pub lower_shortest_path_part-start_node-q-requires : goal.lower_shortest_path_part-start_node-q-requires
lower_shortest_path_part-start_node-q-requires t c = (
  omega (arith, c.decreases, Room.bounds c.requires.part),
  record {
    asked =
        Room.asked_on
        _
        _
        _
        c.requires.part
        (omega (arith, Room.bounds c.requires.part))
        (Asking.first_of_law c.args.r.now.roomy c.requires)
        (Asking.near_room c.args.r.now.roomy c.requires c.endpoint_var-from.ensures c.endpoint_var-from.auto.rest);
    read = c.requires.near;
  },
)

pub lower_shortest_path_part-lower_rel_element-s-requires : goal.lower_shortest_path_part-lower_rel_element-s-requires
lower_shortest_path_part-lower_rel_element-s-requires t c = (
  omega (arith, c.decreases, Room.bounds c.requires.part),
  record {
    asked =
        Room.asked_on
        _
        _
        _
        c.requires.part
        (omega (arith, Room.bounds c.requires.part))
        (Asking.rel_of c.args.r.now.roomy c.requires)
        (Asking.rel_room c.args.r.now.roomy
        c.requires
        c.endpoint_var-from.ensures
        c.endpoint_var-from.auto.rest
        c.start_node-q.ensures.lowered);
    read = c.requires.rel;
  },
)

pub lower_shortest_path_part-overflow_add-base-2 : goal.lower_shortest_path_part-overflow_add-base-2
lower_shortest_path_part-overflow_add-base-2 t c =
    let l₃ = c.requires.part.pass in
    let l₄ =
    Room.low
    (Asking.far_of c.args.r.now.roomy c.requires).tree
    in
    omega arith

pub lower_shortest_path_part-endpoint_var-to-requires : goal.lower_shortest_path_part-endpoint_var-to-requires
lower_shortest_path_part-endpoint_var-to-requires t c =
    let l = Room.bounds c.requires.part in
    let l₄ = Room.low (Asking.first_of_law c.args.r.now.roomy c.requires).tree in
    let l₅ =
    Room.rel_ends
    c.args.r.now.roomy
    c.requires.special.second
    (Asking.rel_of c.args.r.now.roomy c.requires).tree
    c.lower_rel_element-s.ensures.lowered
    c.requires.special.second_end
    in
    let l₄' =
    Room.low
    (Asking.far_of c.args.r.now.roomy c.requires).tree
    in
    Room.can_number
    (Asking.far_room c.args.r.now.roomy
    c.requires
    (Asking.rel_room c.args.r.now.roomy
    c.requires
    c.endpoint_var-from.ensures
    c.endpoint_var-from.auto.rest
    c.start_node-q.ensures.lowered)
    c.lower_rel_element-s.ensures.lowered)
    _
    _
    _
    c.requires.part.pass
    (omega arith)
    refl

pub lower_shortest_path_part-endpoint_var-path-requires : goal.lower_shortest_path_part-endpoint_var-path-requires
lower_shortest_path_part-endpoint_var-path-requires t c =
    let l = Room.bounds c.requires.part in
    let l₄ = Room.low (Asking.first_of_law c.args.r.now.roomy c.requires).tree in
    let l₅ =
    Room.rel_ends
    c.args.r.now.roomy
    c.requires.special.second
    (Asking.rel_of c.args.r.now.roomy c.requires).tree
    c.lower_rel_element-s.ensures.lowered
    c.requires.special.second_end
    in
    let l₄' =
    Room.low
    (Asking.far_of c.args.r.now.roomy c.requires).tree
    in
    Room.can_again
    (Asking.far_room c.args.r.now.roomy
    c.requires
    (Asking.rel_room c.args.r.now.roomy
    c.requires
    c.endpoint_var-from.ensures
    c.endpoint_var-from.auto.rest
    c.start_node-q.ensures.lowered)
    c.lower_rel_element-s.ensures.lowered)
    c.endpoint_var-to.ensures.issued
    l₄'
    c.endpoint_var-to.auto.rest
    _
    _
    _
    c.requires.part.pass
    (omega arith)
    refl

pub lower_shortest_path_part-overflow_cast-far : goal.lower_shortest_path_part-overflow_cast-far
lower_shortest_path_part-overflow_cast-far t c = omega (arith, Room.low (Asking.far_of c.args.r.now.roomy c.requires).tree)

pub lower_shortest_path_part-shortest_path-requires : goal.lower_shortest_path_part-shortest_path-requires
lower_shortest_path_part-shortest_path-requires t c =
    let l = Room.bounds c.requires.part in
    Room.fits c.requires.part.pass (omega arith) (omega arith)

pub lower_shortest_path_part-push-requires : goal.lower_shortest_path_part-push-requires
lower_shortest_path_part-push-requires t c =
    let l = Room.bounds c.requires.part in
    let l₄ = Room.low (Asking.first_of_law c.args.r.now.roomy c.requires).tree in
    let l₅ =
    Room.rel_ends
    c.args.r.now.roomy
    c.requires.special.second
    (Asking.rel_of c.args.r.now.roomy c.requires).tree
    c.lower_rel_element-s.ensures.lowered
    c.requires.special.second_end
    in
    let l₄' =
    Room.low
    (Asking.far_of c.args.r.now.roomy c.requires).tree
    in
    Room.push_again
    (Asking.far_room c.args.r.now.roomy
    c.requires
    (Asking.rel_room c.args.r.now.roomy
    c.requires
    c.endpoint_var-from.ensures
    c.endpoint_var-from.auto.rest
    c.start_node-q.ensures.lowered)
    c.lower_rel_element-s.ensures.lowered)
    c.endpoint_var-to.ensures.issued
    c.endpoint_var-path.ensures.issued

pub lower_shortest_path_part-skip-end-requires : goal.lower_shortest_path_part-skip-end-requires
lower_shortest_path_part-skip-end-requires t c =
    Part.starts
    (Asking.far_of c.args.r.now.roomy c.requires).tree

pub lower_shortest_path_part-returns-clause-lowered : goal.lower_shortest_path_part-returns-clause-lowered
lower_shortest_path_part-returns-clause-lowered t c =
    rw (c.push.ensures.next, c.push.ensures.op) (Special.special_law
    _
    _
    _
    _
    _
    _
    c.args.r.now.roomy
    c.requires.part.pass
    c.requires.part.depth
    c.requires.special.shortest
    c.requires.special.three
    c.requires.special.first
    c.requires.special.second
    c.requires.special.third
    c.requires.special.first_end
    c.requires.special.second_end
    c.skip-end.ensures
    refl
    (endpoint_read c.requires.near.bind c.endpoint_var-from.ensures)
    c.endpoint_var-from.auto.rest
    c.start_node-q.ensures.lowered
    c.lower_rel_element-s.ensures.lowered
    refl
    (endpoint_read c.requires.to.bind c.endpoint_var-to.ensures)
    c.endpoint_var-to.auto.rest
    refl
    (endpoint_read (bind_read c.at.ensures c.read_bind-bind.ensures) c.endpoint_var-path.ensures)
    c.endpoint_var-path.auto.rest
    (pushed_as c.shortest_path.ensures c.push.ensures.pushed)
    c.push.auto.ops
    c.requires.part.tree)

-- ── start_chain ──

pub start_chain-endpoint_var-m-requires : goal.start_chain-endpoint_var-m-requires
start_chain-endpoint_var-m-requires t c =
    let l = Room.chain_bounds c.requires.chain in
    Room.can_number c.requires.chain.room _ _ _ c.requires.chain.pass (omega arith) refl

pub start_chain-start_node-q-requires : goal.start_chain-start_node-q-requires
start_chain-start_node-q-requires t c = (
  omega arith,
  record {
    asked = record {
      tree = record { tree = c.requires.chain.tree; is = c.requires.is };
      room =
          Exprs.room_from
          (le_refl _)
          c.requires.chain.bounded.from
          c.requires.chain.bounded.next
          (Room.numbered
          c.requires.chain.room
          c.endpoint_var-m.ensures.issued
          c.endpoint_var-m.auto.rest
          (Room.deep c.requires.chain.tree));
      depth = c.requires.chain.depth;
      pass = c.requires.chain.pass;
    };
    read = c.requires.read;
  },
)

pub start_chain-returns-clause-lowered : goal.start_chain-returns-clause-lowered
start_chain-returns-clause-lowered t c =
    Linking.start_law
    _
    _
    _
    c.args.r.now.roomy
    c.requires.chain.pass
    c.requires.chain.bounded
    c.requires.is
    c.requires.anew
    refl
    (endpoint_read c.requires.read.bind c.endpoint_var-m.ensures)
    c.endpoint_var-m.auto.rest
    c.start_node-q.ensures.lowered
    c.requires.chain.tree

-- ── start_node ──

pub start_node-overflow_sub-less : goal.start_node-overflow_sub-less
start_node-overflow_sub-less t c = omega (arith, Room.element_bounds c.requires.asked)

pub start_node-returns-then-node-eq0-clause-lowered : goal.start_node-returns-then-node-eq0-clause-lowered
start_node-returns-then-node-eq0-clause-lowered t c =
    rw (c.push-p.ensures.next, c.push-p.ensures.op) (Start.bare_read
    _
    _
    _
    c.args.r.now.roomy
    c.requires.asked.tree.is
    (c.requires.asked.depth, c.requires.asked.pass)
    c.requires.read.first
    (pushed_as c.source.ensures c.push-p.ensures.pushed)
    c.push-p.auto.ops
    (sym c.requires.read.props ∙ c.if-node-eq0.true)
    c.requires.asked.tree.tree)

pub start_node-lower_expr-s-requires : goal.start_node-lower_expr-s-requires
start_node-lower_expr-s-requires t c =
    let l = Room.element_bounds c.requires.asked in
    let l₀' = Room.names_low c.args.r.now.roomy c.requires.asked.tree.tree in
    let n₀ = c.requires.read.first in (
      omega arith,
      Room.asked_on _ _ _ c.requires.asked (omega arith)
          (Start.prop_read
          _
          _
          _
          c.args.r.now.roomy
          c.requires.asked.tree.is
          c.requires.read.first
          c.requires.asked.tree.tree
          (λ e. c.if-node-eq0.false (c.requires.read.props ∙ e)))
          (Room.pushed_on
          c.requires.asked.room
          _
          _
          c.push-p.ensures.pushed
          c.push-p.auto.ops
          (le_refl _)
          (omega arith)
          (omega arith)),
    )

pub start_node-returns-clause-lowered : goal.start_node-returns-clause-lowered
start_node-returns-clause-lowered t c =
    rw (c.push.ensures.next, c.push.ensures.op) (Start.filtered_read
    _
    _
    _
    c.args.r.now.roomy
    c.requires.asked.tree.is
    (c.requires.asked.depth, c.requires.asked.pass)
    c.requires.read.first
    (pushed_as c.source.ensures c.push-p.ensures.pushed)
    c.push-p.auto.ops
    (λ e. c.if-node-eq0.false (c.requires.read.props ∙ e))
    c.lower_expr-s.ensures.lowered
    (pushed_as (rw c.push-p.ensures.op at c.over.ensures) c.push.ensures.pushed)
    c.push.auto.ops)
