-- What the words of a stored operator stand for: its kind tells the records, over trees that the words hold and the notes of one pass. Assumes nothing: these are definitions.
use Rattle.std.specs.Prelude.{◌≡◌, ℕ, suc, ◌+◌, ◌≤◌, ◌<◌, Bool, false, [], ◌∷◌, ◌++◌, eqb, None}
use Rattle.model.specs.Field.{Fields}
use Rattle.model.specs.Kind.{Clause, ReadOp, clause, projection, order_item, pattern_element, name, yield_item, expr}
use Rattle.model.specs.Record.{Rec, one, all_shortest, forms}
use Rattle.model.specs.Tree.{Tree, Trees}
use Rattle.model.specs.Lower.{Recs, op, source, path_elements}
use Rattle.words.specs.Words.{cell, max_records}
use Rattle.words.specs.Held.{Held, HeldOf, RecordAt, size_of}
use Rattle.context.specs.declared.op.Op.{Op}
use Rattle.context.specs.Ops.{call_input, source_all_kind, source_no_parts_kind, source_kind, filter_kind, expand_kind, shortest_path_kind, bind_path_kind, optional_join_kind, with_kind, project_kind, aggregate_kind, order_by_kind, skip_kind, limit_kind, distinct_kind, unwind_kind, union_kind, procedure_call_kind}
use Rattle.lower.specs.Side.{Side}
use Rattle.lower.specs.Render.{Notes, Ops, render, render_of, Below, BelowOf, spec_recs, KidsBelow, kept_from, key_recs, agg_recs}
use Rattle.words.specs.Places.{kind_at, node_kind, rel_kind, node_labels_at, part_shortest_at, part_elements_at, items_at, with_filter_at}
use Rattle.context.specs.Tables.{second_pass, deepest}

-- the notes of a pass stand from b on
abbrev pub shift : Notes → ℕ → Notes
shift N b line = N (b + line)

-- what the words of every operator keep to: the depth left, the pass, and the records
pub record InBounds (o : Op) : Type 0 where
  pub shallow : o.left ≤ deepest
  pub near : o.base ≤ second_pass
  pub low : o.idx < max_records
  pub far : o.kind ≡ shortest_path_kind → o.y < max_records
  pub flagged : o.kind ≡ union_kind → o.y ≤ 1

module _ (S : Side) (N : Notes) (A : Ops) (k : ℕ) (o : Op) where
  -- a record over one expression
  pub record OverExpr (head : Rec) (recs : Recs) : Type 0 where
    pub tree : Tree expr
    pub held : Held S.sheet S.a S.b tree o.left o.idx
    pub below : Below (shift N o.base) S.first k tree
    pub is : recs ≡ head ∷ render (shift N o.base) A tree

  -- a source by labels, which stand behind its node
  pub record ByLabels (recs : Recs) : Type 0 where
    pub count : ℕ
    pub labels : Trees name count
    pub counted : count ≡ cell S.a S.b o.idx node_labels_at
    pub held : HeldOf S.sheet S.a S.b labels o.left (o.idx + 1)
    pub is : recs ≡ source o.x (render_of (shift N o.base) A labels)

  -- a rel and its far node
  pub record ByRel (recs : Recs) : Type 0 where
    pub rel : Tree pattern_element
    pub far : Tree pattern_element
    pub held_rel : Held S.sheet S.a S.b rel o.left o.idx
    pub held_far : Held S.sheet S.a S.b far o.left o.y
    pub is_rel_law : cell S.a S.b o.idx kind_at ≡ rel_kind
    pub is_far : cell S.a S.b o.y kind_at ≡ node_kind
    pub below_rel : KidsBelow (shift N o.base) S.first k rel
    pub below_far : KidsBelow (shift N o.base) S.first k far
    pub is : recs ≡ op ReadOp.Expand (o.input, (o.x, (N (o.base + suc o.idx), (N (o.base + suc o.y), tt)))) ∷ (spec_recs (shift N o.base) A rel ++ spec_recs (shift N o.base) A far)

  -- a path lists the notes of a part's elements
  pub record ByPath (recs : Recs) : Type 0 where
    pub count : ℕ
    pub elements : Trees pattern_element count
    pub counted : count ≡ cell S.a S.b o.idx part_elements_at
    pub held : HeldOf S.sheet S.a S.b elements o.left (o.idx + 1)
    pub is : recs ≡ op ReadOp.BindPath (o.input, (o.y, (o.x, tt))) ∷ path_elements (kept_from (shift N o.base) false None elements)

  -- a shortest part: its own note is the path's number, those of its first and last element the ends'
  pub record ByShortest (recs : Recs) : Type 0 where
    pub rel : Tree pattern_element
    pub held_rel : Held S.sheet S.a S.b rel o.left o.x
    pub is_rel_law : cell S.a S.b o.x kind_at ≡ rel_kind
    pub below_rel : KidsBelow (shift N o.base) S.first k rel
    pub all : Bool
    pub is_all : all ≡ eqb (cell S.a S.b o.idx part_shortest_at) all_shortest
    pub is : recs ≡ op ReadOp.ShortestPath (o.input, (N (o.base + suc (o.idx + 1)), (N (o.base + suc o.y), (N (o.base + suc o.idx), (all, tt))))) ∷ spec_recs (shift N o.base) A rel

  -- a `with`, at its clause: its items, and its predicate if it has one
  pub record ByWith (recs : Recs) : Type 0 where
    pub count : ℕ
    pub filtered : Bool
    pub items : Trees projection count
    pub predicate : Trees expr (one filtered)
    pub counted : count ≡ cell S.a S.b o.idx items_at
    pub flagged : one filtered ≡ cell S.a S.b o.idx with_filter_at
    pub held_items : HeldOf S.sheet S.a S.b items o.left (o.idx + 1)
    pub held_predicate : HeldOf S.sheet S.a S.b predicate o.left (o.idx + 1 + size_of items)
    pub below_items : BelowOf (shift N o.base) S.first k items
    pub below_predicate : BelowOf (shift N o.base) S.first k predicate
    pub is : recs ≡ op ReadOp.With (o.input, (count, (filtered, tt))) ∷ (render_of (shift N o.base) A items ++ render_of (shift N o.base) A predicate)

  -- a `return`, at its clause
  pub record ByItems (recs : Recs) : Type 0 where
    pub count : ℕ
    pub items : Trees projection count
    pub counted : count ≡ cell S.a S.b o.idx items_at
    pub held : HeldOf S.sheet S.a S.b items o.left (o.idx + 1)
    pub below : BelowOf (shift N o.base) S.first k items
    pub is : recs ≡ op ReadOp.Project (o.input, (count, tt)) ∷ render_of (shift N o.base) A items

  -- so many keys and so many aggregates of a `return`, at its clause
  pub record ByParted (recs : Recs) : Type 0 where
    pub count : ℕ
    pub items : Trees projection count
    pub counted : count ≡ cell S.a S.b o.idx items_at
    pub held : HeldOf S.sheet S.a S.b items o.left (o.idx + 1)
    pub below : BelowOf (shift N o.base) S.first k items
    pub is : recs ≡ op ReadOp.Aggregate (o.input, (o.x, (o.y, tt))) ∷ (key_recs (shift N o.base) A items ++ agg_recs (shift N o.base) A items)

  -- so many sort keys, from their first on
  pub record ByKeys (recs : Recs) : Type 0 where
    pub keys : Trees order_item o.x
    pub held : HeldOf S.sheet S.a S.b keys o.left o.idx
    pub below : BelowOf (shift N o.base) S.first k keys
    pub is : recs ≡ op ReadOp.OrderBy (o.input, (o.x, tt)) ∷ render_of (shift N o.base) A keys

  -- a `call`, at its clause, behind an operator or none
  pub record ByCall (recs : Recs) : Type 0 where
    pub fields : Fields (forms clause Clause.Call)
    pub at : RecordAt S.sheet S.a S.b o.idx clause Clause.Call fields
    pub args : Trees expr fields.1.0
    pub yields : Trees yield_item fields.1.1.0
    pub held_args : HeldOf S.sheet S.a S.b args o.left (o.idx + 1)
    pub held_yields : HeldOf S.sheet S.a S.b yields o.left (o.idx + 1 + size_of args)
    pub below : BelowOf (shift N o.base) S.first k args
    pub is : recs ≡ op ReadOp.ProcedureCall (call_input o, (fields.0, (fields.1.0, (fields.1.1.0, (fields.1.1.1.0, tt))))) ∷ (render_of (shift N o.base) A args ++ render_of (shift N o.base) A yields)

  -- operator k
  pub data Shows (recs : Recs) : Type 0 where
    shows_all : o.kind ≡ source_all_kind → recs ≡ source o.x [] → Shows recs
    shows_no_parts : o.kind ≡ source_no_parts_kind → recs ≡ source o.x [] → Shows recs
    shows_source : o.kind ≡ source_kind → ByLabels recs → Shows recs
    shows_filter : o.kind ≡ filter_kind → OverExpr (op ReadOp.Filter (o.input, tt)) recs → Shows recs
    shows_expand : o.kind ≡ expand_kind → ByRel recs → Shows recs
    shows_short : o.kind ≡ shortest_path_kind → ByShortest recs → Shows recs
    shows_path : o.kind ≡ bind_path_kind → ByPath recs → Shows recs
    shows_optional : o.kind ≡ optional_join_kind → S.first ≤ o.x → o.x < k → recs ≡ op ReadOp.OptionalJoin (o.input, tt) ∷ A o.x → Shows recs
    shows_with : o.kind ≡ with_kind → ByWith recs → Shows recs
    shows_project : o.kind ≡ project_kind → ByItems recs → Shows recs
    shows_aggregate : o.kind ≡ aggregate_kind → ByParted recs → Shows recs
    shows_order : o.kind ≡ order_by_kind → ByKeys recs → Shows recs
    shows_skip : o.kind ≡ skip_kind → OverExpr (op ReadOp.Skip (o.input, tt)) recs → Shows recs
    shows_limit : o.kind ≡ limit_kind → OverExpr (op ReadOp.Limit (o.input, tt)) recs → Shows recs
    shows_distinct : o.kind ≡ distinct_kind → recs ≡ op ReadOp.Distinct (o.input, tt) ∷ [] → Shows recs
    shows_unwind : o.kind ≡ unwind_kind → OverExpr (op ReadOp.Unwind (o.input, (o.x, tt))) recs → Shows recs
    shows_union : o.kind ≡ union_kind → recs ≡ op ReadOp.Union (o.input, (o.x, (eqb o.y 1, tt))) ∷ [] → Shows recs
    shows_call : o.kind ≡ procedure_call_kind → ByCall recs → Shows recs

  -- operator k, as it is stored
  pub record Stored (recs : Recs) : Type 0 where
    pub bounded : InBounds o
    pub shows : Shows recs
