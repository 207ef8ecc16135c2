-- Records that are the same when blank, with ids joined place by place, are alike field by field; and ids that are equal exactly where equal are joined one to one. Assumes nothing but the parameter R, which joins the ids: these are definitions; the lemmas are in proofs/Relating.
use Rattle.std.specs.Prelude.{ℕ, ◌<◌, get_or}
use mathlib.Core.List.{List}
use Rattle.std.proofs.Math.ListN as ListN
use Rattle.model.specs.Field.{Fields}
use Rattle.model.specs.Kind.{Sort, Kind}
use Rattle.model.specs.Record.{Rec, rec, forms}
use Rattle.alike.specs.Relation.{Fields~}

module _ (R : ℕ → ℕ → Type 0) where
  pub data Rec~ : Rec → Rec → Type 0 where
    rec~ : {s : Sort} {k : Kind s} {f g : Fields (forms s k)} → Fields~ R (forms s k) f g → Rec~ (rec s k f) (rec s k g)

  -- the ids of two lists are joined place by place
  abbrev pub Joined : List ℕ → List ℕ → Type 0
  Joined s t = (i : ℕ) → i < ListN.length s → R (get_or s i 0) (get_or t i 0)
