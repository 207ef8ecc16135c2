-- Expressions and patterns: whatever is made of a tree of w records adds at most 2 w operators and w numbers. Assumes nothing: these are definitions; the lemmas are in proofs/Expr.
use Rattle.std.specs.Prelude.{ℕ, ◌+◌, ◌<◌, ◌≤◌, List, [], ◌∷◌}
use Rattle.model.specs.Kind.{Sort}
use Rattle.model.specs.Kind.{statement, union_arm, clause, projection, order_item, pattern_part, pattern_element, name, yield_item, entry, expr, in_plan}
use Rattle.model.specs.Record.{Group, inputs}
use Rattle.model.specs.Tree.{to_list, Results}
use Rattle.model.specs.Lower.{Lowered}
use Rattle.bounds.specs.Earlier.{All}
use Rattle.bounds.specs.Bounded.{Old, Lows}
use Rattle.bounds.specs.Pattern.{Cheap, Each, StepOf}

-- what is made of a tree of w records
abbrev pub Made : (s : Sort) → ℕ → Lowered s → Type 0
Made statement w x = Unit {0}
Made union_arm w x = Unit {0}
Made clause w x = Unit {0}
Made projection w x = Unit {0}
Made order_item w x = Unit {0}
Made pattern_part w m = Cheap Old w m
Made pattern_element w s = StepOf w s
Made name w r = All (λ k. k < 0) (inputs r)
Made yield_item w x = Unit {0}
Made entry w m = Cheap Lows w m
Made expr w m = Cheap Lows w m
Made (in_plan p) w x = Unit {0}

-- and of groups of children of w records in all
abbrev pub MadeIn : (gs : List Group) → ℕ → Results Lowered gs → Type 0
MadeIn [] w r = Unit {0}
MadeIn (g ∷ gs) w r = (u : ℕ) × (v : ℕ) × (u + v ≤ w) × Each (λ x m. Made g.0 x m) u (to_list g.1 r.0) × MadeIn gs v r.1
