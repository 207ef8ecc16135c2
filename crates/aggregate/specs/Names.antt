-- That an expression is held, whatever its depth. Assumes nothing: this is a definition.
use Rattle.std.specs.Prelude.{ℕ, List}
use Rattle.model.specs.Text.{Bytes}
use Rattle.model.specs.Kind.{expr}
use Rattle.words.specs.Held.{HeldSome}

-- some expression is held at record i
pub record SomeExpr (sheet : Bytes) (a b : List ℕ) (i : ℕ) : Type 0 where
  pub depth : ℕ
  pub held : HeldSome sheet a b expr depth i
