-- `is_leaf` meets its contract. Assumes nothing.
use borrow.Author.Rules.{rules}
use borrow.Author.Tests.{eq-eqb, ne_eqb, lt-ltb, le-ltb}
use Rattle.words.specs.Count.{is_leaf}
use Rattle.words.proofs.kind.is_leaf.Goals as goal

pub returns-then-kind-eq-VAR : goal.returns-then-kind-eq-VAR
unfolding is_leaf
returns-then-kind-eq-VAR c = search (rules, eq-eqb, ne_eqb, lt-ltb, le-ltb)

pub returns-then-kind-lt-NULL : goal.returns-then-kind-lt-NULL
unfolding is_leaf
returns-then-kind-lt-NULL c = search (rules, eq-eqb, ne_eqb, lt-ltb, le-ltb)

pub returns : goal.returns
unfolding is_leaf
returns c = search (rules, eq-eqb, ne_eqb, lt-ltb, le-ltb)
