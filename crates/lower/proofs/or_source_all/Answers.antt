-- `or_source_all` meets its contract: the operator before, or a source of everything pushed. Assumes nothing.
use Rattle.context.specs.OpLaws.{pushed_as}
use Rattle.lower.proofs.Chaining
use mathlib.Core.Path.{refl}
use Rattle.lower.proofs.or_source_all.Goals as goal

pub returns-in-Some : goal.returns-in-Some
returns-in-Some c = record { same = refl; since = λ n l h. h.op _ c.in-Some.is; source = λ rest. Chaining.source_there _ _ _ c.in-Some.is (c.requires.1.op _ c.in-Some.is) }

pub returns-in-None : goal.returns-in-None
returns-in-None c =
    record {
      same = c.push.ensures.next;
      since = λ n l h. rw c.push.ensures.op l;
      source = λ rest. rw c.push.ensures.op (Chaining.source_new _ _ _ _ c.in-None.is (pushed_as c.binding.ensures c.push.ensures.pushed) c.push.auto.ops);
    }
