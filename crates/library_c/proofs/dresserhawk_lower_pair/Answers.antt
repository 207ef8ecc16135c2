-- What the call of `library` ensures, of the same arguments.
use Rattle.library_c.proofs.dresserhawk_lower_pair.Goals as goal

pub returns : goal.returns
returns c = c.dresserhawk_lower_pair.ensures.answer_after
