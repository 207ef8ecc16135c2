-- What the call of `library` ensures, of the same arguments.
use Rattle.library_c.proofs.dresserhawk_size.Goals as goal

pub returns : goal.returns
returns c = c.dresserhawk_size.ensures.answer_after
