-- `new` meets its contract: the number that it keeps is that of the call's answer. Assumes nothing.
use Rattle.unmade.proofs.Answered.{same_answer}
use Rattle.unmade.proofs.calls.Lent.new.Goals as goal

pub returns : goal.returns
returns c = rw (c.numbers.ensures.0, c.and.ensures, same_answer) c.new-made.ensures
