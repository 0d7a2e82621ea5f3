-- `collect` meets its contract: the numbers that it keeps are those of the call's answer. Assumes nothing.
use Rattle.unmade.proofs.Answered.{same_answer, no_number}
use Rattle.unmade.proofs.calls.Lent.collect.Goals as goal

pub returns : goal.returns
returns c = rw (c.numbers.ensures.0, c.numbers.ensures.1, c.and.ensures, same_answer, no_number) c.collect-collected.ensures
