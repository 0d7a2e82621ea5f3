-- `add` meets its contract: the numbers that it keeps are those of the call's answer. Assumes nothing.
use Rattle.unmade.proofs.calls.Lent.add.Goals as goal

pub returns : goal.returns
returns c = simp c.numbers.ensures.0 (simp c.numbers.ensures.1 c.add-added.ensures)
