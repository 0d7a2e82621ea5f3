-- `positions::judge` meets its contract. Assumes nothing.
use Rattle.positions.proofs.Ends.{judged}
use Rattle.positions.proofs.judge.Goals as goal

pub returns : goal.returns
returns c = λ m x at S. judged S _ c.accepts.ensures
