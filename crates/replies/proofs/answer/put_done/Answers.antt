-- `put_done` meets its contract. Assumes nothing.
use Rattle.replies.specs.Printed.{answer_line}
use Rattle.replies.proofs.Lines.{}
use Rattle.replies.proofs.answer.put_done.Goals as goal

pub returns-in-Ok : goal.returns-in-Ok
unfolding answer_line
returns-in-Ok c = rw c.in-Ok.is c.put_line.ensures

pub returns-in-Err : goal.returns-in-Err
returns-in-Err c = rw c.in-Err.is c.put_refusal.ensures
