-- `put_change` meets its contract. Assumes nothing.
use Rattle.std.proofs.Common.{refl}
use Rattle.text.proofs.Putting.{adds_as}
use Rattle.replies.proofs.Lines.{change_done, change_refused}
use Rattle.replies.proofs.answer.put_change.Goals as goal

pub returns-in-Ok : goal.returns-in-Ok
returns-in-Ok c = rw c.in-Ok.is (adds_as (change_done _ refl) c.put_line.ensures)

pub returns-in-Err : goal.returns-in-Err
returns-in-Err c = rw c.in-Err.is (adds_as (change_refused c.in-Err.refusal _) c.put_refusal.ensures)
