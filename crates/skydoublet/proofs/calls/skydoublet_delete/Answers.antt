-- `skydoublet_delete` promises what `generator::delete` promises, of the answer's number. Assumes nothing.
use mathlib.Core.Path.{sym}
use Rattle.skydoublet.proofs.Answered.{changed-number}
use Rattle.skydoublet.proofs.calls.skydoublet_delete.Goals as goal

pub returns : goal.returns
returns c = rw (c.answer_of.ensures, c.unwrap_or.ensures, sym (changed-number c.delete-changed.result)) c.delete-changed.ensures
