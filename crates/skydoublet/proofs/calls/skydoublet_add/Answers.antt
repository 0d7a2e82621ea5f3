-- `skydoublet_add` promises what `generator::add` promises, of the answer's number. Assumes nothing.
use mathlib.Core.Path.{sym}
use Rattle.skydoublet.proofs.Answered.{changed-number}
use Rattle.skydoublet.proofs.calls.skydoublet_add.Goals as goal

pub returns : goal.returns
returns c = rw (c.answer_of.ensures, c.unwrap_or.ensures, sym (changed-number c.add-changed.result)) c.add-changed.ensures
