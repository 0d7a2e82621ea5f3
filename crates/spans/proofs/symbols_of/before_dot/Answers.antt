-- A dot that is not in front stands behind a symbol of the right side. Assumes nothing.
use Rattle.spans.proofs.Reached.{dot_read}
use Rattle.spans.proofs.symbols_of.before_dot.Goals as goal

pub returns : goal.returns
returns c = dot_read c.requires.0 _ _ c.requires.1.0 c.requires.1.1 c.if-dot-eq0.false
