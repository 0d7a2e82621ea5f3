-- `expansion::grow::closure_of` meets its contract. Assumes nothing.
use Rattle.table.specs.Layout.{view_rules}
use native.Mathlib.Omega.{arith}
use Rattle.expansion.proofs.Copied.{copied_within, copied_closure}
use Rattle.expansion.proofs.grow.closure_of.Goals as goal

pub close-requires : goal.close-requires
close-requires c = (c.requires.0, copied_within _ _ _ c.requires.0.laid.few_rules c.requires.2 _ (omega arith) c.copy.ensures)

pub returns : goal.returns
returns c = copied_closure _ _ _ c.requires.0.laid.few_rules c.requires.2 _ (omega arith) c.copy.ensures (view_rules c.args.rules.now) c.close.ensures
