-- `expansion::grow::lead`: sets and row are those of the symbols that the walk has passed. Assumes nothing.
use mathlib.Core.Path.{◌≡◌}
use lib.ListN.{length}
use Rattle.table.specs.Layout.{sets}
use Rattle.expansion.proofs.Lead.{LeadFrom}
use Rattle.expansion.proofs.grow.lead.Given as goal

abbrev pub invariant-loop-x : goal.invariant-loop-x
invariant-loop-x l =
    LeadFrom l.rules (sets l.initial.cells l.initial.words) l.closure l.fn.symbols l.x-iterator (sets l.cells l.words) l.row × (length l.cells ≡ length l.initial.cells) × (length l.words ≡ length l.initial.words)
