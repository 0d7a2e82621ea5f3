-- `put_entry` meets its contract. Assumes nothing.
use mathlib.Core.Path.{refl}
use Rattle.laws.proofs.Choice.{when_yes, when_no}
use Rattle.text.proofs.Putting.{adds_none, adds_then, adds_as}
use Rattle.listing.specs.Walk.{entry_of}
use Rattle.listing.proofs.Walks.{not_used, is-used, entry_put}
use Rattle.listing.proofs.contents_line.put_entry.Goals as goal

pub returns-then-m-ne-FREE : goal.returns-then-m-ne-FREE
unfolding entry_of
returns-then-m-ne-FREE c = adds_as (when_yes _ (is-used c.mark-m.ensures c.if-m-ne-FREE.true) (entry_put _ c.mark-m.ensures c.state_letter.ensures))
    (adds_then c.put_spaced.ensures c.put_byte.ensures)

pub returns-else-m-ne-FREE : goal.returns-else-m-ne-FREE
returns-else-m-ne-FREE c = adds_as (when_no _ (not_used c.mark-m.ensures c.if-m-ne-FREE.false) refl) (adds_none _)
