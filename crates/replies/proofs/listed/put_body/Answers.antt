-- `put_body` meets its contract. Assumes nothing.
use mathlib.Core.Path.{refl}
use Rattle.laws.proofs.Choice.{when_yes, when_no}
use Rattle.table.specs.Layout.{mem}
use Rattle.text.proofs.Putting.{adds_none, adds_as}
use Rattle.listing.proofs.Seen.{body-seen}
use Rattle.listing.proofs.Walks.{not_used, is-used}
use Rattle.replies.proofs.listed.put_body.Goals as goal

pub returns-then-mark-ne-FREE-clause-body : goal.returns-then-mark-ne-FREE-clause-body
returns-then-mark-ne-FREE-clause-body c =
    let text = body-seen (mem c.args.rules.now c.args.cells.now c.args.words.now) c.args.s c.requires.laid c.requires.s_bound.0 in
    adds_as (when_yes _ (is-used c.mark.ensures c.if-mark-ne-FREE.true) text) c.body.ensures.body

pub returns-else-mark-ne-FREE-clause-body : goal.returns-else-mark-ne-FREE-clause-body
returns-else-mark-ne-FREE-clause-body c = adds_as (when_no _ (not_used c.mark.ensures c.if-mark-ne-FREE.false) refl) (adds_none _)
