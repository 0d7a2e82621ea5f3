-- `state_letter` meets its contract. Assumes nothing.
use mathlib.Core.Path.{refl}
use borrow.Author.Tests.{le-leb, lt-leb}
use Rattle.laws.proofs.Choice.{when_yes, when_no}
use Rattle.listing.proofs.contents_line.state_letter.Goals as goal

pub returns-then-mark-lt-EXPANDED : goal.returns-then-mark-lt-EXPANDED
returns-then-mark-lt-EXPANDED c = when_no _ (lt-leb _ _ c.if-mark-lt-EXPANDED.true) refl

pub returns-else-mark-lt-EXPANDED : goal.returns-else-mark-lt-EXPANDED
returns-else-mark-lt-EXPANDED c = when_yes _ (le-leb _ _ c.if-mark-lt-EXPANDED.false) refl
