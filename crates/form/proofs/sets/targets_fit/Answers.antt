-- `sets::targets_fit` meets its contract: `all` over the targets. Assumes nothing.
use mathlib.Core.Path.{refl}
use borrow.Author.Rules.{rules}
use Rattle.table.specs.Layout.{sets, cell}
use Rattle.form.specs.Sets.{target_fits, targets_fit}
use Rattle.laws.proofs.Ranges.{below_from_all_at}
use Rattle.form.proofs.sets.targets_fit.Goals as goal

pub returns : goal.returns
unfolding targets_fit
returns c = below_from_all_at (λ x. target_fits c.args.n (sets c.args.cells.now c.args.words.now) c.args.current.now c.args.only (cell (sets c.args.cells.now c.args.words.now) c.args.s x)) 1 _ 127 c.all.ensures.ran refl refl (λ x t q k. search rules)
