-- `sets::all_differ` meets its contract: `all` over the sets. Assumes nothing.
use mathlib.Core.Path.{refl}
use borrow.Author.Rules.{rules}
use Rattle.table.specs.Layout.{sets}
use Rattle.form.specs.Sets.{kernel_alone, kernels_differ}
use Rattle.laws.proofs.Ranges.{below_from_all}
use Rattle.form.proofs.sets.all_differ.Goals as goal

pub returns : goal.returns
unfolding kernels_differ
returns c = below_from_all (kernel_alone (sets c.args.cells.now c.args.words.now)) c.all.ensures.ran refl refl (λ x t q k. search rules)
