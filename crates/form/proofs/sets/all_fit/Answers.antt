-- `sets::all_fit` meets its contract: `all` over the sets. Assumes nothing.
use mathlib.Core.Path.{refl}
use borrow.Author.Rules.{rules}
use Rattle.table.specs.Layout.{sets}
use Rattle.form.specs.Sets.{set_fits}
use Rattle.laws.proofs.Ranges.{below_from_all}
use Rattle.form.proofs.sets.all_fit.Goals as goal

pub returns : goal.returns
returns c =
    below_from_all (set_fits c.args.n (sets c.args.cells.now c.args.words.now) c.args.named.now c.args.current.now) c.all.ensures.ran refl refl (λ x t q k. search rules)
