-- `sets::is_alone` meets its contract: a free set, or `all` over those before it. Assumes nothing.
use mathlib.Core.Path.{◌≡◌, refl}
use native.Mathlib.Omega.{arith}
use borrow.Author.Rules.{rules}
use Rattle.std.proofs.lemmas.Grind.{common_steps}
use Rattle.laws.specs.Choice.{when}
use Rattle.laws.specs.Loops.{all_below}
use Rattle.table.specs.Layout.{sets}
use Rattle.form.specs.Sets.{kernel_differs, kernel_alone}
use Rattle.laws.proofs.Ranges.{below_from_all}
use Rattle.form.proofs.sets.is_alone.Goals as goal

pub returns-then-mark-eq-FREE : goal.returns-then-mark-eq-FREE
unfolding kernel_alone when
returns-then-mark-eq-FREE c = grind (arith, common_steps)

pub returns-else-mark-eq-FREE : goal.returns-else-mark-eq-FREE
unfolding kernel_alone when
returns-else-mark-eq-FREE c =
    let e : c.all.result ≡ all_below c.args.s (kernel_differs (sets c.args.cells.now c.args.words.now) c.args.s) =
    below_from_all _ c.all.ensures.ran refl refl (λ x t q k. search rules) in
    grind (arith, common_steps)
