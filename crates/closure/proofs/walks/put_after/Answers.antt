-- `closure::walks::put_after` meets its contract. Assumes nothing.
use mathlib.Core.Path.{sym, ap, ◌∙◌}
use mathlib.Core.Bool.{not}
use native.Mathlib.Omega.{arith}
use borrow.Author.Tests.{eq-eqb, ne_eqb}
use lib.Dec.{eqb}
use Rattle.kernels.specs.Kernel.{put}
use Rattle.closure.proofs.Rules.{after-inside}
use Rattle.kernels.proofs.Puts.{put_if_yes, put_if_no}
use Rattle.closure.proofs.walks.put_after.Goals as goal

pub put-requires : goal.put-requires
put-requires c =
    let (p, small) = after-inside c.args.rules.now c.requires.0 c.args.item (omega (arith, c.after-x.ensures, c.if-x-ne0.true)) in
    omega (arith, c.after-x.ensures)

pub returns-then-x-ne0 : goal.returns-then-x-ne0
returns-then-x-ne0 c =
    put_if_yes _ _ (ap (λ y. not (eqb y 0)) (sym c.after-x.ensures) ∙ ap not (ne_eqb _ _ c.if-x-ne0.true))
    (c.put.ensures ∙ ap (put c.args.symbols.now 0) c.after-x.ensures)

pub returns-else-x-ne0 : goal.returns-else-x-ne0
returns-else-x-ne0 c = put_if_no _ (ap (λ y. not (eqb y 0)) (sym c.after-x.ensures) ∙ ap not (eq-eqb _ _ c.if-x-ne0.false))
