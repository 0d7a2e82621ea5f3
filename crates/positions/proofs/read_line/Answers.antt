-- `positions::read_line` meets its contract. The invariant: the steps from the first position reach this one (`At`). Assumes nothing.
use mathlib.Core.Path.{refl, ap, ◌∙◌}
use native.Mathlib.Omega.{arith}
use Rattle.links.proofs.Lent.{slices_trans}
use Rattle.saturation.specs.Ends.{next}
use Rattle.std.proofs.lemmas.Result.{err_from_is_err_and}
use Rattle.positions.proofs.Positions.{at_start, at_next, at-end, at_last, token-fits}
use Rattle.positions.proofs.read_line.Goals as goal

pub loop-token-init : goal.loop-token-init
loop-token-init c =
    let h = c.requires.begun.1.0 in
    (record { buf = refl; at = refl }, rw h refl, rw h (at_start c.requires.readable.formed refl (c.requires.begun.0, rw h at c.requires.begun.1.1)))

pub advance-requires-clause-position_bound : goal.advance-requires-clause-position_bound
advance-requires-clause-position_bound c =
    let k = token-fits _ c.requires.readable.fits.tokens _ c.loop-token-test.true in
    let p = ap (λ h. h.position) c.loop-token.invariant.1 in
    (omega (arith, p, c.requires.readable.fits.short), (omega (arith, k.0), omega (arith, k.1)))

pub returns-in_err-advance-clause-reads : goal.returns-in_err-advance-clause-reads
returns-in_err-advance-clause-reads c =
    let p = err_from_is_err_and c.from_residual.result c.from_residual.ensures.1 in
    rw (p.1, p.2) (at-end c.loop-token.invariant.2 c.loop-token-test.true (rw (c.loop-token.invariant.1, c.from.ensures) at c.in_err-advance.ensures.advances))

pub returns-then-not-branch-clause-reads : goal.returns-then-not-branch-clause-reads
returns-then-not-branch-clause-reads c =
    let ends = rw c.if-not-branch.true at c.in_ok-advance.ensures.advances in
    at-end c.loop-token.invariant.2 c.loop-token-test.true (rw (c.loop-token.invariant.1, c.from.ensures) at ends)

pub loop-token-preserved : goal.loop-token-preserved
loop-token-preserved c =
    let on = rw c.if-not-branch.false at c.in_ok-advance.ensures.advances in (
      slices_trans c.loop-token.invariant.0 c.advance.ensures.same_slices,
      on.0 ∙ ap (λ h. next h c.advance.new.links.here.start) c.loop-token.invariant.1,
      at_next c.loop-token.invariant.2 c.loop-token-test.true (rw (c.loop-token.invariant.1, c.from.ensures) at on.1),
    )

pub returns-clause-reads : goal.returns-clause-reads
returns-clause-reads c = at_last c.loop-token.invariant.2 (omega arith) (rw c.loop-token.invariant.1 at c.finish.ensures.finishes)
