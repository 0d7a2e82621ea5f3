-- `expansion::grow::lead_on` meets its contract. Assumes nothing.
use native.Mathlib.Omega.{arith}
use Rattle.expansion.proofs.Lead.{aimed_above, target_fits}
use Rattle.expansion.proofs.grow.lead_on.Goals as goal

pub moved-kernel-requires : goal.moved-kernel-requires
moved-kernel-requires c = (c.requires.ready.rules, c.requires.ready.within, aimed_above c.requires)

pub overflow_cast-result : goal.overflow_cast-result
overflow_cast-result c =
    record { fits = omega (arith, target_fits c.requires c.moved-kernel.ensures c.find_or_make.ensures) }
