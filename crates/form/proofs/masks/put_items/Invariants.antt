-- `masks::put_items` meets its contract. The invariant: the items with a dot below d are put. Assumes nothing.
use mathlib.Core.Path.{◌≡◌}
use lib.ListN.{length}
use Rattle.laws.specs.Loops.{up_to}
use Rattle.kernels.specs.Kernel.{item, put}
use Rattle.form.proofs.masks.put_items.Given as goal

abbrev pub invariant-loop-d : goal.invariant-loop-d
invariant-loop-d l = (length l.mask ≡ 18) × (l.mask ≡ up_to l.d (λ d ws. put ws 0 (item l.r d)) l.initial.mask)
