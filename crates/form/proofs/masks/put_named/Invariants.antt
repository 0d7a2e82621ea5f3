-- `masks::put_named` meets its contract. The invariant: the bits of the rules below r are put. Assumes nothing.
use mathlib.Core.Path.{◌≡◌}
use lib.ListN.{length}
use Rattle.laws.specs.Loops.{up_to}
use Rattle.form.specs.Masks.{put_named}
use Rattle.form.proofs.masks.put_named.Given as goal

abbrev pub invariant-loop-r : goal.invariant-loop-r
invariant-loop-r l = (length l.mask ≡ 18) × (l.mask ≡ up_to l.r (put_named l.rules l.last) l.initial.mask)
